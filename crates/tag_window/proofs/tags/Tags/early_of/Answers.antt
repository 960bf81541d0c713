use Rattle.std.proofs.Common.{rules, ◌≡◌, ◌∙◌, sym, ap, Some, length, vec_len, arith}
use Rattle.tag_window.specs.Slots.{no_bypass, place_of_bypass}
use Rattle.tag_window.specs.Windows.{Window, newest_under}
use Rattle.tag_window.proofs.Slotted.{other_default}
use Rattle.tag_window.proofs.Held.{first_of, newest_found, newest_missing}
use Rattle.tag_window.proofs.tags.Tags.early_of.Goals as goal

pub index-requires : goal.index-requires
index-requires c =
    let t = c.self.inside in
    let n : vec_len c.self.inside.bypass_items ≡ length c.self.inside.bypass_items.items = search rules in
    let f = first_of place_of_bypass no_bypass t.bypasses t.bypass_items.items c.self.invariant.1 c.self.invariant.3
    c.args.tag c.in-Some.slot (sym (c.in-Some.ensures {u = tt})) in
    omega (arith, n, f.inside)

pub returns-in-None : goal.returns-in-None
returns-in-None c =
    let t = c.self.inside in
    newest_missing place_of_bypass no_bypass t.bypasses t.bypass_items.items c.self.invariant.1 c.self.invariant.3
    c.args.tag (sym (c.in-None.ensures {u = tt}))
    ∙ ap (λ (w : Window). newest_under c.args.tag w.bypasses) c.self.view_is

pub returns-in-Some : goal.returns-in-Some
returns-in-Some c =
    let t = c.self.inside in
    let e = sym (c.in-Some.ensures {u = tt}) in
    let f = first_of place_of_bypass no_bypass t.bypasses t.bypass_items.items c.self.invariant.1 c.self.invariant.3
    c.args.tag c.in-Some.slot e in
    ap Some (c.index.ensures
    ∙ other_default t.bypass_items.items c.in-Some.slot c.index.result.now no_bypass f.inside)
    ∙ newest_found place_of_bypass no_bypass t.bypasses t.bypass_items.items c.self.invariant.1 c.self.invariant.3
    c.args.tag c.in-Some.slot e
    ∙ ap (λ (w : Window). newest_under c.args.tag w.bypasses) c.self.view_is
