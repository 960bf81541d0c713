-- What is kept of a hart, after one more message.
use Rattle.std.proofs.Common.{ℕ, ◌≡◌, ◌+◌, ◌==◌, ◌&&◌, nat_lt, nat_le, not, List, [], ◌∷◌, Bool, true, false, cond, map}
use Rattle.std.proofs.Common.{refl, ap, sym, subst, ◌∙◌, Some, None, arith}
use Rattle.std.specs.Prelude.{if◌then◌else◌}
use Rattle.std.specs.List.{filter, cons_option}
use Rattle.std.specs.declared.option.Option.{Option}
use Rattle.std.specs.Option.{option_map}
use Rattle.std.proofs.Math.Path.{fun_ext}
use Rattle.std.proofs.lemmas.Bool.{eqb-true}
use Rattle.std.proofs.lemmas.Bool.Decides.{nat_tests}
use Rattle.msg_frames.specs.declared.message.Poke.{Poke}
use Rattle.msg_frames.specs.declared.message.Piece.{Piece}
use Rattle.msg_frames.specs.declared.message.Retire.{Retire}
use Rattle.msg_frames.specs.declared.message.Body.{Body}
use Rattle.msg_frames.specs.declared.message.Body.TheVariants as body
use Rattle.msg_frames.specs.declared.message.Message.{Message}
use Rattle.elf_image.specs.Images.{Loaded}
use Rattle.verdict_report.specs.declared.fault.Fault.TheVariants as fault
use Rattle.matching.specs.declared.reports.OpenReport.{OpenReport}
use Rattle.matching.specs.declared.stores.Fate.{Fate}
use Rattle.matching.specs.declared.stores.Fate.TheVariants.{Nothing, Waiting, Done}
use Rattle.matching.specs.declared.stores.Held.{Held}
use Rattle.matching.specs.declared.stores.Stored.{Stored}
use Rattle.matching.specs.declared.stores.Tracked.{Tracked}
use Rattle.matching.specs.Settings.{number_after, config_of}
use Rattle.msg_frames.specs.Pieces.{has}
use Rattle.matching.specs.Pieces.{line_start}
use Rattle.matching.specs.Tags.{is_younger, last_tag, is_early}
use Rattle.matching.specs.Reports.{open_report_of, early}
use Rattle.matching.specs.Fates.{fate, drained}
use Rattle.matching.specs.Runs.{Run, run_poked, doing_at, step_at}
use Rattle.matching.specs.Stores.{retired_stores, new_store}
use Rattle.matching.specs.Compares.{tag_fault_of}
use Rattle.matching.specs.PartFaults.{fate_at}
use Rattle.matching.specs.Matching.{IsClean, match_fault}
use Rattle.matching.specs.Tables.{Table, table_at, table_after, tracked, untouched, with_part, with_line}
use Rattle.matching.specs.Tables.{held_of, is_in}
use Rattle.matching.proofs.Younger.{none_before, retire_tag, new_store_tag}

-- the stores with their fates
abbrev with_fates : (Stored → ℕ → Fate) → List Stored → List Tracked
with_fates g ss = map (λ (s : Stored). tracked (g s) s) ss

map_twice : (g k : Stored → ℕ → Fate) (u : Tracked → Tracked) → ((s : Stored) → tracked (k s) s ≡ u (tracked (g s) s))
    → (ss : List Stored) → map (λ (s : Stored). tracked (k s) s) ss ≡ map u (map (λ (s : Stored). tracked (g s) s) ss)
map_twice g k u f [] = refl
map_twice g k u f (s ∷ ss) =
    ap (λ (t : Tracked). t ∷ map (λ (r : Stored). tracked (k r) r) ss) (f s)
    ∙ ap (λ ts. u (tracked (g s) s) ∷ ts) (map_twice g k u f ss)

on_poke : (b : Bool) (t : Table) (poke : Poke)
    → record t { run = if b then run_poked t.run poke else t.run } ≡ cond b (record t { run = run_poked t.run poke }) t
on_poke true t poke = refl
on_poke false t poke = refl

on_read : (b : Bool) (t : Table) (r : OpenReport)
    → record t { live = if b then r ∷ t.live else t.live } ≡ cond b (record t { live = r ∷ t.live }) t
on_read true t r = refl
on_read false t r = refl

on_squash : (b : Bool) (t : Table) (tag : ℕ) →
    record t { live = if b then filter (λ (r : OpenReport). nat_lt r.tag tag) t.live else t.live }
    ≡ cond b (record t { live = filter (λ (r : OpenReport). nat_lt r.tag tag) t.live }) t
on_squash true t tag = refl
on_squash false t tag = refl

same_part : (new : Fate) (tag : ℕ) (piece : Piece) (g : Stored → ℕ → Fate) (s : Stored) →
    tracked (λ k. if (tag == s.tag) && has piece (s.piece.addr + k) then new else g s k) s
    ≡ with_part new tag piece (tracked (g s) s)
same_part new tag piece g s = refl

-- the fates after a part, where the hart may be another
abbrev part_fates : Bool → Fate → ℕ → Piece → (Stored → ℕ → Fate) → Stored → ℕ → Fate
part_fates b new tag piece g s k = if (b && (tag == s.tag)) && has piece (s.piece.addr + k) then new else g s k

on_part : (b : Bool) (new : Fate) (tag : ℕ) (piece : Piece) (g : Stored → ℕ → Fate) (ss : List Stored) →
    with_fates (part_fates b new tag piece g) ss
    ≡ cond b (map (with_part new tag piece) (with_fates g ss)) (with_fates g ss)
on_part true new tag piece g ss =
    map_twice g (part_fates true new tag piece g) (with_part new tag piece) (same_part new tag piece g) ss
on_part false new tag piece g ss = refl

abbrev line_fates : Bool → ℕ → ℕ → ℕ → (Stored → ℕ → Fate) → Stored → ℕ → Fate
line_fates b time n line g s k = if b && (line == line_start (s.piece.addr + k)) then drained time n (g s k) else g s k

same_line : (time n line : ℕ) (g : Stored → ℕ → Fate) (s : Stored) →
    tracked (line_fates true time n line g s) s ≡ with_line time n line (tracked (g s) s)
same_line time n line g s = refl

on_line : (b : Bool) (time n line : ℕ) (g : Stored → ℕ → Fate) (ss : List Stored) →
    with_fates (line_fates b time n line g) ss
    ≡ cond b (map (with_line time n line) (with_fates g ss)) (with_fates g ss)
on_line true time n line g ss =
    map_twice g (line_fates true time n line g) (with_line time n line) (same_line time n line g) ss
on_line false time n line g ss = refl

-- two parts of a table that change together
both : (b : Bool) (t : Table) (is is' : List Held) (ss ss' : List Tracked) → is ≡ cond b is' t.inserts
    → ss ≡ cond b ss' t.stores
    → record t { inserts = is; stores = ss } ≡ cond b (record t { inserts = is'; stores = ss' }) t
both true t is is' ss ss' e f =
    ap (λ (xs : List Held). record t { inserts = xs; stores = ss }) e
    ∙ ap (λ (ys : List Tracked). record t { inserts = is'; stores = ys }) f
both false t is is' ss ss' e f =
    ap (λ (xs : List Held). record t { inserts = xs; stores = ss }) e
    ∙ ap (λ (ys : List Tracked). record t { inserts = t.inserts; stores = ys }) f

one : (b : Bool) (t : Table) (ss ss' : List Tracked) → ss ≡ cond b ss' t.stores
    → record t { stores = ss } ≡ cond b (record t { stores = ss' }) t
one true t ss ss' f = ap (λ (ys : List Tracked). record t { stores = ys }) f
one false t ss ss' f = ap (λ (ys : List Tracked). record t { stores = ys }) f

-- the fates after a Bypass, where it may be early
abbrev bypass_fates : Bool → Bool → Fate → ℕ → Piece → (Stored → ℕ → Fate) → Stored → ℕ → Fate
bypass_fates y b new tag piece g s k = if y then g s k else part_fates b new tag piece g s k

on_bypass : (y b : Bool) (t : Table) (new : Fate) (tag : ℕ) (piece : Piece) (g : Stored → ℕ → Fate) (ss : List Stored)
    → t.stores ≡ with_fates g ss → (b ≡ true → is_younger t.last tag ≡ y)
    → record t { stores = with_fates (bypass_fates y b new tag piece g) ss }
    ≡ cond b (if is_younger t.last tag then t else record t { stores = map (with_part new tag piece) t.stores }) t
on_bypass true true t new tag piece g ss e f =
    ap (λ (ys : List Tracked). record t { stores = ys }) (sym e)
    ∙ sym (ap (λ (z : Bool). if z then t else record t { stores = map (with_part new tag piece) t.stores }) (f refl))
on_bypass false true t new tag piece g ss e f =
    ap (λ (ys : List Tracked). record t { stores = ys }) (on_part true new tag piece g ss
    ∙ ap (map (with_part new tag piece)) (sym e))
    ∙ sym (ap (λ (z : Bool). if z then t else record t { stores = map (with_part new tag piece) t.stores }) (f refl))
on_bypass true false t new tag piece g ss e f = ap (λ (ys : List Tracked). record t { stores = ys }) (sym e)
on_bypass false false t new tag piece g ss e f = ap (λ (ys : List Tracked). record t { stores = ys }) (sym e)

-- a store that retires has no fate yet
new_untouched : (g : Stored → ℕ → Fate) (o : Option Stored) (ss : List Stored)
    → ((s : Stored) → o ≡ Some s → (k : ℕ) → g s k ≡ Nothing)
    → with_fates g (cons_option o ss) ≡ cons_option (option_map untouched o) (with_fates g ss)
new_untouched g None ss f = refl
new_untouched g (Some s) ss f =
    ap (λ (h : ℕ → Fate). tracked h s ∷ with_fates g ss) (fun_ext {f = g s} {g = λ k. Nothing} (f s refl))

abbrev retire_with : (run' : Run) (last' : Option ℕ) (live' : List OpenReport) (t : Table) (ss : List Tracked) → Table
retire_with run' last' live' t ss = record { run = run'; last = last'; live = live'; inserts = t.inserts; stores = ss }

on_retire : (b : Bool) (t : Table) (run' : Run) (last' : Option ℕ) (live' : List OpenReport) (ss ss' : List Tracked)
    → ss ≡ cond b ss' t.stores
    → record {
      run = if b then run' else t.run;
      last = if b then last' else t.last;
      live =
          if b then live' else t.live;
      inserts = t.inserts;
      stores = ss;
    }
    ≡ cond b (record { run = run'; last = last'; live = live'; inserts = t.inserts; stores = ss' }) t
on_retire true t run' last' live' ss ss' e = ap (retire_with run' last' live' t) e
on_retire false t run' last' live' ss ss' e = ap (retire_with t.run t.last t.live t) e

new_stores : (b : Bool) (g : Stored → ℕ → Fate) (o : Option Stored) (ss : List Stored)
    → (b ≡ true → (s : Stored) → o ≡ Some s → (k : ℕ) → g s k ≡ Nothing)
    → with_fates g (if b then cons_option o ss else ss)
    ≡ cond b (cons_option (option_map untouched o) (with_fates g ss)) (with_fates g ss)
new_stores true g o ss f = new_untouched g o ss (f refl)
new_stores false g o ss f = refl

-- the tag of a Retire is above the last
tag_younger : (last : Option ℕ) (tag : ℕ) → tag_fault_of last tag ≡ None → is_younger last tag ≡ true
tag_younger None tag e = refl
tag_younger (Some k) tag e = by_test (nat_le tag k) refl e where
  by_test : (b : Bool) → nat_le tag k ≡ b → cond b (Some (fault.TagOrder k)) None ≡ None → nat_lt k tag ≡ true
  by_test true f g = absurd (cc)
  by_test false f g = grind (arith, nat_tests)

fresh_store : (image : Loaded) (before : List Message) (m : Message) (retire : Retire) (h : ℕ) → IsClean image before
    → match_fault image before m ≡ None
    → m.body ≡ body.Retire retire → (m.head.hart == h) ≡ true → (s : Stored)
    → new_store (doing_at image before h) m.head.tag (step_at image before h m.head retire).effect.store ≡ Some s
    → (k : ℕ) → fate_at before h s k ≡ Nothing
fresh_store image before m retire h c f e b s o k =
    let tag : s.tag ≡ m.head.tag =
    new_store_tag (doing_at image before h) m.head.tag (step_at image before h m.head retire).effect.store s o in
    let hart : m.head.hart ≡ h = eqb-true m.head.hart h b in
    let y : is_younger (last_tag before m.head.hart) m.head.tag ≡ true =
    tag_younger (last_tag before m.head.hart) m.head.tag (retire_tag image before m retire e f) in
    let y2 : is_younger (last_tag before h) m.head.tag ≡ true =
    subst (λ (n : ℕ). is_younger (last_tag before n) m.head.tag ≡ true) hart y in
    ap (λ (t : ℕ). fate before h t (s.piece.addr + k)) tag
    ∙ none_before image before h m.head.tag (s.piece.addr + k) c y2

by_body : (image : Loaded) (before : List Message) (m : Message) (h : ℕ) → IsClean image before
    → match_fault image before m ≡ None
    → (b : Body) → m.body ≡ b
    → table_at image (record { head = m.head; body = b } ∷ before) h
    ≡ cond (m.head.hart == h)
    (table_after image (config_of before) (early before) (number_after before) (table_at image before h) m.head b)
    (table_at image before h)
by_body image before m h c f (body.Open info) e = same (m.head.hart == h) where
  same : (b : Bool) → table_at image before h ≡ cond b (table_at image before h) (table_at image before h)
  same true = refl
  same false = refl
by_body image before m h c f (body.Poke poke) e = on_poke (m.head.hart == h) (table_at image before h) poke
by_body image before m h c f (body.Read piece) e =
    on_read (m.head.hart == h) (table_at image before h) (open_report_of (number_after before) m.head piece)
by_body image before m h c f (body.Insert piece) e =
    both (m.head.hart == h) (table_at image before h) _
    (held_of (number_after before) m.head piece ∷ (table_at image before h).inserts) _ _ refl
    (on_part (m.head.hart == h) (Waiting (number_after before)) m.head.tag piece (fate_at before h)
    (retired_stores image before h))
by_body image before m h c f (body.Write write) e =
    both (m.head.hart == h) (table_at image before h) _
    (filter (λ (e : Held). not (is_in write.line e)) (table_at image before h).inserts) _ _ refl
    (on_line (m.head.hart == h) m.head.time (number_after before) write.line (fate_at before h)
    (retired_stores image before h))
by_body image before m h c f (body.Bypass piece) e =
    on_bypass (is_early before m.head) (m.head.hart == h) (table_at image before h)
    (Done (record { time = m.head.time; message = number_after before; insert = number_after before })) m.head.tag piece
    (fate_at before h) (retired_stores image before h) refl
    (λ b. ap (λ (n : ℕ). is_younger (last_tag before n) m.head.tag) (sym (eqb-true m.head.hart h b)))
by_body image before m h c f (body.Retire retire) e =
    on_retire (m.head.hart == h) (table_at image before h) _ _ _ _ _
    (new_stores (m.head.hart == h) (fate_at before h)
    (new_store (doing_at image before h) m.head.tag (step_at image before h m.head retire).effect.store)
    (retired_stores image before h)
    (fresh_store image before m retire h c f e))
by_body image before m h c f body.Squash e = on_squash (m.head.hart == h) (table_at image before h) m.head.tag
by_body image before m h c f body.End e = same (m.head.hart == h) where
  same : (b : Bool) → table_at image before h ≡ cond b (table_at image before h) (table_at image before h)
  same true = refl
  same false = refl

-- hart h after one more message that has no fault
pub table_step : (image : Loaded) (before : List Message) (m : Message) (h : ℕ) → IsClean image before
    → match_fault image before m ≡ None
    → table_at image (m ∷ before) h
    ≡ cond (m.head.hart == h)
    (table_after image (config_of before) (early before) (number_after before) (table_at image before h) m.head
    m.body) (table_at image before h)
table_step image before m h c f = by_body image before m h c f m.body refl
