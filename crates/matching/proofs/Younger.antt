-- No byte of a store that has not retired has a fate.
use Rattle.std.proofs.Common.{ℕ, ◌≡◌, ◌==◌, ◌&&◌, nat_lt, nat_le, List, [], ◌∷◌, Bool, true, false}
use Rattle.std.proofs.Common.{cond, refl, ap, subst, Some, None, arith}
use Rattle.std.specs.List.{cons_option}
use Rattle.std.specs.declared.option.Option.{Option}
use Rattle.std.proofs.lemmas.Bool.{eqb-true, and_parts}
use Rattle.std.proofs.lemmas.Bool.Decides.{nat_tests}
use Rattle.msg_frames.specs.declared.message.Head.{Head}
use Rattle.msg_frames.specs.declared.message.Piece.{Piece}
use Rattle.msg_frames.specs.declared.message.Retire.{Retire}
use Rattle.msg_frames.specs.declared.message.Body.{Body}
use Rattle.msg_frames.specs.declared.message.Body.TheVariants as body
use Rattle.msg_frames.specs.declared.message.Message.{Message}
use Rattle.elf_image.specs.Images.{Loaded}
use Rattle.rv_step.specs.Steps.{Doing, trap, plain, counter, load, store, lr, sc, amo}
use Rattle.tandem_base.specs.FirstFault.{◌or_else◌}
use Rattle.verdict_report.specs.declared.fault.Fault.TheVariants as fault
use Rattle.matching.specs.declared.stores.Fate.{Fate}
use Rattle.matching.specs.declared.stores.Fate.TheVariants.{Nothing}
use Rattle.matching.specs.declared.stores.Stored.{Stored}
use Rattle.matching.specs.Settings.{number_after}
use Rattle.msg_frames.specs.Pieces.{has}
use Rattle.matching.specs.Pieces.{line_start}
use Rattle.matching.specs.Tags.{is_of, last_in, last_tag, is_younger, is_early}
use Rattle.matching.specs.Fates.{fate, fate_in, drained}
use Rattle.matching.specs.Runs.{doing_at, step_at}
use Rattle.matching.specs.Stores.{retired_stores, stores_in, store_under, new_store}
use Rattle.matching.specs.Compares.{tag_fault_of}
use Rattle.matching.specs.PartFaults.{part_fault_in, fate_at, insert_range_fault}
use Rattle.matching.specs.Matching.{IsClean, match_fault, stream_fault_of, body_fault_of, part_fault_of}
use Rattle.matching.specs.Matching.{retire_fault_of}

-- none of two is the first
pub none_first : {X : Type 0} (a b : Option X) → ◌or_else◌ a b ≡ None → a ≡ None
none_first None b e = refl
none_first (Some f) b e = absurd (cc)

pub none_second : {X : Type 0} (a b : Option X) → ◌or_else◌ a b ≡ None → b ≡ None
none_second None b e = e
none_second (Some f) b e = absurd (cc)

-- a tag above one that is above all is above all
pub younger_up : (last : Option ℕ) (tag t : ℕ) → tag_fault_of last tag ≡ None → nat_lt tag t ≡ true
    → is_younger last t ≡ true
younger_up None tag t e l = refl
younger_up (Some k) tag t e l = by_test (nat_le tag k) refl e where
  by_test : (b : Bool) → nat_le tag k ≡ b → cond b (Some (fault.TagOrder k)) None ≡ None → nat_lt k t ≡ true
  by_test true f g = absurd (cc)
  by_test false f g = grind (arith, nat_tests)

-- a tag that isn't above all isn't above a later one
pub younger_down : (last : Option ℕ) (tag t : ℕ) → tag_fault_of last tag ≡ None → is_younger last t ≡ false
    → nat_lt tag t ≡ false
younger_down last tag t e f = by_test (nat_lt tag t) refl where
  by_test : (b : Bool) → nat_lt tag t ≡ b → nat_lt tag t ≡ false
  by_test false g = g
  by_test true g = absurd (let y : is_younger last t ≡ true = younger_up last tag t e g in cc)

-- the tag of the store that retires
pub new_store_tag : (doing : Doing) (t : ℕ) (piece : Option Piece) (s : Stored) → new_store doing t piece ≡ Some s
    → s.tag ≡ t
new_store_tag (trap cause value) t piece s e = absurd (cc)
new_store_tag (plain i) t piece s e = absurd (cc)
new_store_tag (counter i) t piece s e = absurd (cc)
new_store_tag (load i addr len) t piece s e = absurd (cc)
new_store_tag (store i addr len) t None s e = absurd (cc)
new_store_tag (store i addr len) t (Some piece) s e = cc
new_store_tag (lr i addr len) t piece s e = absurd (cc)
new_store_tag (sc i addr len) t piece s e = absurd (cc)
new_store_tag (amo i addr len) t piece s e = absurd (cc)

-- the store that is found is the new one or an older one
found_new : (tag t : ℕ) (o : Option Stored) (ss : List Stored) (s : Stored) (last : Option ℕ)
    → ((n : Stored) → o ≡ Some n → n.tag ≡ tag)
    → tag_fault_of last tag ≡ None → ((old : Stored) → store_under t ss ≡ Some old → is_younger last t ≡ false)
    → store_under t (cons_option o ss) ≡ Some s → nat_lt tag t ≡ false
found_new tag t None ss s last f e g h = younger_down last tag t e (g s h)
found_new tag t (Some n) ss s last f e g h = by_test (n.tag == t) refl h where
  by_test : (b : Bool) → (n.tag == t) ≡ b → cond b (Some n) (store_under t ss) ≡ Some s → nat_lt tag t ≡ false
  by_test true k r = let a : n.tag ≡ t = eqb-true n.tag t k in let c : n.tag ≡ tag =
      f n refl in grind (arith, nat_tests)
  by_test false k r = younger_down last tag t e (g s r)

-- the tag's fault is the first of a Retire
pub retire_tag : (image : Loaded) (before : List Message) (m : Message) (retire : Retire) → m.body ≡ body.Retire retire
    → match_fault image before m ≡ None → tag_fault_of (last_tag before m.head.hart) m.head.tag ≡ None
retire_tag image before m retire e f =
    let g : body_fault_of image before m.head m.body ≡ None = none_second (stream_fault_of before m) _ f in
    let h : retire_fault_of image before m.head retire ≡ None =
    subst (λ (b : Body). body_fault_of image before m.head b ≡ None) e g in
    none_first _ _ h

old_retired : (image : Loaded) (before : List Message) (h t : ℕ) (s : Stored) (head : Head) (retire : Retire) (b : Bool)
    → (head.hart == h) ≡ b → tag_fault_of (last_tag before head.hart) head.tag ≡ None
    → ((old : Stored) → store_under t (retired_stores image before h) ≡ Some old
    → is_younger (last_tag before h) t ≡ false)
    → store_under t (cond b
    (cons_option (new_store (doing_at image before h) head.tag (step_at image before h head retire).effect.store)
    (retired_stores image before h)) (retired_stores image before h)) ≡ Some s
    → is_younger (cond b (Some head.tag) (last_tag before h)) t ≡ false
old_retired image before h t s head retire true e f g r =
    let same : head.hart ≡ h = eqb-true head.hart h e in
    let f' : tag_fault_of (last_tag before h) head.tag ≡ None =
    subst (λ (k : ℕ). tag_fault_of (last_tag before k) head.tag ≡ None) same f in
    found_new head.tag t (new_store (doing_at image before h) head.tag
    (step_at image before h head retire).effect.store) (retired_stores image before h) s (last_tag before h)
    (new_store_tag (doing_at image before h) head.tag (step_at image before h head retire).effect.store) f' g r
old_retired image before h t s head retire false e f g r = g s r

known_by : (image : Loaded) (before : List Message) (m : Message) (h t : ℕ) (s : Stored)
    → match_fault image before m ≡ None
    → ((old : Stored) → store_under t (retired_stores image before h) ≡ Some old
    → is_younger (last_tag before h) t ≡ false)
    → (b : Body) → m.body ≡ b → store_under t (stores_in image before (retired_stores image before h) m.head b h)
    ≡ Some s
    → is_younger (last_in (last_tag before h) m.head b h) t ≡ false
known_by image before m h t s c rec (body.Open info) f r = rec s r
known_by image before m h t s c rec (body.Poke poke) f r = rec s r
known_by image before m h t s c rec (body.Read piece) f r = rec s r
known_by image before m h t s c rec (body.Insert piece) f r = rec s r
known_by image before m h t s c rec (body.Write write) f r = rec s r
known_by image before m h t s c rec (body.Bypass piece) f r = rec s r
known_by image before m h t s c rec (body.Retire retire) f r =
    old_retired image before h t s m.head retire (m.head.hart == h) refl (retire_tag image before m retire f c) rec r
known_by image before m h t s c rec body.Squash f r = rec s r
known_by image before m h t s c rec body.End f r = rec s r

-- a store that is known has retired
pub known_retired : (image : Loaded) (before : List Message) (h t : ℕ) (s : Stored) → IsClean image before
    → store_under t (retired_stores image before h) ≡ Some s → is_younger (last_tag before h) t ≡ false
known_retired image [] h t s c e = absurd (cc)
known_retired image (m ∷ before) h t s c e =
    known_by image before m h t s c.2 (λ (old : Stored) r. known_retired image before h t old c.0 r) m.body refl e

-- the store of an Insert is known
insert_part : (image : Loaded) (before : List Message) (m : Message) (piece : Piece) → m.body ≡ body.Insert piece
    → match_fault image before m ≡ None → part_fault_of image before m.head piece ≡ None
insert_part image before m piece e f =
    let g : body_fault_of image before m.head m.body ≡ None = none_second (stream_fault_of before m) _ f in
    let h : body_fault_of image before m.head (body.Insert piece) ≡ None =
    subst (λ (b : Body). body_fault_of image before m.head b ≡ None) e g in
    none_second (insert_range_fault image piece) _ h

part_known : (fates : Stored → ℕ → Fate) (piece : Piece) (o : Option Stored) → part_fault_in fates piece o ≡ None
    → (s : Stored) × (o ≡ Some s)
part_known fates piece None e = absurd (cc)
part_known fates piece (Some s) e = (s, refl)

of_one : (head : Head) (h t : ℕ) → is_of head h t ≡ true → (head.hart ≡ h) × (head.tag ≡ t)
of_one head h t e = let p =
    and_parts (head.hart == h) (head.tag == t) e in (eqb-true head.hart h p.0, eqb-true head.tag t p.1)

on_part : (a c : Bool) (new old : Fate) → (a ≡ true → ⊥) → old ≡ Nothing → cond (a && c) new old ≡ Nothing
on_part true c new old f e = absurd (f refl)
on_part false c new old f e = e

on_line : (b : Bool) (time n : ℕ) (old : Fate) → old ≡ Nothing → cond b (drained time n old) old ≡ Nothing
on_line true time n old e = ap (drained time n) e
on_line false time n old e = e

on_early : (a : Bool) (new old : Fate) → old ≡ Nothing → (a ≡ false → new ≡ Nothing) → cond a old new ≡ Nothing
on_early true new old e f = e
on_early false new old e f = f refl

on_retire : (b : Bool) (last : Option ℕ) (tag t : ℕ) → (b ≡ true → tag_fault_of last tag ≡ None)
    → is_younger (cond b (Some tag) last) t ≡ true → is_younger last t ≡ true
on_retire true last tag t f y = younger_up last tag t (f refl) y
on_retire false last tag t f y = y

no_part : (image : Loaded) (before : List Message) (m : Message) (h t : ℕ) (piece : Piece) → IsClean image before
    → match_fault image before m ≡ None → m.body ≡ body.Insert piece → is_younger (last_tag before h) t ≡ true
    → is_of m.head h t ≡ true → ⊥
no_part image before m h t piece c f e y o =
    let p = of_one m.head h t o in
    let g = part_known (fate_at before m.head.hart) piece (store_under m.head.tag
    (retired_stores image before m.head.hart))
    (insert_part image before m piece e f) in
    let k : is_younger (last_tag before m.head.hart) m.head.tag ≡ false =
    known_retired image before m.head.hart m.head.tag g.0 c g.1 in
    let k2 : is_younger (last_tag before h) m.head.tag ≡ false =
    subst (λ (n : ℕ). is_younger (last_tag before n) m.head.tag ≡ false) p.0 k in
    let k3 : is_younger (last_tag before h) t ≡ false =
    subst (λ (n : ℕ). is_younger (last_tag before h) n ≡ false) p.1 k2 in
    absurd (cc)

no_bypass : (before : List Message) (head : Head) (h t : ℕ) → is_early before head ≡ false
    → is_younger (last_tag before h) t ≡ true
    → is_of head h t ≡ true → ⊥
no_bypass before head h t e y o =
    let p = of_one head h t o in
    let k2 : is_younger (last_tag before h) head.tag ≡ false =
    subst (λ (n : ℕ). is_younger (last_tag before n) head.tag ≡ false) p.0 e in
    let k3 : is_younger (last_tag before h) t ≡ false =
    subst (λ (n : ℕ). is_younger (last_tag before h) n ≡ false) p.1 k2 in
    absurd (cc)

none_by : (image : Loaded) (before : List Message) (m : Message) (h t x : ℕ) → IsClean image before
    → match_fault image before m ≡ None
    → (is_younger (last_tag before h) t ≡ true → fate before h t x ≡ Nothing)
    → (b : Body) → m.body ≡ b → is_younger (last_in (last_tag before h) m.head b h) t ≡ true
    → fate_in before (fate before h t x) m.head b h t x ≡ Nothing
none_by image before m h t x c f rec (body.Open info) e y = rec y
none_by image before m h t x c f rec (body.Poke poke) e y = rec y
none_by image before m h t x c f rec (body.Read piece) e y = rec y
none_by image before m h t x c f rec (body.Insert piece) e y =
    on_part (is_of m.head h t) (has piece x) _ _ (no_part image before m h t piece c f e y) (rec y)
none_by image before m h t x c f rec (body.Write write) e y =
    on_line ((m.head.hart == h) && (write.line == line_start x)) m.head.time (number_after before) _ (rec y)
none_by image before m h t x c f rec (body.Bypass piece) e y =
    on_early (is_early before m.head) _ _ (rec y)
    (λ g. on_part (is_of m.head h t) (has piece x) _ _ (no_bypass before m.head h t g y) (rec y))
none_by image before m h t x c f rec (body.Retire retire) e y =
    rec (on_retire (m.head.hart == h) (last_tag before h) m.head.tag t
    (λ g. subst (λ (n : ℕ). tag_fault_of (last_tag before n) m.head.tag ≡ None) (eqb-true m.head.hart h g)
    (retire_tag image before m retire e f)) y)
none_by image before m h t x c f rec body.Squash e y = rec y
none_by image before m h t x c f rec body.End e y = rec y

-- no byte of a store that has not retired has a fate
pub none_before : (image : Loaded) (before : List Message) (h t x : ℕ) → IsClean image before
    → is_younger (last_tag before h) t ≡ true → fate before h t x ≡ Nothing
none_before image [] h t x c y = refl
none_before image (m ∷ before) h t x c y =
    none_by image before m h t x c.0 c.2 (λ z. none_before image before h t x c.0 z) m.body refl y
