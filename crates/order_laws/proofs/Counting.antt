-- After one more message the counts of its own hart tell whether any is over its bound.
use Rattle.std.proofs.Common.{ℕ, ◌<◌, ◌≤◌, ◌≡◌, Bool, true, false, ltb, eqb, cond, List, [], ◌∷◌, length}
use Rattle.std.proofs.Common.{Option, Some, None}
use Rattle.std.proofs.Common.{refl, subst, inl, inr, arith}
use Rattle.std.proofs.lemmas.Bool.{cases_Bool, ltb-false, ltb-true, eqb-true}
use Rattle.tandem_base.specs.FirstFault.{◌or_else◌}
use Rattle.msg_frames.specs.declared.message.Message.{Message}
use Rattle.elf_image.specs.Images.{Loaded}
use Rattle.verdict_report.specs.declared.verdict.Limit.{Limit}
use Rattle.verdict_report.specs.declared.verdict.Limit.TheVariants as limit
use Rattle.matching.specs.Counts.{reads_of, stores_of}
use Rattle.trace_model.specs.Kept.{kept_of}
use Rattle.trace_model.proofs.CleanLists.{others_count}
use Rattle.order_laws.specs.Limits.{Bounds, Overrun, over_bound, overrun_of, IsUpTo, IsInBounds, StaysInBounds}
use Rattle.order_laws.specs.Limits.{OwnHartTells}
use Rattle.order_laws.proofs.Trapping.{both_none}

-- a count isn't over its bound
not_over : (l : Limit) (bound : Option ℕ) (hart count : ℕ) → over_bound l bound hart count ≡ None → IsUpTo bound count
not_over l None hart count e = tt
not_over l (Some bound) hart count e = at (ltb bound count) refl e
  where
    at : (b : Bool) → ltb bound count ≡ b
        → cond b (Some (let o : Overrun = record { limit = l; hart = hart; count = count } in o)) None ≡ None
        → count ≤ bound
    at true q r = absurd (cc)
    at false q r = ltb-false bound count q

in_bound : (l : Limit) (bound : Option ℕ) (hart count : ℕ) → IsUpTo bound count → over_bound l bound hart count ≡ None
in_bound l None hart count le = refl
in_bound l (Some bound) hart count le = at (ltb bound count) refl
  where
    at : (b : Bool) → ltb bound count ≡ b
        → cond b (Some (let o : Overrun = record { limit = l; hart = hart; count = count } in o)) None ≡ None
    at true q = absurd (let m : bound < count = ltb-true bound count q in omega arith)
    at false q = refl

none_all : {X : Type 0} (a b : Option X) → a ≡ None → b ≡ None → (a or_else b) ≡ None
none_all None b p q = q
none_all (Some f) b p q = absurd (cc)

-- nothing is up to every bound
up_to_zero : (bound : Option ℕ) → IsUpTo bound 0
up_to_zero None = tt
up_to_zero (Some b) = omega arith

-- before any message nothing is open
pub starts_in_bounds : (image : Loaded) (bounds : Bounds) → IsInBounds image bounds []
starts_in_bounds image bounds = record {
  reads = λ h. up_to_zero bounds.reads;
  stores = λ h. up_to_zero bounds.stores;
  kept = λ h. up_to_zero bounds.kept;
  number = up_to_zero bounds.messages;
}

pub newest_in_bounds : (image : Loaded) (bounds : Bounds) (messages : List Message)
    → StaysInBounds image bounds messages → IsInBounds image bounds messages
newest_in_bounds image bounds [] s = starts_in_bounds image bounds
newest_in_bounds image bounds (m ∷ before) s = s.1

module _ (image : Loaded) (bounds : Bounds) (before : List Message) (m : Message) where
  -- the counts of its own hart, where none of them is over its bound
  record OwnInBounds : Type 0 where
    reads : IsUpTo bounds.reads (reads_of (m ∷ before) m.head.hart)
    stores : IsUpTo bounds.stores (stores_of image (m ∷ before) m.head.hart)
    kept : IsUpTo bounds.kept (kept_of image (m ∷ before) m.head.hart)
    number : IsUpTo bounds.messages (length (m ∷ before))

  own_in_bounds : overrun_of image bounds (m ∷ before) m.head.hart ≡ None → OwnInBounds
  own_in_bounds e =
      let a = both_none (over_bound limit.Reads bounds.reads m.head.hart (reads_of (m ∷ before) m.head.hart)) _ e in
      let b = both_none (over_bound limit.Stores bounds.stores m.head.hart (stores_of image (m ∷ before) m.head.hart))
      _ a.1 in
      let c = both_none (over_bound limit.Kept bounds.kept m.head.hart (kept_of image (m ∷ before) m.head.hart)) _ b.1
      in
      record {
        reads = not_over limit.Reads _ m.head.hart _ a.0;
        stores = not_over limit.Stores _ m.head.hart _ b.0;
        kept = not_over limit.Kept _ m.head.hart _ c.0;
        number = not_over limit.Messages _ 0 _ c.1;
      }

  pub none_over : IsInBounds image bounds before → overrun_of image bounds (m ∷ before) m.head.hart ≡ None
      → IsInBounds image bounds (m ∷ before)
  none_over old e = record {
    reads = λ h. each h (λ n. IsUpTo bounds.reads (reads_of (m ∷ before) n)) own.reads
        (λ q. rw (others_count image before m h q).reads (old.reads h));
    stores = λ h. each h (λ n. IsUpTo bounds.stores (stores_of image (m ∷ before) n)) own.stores
        (λ q. rw (others_count image before m h q).stores (old.stores h));
    kept = λ h. each h (λ n. IsUpTo bounds.kept (kept_of image (m ∷ before) n)) own.kept
        (λ q. rw (others_count image before m h q).kept (old.kept h));
    number = own.number;
  }
    where
      own : OwnInBounds
      own = own_in_bounds e

      each : (h : ℕ) (P : ℕ → Type 0) → P m.head.hart → (eqb m.head.hart h ≡ false → P h) → P h
      each h P here other = elim (cases_Bool (eqb m.head.hart h)) [
        | inl q ↦ subst P (eqb-true m.head.hart h q) here
        | inr q ↦ other q
      ]

  pub over_none : IsInBounds image bounds (m ∷ before) → overrun_of image bounds (m ∷ before) m.head.hart ≡ None
  over_none new =
      none_all _ _ (in_bound limit.Reads bounds.reads m.head.hart _ (new.reads m.head.hart))
      (none_all _ _ (in_bound limit.Stores bounds.stores m.head.hart _ (new.stores m.head.hart))
      (none_all _ _ (in_bound limit.Kept bounds.kept m.head.hart _ (new.kept m.head.hart))
      (in_bound limit.Messages bounds.messages 0 _ new.number)))

pub own_hart_tells : OwnHartTells
own_hart_tells image bounds before m old =
    ((λ e. none_over image bounds before m old e), λ new. over_none image bounds before m new)
