-- The stores to a byte go on through a whole message that performs stores, and through each growth.
use Rattle.std.proofs.Common.{ℕ, ◌≡◌, ◌⊎◌, inl, inr, List, None, Option, refl, sym, ◌∙◌}
use Rattle.std.specs.List.{Contains}
use Rattle.std.proofs.lemmas.List.Elements.{Contains-append_cases, Contains-append_left, Contains-append_right}
use Rattle.rvwmo_model.specs.declared.instructions.Retired.{Retired}
use Rattle.rvwmo_model.specs.declared.operations.Op.{Op}
use Rattle.rvwmo_model.specs.declared.traces.Trace.{Trace}
use Rattle.rvwmo_model.specs.InForm.{IsPlaced}
use Rattle.growth_laws.specs.Kinds.{WellKinded}
use Rattle.growth_laws.specs.Growth.{IsAbove, Performs, no_parts, more_parts, PerformsPart, grow_same, grow_early}
use Rattle.growth_laws.specs.Growth.{grow_insn, grow_stores}
use Rattle.growth_laws.specs.Writers.{Becomes, GoesOn, WritersGo}
use Rattle.growth_laws.specs.Laws.{KeepsWriters}
use Rattle.growth_laws.proofs.Places.{not_both, rank_same}
use Rattle.growth_laws.proofs.Insns.{insns_on}
use Rattle.growth_laws.proofs.Operations.{part_ops}
use Rattle.growth_laws.proofs.Steps.{itself, same_writers, early_writers, insn_writers, part_writers}
use Rattle.growth_laws.proofs.Growths.{chain_kinded, performs_chain}
use Rattle.rvwmo_model.specs.Order.{everything}

-- what is performed stays, and so do the instructions
pub record Stays (t u : Trace) : Type 0 where
  pub performed : (v : Op) → Contains (everything t) v → IsPlaced v → Contains (everything u) v
  pub insns : (w : Retired) → Contains t.insns w → Contains u.insns w

module _ (t u v : Trace) (x : ℕ) (s : Stays t u) where
  above_back : (n : Op) → IsAbove u n → IsAbove t n
  above_back n a w h p = a w (s.performed w h p) p

  becomes_on : (w m n : Op) → Becomes t w m → Becomes u m n → Becomes t w n
  becomes_on w m n a b = record { same = (b.same.0 ∙ a.same.0, b.same.1 ∙ a.same.1); place = at a.place b.place }
    where
      at : (m.place ≡ w.place) ⊎ ((w.place ≡ None) × IsPlaced m × IsAbove t m) → (n.place ≡ m.place)
          ⊎ ((m.place ≡ None) × IsPlaced n × IsAbove u n) → (n.place ≡ w.place)
          ⊎ ((w.place ≡ None) × IsPlaced n × IsAbove t n)
      at (inl e) (inl f) = inl (f ∙ e)
      at (inl e) (inr f) = inr (sym e ∙ f.0, f.1, above_back n f.2)
      at (inr e) (inl f) = inr (e.0, (e.1.0, f ∙ e.1.1), λ v h p. rw (rank_same n m b.same f) (e.2 v h p))
      at (inr e) (inr f) = absurd (not_both m e.1 f.0)

  -- what a new store becomes is above all that was too
  above_on : (m n : Op) → Becomes u m n → IsAbove t m → IsAbove t n
  above_on m n b a = elim b.place [ inl f ↦ λ v h p. rw (rank_same n m b.same f) (a v h p) | inr f ↦ above_back n f.2 ]

  goes_on : (w m n : Op) → GoesOn t u x w m → GoesOn u v x m n → GoesOn t v x w n
  goes_on w m n a b =
      record {
        was = a.was;
        is = b.is;
        stored = a.stored;
        stores = b.stores;
        retired = λ h. b.retired (a.retired h);
        becomes = becomes_on w m n a.becomes b.becomes;
        byte = b.byte ∙ a.byte;
      }

  pub writers_on : WritersGo t u x → WritersGo u v x → WritersGo t v x
  writers_on a b = record {
    on = λ w h q. let m = a.on w h q in let n = b.on m.0 m.1.is m.1.stores in (n.0, goes_on w m.0 n.0 m.1 n.1);
    back = λ n h q. elim (b.back n h q) [
      | inr f ↦ inr (above_back n f.0, λ w i e. f.1 w (s.insns w i) e)
      | inl m ↦ elim (a.back m.0 m.1.was m.1.stored) [
        | inl w ↦ inl (w.0, goes_on w.0 m.0 n w.1 m.1)
        | inr f ↦
            inr (
              above_on m.0 n m.1.becomes f.0,
              λ w i e. rw m.1.becomes.same.1 (f.1 w i (e ∙ m.1.becomes.same.0)),
            )
      ]
    ];
  }

stays_none : (t : Trace) → Stays t t
stays_none t = record { performed = λ v h p. h; insns = λ w h. h }

stays_part : (t u v : Trace) (o n : Op) (rest : Option Op) → WellKinded u → Stays t u → PerformsPart u v o n rest
    → Stays t v
stays_part t u v o n rest k s p = record {
  performed = λ w h q. elim (Contains-append_cases u.ops u.early w (s.performed w h q)) [
    | inl i ↦ Contains-append_left v.ops v.early w ((part_ops u v o n rest p).stays w i q)
    | inr i ↦ Contains-append_right v.ops v.early w (p.early.on w i)
  ];
  insns = λ w h. insns_on u v k.form.rising p.keeps w (s.insns w h);
}

pub performs_stays : (h : ℕ) (t v : Trace) (parts : List Op) → WellKinded t → Performs h t parts v → Stays t v
performs_stays h t _ _ k no_parts = stays_none t
performs_stays h t _ _ k (more_parts parts u v o n rest s e p) =
    stays_part t u v o n rest (chain_kinded t u k (performs_chain h t u parts k s)) (performs_stays h t u parts k s) p

none_writers : (t : Trace) (x : ℕ) → WritersGo t t x
none_writers t x = record {
  on = λ w h q.
      (w, record { was = h; is = h; stored = q; stores = q; retired = λ i. i; becomes = itself t w; byte = refl });
  back = λ n h q. inl
      (n, record { was = h; is = h; stored = q; stores = q; retired = λ i. i; becomes = itself t n; byte = refl });
}

pub performs_writers : (h : ℕ) (t v : Trace) (parts : List Op) (x : ℕ) → WellKinded t → Performs h t parts v
    → WritersGo t v x
performs_writers h t _ _ x k no_parts = none_writers t x
performs_writers h t _ _ x k (more_parts parts u v o n rest s e p) =
    writers_on t u v x (performs_stays h t u parts k s) (performs_writers h t u parts x k s)
    (part_writers u v o n rest x (chain_kinded t u k (performs_chain h t u parts k s)) p)

pub keeps_writers : KeepsWriters
keeps_writers t t' x k (grow_same s) = same_writers t t' x s
keeps_writers t t' x k (grow_early e s) = early_writers t t' e x s
keeps_writers t t' x k (grow_insn r new s) = insn_writers t t' r new x k s
keeps_writers t t' x k (grow_stores h parts s) = performs_writers h t t' parts x k s
