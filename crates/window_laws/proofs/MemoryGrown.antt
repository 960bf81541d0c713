-- Memory while a trace grows.
use Rattle.std.proofs.Common.{ℕ, ◌≡◌, ◌⊎◌, inl, inr, true, List, Option, Some, refl, sym, ap}
use Rattle.std.proofs.Common.{subst, ◌∙◌}
use Rattle.std.proofs.lemmas.Bool.{both_ways, and_parts, cases_Bool}
use Rattle.std.specs.List.{Contains}
use Rattle.std.proofs.lemmas.List.Elements.{Contains-append_cases, Contains-append_left, Contains-append_right}
use Rattle.rvwmo_model.specs.declared.instructions.Retired.{Retired}
use Rattle.rvwmo_model.specs.declared.operations.Op.{Op}
use Rattle.rvwmo_model.specs.declared.operations.OpKind.TheVariants as kind
use Rattle.rvwmo_model.specs.declared.traces.Trace.{Trace}
use Rattle.rvwmo_model.specs.Order.{Standing, stands_before, standing, kind_stores, op_stores, has_byte, precedes}
use Rattle.rvwmo_model.specs.Order.{writes}
use Rattle.rvwmo_model.specs.Order.{put_at, everything}
use Rattle.rvwmo_model.specs.InForm.{IsPlaced}
use Rattle.rvwmo_model.proofs.Membership.{nothing_in}
use Rattle.rvwmo_model.proofs.Orders.{before_self}
use Rattle.growth_laws.specs.Kinds.{WellKinded}
use Rattle.growth_laws.specs.Growth.{IsAbove, Same, AddEarly, Adds, adds_loads, adds_store, adds_atomic, adds_nothing}
use Rattle.growth_laws.specs.Growth.{AddInsn, PerformsPart}
use Rattle.growth_laws.specs.Writers.{GoesOn, WritersGo}
use Rattle.growth_laws.proofs.Places.{not_both, rank_same}
use Rattle.growth_laws.proofs.Steps.{only, grows, insn_writers}
use Rattle.growth_laws.proofs.AddedOps.{early_back}
use Rattle.byte_memory.specs.declared.memory.Memory.{Memory}
use Rattle.byte_memory.specs.declared.writer.Writer.{Writer}
use Rattle.byte_memory.specs.Memory.{Written, written_at, foreign_writer, overwritten}
use Rattle.window_laws.specs.Tables.{writer_of}
use Rattle.window_laws.specs.Captures.{IsStored, IsForeignOf, TellsLatest, TellsStores, IsMemoryOf}
use Rattle.window_laws.specs.CaptureLaws.{MemoryStays, IsStoredTo, MemoryGains}
use Rattle.window_laws.proofs.Latests.{latest_same, latest_more}
use Rattle.window_laws.proofs.Stores.{IsToldAs, GoOn, told_self, tells_stores_on, writer_hart, foreign_of}

-- ---- where nothing is performed

same_on : (t t' : Trace) (x : ℕ) → Same t t' → GoOn x (IsStored t x) (IsStored t' x)
same_on t t' x s = record {
  on = λ w p. (w, (grows t t' s.ops.on s.early.on w p.0, p.1, p.2), told_self x w);
  back = λ n q. (n, (grows t' t s.ops.back s.early.back n q.0, q.1, q.2), told_self x n);
}

module _ (t t' : Trace) (r : Retired) (new : List Op) (x : ℕ) (k : WellKinded t) (s : AddInsn t t' r new) where
  -- what was performed isn't above itself
  not_above : (n : Op) → Contains (everything t) n → IsPlaced n → IsAbove t n → ⊥
  not_above n i p above = both_ways _ (before_self (standing n)) (above n i p)

  -- and what an instruction adds is no performed store that stands above all
  new_below : (n : Op) → Contains new n → writes x n ≡ true → IsPlaced n → IsAbove t n → ⊥
  new_below n m q p above = at s.adds
    where
      at : Adds t t' r new → ⊥
      at (adds_loads a) =
          let c : Some n.kind ≡ Some kind.Load = sym (s.are_of.kinds n m) ∙ a.loads in
          let same : n.kind ≡ kind.Load = cc in
          both_ways _ (ap kind_stores same) (and_parts (op_stores n) (has_byte x n) q).0
      at (adds_store o a) = not_both n p (ap (λ (z : Op). z.place) (only o n new a.one m) ∙ a.unperformed)
      at (adds_atomic e o a) =
          let d : n ≡ o = only o n new a.one m in
          let alike_standing : standing n ≡ standing e = ap standing d ∙ rank_same o e a.same a.place in
          let e_first : precedes e n ≡ true =
          above e (Contains-append_right t.ops t.early e a.was) (k.form.early e a.was) in
          both_ways _ (before_self (standing n))
          (subst (λ (z : Standing). stands_before z (standing n) ≡ true) (sym alike_standing) e_first)
      at (adds_nothing a) = nothing_in n (subst (λ (l : List Op). Contains l n) a.none m)

  stored_back : (n : Op) → IsStored t' x n → IsAbove t n → ⊥
  stored_back n q above = elim (Contains-append_cases t'.ops t'.early n q.0) [
    | inr b ↦ not_above n (Contains-append_right t.ops t.early n (early_back t t' r new k s n b)) q.2 above
    | inl a ↦ elim (s.ops_back n a) [
      | inl m ↦ new_below n m q.1 q.2 above
      | inr i ↦ not_above n (Contains-append_left t.ops t.early n i) q.2 above
    ]
  ]

  go : WritersGo t t' x
  go = insn_writers t t' r new x k s

  insn_on : GoOn x (IsStored t x) (IsStored t' x)
  insn_on = record {
    on = λ w p. (let g = go.on w p.0 p.1 in forth w g.0 p g.1);
    back = λ n q. elim (go.back n q.0 q.1) [
      | inl g ↦ behind g.0 n q g.1
      | inr f ↦ absurd (stored_back n q f.0)
    ];
  }
    where
      forth : (w n : Op) → IsStored t x w → GoesOn t t' x w n → (n : Op) × IsStored t' x n × IsToldAs x w n
      forth w n p g = elim g.becomes.place [
        | inr m ↦ absurd (not_both w p.2 m.0)
        | inl e ↦ (
          n,
          (g.is, g.stores, (p.2.0, e ∙ p.2.1)),
          record { same = g.becomes.same; place = e; byte = g.byte },
        )
      ]

      behind : (w n : Op) → IsStored t' x n → GoesOn t t' x w n → (w : Op) × IsStored t x w × IsToldAs x w n
      behind w n q g = elim g.becomes.place [
        | inr m ↦ absurd (stored_back n q m.2)
        | inl e ↦ (
          w,
          (g.was, g.stored, (q.2.0, sym e ∙ q.2.1)),
          record { same = g.becomes.same; place = e; byte = g.byte },
        )
      ]

pub memory_stays : MemoryStays
memory_stays = record {
  nothing = λ t t' memory k s h x.
      tells_stores_on x (IsStored t x) (IsStored t' x) (written_at memory x) (same_on t t' x s) (h x);
  insn = λ t t' r new memory k s h x.
      tells_stores_on x (IsStored t x) (IsStored t' x) (written_at memory x) (insn_on t t' r new x k s) (h x);
}

-- ---- one store more

-- n has the property Q, and else the same have it that have P, all before n
record Gained (n : Op) (P Q : Op → Type 0) : Type 0 where
  here : Q n
  on : (v : Op) → P v → Q v
  back : (v : Op) → Q v → (v ≡ n) ⊎ P v
  above : (v : Op) → P v → precedes v n ≡ true

module _ (n : Op) (P Q : Op → Type 0) (x : ℕ) (g : Gained n P Q) where
  foreign_back : (v : Op) → IsForeignOf Q n.name.hart v → IsForeignOf P n.name.hart v
  foreign_back v q = elim (g.back v q.0) [
    | inl e ↦ absurd (q.1 (ap (λ (o : Op). o.name.hart) e))
    | inr p ↦ (p, q.1)
  ]

  foreign_forth : (v : Op) → IsForeignOf P n.name.hart v → IsForeignOf Q n.name.hart v
  foreign_forth v p = (g.on v p.0, p.1)

  -- the last of another hart than that of n
  foreign_gained : (was : Option Written) → TellsStores P x was
      → TellsLatest (IsForeignOf Q n.name.hart) (foreign_writer n.name.hart was)
  foreign_gained was h =
      let f = foreign_of n.name.hart P x was h in
      record {
        store = f.store;
        latest = latest_same (IsForeignOf P n.name.hart) (IsForeignOf Q n.name.hart) f.store foreign_forth foreign_back
            f.latest;
        told = f.told;
      }

  gained : (was : Option Written) (writer : Writer) → writer_of n ≡ Some writer → TellsStores P x was
      → TellsStores Q x (Some (overwritten was writer (put_at n x)))
  gained was writer told h = record {
    store = n;
    latest = latest_more P Q n g.here g.back g.above;
    told = told;
    byte = refl;
    foreign = subst (λ (hart : ℕ). TellsLatest (IsForeignOf Q n.name.hart) (foreign_writer hart was))
        (sym (writer_hart n writer told)) (foreign_gained was h);
  }

-- where n doesn't store to the byte, nothing is stored to it
module _ (t t' : Trace) (n : Op) (on : (v : Op) → Contains (everything t) v → IsPlaced v → Contains (everything t') v)
    (back : (v : Op) → Contains (everything t') v → IsPlaced v → (v ≡ n) ⊎ Contains (everything t) v)
    (here : Contains (everything t') n) (placed : IsPlaced n) (above : IsAbove t n) where
  byte_gained : (memory later : Memory) (x : ℕ) → IsStoredTo memory later n
      → TellsStores (IsStored t x) x (written_at memory x) → TellsStores (IsStored t' x) x (written_at later x)
  byte_gained memory later x s h = elim (cases_Bool (writes x n)) [
    | inl q ↦ subst (λ (was : Option Written). TellsStores (IsStored t' x) x was) (sym (s.written x q))
        (gained n (IsStored t x) (IsStored t' x) x
        (record {
          here = (here, q, placed);
          on = λ v p. (on v p.0 p.2, p.1, p.2);
          back = λ v p. elim (back v p.0 p.2) [ inl e ↦ inl e | inr i ↦ inr (i, p.1, p.2) ];
          above = λ v p. above v p.0 p.2;
        })
        (written_at memory x) s.writer s.told h)
    | inr q ↦ subst (λ (was : Option Written). TellsStores (IsStored t' x) x was) (sym (s.others x q))
        (tells_stores_on x (IsStored t x) (IsStored t' x) (written_at memory x)
        (record {
          on = λ v p. (v, (on v p.0 p.2, p.1, p.2), told_self x v);
          back = λ v p. elim (back v p.0 p.2) [
            | inl e ↦ absurd (both_ways _ (ap (writes x) e ∙ q) p.1)
            | inr i ↦ (v, (i, p.1, p.2), told_self x v)
          ];
        })
        h)
  ]

early_gained : (t t' : Trace) (e : Op) (memory later : Memory) → WellKinded t → AddEarly t t' e
    → IsStoredTo memory later e → IsMemoryOf t memory → IsMemoryOf t' later
early_gained t t' e memory later k s to h x =
    byte_gained t t' e (λ v i p. grows t t' s.ops.on s.early_on v i) back
    (Contains-append_right t'.ops t'.early e s.added) s.placed s.above memory later x to (h x)
  where
    back : (v : Op) → Contains (everything t') v → IsPlaced v → (v ≡ e) ⊎ Contains (everything t) v
    back v i p = elim (Contains-append_cases t'.ops t'.early v i) [
      | inl a ↦ inr (Contains-append_left t.ops t.early v (s.ops.back v a))
      | inr b ↦ elim (s.early_back v b) [
        | inl d ↦ inl d
        | inr c ↦ inr (Contains-append_right t.ops t.early v c)
      ]
    ]

part_gained : (t t' : Trace) (o n : Op) (rest : Option Op) (memory later : Memory) → WellKinded t
    → PerformsPart t t' o n rest → IsStoredTo memory later n → IsMemoryOf t memory → IsMemoryOf t' later
part_gained t t' o n rest memory later k s to h x =
    byte_gained t t' n on back (Contains-append_left t'.ops t'.early n s.added) s.placed s.above memory later x to (h x)
  where
    on : (v : Op) → Contains (everything t) v → IsPlaced v → Contains (everything t') v
    on v i p = elim (Contains-append_cases t.ops t.early v i) [
      | inr b ↦ Contains-append_right t'.ops t'.early v (s.early.on v b)
      | inl a ↦ elim (s.ops_on v a) [
        | inl same ↦ absurd (not_both v p (ap (λ (z : Op). z.place) same ∙ s.unperformed))
        | inr j ↦ Contains-append_left t'.ops t'.early v j
      ]
    ]

    back : (v : Op) → Contains (everything t') v → IsPlaced v → (v ≡ n) ⊎ Contains (everything t) v
    back v i p = elim (Contains-append_cases t'.ops t'.early v i) [
      | inr b ↦ inr (Contains-append_right t.ops t.early v (s.early.back v b))
      | inl a ↦ elim (s.ops_back v a) [
        | inl same ↦ inl same
        | inr q ↦ elim q [
          | inl e ↦ absurd (not_both v p (s.left v e).1)
          | inr j ↦ inr (Contains-append_left t.ops t.early v j)
        ]
      ]
    ]

pub memory_gains : MemoryGains
memory_gains = record { early = early_gained; part = part_gained }
