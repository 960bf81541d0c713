-- What is told of stores that go on where they stand.
use Rattle.std.proofs.Common.{ℕ, ◌≡◌, true, false, Option, Some, None, option_map, refl, sym, ap, subst}
use Rattle.std.proofs.Common.{◌∙◌, Bool, cond, eqb, arith}
use Rattle.std.proofs.lemmas.Bool.{eqb-true}
use Rattle.std.proofs.lemmas.Bool.Decides.{nat_tests}
use Rattle.tandem_base.specs.declared.names.Place.{Place}
use Rattle.rvwmo_model.specs.declared.operations.Op.{Op}
use Rattle.rvwmo_model.specs.Order.{precedes, put_at}
use Rattle.rvwmo_model.specs.Sources.{byte_from}
use Rattle.growth_laws.specs.Kinds.{SameInsn}
use Rattle.growth_laws.proofs.Places.{rank_same}
use Rattle.byte_memory.specs.declared.writer.Writer.{Writer}
use Rattle.byte_memory.specs.Memory.{Written, foreign_writer}
use Rattle.window_laws.specs.Latest.{IsLatestIfAny}
use Rattle.window_laws.specs.Tables.{untimed, writer_of, writer_from}
use Rattle.window_laws.specs.Captures.{IsForeignOf, TellsLatest, TellsByte, TellsStores}

-- n is of the instruction of w, at its place, with its byte at x
pub record IsToldAs (x : ℕ) (w n : Op) : Type 0 where
  pub same : SameInsn n w
  pub place : n.place ≡ w.place
  pub byte : put_at n x ≡ put_at w x

-- what has the property P goes on with the property Q, and nothing else has that
pub record GoOn (x : ℕ) (P Q : Op → Type 0) : Type 0 where
  pub on : (w : Op) → P w → (n : Op) × Q n × IsToldAs x w n
  pub back : (n : Op) → Q n → (w : Op) × P w × IsToldAs x w n

pub told_self : (x : ℕ) (w : Op) → IsToldAs x w w
told_self x w = record { same = (refl, refl); place = refl; byte = refl }

pub writer_same : (x : ℕ) (w n : Op) → IsToldAs x w n → writer_of n ≡ writer_of w
writer_same x w n t = rw (t.place, t.same.0, t.same.1) refl

-- the latest goes on as the latest, and is told alike
record Moved (x : ℕ) (Q : Op → Type 0) (m : Option Op) : Type 0 where
  store : Option Op
  latest : IsLatestIfAny Q store
  writer : writer_from store ≡ writer_from m
  byte : (initial : ℕ → ℕ) → byte_from initial store x ≡ byte_from initial m x

latest_on : (x : ℕ) (P Q : Op → Type 0) (g : GoOn x P Q) (m : Op) (here : P m)
    → ((u : Op) → P u → precedes m u ≡ false) → (u : Op) → Q u → precedes (g.on m here).0 u ≡ false
latest_on x P Q g m here latest u q =
    let n = g.on m here in
    let w = g.back u q in
    let y : precedes m w.0 ≡ false = latest w.0 w.1 in
    rw (rank_same n.0 m n.2.same n.2.place, rank_same u w.0 w.2.same w.2.place) y

moved : (x : ℕ) (P Q : Op → Type 0) → GoOn x P Q → (m : Option Op) → IsLatestIfAny P m → Moved x Q m
moved x P Q g None h = record {
  store = None;
  latest = λ v q. (let w = g.back v q in h w.0 w.1);
  writer = refl;
  byte = λ initial. refl;
}
moved x P Q g (Some m) h = record {
  store = Some (g.on m h.here).0;
  latest = record { here = (g.on m h.here).1; latest = latest_on x P Q g m h.here h.latest };
  writer = writer_same x m (g.on m h.here).0 (g.on m h.here).2;
  byte = λ initial. (g.on m h.here).2.byte;
}

pub foreign_on : (x h : ℕ) (P Q : Op → Type 0) → GoOn x P Q → GoOn x (IsForeignOf P h) (IsForeignOf Q h)
foreign_on x h P Q g = record {
  on = λ w p. (let n = g.on w p.0 in (n.0, (n.1, λ e. p.1 (sym n.2.same.0 ∙ e)), n.2));
  back = λ n q. (let w = g.back n q.0 in (w.0, (w.1, λ e. q.1 (w.2.same.0 ∙ e)), w.2));
}

pub tells_latest_on : (x : ℕ) (P Q : Op → Type 0) (writer : Option Writer) → GoOn x P Q → TellsLatest P writer
    → TellsLatest Q writer
tells_latest_on x P Q writer g h =
    let m = moved x P Q g h.store h.latest in
    record { store = m.store; latest = m.latest; told = h.told ∙ sym m.writer }

pub tells_byte_on : (initial : ℕ → ℕ) (x : ℕ) (P Q : Op → Type 0) (last : Option Writer) (value : ℕ) → GoOn x P Q
    → TellsByte initial P x last value → TellsByte initial Q x last value
tells_byte_on initial x P Q last value g h =
    let m = moved x P Q g h.store h.latest in
    record {
      store = m.store;
      latest = m.latest;
      told = h.told ∙ sym m.writer;
      byte = h.byte ∙ sym (m.byte initial);
    }

pub tells_stores_on : (x : ℕ) (P Q : Op → Type 0) (was : Option Written) → GoOn x P Q → TellsStores P x was
    → TellsStores Q x was
tells_stores_on x P Q None g h = λ v q. (let w = g.back v q in h w.0 w.1)
tells_stores_on x P Q (Some was) g h =
    let n = g.on h.store h.latest.here in
    record {
      store = n.0;
      latest = record { here = n.1; latest = latest_on x P Q g h.store h.latest.here h.latest.latest };
      told = writer_same x h.store n.0 n.2 ∙ h.told;
      byte = h.byte ∙ sym n.2.byte;
      foreign = subst (λ (hart : ℕ). TellsLatest (IsForeignOf Q hart) was.other) (sym n.2.same.0)
          (tells_latest_on x (IsForeignOf P h.store.name.hart) (IsForeignOf Q h.store.name.hart) was.other
          (foreign_on x h.store.name.hart P Q g) h.foreign);
    }

-- the hart of a writer is that of its store
pub writer_hart : (v : Op) (w : Writer) → writer_of v ≡ Some w → w.hart ≡ v.name.hart
writer_hart v w e = at v.place refl e
  where
    at : (p : Option Place) → v.place ≡ p
        → option_map (λ p. record { hart = v.name.hart; tag = v.name.tag; place = untimed p }) p ≡ Some w
        → w.hart ≡ v.name.hart
    at None q e = absurd (cc)
    at (Some p) q e =
        let same : record { hart = v.name.hart; tag = v.name.tag; place = untimed p } ≡ w = cc in
        sym (ap (λ (z : Writer). z.hart) same)

pub writer_place : (v : Op) (w : Writer) (p : Place) → v.place ≡ Some p → writer_of v ≡ Some w → w.place ≡ untimed p
writer_place v w p q e =
    let f : writer_of v ≡ Some (record { hart = v.name.hart; tag = v.name.tag; place = untimed p }) =
    ap (option_map (λ (z : Place). record { hart = v.name.hart; tag = v.name.tag; place = untimed z })) q in
    let whole : Some w ≡ Some (record { hart = v.name.hart; tag = v.name.tag; place = untimed p }) = sym e ∙ f in
    let same : w ≡ record { hart = v.name.hart; tag = v.name.tag; place = untimed p } = cc in
    ap (λ (z : Writer). z.place) same

-- what is kept of a byte tells of the latest store by another hart than a given one
pub foreign_of : (h : ℕ) (P : Op → Type 0) (x : ℕ) (was : Option Written) → TellsStores P x was
    → TellsLatest (IsForeignOf P h) (foreign_writer h was)
foreign_of h P x None t = record { store = None; latest = λ v q. t v q.0; told = refl }
foreign_of h P x (Some was) t = at (eqb was.last.hart h) refl
  where
    hart : was.last.hart ≡ t.store.name.hart
    hart = writer_hart t.store was.last t.told

    differs : was.last.hart ≡ h → eqb was.last.hart h ≡ false → ⊥
    differs d e = grind (arith, nat_tests, d, e)

    at : (b : Bool) → eqb was.last.hart h ≡ b → TellsLatest (IsForeignOf P h) (cond b was.other (Some was.last))
    at true e =
        subst (λ (k : ℕ). TellsLatest (IsForeignOf P k) was.other) (sym hart ∙ eqb-true was.last.hart h e) t.foreign
    at false e = record {
      store = Some t.store;
      latest = record { here = (t.latest.here, λ d. differs (hart ∙ d) e); latest = λ u q. t.latest.latest u q.0 };
      told = sym t.told;
    }
