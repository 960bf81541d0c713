-- What the operations of made streams are: each is an access of the log.
use Rattle.std.proofs.Common.{ℕ, ◌≡◌, ◌+◌, ◌*◌, ◌<◌, ◌≤◌, ◌==◌, ◌&&◌, nat_lt, List, [], Bool, true, false, refl}
use Rattle.std.proofs.Common.{sym, subst, ◌∙◌, arith, Some, inl, inr, ◌⊎◌, slice_index, pos}
use Rattle.std.specs.List.{Contains}
use Rattle.std.proofs.lemmas.Bool.{lt-ltb, ltb-true, le-ltb, eqb-true, or_cases, or_left, or_from, and_parts}
use Rattle.std.proofs.lemmas.Bool.{cases_order, both_ways}
use Rattle.tandem_base.specs.declared.names.Place.{Place}
use Rattle.tandem_base.specs.Places.{earlier}
use Rattle.rv_decode.specs.declared.instruction.Insn.TheVariants.{Store}
use Rattle.rv_decode.specs.declared.operations.StoreOp.TheVariants.{Sd}
use Rattle.rvwmo_model.specs.declared.instructions.Retired.{Retired}
use Rattle.rvwmo_model.specs.declared.operations.Op.{Op}
use Rattle.rvwmo_model.specs.declared.operations.OpKind.{OpKind}
use Rattle.rvwmo_model.specs.declared.operations.OpKind.TheVariants as kind
use Rattle.rvwmo_model.specs.declared.operations.Ann.TheVariants as ann
use Rattle.rvwmo_model.specs.declared.traces.Trace.{Trace}
use Rattle.rvwmo_model.specs.Order.{precedes, stands_before, has_byte, op_stores, op_loads}
use Rattle.trace_model.proofs.Lists.{In}
use Rattle.trace_gen.specs.Program.{counter_addr, own_addr}
use Rattle.trace_gen.specs.Rounds.{tag_of, bytes_of_number}
use Rattle.trace_gen.specs.declared.rounds.Progress.{Progress}
use Rattle.gen_order_laws.proofs.Logs.{Perf, Access, counter, forward, written, add, again, insn_of_access, order_of}
use Rattle.gen_order_laws.proofs.Logs.{turn_of}
use Rattle.gen_order_laws.proofs.Logs.{IsLog}

-- the kind of the operation of an access
abbrev pub kind_of_access : Access → OpKind
kind_of_access counter = kind.Load
kind_of_access forward = kind.Load
kind_of_access written = kind.Store
kind_of_access add = kind.Both
kind_of_access again = kind.Load

-- where its bytes are
abbrev pub addr_of_access : Access → ℕ → ℕ
addr_of_access counter h = counter_addr
addr_of_access forward h = own_addr h
addr_of_access written h = own_addr h
addr_of_access add h = counter_addr
addr_of_access again h = own_addr h

-- how many
abbrev pub len_of_access : Access → ℕ
len_of_access counter = 8
len_of_access forward = 4
len_of_access written = 8
len_of_access add = 8
len_of_access again = 8

-- the number that it stores
abbrev pub stored_of : Access → ℕ → ℕ
stored_of counter v = v
stored_of forward v = v
stored_of written v = v
stored_of add v = v + 1
stored_of again v = v

-- the address of an access of the log
abbrev pub addr_of : Perf → ℕ
addr_of f = addr_of_access f.access f.hart

-- o is the operation of an access
pub record IsOp (f : Perf) (o : Op) : Type 0 where
  pub hart : o.name.hart ≡ f.hart
  pub tag : o.name.tag ≡ tag_of f.round (insn_of_access f.access)
  pub kind : o.kind ≡ kind_of_access f.access
  pub acquire : o.acquire ≡ ann.None
  pub release : o.release ≡ ann.None
  pub place : o.place ≡ Some f.place
  pub addr : o.extent.addr ≡ addr_of f
  pub within : (x : ℕ) → has_byte x o ≡ true → (addr_of f ≤ x) × (x < addr_of f + len_of_access f.access)
  pub covers : (k : ℕ) → k < len_of_access f.access → has_byte (addr_of f + k) o ≡ true
  pub got : (k : ℕ) → k < len_of_access f.access → op_loads o ≡ true
      → slice_index o.got k ≡ slice_index (bytes_of_number f.value) k
  pub put : (k : ℕ) → k < len_of_access f.access → op_stores o ≡ true
      → slice_index o.put k ≡ slice_index (bytes_of_number (stored_of f.access f.value)) k

-- the store of a round is one, and no SC is
pub record IsMadeInsn (w : Retired) : Type 0 where
  pub stored : w.stored ≡ false
  pub store : (j : ℕ) → w.tag ≡ tag_of j 1 → w.insn ≡ Store Sd 11 5 (pos 0)

-- the operations of a trace are those of a log, where all is performed
pub record IsMade (log : List Perf) (t : Trace) : Type 0 where
  pub early : t.early ≡ []
  pub ops : (o : Op) → Contains t.ops o → (f : Perf) × In f log × IsOp f o
  pub there : (f : Perf) → In f log → (o : Op) × Contains t.ops o × IsOp f o
  pub insns : (w : Retired) → In w t.insns → IsMadeInsn w

-- ---- the global order is that of messages

first_earlier : (a b : Place) → a.time + 1 ≡ a.message → b.time + 1 ≡ b.message → a.message < b.message
    → earlier a b ≡ true
first_earlier a b p q lt = or_left (nat_lt a.time b.time) _ (lt-ltb a.time b.time (omega (arith, p, q, lt)))

earlier_first : (a b : Place) → a.time + 1 ≡ a.message → b.time + 1 ≡ b.message → earlier a b ≡ true
    → a.message ≤ b.message
earlier_first a b p q e = elim (or_cases (nat_lt a.time b.time) _ e) [
  | inl lt ↦ let l = ltb-true a.time b.time lt in omega (arith, p, q, l)
  | inr same ↦ let s = eqb-true a.time b.time (and_parts (a.time == b.time) _ same).0 in omega (arith, p, q, s)
]

not_self : (a : Place) → earlier a a ≡ false
not_self a =
    let time : nat_lt a.time a.time ≡ false = le-ltb a.time a.time (omega arith) in
    let message : nat_lt a.message a.message ≡ false = le-ltb a.message a.message (omega arith) in
    let insert : nat_lt a.insert a.insert ≡ false = le-ltb a.insert a.insert (omega arith) in
    or_from (nat_lt a.time a.time) _ time
    (and_false (a.time == a.time) _ (or_from (nat_lt a.message a.message) _ message
    (and_false (a.message == a.message) (nat_lt a.insert a.insert) insert)))
  where
    and_false : (x y : Bool) → y ≡ false → (x && y) ≡ false
    and_false true y e = e
    and_false false y e = refl

by_place : (a b : Op) (p q : Place) → a.place ≡ Some p → b.place ≡ Some q → precedes a b ≡ earlier p q
unfolding stands_before
by_place a b p q e f = rw (e, f) refl

module _ (log : List Perf) (harts n : ℕ) (progress : ℕ
    → Progress) (is : IsLog log harts n progress) (f g : Perf) (a b : Op)
    (i : In f log) (j : In g log) (fa : IsOp f a) (gb : IsOp g b) where
  -- what was performed by an earlier message precedes
  pub sooner : f.place.message < g.place.message → precedes a b ≡ true
  sooner lt =
      by_place a b f.place g.place fa.place gb.place
      ∙ first_earlier f.place g.place (is.timed f i) (is.timed g j) lt

  -- and what precedes was
  pub precedes_sooner : precedes a b ≡ true → f.place.message < g.place.message
  precedes_sooner e =
      let p : earlier f.place g.place ≡ true = sym (by_place a b f.place g.place fa.place gb.place) ∙ e in
      let le = earlier_first f.place g.place (is.timed f i) (is.timed g j) p in
      elim (cases_order f.place.message g.place.message) [
        | inl same ↦
            let one : f ≡ g = is.one f g i j same in
            let q : earlier g.place g.place ≡ true =
            subst (λ (x : Perf). earlier x.place g.place ≡ true) one p in
            absurd (both_ways (earlier g.place g.place) (not_self g.place) q)
        | inr (inl lt) ↦ lt
        | inr (inr gt) ↦ absurd (omega (arith, le, gt))
      ]

  -- the first in program order is the first performed, but the store and the load that it is forwarded to
  pub tags_turns : a.name.tag < b.name.tag → (turn_of f < turn_of g)
      ⊎ ((f.access ≡ written) × (g.access ≡ forward) × (f.round ≡ g.round))
  tags_turns lt =
      by_access f.access g.access f.round g.round
      (omega (arith, lt, fa.tag, gb.tag))
    where
      by_access : (x y : Access) (p q : ℕ) → 7 * p + insn_of_access x < 7 * q + insn_of_access y
          → (5 * p + order_of x < 5 * q + order_of y) ⊎ ((x ≡ written) × (y ≡ forward) × (p ≡ q))
      by_access counter counter p q l = inl (omega (arith, l))
      by_access counter forward p q l = inl (omega (arith, l))
      by_access counter written p q l = inl (omega (arith, l))
      by_access counter add p q l = inl (omega (arith, l))
      by_access counter again p q l = inl (omega (arith, l))
      by_access forward counter p q l = inl (omega (arith, l))
      by_access forward forward p q l = inl (omega (arith, l))
      by_access forward written p q l = inl (omega (arith, l))
      by_access forward add p q l = inl (omega (arith, l))
      by_access forward again p q l = inl (omega (arith, l))
      by_access written counter p q l = inl (omega (arith, l))
      by_access written forward p q l = elim (cases_order p q) [
        | inl e ↦ inr (refl, refl, e)
        | inr (inl less) ↦ inl (omega (arith, less))
        | inr (inr more) ↦ absurd (omega (arith, l, more))
      ]
      by_access written written p q l = inl (omega (arith, l))
      by_access written add p q l = inl (omega (arith, l))
      by_access written again p q l = inl (omega (arith, l))
      by_access add counter p q l = inl (omega (arith, l))
      by_access add forward p q l = inl (omega (arith, l))
      by_access add written p q l = inl (omega (arith, l))
      by_access add add p q l = inl (omega (arith, l))
      by_access add again p q l = inl (omega (arith, l))
      by_access again counter p q l = inl (omega (arith, l))
      by_access again forward p q l = inl (omega (arith, l))
      by_access again written p q l = inl (omega (arith, l))
      by_access again add p q l = inl (omega (arith, l))
      by_access again again p q l = inl (omega (arith, l))
