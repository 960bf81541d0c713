-- Each byte that a made stream loads is that of its source.
use Rattle.std.proofs.Common.{ℕ, zero, suc, ◌≡◌, ◌+◌, ◌-◌, ◌*◌, ◌<◌, ◌≤◌, ◌==◌, ◌&&◌, nat_lt, nat_le, List}
use Rattle.std.proofs.Common.{Bool, true, false, cond, refl, ap, sym, subst, ◌∙◌, arith, Some, None, inl, inr, ◌⊎◌}
use Rattle.std.proofs.Common.{slice_index}
use Rattle.std.specs.List.{Contains}
use Rattle.std.specs.declared.option.Option.{Option}
use Rattle.std.specs.Option.{option_or, option_map}
use Rattle.std.specs.Prelude.{unwrap_or}
use Rattle.std.proofs.lemmas.Bool.{and_parts, and_from, and_right, both_ways, cases_order, eqb-true, ltb-true}
use Rattle.std.proofs.lemmas.Bool.{eq-eqb, lt-ltb, le-ltb}
use Rattle.elf_image.specs.Images.{initial_byte, image_byte, Span}
use Rattle.rvwmo_model.specs.declared.operations.Op.{Op}
use Rattle.rvwmo_model.specs.declared.traces.Trace.{Trace}
use Rattle.rvwmo_model.specs.Order.{precedes, has_byte, op_stores, op_loads, kind_stores, kind_loads, writes, reads}
use Rattle.rvwmo_model.specs.Order.{got_at}
use Rattle.rvwmo_model.specs.Order.{put_at}
use Rattle.rvwmo_model.specs.ProgramOrder.{is_older}
use Rattle.rvwmo_model.specs.Sources.{source, byte_from, IsWriter}
use Rattle.rvwmo_model.proofs.Latest.{source_is, source_is_none}
use Rattle.rvwmo_model.proofs.Membership.{nothing_in}
use Rattle.trace_model.proofs.Lists.{In}
use Rattle.trace_gen.specs.declared.rounds.Progress.{Progress}
use Rattle.trace_gen.specs.Program.{made_image, counter_addr, own_addr}
use Rattle.trace_gen.specs.Rounds.{tag_of, bytes_of_number}
use Rattle.gen_order_laws.proofs.Counting.{IsCounted}
use Rattle.gen_order_laws.proofs.Logs.{Perf, Access, counter, forward, written, add, again, insn_of_access, order_of}
use Rattle.gen_order_laws.proofs.Logs.{turn_of, turns_of, takes, asks, IsLog, order_bound}
use Rattle.gen_order_laws.proofs.MadeOps.{IsOp, IsMade, kind_of_access, addr_of_access, addr_of, len_of_access}
use Rattle.gen_order_laws.proofs.MadeOps.{stored_of}
use Rattle.gen_order_laws.proofs.MadeOps.{sooner, precedes_sooner, tags_turns}

-- ---- where nothing was stored

zero_byte : (k : ℕ) → slice_index (bytes_of_number 0) k ≡ 0
zero_byte zero = refl
zero_byte (suc zero) = refl
zero_byte (suc (suc zero)) = refl
zero_byte (suc (suc (suc zero))) = refl
zero_byte (suc (suc (suc (suc zero)))) = refl
zero_byte (suc (suc (suc (suc (suc zero))))) = refl
zero_byte (suc (suc (suc (suc (suc (suc zero)))))) = refl
zero_byte (suc (suc (suc (suc (suc (suc (suc zero))))))) = refl
zero_byte (suc (suc (suc (suc (suc (suc (suc (suc k)))))))) = refl

zero_or : (b : Bool)
    → ◌≡◌ {A = ℕ} (unwrap_or (option_or None (option_map (λ (r : Span). 0)
    (cond b (Some (record { base = counter_addr; size = 0x2000 })) None))) 0) 0
zero_or true = refl
zero_or false = refl

-- RAM is 0 at the start
ram_zero : (x : ℕ) → counter_addr ≤ x → initial_byte made_image x ≡ 0
unfolding image_byte
ram_zero x low =
    let past : nat_lt x 0x8000_001c ≡ false = le-ltb x 0x8000_001c (omega (arith, low)) in
    rw (and_right (nat_le 0x8000_0000 x) (nat_lt x 0x8000_001c) past)
    (zero_or (nat_le 0x8000_1000 x && nat_lt x 0x8000_3000))

-- ---- accesses that store

stores_two : (a : Access) → kind_stores (kind_of_access a) ≡ true → (a ≡ written) ⊎ (a ≡ add)
stores_two counter e = absurd (cc)
stores_two forward e = absurd (cc)
stores_two written e = inl refl
stores_two add e = inr refl
stores_two again e = absurd (cc)

module _ (log : List Perf) (harts n c rounds : ℕ) (progress : ℕ → Progress) (t : Trace)
    (is : IsLog log harts n progress) (counted : IsCounted log c) (made : IsMade log t)
    (whole : (h : ℕ) → h < harts → turns_of (progress h) ≡ 5 * rounds)
    (i : Op) (x : ℕ) (load_in : Contains t.ops i) (loads : reads x i ≡ true) where
  abbrev g : Perf
  g = (made.ops i load_in).0

  abbrev gin : In g log
  gin = (made.ops i load_in).1

  abbrev gi : IsOp g i
  gi = (made.ops i load_in).2

  does_load : op_loads i ≡ true
  does_load = (and_parts (op_loads i) (has_byte x i) loads).0

  here : has_byte x i ≡ true
  here = (and_parts (op_loads i) (has_byte x i) loads).1

  byte_got : got_at i x ≡ slice_index (bytes_of_number g.value) (x - addr_of g)
  byte_got =
      let b = gi.within x here in
      ap (λ (a : ℕ). slice_index i.got (x - a)) gi.addr ∙ gi.got (x - addr_of g) (omega (arith, b.0, b.1)) does_load

  -- a store to the byte
  byte_put : (f : Perf) (s : Op) → IsOp f s → writes x s ≡ true
      → put_at s x ≡ slice_index (bytes_of_number (stored_of f.access f.value)) (x - addr_of f)
  byte_put f s fs w =
      let p = and_parts (op_stores s) (has_byte x s) w in
      let b = fs.within x p.1 in
      ap (λ (a : ℕ). slice_index s.put (x - a)) fs.addr ∙ fs.put (x - addr_of f) (omega (arith, b.0, b.1)) p.0

  which : (f : Perf) (s : Op) → IsOp f s → writes x s ≡ true → (f.access ≡ written) ⊎ (f.access ≡ add)
  which f s fs w =
      stores_two f.access
      (sym (ap kind_stores fs.kind) ∙ (and_parts (op_stores s) (has_byte x s) w).0)

  -- an access that stores the byte does
  does_write : (f : Perf) (s : Op) → IsOp f s → kind_stores (kind_of_access f.access) ≡ true → addr_of f ≤ x
      → x < addr_of f + len_of_access f.access → writes x s ≡ true
  does_write f s fs stores low high =
      let e : addr_of f + (x - addr_of f) ≡ x = omega (arith, low) in
      and_from (op_stores s) (has_byte x s) (ap kind_stores fs.kind ∙ stores)
      (subst (λ (y : ℕ). has_byte y s ≡ true) e (fs.covers (x - addr_of f) (omega (arith, low, high))))

  -- a store that may be read is one of the operations
  writer_in : (s : Op) → IsWriter t i x s
      → Contains t.ops s × (writes x s ≡ true) × ((precedes s i ≡ true) ⊎ (is_older s i ≡ true))
  writer_in s (inl w) = w
  writer_in s (inr e) = absurd (nothing_in s (subst (λ (es : List Op). Contains es s) made.early e.0))

  -- ---- the counter

  module _ (ask : asks g.access ≡ true) (at' : addr_of g ≡ counter_addr) (size : len_of_access g.access ≡ 8) where
    x_low : counter_addr ≤ x
    x_low = let b = gi.within x here in omega (arith, b.0, at')

    x_high : x < counter_addr + 8
    x_high = let b = gi.within x here in omega (arith, b.1, at', size)

    -- it is an amoadd that came before
    was_add : (s : Op) (w : IsWriter t i x s) (f : Perf) → In f log → IsOp f s → f.access ≡ add
    was_add s w f j fs =
        let v = writer_in s w in
        elim (which f s fs v.1) [
          | inl e ↦
              let b = fs.within x (and_parts (op_stores s) (has_byte x s) v.1).1 in
              let own : addr_of f ≡ own_addr f.hart = ap (λ (a : Access). addr_of_access a f.hart) e in
              absurd (omega (arith, b.0, own, x_high))
          | inr e ↦ e
        ]

    was_sooner : (s : Op) (w : IsWriter t i x s) (f : Perf) → In f log → IsOp f s
        → f.place.message < g.place.message
    was_sooner s w f j fs =
        let v = writer_in s w in
        let adds = was_add s w f j fs in
        elim v.2 [
          | inl p ↦ precedes_sooner log harts n progress is f g s i j gin fs gi p
          | inr o ↦
              let q = and_parts (s.name.hart == i.name.hart) (nat_lt s.name.tag i.name.tag) o in
              let hart : f.hart ≡ g.hart = sym fs.hart ∙ eqb-true s.name.hart i.name.hart q.0 ∙ gi.hart in
              let lt = ltb-true s.name.tag i.name.tag q.1 in
              elim (tags_turns log harts n progress is f g s i j gin fs gi lt) [
                | inl turn ↦ is.rising f g j gin hart turn
                | inr pair ↦ absurd (let two : add ≡ written = sym adds ∙ pair.0 in cc)
              ]
        ]

    -- the amoadd that makes the counter what was read
    module _ (some : 0 < g.value) where
      abbrev last : (f : Perf) × In f log × (f.access ≡ add) × (f.value ≡ g.value - 1)
      last = counted.all (g.value - 1) (omega (arith, some, counted.most g gin ask))

      last_sooner : last.0.place.message < g.place.message
      last_sooner = elim (cases_order last.0.place.message g.place.message) [
        | inl e ↦
            let same : last.0.value ≡ g.value = ap (λ (f : Perf). f.value) (is.one last.0 g last.1 gin e) in
            absurd (omega (arith, same, last.3, some))
        | inr (inl lt) ↦ lt
        | inr (inr gt) ↦
            let most = counted.counted last.0 g last.1 gin last.2 ask gt in
            absurd (omega (arith, most, last.3, some))
      ]

      abbrev last_op : (o : Op) × Contains t.ops o × IsOp last.0 o
      last_op = made.there last.0 last.1

      last_writer : IsWriter t i x last_op.0
      last_writer =
          let where' : addr_of last.0 ≡ counter_addr = ap (λ (a : Access). addr_of_access a last.0.hart) last.2 in
          let len : len_of_access last.0.access ≡ 8 = ap len_of_access last.2 in
          inl (
            last_op.1,
            does_write last.0 last_op.0 last_op.2 (ap (λ (a : Access). kind_stores (kind_of_access a)) last.2)
                (omega (arith, where', x_low)) (omega (arith, where', len, x_high)),
            inl (sooner log harts n progress is last.0 g last_op.0 i last.1 gin last_op.2 gi last_sooner),
          )

    counter_right : got_at i x ≡ byte_from (initial_byte made_image) (source t i x) x
    counter_right = at (source t i x) refl
      where
        none_value : source t i x ≡ None → g.value ≡ 0
        none_value e = elim (cases_order 0 g.value) [
          | inl q ↦ sym q
          | inr (inl some) ↦ absurd (source_is_none t i x e (last_op some).0 (last_writer some))
          | inr (inr below) ↦ absurd (omega (arith, below))
        ]

        some_value : (s : Op) → source t i x ≡ Some s → put_at s x ≡ got_at i x
        some_value s e =
            let w = source_is t i x s e in
            let v = writer_in s w.0 in
            let fs = made.ops s v.0 in
            let f = fs.0 in
            let adds = was_add s w.0 f fs.1 fs.2 in
            let before = was_sooner s w.0 f fs.1 fs.2 in
            let less = counted.counts f g fs.1 gin adds ask before in
            let some : 0 < g.value = omega (arith, less) in
            let k = last some in
            let value : f.value + 1 ≡ g.value =
            elim (cases_order (f.value + 1) g.value) [
              | inl q ↦ q
              | inr (inl short) ↦
                  let later : f.place.message < k.0.place.message =
                  elim (cases_order f.place.message k.0.place.message) [
                    | inl q ↦
                        let same : f.value ≡ k.0.value = ap (λ (y : Perf). y.value) (is.one f k.0 fs.1 k.1 q) in
                        absurd (omega (arith, same, k.3, short))
                    | inr (inl lt) ↦ lt
                    | inr (inr gt) ↦
                        let down = counted.counts k.0 f k.1 fs.1 k.2 (ap asks adds) gt in
                        absurd (omega (arith, down, k.3, short))
                  ] in
                  let after = sooner log harts n progress is f k.0 s (last_op some).0 fs.1 k.1 fs.2
                  (last_op some).2 later in
                  absurd (both_ways (precedes s (last_op some).0) (w.1 (last_op some).0 (last_writer some)) after)
              | inr (inr long) ↦ absurd (omega (arith, long, less))
            ] in
            let where' : addr_of f ≡ addr_of g = ap (λ (a : Access). addr_of_access a f.hart) adds ∙ sym at' in
            byte_put f s fs.2 v.1
            ∙ ap (λ (a : Access). slice_index (bytes_of_number (stored_of a f.value)) (x - addr_of f)) adds
            ∙ ap (λ (y : ℕ). slice_index (bytes_of_number y) (x - addr_of f)) value
            ∙ ap (λ (a : ℕ). slice_index (bytes_of_number g.value) (x - a)) where'
            ∙ sym byte_got

        at : (o : Option Op) → source t i x ≡ o → got_at i x ≡ byte_from (initial_byte made_image) o x
        at None e =
            byte_got ∙ ap (λ (y : ℕ). slice_index (bytes_of_number y) (x - addr_of g)) (none_value e)
            ∙ zero_byte (x - addr_of g) ∙ sym (ram_zero x x_low)
        at (Some s) e = sym (some_value s e)

  -- ---- the hart's own number

  module _ (takes_it : takes g.access ≡ true) (at' : addr_of g ≡ own_addr g.hart) (size : len_of_access g.access ≤ 8)
      (later : 2 ≤ insn_of_access g.access) (last : insn_of_access g.access ≤ 5) where
    own_low : own_addr g.hart ≤ x
    own_low = let b = gi.within x here in omega (arith, b.0, at')

    own_high : x < own_addr g.hart + 8
    own_high = let b = gi.within x here in omega (arith, b.1, at', size)

    -- the store of the round
    abbrev own : (f : Perf) × In f log × (f.hart ≡ g.hart) × (f.round ≡ g.round) × (f.access ≡ written)
    own =
        let done = is.done g gin in
        is.there g.hart g.round written (is.hart g gin) (omega (arith, done, whole g.hart (is.hart g gin)))

    abbrev own_op : (o : Op) × Contains t.ops o × IsOp own.0 o
    own_op = made.there own.0 own.1

    own_older : is_older own_op.0 i ≡ true
    own_older =
        let tag : own_op.0.name.tag ≡ tag_of own.0.round 1 =
        own_op.2.tag ∙ ap (λ (a : Access). tag_of own.0.round (insn_of_access a)) own.4 in
        and_from (own_op.0.name.hart == i.name.hart) (nat_lt own_op.0.name.tag i.name.tag)
        (eq-eqb own_op.0.name.hart i.name.hart (own_op.2.hart ∙ own.2 ∙ sym gi.hart))
        (lt-ltb own_op.0.name.tag i.name.tag (omega (arith, tag, gi.tag, own.3, later)))

    own_writer : IsWriter t i x own_op.0
    own_writer =
        let where' : addr_of own.0 ≡ own_addr own.0.hart = ap (λ (a : Access). addr_of_access a own.0.hart) own.4 in
        let len : len_of_access own.0.access ≡ 8 = ap len_of_access own.4 in
        inl (
          own_op.1,
          does_write own.0 own_op.0 own_op.2 (ap (λ (a : Access). kind_stores (kind_of_access a)) own.4)
              (omega (arith, where', own.2, own_low)) (omega (arith, where', len, own.2, own_high)),
          inr own_older,
        )

    own_right : got_at i x ≡ byte_from (initial_byte made_image) (source t i x) x
    own_right = at (source t i x) refl
      where
        some_value : (s : Op) → source t i x ≡ Some s → put_at s x ≡ got_at i x
        some_value s e =
            let w = source_is t i x s e in
            let v = writer_in s w.0 in
            let fs = made.ops s v.0 in
            let f = fs.0 in
            let b = fs.2.within x (and_parts (op_stores s) (has_byte x s) v.1).1 in
            let writes' : f.access ≡ written =
            elim (which f s fs.2 v.1) [
              | inl q ↦ q
              | inr q ↦
                  let where' : addr_of f ≡ counter_addr = ap (λ (a : Access). addr_of_access a f.hart) q in
                  let len : len_of_access f.access ≡ 8 = ap len_of_access q in
                  absurd (omega (arith, b.1, where', len, own_low))
            ] in
            let where' : addr_of f ≡ own_addr f.hart = ap (λ (a : Access). addr_of_access a f.hart) writes' in
            let len : len_of_access f.access ≡ 8 = ap len_of_access writes' in
            let hart : f.hart ≡ g.hart = omega (arith, b.0, b.1, where', len, own_low, own_high) in
            let turn : turn_of f ≡ 5 * f.round + 2 = ap (λ (a : Access). 5 * f.round + order_of a) writes' in
            let turn2 : turn_of own.0 ≡ 5 * own.0.round + 2 = ap (λ (a : Access). 5 * own.0.round + order_of a) own.4 in
            let tag : s.name.tag ≡ tag_of f.round 1 =
            fs.2.tag ∙ ap (λ (a : Access). tag_of f.round (insn_of_access a)) writes' in
            let round : f.round ≡ g.round =
            elim (cases_order f.round g.round) [
              | inl q ↦ q
              | inr (inl less) ↦
                  let up = is.rising f own.0 fs.1 own.1 (hart ∙ sym own.2) (omega (arith, turn, turn2, own.3, less)) in
                  let after = sooner log harts n progress is f own.0 s own_op.0 fs.1 own.1 fs.2 own_op.2 up in
                  absurd (both_ways (precedes s own_op.0) (w.1 own_op.0 own_writer) after)
              | inr (inr more) ↦ elim v.2 [
                | inl p ↦
                    let down = precedes_sooner log harts n progress is f g s i fs.1 gin fs.2 gi p in
                    let bound = order_bound g.access in
                    let up = is.rising g f gin fs.1 (sym hart) (omega (arith, turn, bound, more)) in
                    absurd (omega (arith, down, up))
                | inr o ↦
                    let q = and_parts (s.name.hart == i.name.hart) (nat_lt s.name.tag i.name.tag) o in
                    let lt = ltb-true s.name.tag i.name.tag q.1 in
                    absurd (omega (arith, lt, tag, gi.tag, last, more))
              ]
            ] in
            let value : f.value ≡ g.value = is.alike f g fs.1 gin hart round (ap takes writes') takes_it in
            byte_put f s fs.2 v.1
            ∙ ap (λ (a : Access). slice_index (bytes_of_number (stored_of a f.value)) (x - addr_of f)) writes'
            ∙ ap (λ (y : ℕ). slice_index (bytes_of_number y) (x - addr_of f)) value
            ∙ ap (λ (a : ℕ). slice_index (bytes_of_number g.value) (x - a)) (where' ∙ ap own_addr hart ∙ sym at')
            ∙ sym byte_got

        at : (o : Option Op) → source t i x ≡ o → got_at i x ≡ byte_from (initial_byte made_image) o x
        at None e = absurd (source_is_none t i x e own_op.0 own_writer)
        at (Some s) e = sym (some_value s e)

  -- by what the load is
  right_by : (a : Access) → g.access ≡ a → got_at i x ≡ byte_from (initial_byte made_image) (source t i x) x
  right_by counter e =
      counter_right (ap asks e) (ap (λ (a : Access). addr_of_access a g.hart) e) (ap len_of_access e)
  right_by add e = counter_right (ap asks e) (ap (λ (a : Access). addr_of_access a g.hart) e) (ap len_of_access e)
  right_by forward e =
      let len : len_of_access g.access ≡ 4 = ap len_of_access e in
      let insn : insn_of_access g.access ≡ 2 = ap insn_of_access e in
      own_right (ap takes e) (ap (λ (a : Access). addr_of_access a g.hart) e) (omega (arith, len)) (omega (arith, insn))
      (omega (arith, insn))
  right_by again e =
      let len : len_of_access g.access ≡ 8 = ap len_of_access e in
      let insn : insn_of_access g.access ≡ 5 = ap insn_of_access e in
      own_right (ap takes e) (ap (λ (a : Access). addr_of_access a g.hart) e) (omega (arith, len)) (omega (arith, insn))
      (omega (arith, insn))
  right_by written e =
      let stores : op_loads i ≡ false = ap kind_loads gi.kind ∙ ap (λ (a : Access). kind_loads (kind_of_access a)) e in
      absurd (both_ways (op_loads i) stores does_load)

  pub value_right : got_at i x ≡ byte_from (initial_byte made_image) (source t i x) x
  value_right = right_by g.access refl
