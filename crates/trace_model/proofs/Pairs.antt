-- The LR that an SC is paired with is the latest LR or SC of its hart.
use Rattle.std.proofs.Common.{ℕ, ◌+◌, ◌-◌, ◌<◌, ◌≤◌, ◌≡◌, inl, inr, Bool, true, false, eqb, cond}
use Rattle.std.proofs.Common.{List, [], ◌∷◌, Option, Some}
use Rattle.std.proofs.Common.{refl, sym, ap, subst, ◌∙◌, arith}
use Rattle.std.specs.List.{cons_option}
use Rattle.std.proofs.lemmas.Bool.{both_ways, eqb-true, eq-eqb}
use Rattle.tandem_base.specs.declared.extent.Extent.{Extent}
use Rattle.tandem_base.specs.declared.names.Place.{Place}
use Rattle.msg_frames.specs.declared.message.Head.{Head}
use Rattle.msg_frames.specs.declared.message.Body.{Body}
use Rattle.msg_frames.specs.declared.message.Body.TheVariants as body
use Rattle.msg_frames.specs.declared.message.Message.{Message}
use Rattle.elf_image.specs.Images.{Loaded}
use Rattle.rv_decode.specs.declared.instruction.Insn.{Insn}
use Rattle.rv_step.specs.Steps.{Doing, trap, plain, counter, load, store, lr, sc, amo}
use Rattle.rvwmo_model.specs.declared.operations.Op.{Op}
use Rattle.rvwmo_model.specs.Order.{has_byte}
use Rattle.rv_decode.specs.Kinds.{is_lr}
use Rattle.matching.specs.declared.reports.OpenReport.{OpenReport}
use Rattle.matching.specs.declared.run.Pair.{Pair}
use Rattle.matching.specs.Reports.{live, early, early_of, counting, place_counted}
use Rattle.matching.specs.Runs.{run_in, run_of, run_poked, run_retired, doing_at, pair_after}
use Rattle.trace_model.specs.Extents.{extent_of}
use Rattle.trace_model.specs.Groups.{Access, same_place, part_at}
use Rattle.trace_model.specs.Entries.{Fixed, Entry}
use Rattle.trace_model.specs.Retirements.{load_access, read_places, load_ops, entry, entry_of}
use Rattle.trace_model.specs.Traces.{entry_in, entries, stored_at}
use Rattle.trace_model.proofs.Lists.{In}
use Rattle.trace_model.proofs.Extents.{extent_is}
use Rattle.trace_model.proofs.Groups.{same_self, covers_from}
use Rattle.trace_model.proofs.Retires.{one_place}
use Rattle.trace_model.proofs.Keys.{with_cases, with_more, new_key}
use Rattle.trace_model.proofs.Instructions.{reserves, plain_quiet, counter_quiet, load_kind, lr_kind, store_kind}
use Rattle.trace_model.proofs.Instructions.{amo_kind}
use Rattle.trace_model.proofs.Suits.{IsOneRead, SuitsDoing, SuitsBody, Suited}
use Rattle.trace_model.proofs.Tags.{all_below_entry}

-- the latest LR or SC of hart h is an LR, with one operation, which has the bytes of the pair
pub record HasLr (es : List Entry) (h : ℕ) (p : Pair) : Type 0 where
  pub entry : Entry
  pub there : In entry es
  pub hart : entry.insn.hart ≡ h
  pub lr : is_lr entry.insn.insn ≡ true
  pub op : Op
  pub memory : entry.memory ≡ Fixed (op ∷ [])
  pub whole : (x : ℕ) → p.addr ≤ x → x < p.addr + p.len → has_byte x op ≡ true
  pub last : (f : Entry) → In f es → f.insn.hart ≡ h → entry.insn.tag < f.insn.tag → reserves f.insn.insn ≡ false

-- one more entry that reserves nothing
has_more : (es : List Entry) (o : Option Entry) (h : ℕ) (p : Pair)
    → ((e : Entry) → o ≡ Some e → e.insn.hart ≡ h → reserves e.insn.insn ≡ false) → HasLr es h p
    → HasLr (cons_option o es) h p
has_more es o h p quiet k = record {
  entry = k.entry;
  there = with_more o es k.entry k.there;
  hart = k.hart;
  lr = k.lr;
  op = k.op;
  memory = k.memory;
  whole = k.whole;
  last = λ f i e l. elim (with_cases o es f i) [ inl j ↦ k.last f j e l | inr q ↦ quiet f q e ];
}

-- ---- an LR that retires

-- the operation of an LR: its only one, with all bytes
pub record IsLrOp (ops : List Op) (addr len : ℕ) (o : Op) : Type 0 where
  pub one : ops ≡ o ∷ []
  pub whole : (x : ℕ) → addr ≤ x → x < addr + len → has_byte x o ≡ true

module _ (live : List OpenReport) (head : Head) (insn : Insn) (addr len : ℕ) (extent : Extent) (a : extent.addr ≡ addr)
    (b : extent.len ≡ len) (one : IsOneRead live head.tag addr len) where
  abbrev access : Access
  access = load_access live head insn extent

  abbrev places : ℕ → Option Place
  places = read_places live head.tag extent

  pub one_read : (k : ℕ) → k < extent.len → places k ≡ places 0
  one_read k l = ap place_counted (ap (λ z. counting live head.tag (z + k)) a ∙ one k (subst (λ (z : ℕ). k < z) b l)
      ∙ ap (λ z. counting live head.tag (z + 0)) (sym a))

  pub lr_op : IsLrOp (load_ops live head insn extent) addr len (part_at access places (places 0))
  lr_op = record {
    one = one_place access places (places 0) extent.len one_read extent.sized.0;
    whole = λ x l m.
        let i : x - extent.addr < extent.len = omega (arith, l, m, a, b) in
        covers_from access (λ k. same_place (places k) (places 0)) (places 0) x (
          omega (arith, l, a),
          omega (arith, m, a, b),
        ) (rw (one_read (x - extent.addr) i) (same_self (places 0)));
  }

module _ (es : List Entry) (live early : List OpenReport) (pair : Option Pair) (head : Head) (put : List ℕ)
    (younger : (e : Entry) → In e es → e.insn.hart ≡ head.hart → e.insn.tag < head.tag)
    (old : (p : Pair) → pair ≡ Some p → HasLr es head.hart p) where
  -- an instruction that reserves nothing leaves the pair
  quiet : (d : Doing) → ((e : Entry) → entry_of live early head put d ≡ Some e → reserves e.insn.insn ≡ false)
      → (p : Pair) → pair ≡ Some p → HasLr (cons_option (entry_of live early head put d) es) head.hart p
  quiet d apart p e = has_more es (entry_of live early head put d) head.hart p (λ f q h. apart f q) (old p e)

  -- its entry is of that instruction
  of_insn : (i : Insn) (f e : Entry) → Some f ≡ Some e → f.insn.insn ≡ i → reserves i ≡ false → reserves e.insn.insn
      ≡ false
  of_insn i f e q same apart = ap reserves (sym (ap (λ (z : Entry). z.insn.insn) (let c : f ≡ e = cc in c)) ∙ same)
      ∙ apart

  paired : (d : Doing) → SuitsDoing live early pair head put d → (p : Pair) → pair_after d pair ≡ Some p
      → HasLr (cons_option (entry_of live early head put d) es) head.hart p
  paired (trap cause value) s p e = old p e
  paired (plain insn) s p e = quiet (plain insn) (λ f q. of_insn insn _ f q refl (plain_quiet insn s.1).apart) p e
  paired (counter insn) s p e = quiet (counter insn) (λ f q. of_insn insn _ f q refl (counter_quiet insn s.1).apart) p e
  paired (load insn addr len) s p e = quiet (load insn addr len)
      (λ f q. of_insn insn _ f q refl (load_kind insn s.1).apart) p e
  paired (store insn addr len) s p e = quiet (store insn addr len)
      (λ f q. of_insn insn _ f q refl (store_kind insn s.1).apart) p e
  paired (amo insn addr len) s p e = quiet (amo insn addr len)
      (λ f q. of_insn insn _ f q refl (amo_kind insn s.1).apart) p e
  paired (sc insn addr len) s p e = absurd (cc)
  paired (lr insn addr len) s p e =
      let x = extent_is addr len s.0.sized in
      let o = lr_op live head insn addr len (extent_of addr len) x.addr_is x.len_is s.0.one in
      let same : record { addr = addr; len = len } ≡ p = cc in
      subst (λ (q : Pair). HasLr (entry head insn false (Fixed (load_ops live head insn (extent_of addr len))) ∷ es)
      head.hart q) same (record {
        entry = entry head insn false (Fixed (load_ops live head insn (extent_of addr len)));
        there = inl refl;
        hart = refl;
        lr = (lr_kind insn s.1).lr;
        op = part_at (load_access live head insn (extent_of addr len)) (read_places live head.tag (extent_of addr len))
            (read_places live head.tag (extent_of addr len) 0);
        memory = ap Fixed o.one;
        whole = o.whole;
        last = λ f i h l. elim i [
          | inl q ↦ let t = ap (λ (z : Entry). z.insn.tag) q in absurd (omega (arith, l, t))
          | inr j ↦ let t = younger f j h in absurd (omega (arith, l, t))
        ];
      })

-- ---- the list

module _ (image : Loaded) (before : List Message) (suited : Suited image before) (head : Head) (h : ℕ) (p : Pair)
    (rec : (g : ℕ) (q : Pair) → (run_of image before g).pair ≡ Some q → HasLr (entries image before) g q) where
  abbrev Now : Body → Type 0
  Now b = HasLr (cons_option (entry_in image before head b) (entries image before)) h p

  -- a message of another hart, or of another kind
  still : (b : Body) → (head.hart ≡ h → ⊥) → (run_of image before h).pair ≡ Some p → Now b
  still b ne f =
      has_more (entries image before) (entry_in image before head b) h p
      (λ g q k. absurd (ne (sym (new_key image before head b g q).0 ∙ k))) (rec h p f)

  pair_now : (b : Body) → SuitsBody image before head b → (run_in image before (run_of image before h) head b h).pair
      ≡ Some p → Now b
  pair_now (body.Retire retire) t f = on (eqb head.hart h) refl f
    where
      on : (c : Bool) → eqb head.hart h ≡ c → (cond c (run_retired (run_of image before h) (live before h)
          (early_of (early before) head.hart head.tag) head.tag retire (doing_at image before h))
          (run_of image before h)).pair ≡ Some p → Now (body.Retire retire)
      on true q f =
          let same = eqb-true head.hart h q in
          subst (λ (z : ℕ). HasLr (cons_option (entry_in image before head (body.Retire retire)) (entries image before))
          z p) same
          (paired (entries image before) (live before head.hart) (early before) (run_of image before head.hart).pair
          head (stored_at image before head retire)
          (all_below_entry image before suited head.hart head.tag t.younger) (rec head.hart)
          (doing_at image before head.hart) t.doing p
          (subst (λ (z : ℕ). pair_after (doing_at image before z) (run_of image before z).pair ≡ Some p) (sym same) f))
      on false q f = still (body.Retire retire) (λ k. both_ways _ q (eq-eqb head.hart h k)) f
  pair_now (body.Poke poke) t f = on (eqb head.hart h) f
    where
      on : (c : Bool) → (cond c (run_poked (run_of image before h) poke) (run_of image before h)).pair ≡ Some p
          → Now (body.Poke poke)
      on true f = rec h p f
      on false f = rec h p f
  pair_now (body.Open info) t f = rec h p f
  pair_now (body.Read piece) t f = rec h p f
  pair_now (body.Insert piece) t f = rec h p f
  pair_now (body.Write write) t f = rec h p f
  pair_now (body.Bypass piece) t f = rec h p f
  pair_now body.Squash t f = rec h p f
  pair_now body.End t f = rec h p f

pub pair_is : (image : Loaded) (before : List Message) → Suited image before → (h : ℕ) (p : Pair)
    → (run_of image before h).pair ≡ Some p → HasLr (entries image before) h p
pair_is image [] s h p e = absurd (cc)
pair_is image (m ∷ before) s h p e = pair_now image before s.0 m.head h p (λ g q f. pair_is image before s.0 g q f)
    m.body s.2 e
