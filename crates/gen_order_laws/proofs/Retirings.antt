-- The entry that the Retire of an instruction of the program adds.
use Rattle.std.proofs.Common.{ℕ, ◌≡◌, ◌+◌, ◌%◌, ◌^◌, ◌<◌, ◌≤◌, List, [], ◌∷◌, length, take, true, false}
use Rattle.std.proofs.Common.{refl, ap, sym, subst, ◌∙◌, arith, Some, None, inl, inr, slice_index, pos}
use Rattle.std.specs.declared.option.Option.{Option}
use Rattle.std.proofs.lemmas.Bool.{both_ways, le-leb}
use Rattle.tandem_base.specs.declared.extent.Extent.{Extent}
use Rattle.msg_frames.specs.declared.message.Head.{Head}
use Rattle.msg_frames.specs.declared.message.Piece.{Piece}
use Rattle.msg_frames.specs.declared.message.RdValue.{RdValue}
use Rattle.msg_frames.specs.declared.message.Retire.{Retire}
use Rattle.msg_frames.specs.declared.message.Body.TheVariants as body
use Rattle.msg_frames.specs.declared.message.Message.{Message}
use Rattle.rv_decode.specs.declared.instruction.Insn.{Insn}
use Rattle.rv_decode.specs.declared.instruction.Insn.TheVariants.{Store}
use Rattle.rv_decode.specs.declared.operations.StoreOp.TheVariants.{Sd}
use Rattle.rv_step.specs.declared.plan.Config.{Config}
use Rattle.rv_step.specs.Plans.{PlanOf, plan_of}
use Rattle.rv_step.specs.Steps.{Doing}
use Rattle.rvwmo_model.specs.declared.operations.Op.{Op}
use Rattle.rvwmo_model.specs.declared.operations.OpKind.TheVariants as kind
use Rattle.rvwmo_model.specs.declared.operations.Ann.TheVariants as ann
use Rattle.rvwmo_model.specs.Order.{kind_stores}
use Rattle.matching.specs.declared.reports.OpenReport.{OpenReport}
use Rattle.matching.specs.Settings.{config_in}
use Rattle.matching.specs.Reports.{live, early, early_of, counting, place_of_report, place_counted, bytes_counted}
use Rattle.matching.specs.Runs.{run_of, doing_at, bypass_at, done_of}
use Rattle.trace_model.specs.Entries.{Fixed, Stores}
use Rattle.trace_model.specs.Extents.{extent_of}
use Rattle.trace_model.specs.Retirements.{entry, entry_of, load_ops, load_access, read_places, amo_ops, atomic_ops}
use Rattle.trace_model.specs.Retirements.{bypass_op, bypass_access, store_access, acquire_of, release_of}
use Rattle.trace_model.specs.Traces.{entry_in, stored_at, bytes_stored}
use Rattle.trace_model.proofs.Extents.{extent_is}
use Rattle.trace_model.specs.Extents.{is_extent}
use Rattle.trace_model.proofs.Lists.{In}
use Rattle.trace_gen.specs.Program.{made_image, pc_of, word_of, counter_addr, own_addr}
use Rattle.trace_gen.specs.Rounds.{tag_of, bytes_of_number}
use Rattle.gen_laws.proofs.Says.{Runs}
use Rattle.gen_laws.proofs.States.{HasRead, HasBypass}
use Rattle.gen_laws.proofs.ReadBytes.{counts}
use Rattle.gen_laws.proofs.Loads.{bytes_loaded}
use Rattle.gen_order_laws.proofs.Logs.{Perf, insn_of_access, takes}
use Rattle.gen_order_laws.proofs.Logs as logs
use Rattle.gen_order_laws.proofs.MadeOps.{IsOp, kind_of_access, addr_of, len_of_access, stored_of}
use Rattle.gen_order_laws.proofs.OpParts.{IsAccess, whole_is, parts_are, part_there}
use Rattle.gen_order_laws.proofs.Entered.{IsFixedBy, IsStoredBy}

-- the head of the Retire of instruction k of a round
abbrev pub retire_head : ℕ → List Message → ℕ → ℕ → Head
retire_head h before round k = record { hart = h; time = length before; tag = tag_of round k }

-- and what it says
abbrev pub retire_of : ℕ → Option RdValue → Retire
retire_of k rd = record {
  pc = pc_of k;
  word = word_of k;
  next = pc_of ((k + 1) % 7);
  trap = None;
  rd = rd;
  csrs = [];
}

module _ (harts h : ℕ) (before : List Message) (round k : ℕ) (rd : Option RdValue) (runs : Runs harts before)
    (doing : Doing)
    (plan : plan_of (run_of made_image before h).hart made_image (config_in 0)
    ≡ record { word = word_of k; doing = doing }) where
  abbrev head : Head
  head = retire_head h before round k

  doing_is : doing_at made_image before h ≡ doing
  doing_is =
      ap (λ (c : Config). (plan_of (run_of made_image before h).hart made_image c).doing) runs.config
      ∙ ap (λ (p : PlanOf). p.doing) plan

  -- the entry is that of what the instruction is to do
  pub entry_is : entry_in made_image before head (body.Retire (retire_of k rd))
      ≡ entry_of (live before h) (early before) head (stored_at made_image before head (retire_of k rd)) doing
  entry_is =
      ap (entry_of (live before h) (early before) head (stored_at made_image before head (retire_of k rd))) doing_is

  -- what a store stores
  pub stored_is : stored_at made_image before head (retire_of k rd)
      ≡ bytes_stored (done_of (run_of made_image before h) (live before h) (bypass_at before head) (tag_of round k)
      (retire_of k rd) doing).effect.store
  stored_is =
      ap (λ (d : Doing). bytes_stored (done_of (run_of made_image before h) (live before h) (bypass_at before head)
      (tag_of round k) (retire_of k rd) d).effect.store) doing_is

-- ---- a load

-- the newest live Read of a hart is where an access was performed
pub record IsReadAt (f : Perf) (rs : List OpenReport) : Type 0 where
  pub newest : OpenReport
  pub older : List OpenReport
  pub is : rs ≡ newest ∷ older
  pub at' : place_of_report newest ≡ f.place

module _ (h n round k : ℕ) (f : Perf) (rs : List OpenReport) (insn : Insn) (addr len : ℕ) (bytes : List ℕ)
    (extent : is_extent addr len ≡ true) (has : HasRead round k addr bytes rs) (at' : IsReadAt f rs)
    (hart : f.hart ≡ h) (same : f.round ≡ round) (insn_is : insn_of_access f.access ≡ k)
    (loads : kind_of_access f.access ≡ kind.Load) (where' : addr_of f ≡ addr) (size : len_of_access f.access ≡ len)
    (le : len ≤ length bytes) (some : 0 < len)
    (value : (i : ℕ) → i < len → slice_index (take len bytes) i ≡ slice_index (bytes_of_number f.value) i)
    (acquire : acquire_of insn ≡ ann.None) (release : release_of insn ≡ ann.None) where
  abbrev load_head : Head
  load_head = record { hart = h; time = n; tag = tag_of round k }

  abbrev ext : Extent
  ext = extent_of addr len

  ext_addr : ext.addr ≡ addr
  ext_addr = (extent_is addr len extent).addr_is

  ext_len : ext.len ≡ len
  ext_len = (extent_is addr len extent).len_is

  own_is : has.own ≡ at'.newest
  own_is = let e : has.own ∷ has.ahead ∷ [] ≡ at'.newest ∷ at'.older = sym has.is ∙ at'.is in cc

  counted : (i : ℕ) → i < ext.len → read_places rs (tag_of round k) ext i ≡ Some f.place
  counted i lt =
      ap (λ (a : ℕ). place_counted (counting rs (tag_of round k) (a + i))) ext_addr
      ∙ ap (λ (xs : List OpenReport). place_counted (counting xs (tag_of round k) (addr + i))) has.is
      ∙ ap place_counted
      (counts has.own (has.ahead ∷ []) (tag_of round k) addr bytes has.tag has.piece i (omega (arith, lt, ext_len, le)))
      ∙ ap (λ (r : OpenReport). Some (place_of_report r)) own_is ∙ ap Some at'.at'

  got_is : bytes_counted rs (tag_of round k) ext.addr ext.len ≡ take len bytes
  got_is =
      ap (λ (a : ℕ). bytes_counted rs (tag_of round k) a ext.len) ext_addr
      ∙ ap (bytes_counted rs (tag_of round k) addr) ext_len
      ∙ bytes_loaded round k addr bytes rs has len le

  is_access : IsAccess f (load_access rs load_head insn ext)
  is_access = record {
    hart = sym hart;
    tag = ap (λ (j : ℕ). tag_of j k) (sym same) ∙ ap (tag_of f.round) (sym insn_is);
    kind = sym loads;
    acquire = acquire;
    release = release;
    addr = ext_addr ∙ sym where';
    len = ext_len ∙ sym size;
    got = λ i lt l. ap (λ (bs : List ℕ). slice_index bs i) got_is ∙ value i (omega (arith, lt, size));
    put = λ i lt s.
        absurd (both_ways (kind_stores (kind_of_access f.access)) (ap kind_stores loads) s);
  }

  pub load_entered : IsFixedBy f (entry load_head insn false (Fixed (load_ops rs load_head insn ext)))
  load_entered = record {
    ops = load_ops rs load_head insn ext;
    is = refl;
    all = parts_are f (load_access rs load_head insn ext) (read_places rs (tag_of round k) ext) is_access counted;
    some =
        part_there f (load_access rs load_head insn ext) (read_places rs (tag_of round k) ext) is_access counted
        (omega (arith, ext_len, some));
  }

-- ---- the amoadd

module _ (h n round value : ℕ) (f : Perf) (rs es all_early : List OpenReport) (insn : Insn)
    (has : HasRead round 3 counter_addr (bytes_of_number value) rs) (more : HasBypass h round (value + 1) es)
    (at' : IsReadAt f es) (found : early_of all_early h (tag_of round 3) ≡ Some more.report)
    (hart : f.hart ≡ h) (same : f.round ≡ round) (adds : f.access ≡ logs.add) (is : f.value ≡ value)
    (acquire : acquire_of insn ≡ ann.None) (release : release_of insn ≡ ann.None) where
  abbrev add_head : Head
  add_head = record { hart = h; time = n; tag = tag_of round 3 }

  abbrev add_ext : Extent
  add_ext = extent_of counter_addr 8

  add_addr : add_ext.addr ≡ counter_addr
  add_addr = (extent_is counter_addr 8 refl).addr_is

  add_len : add_ext.len ≡ 8
  add_len = (extent_is counter_addr 8 refl).len_is

  report_is : more.report ≡ at'.newest
  report_is = let e : more.report ∷ [] ≡ at'.newest ∷ at'.older = sym more.is ∙ at'.is in cc

  abbrev add_got : List ℕ
  add_got = bytes_counted rs (tag_of round 3) add_ext.addr add_ext.len

  add_got_is : add_got ≡ bytes_of_number value
  add_got_is =
      ap (λ (a : ℕ). bytes_counted rs (tag_of round 3) a add_ext.len) add_addr
      ∙ ap (bytes_counted rs (tag_of round 3) counter_addr) add_len
      ∙ bytes_loaded round 3 counter_addr (bytes_of_number value) rs has 8 (omega arith)

  add_access : IsAccess f (bypass_access kind.Both add_ext add_got (acquire_of insn) (release_of insn) more.report)
  add_access = record {
    hart = more.hart ∙ sym hart;
    tag =
        more.tag ∙ ap (λ (j : ℕ). tag_of j 3) (sym same)
        ∙ ap (λ (a : logs.Access). tag_of f.round (insn_of_access a)) (sym adds);
    kind = ap kind_of_access (sym adds);
    acquire = acquire;
    release = release;
    addr = add_addr ∙ ap (λ (a : logs.Access). addr_of (record f { access = a })) (sym adds);
    len = add_len ∙ ap len_of_access (sym adds);
    got = λ i lt l.
        ap (λ (bs : List ℕ). slice_index bs i) add_got_is
        ∙ ap (λ (y : ℕ). slice_index (bytes_of_number y) i) (sym is);
    put = λ i lt s.
        ap (λ (p : Piece). slice_index p.bytes i) more.piece
        ∙ ap (λ (y : ℕ). slice_index (bytes_of_number (y + 1)) i) (sym is)
        ∙ ap (λ (a : logs.Access). slice_index (bytes_of_number (stored_of a f.value)) i) (sym adds);
  }

  abbrev add_op : Op
  add_op = bypass_op kind.Both add_ext add_got (acquire_of insn) (release_of insn) more.report

  add_is : IsOp f add_op
  add_is =
      whole_is f (bypass_access kind.Both add_ext add_got (acquire_of insn) (release_of insn) more.report) (λ j. true)
      (Some (place_of_report more.report)) add_access (λ i lt. refl)
      (ap (λ (r : OpenReport). Some (place_of_report r)) report_is ∙ ap Some at'.at')

  pub add_entered : IsFixedBy f (entry add_head insn false (Fixed (amo_ops rs all_early add_head insn add_ext)))
  add_entered = record {
    ops = add_op ∷ [];
    is = ap (λ (o : Option OpenReport). Fixed (atomic_ops kind.Both add_ext add_got (acquire_of insn)
        (release_of insn) o)) found;
    all = all;
    some = (add_op, inl refl);
  }
    where
      all : (o : Op) → In o (add_op ∷ []) → IsOp f o
      all o (inl e) = subst (IsOp f) (sym e) add_is
      all o (inr e) = absurd e

-- ---- the store

pub store_entered : (h n round value : ℕ) (f : Perf) (put : List ℕ) → h < 16 → f.hart ≡ h → f.round ≡ round
    → takes f.access ≡ true → f.value ≡ value → put ≡ bytes_of_number value
    → IsStoredBy f
    (entry (record { hart = h; time = n; tag = tag_of round 1 }) (Store Sd 11 5 (pos 0)) false
    (Stores (store_access (record { hart = h; time = n; tag = tag_of round 1 }) (Store Sd 11 5 (pos 0))
    (extent_of (own_addr h) 8) put)))
store_entered h n round value f put h16 hart same takes' is stored =
    let fits : is_extent (own_addr h) 8 ≡ true = le-leb (own_addr h + 8) (2 ^ 64) (omega (arith, h16)) in
    record {
      access =
          store_access (record { hart = h; time = n; tag = tag_of round 1 }) (Store Sd 11 5 (pos 0))
          (extent_of (own_addr h) 8) put;
      is = refl;
      takes_it = takes';
      hart = sym hart;
      tag = ap (λ (j : ℕ). tag_of j 1) (sym same);
      kind = refl;
      acquire = refl;
      release = refl;
      addr = (extent_is (own_addr h) 8 fits).addr_is ∙ ap own_addr (sym hart);
      len = (extent_is (own_addr h) 8 fits).len_is;
      put = λ i. ap (λ (bs : List ℕ). slice_index bs i) (stored ∙ ap bytes_of_number (sym is));
    }
