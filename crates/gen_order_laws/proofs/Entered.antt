-- The entries of the instructions that retired in made streams.
use Rattle.std.proofs.Common.{ℕ, suc, ◌≡◌, ◌+◌, ◌*◌, ◌<◌, ◌⊎◌, inl, inr, List, [], ◌∷◌, true, sym}
use Rattle.std.proofs.Common.{subst, arith, slice_index}
use Rattle.std.proofs.lemmas.Bool.{cases_eq, cases_order}
use Rattle.rvwmo_model.specs.declared.operations.Op.{Op}
use Rattle.rvwmo_model.specs.declared.operations.OpKind.TheVariants as kind
use Rattle.rvwmo_model.specs.declared.operations.Ann.TheVariants as ann
use Rattle.trace_model.specs.declared.access.Access.{Access}
use Rattle.trace_model.specs.Entries.{Entry, Fixed, Stores}
use Rattle.trace_model.proofs.Lists.{In}
use Rattle.trace_gen.specs.Program.{own_addr}
use Rattle.trace_gen.specs.Rounds.{tag_of, bytes_of_number}
use Rattle.trace_gen.specs.declared.rounds.Progress.{Progress}
use Rattle.gen_laws.proofs.States.{next_at}
use Rattle.gen_order_laws.proofs.Logs as logs
use Rattle.gen_order_laws.proofs.Logs.{Perf, counter, forward, written, add, again, insn_of_access, takes}
use Rattle.gen_order_laws.proofs.MadeOps.{IsOp, IsMadeInsn}

-- its operation is that of an access of the log
pub record IsFixedBy (f : Perf) (e : Entry) : Type 0 where
  pub ops : List Op
  pub is : e.memory ≡ Fixed ops
  pub all : (o : Op) → In o ops → IsOp f o
  pub some : (o : Op) × In o ops

-- it is the store of what an access of the log took
pub record IsStoredBy (f : Perf) (e : Entry) : Type 0 where
  pub access : Access
  pub is : e.memory ≡ Stores access
  pub takes_it : takes f.access ≡ true
  pub hart : access.hart ≡ f.hart
  pub tag : access.tag ≡ tag_of f.round 1
  pub kind : access.kind ≡ kind.Store
  pub acquire : access.acquire ≡ ann.None
  pub release : access.release ≡ ann.None
  pub addr : access.extent.addr ≡ own_addr f.hart
  pub len : access.extent.len ≡ 8
  pub put : (k : ℕ) → slice_index access.put k ≡ slice_index (bytes_of_number f.value) k

-- what an instruction did to memory is of the log, or nothing
abbrev pub IsOfLog : List Perf → Entry → Type 0
IsOfLog log e =
    (e.memory ≡ Fixed []) ⊎ ((f : Perf) × In f log × IsFixedBy f e) ⊎ ((f : Perf) × In f log × IsStoredBy f e)

-- the entry of an access
abbrev pub IsEntryOf : logs.Access → Perf → Entry → Type 0
IsEntryOf counter f e = (f.access ≡ counter) × IsFixedBy f e
IsEntryOf forward f e = (f.access ≡ forward) × IsFixedBy f e
IsEntryOf written f e = IsStoredBy f e
IsEntryOf add f e = (f.access ≡ add) × IsFixedBy f e
IsEntryOf again f e = (f.access ≡ again) × IsFixedBy f e

-- the instruction of an access of a round has an entry
abbrev pub HasEntry : List Perf → List Entry → ℕ → ℕ → logs.Access → Type 0
HasEntry log es h j a =
    (f : Perf) × (e : Entry) × In f log × In e es × (f.hart ≡ h) × (f.round ≡ j) × IsEntryOf a f e

-- how many instructions of a hart retired
abbrev pub retired_by : Progress → ℕ
retired_by p = 7 * p.round + next_at p.step

-- the entries of harts of which so many instructions retired
pub record AreEntered (log : List Perf) (es : List Entry) (harts : ℕ) (reach : ℕ → ℕ) : Type 0 where
  pub insns : (e : Entry) → In e es → IsMadeInsn e.insn
  pub known : (e : Entry) → In e es → IsOfLog log e
  pub there : (h j : ℕ) (a : logs.Access) → h < harts → 7 * j + insn_of_access a < reach h → HasEntry log es h j a

pub nothing_entered : (harts : ℕ) (reach : ℕ → ℕ) → ((h : ℕ) → reach h ≡ 0) → AreEntered [] [] harts reach
nothing_entered harts reach none = record {
  insns = λ e i. absurd i;
  known = λ e i. absurd i;
  there = λ h j a small lt. absurd (omega (arith, lt, none h));
}

of_more : (log log2 : List Perf) (e : Entry) → ((f : Perf) → In f log → In f log2) → IsOfLog log e → IsOfLog log2 e
of_more log log2 e grows (inl q) = inl q
of_more log log2 e grows (inr (inl q)) = inr (inl (q.0, grows q.0 q.1, q.2))
of_more log log2 e grows (inr (inr q)) = inr (inr (q.0, grows q.0 q.1, q.2))

-- a longer log
pub entered_log : (log log2 : List Perf) (es : List Entry) (harts : ℕ) (reach reach2 : ℕ → ℕ)
    → ((f : Perf) → In f log → In f log2) → ((h : ℕ) → reach2 h ≡ reach h) → AreEntered log es harts reach
    → AreEntered log2 es harts reach2
entered_log log log2 es harts reach reach2 grows same are = record {
  insns = are.insns;
  known = λ e i. of_more log log2 e grows (are.known e i);
  there = λ h j a small lt.
      let r = are.there h j a small (omega (arith, lt, same h)) in
      (r.0, r.1, grows r.0 r.2, r.3, r.4, r.5, r.6);
}

-- one entry more
pub entered_more : (log : List Perf) (es : List Entry) (harts h : ℕ) (reach reach2 : ℕ → ℕ) (e : Entry)
    → AreEntered log es harts reach → IsMadeInsn e.insn → IsOfLog log e → reach2 h ≡ suc (reach h)
    → ((g : ℕ) → (h ≡ g → ⊥) → reach2 g ≡ reach g)
    → ((j : ℕ) (a : logs.Access) → 7 * j + insn_of_access a ≡ reach h → HasEntry log (e ∷ es) h j a)
    → AreEntered log (e ∷ es) harts reach2
entered_more log es harts h reach reach2 e are insn of more others new = record {
  insns = insns;
  known = known;
  there = there;
}
  where
    insns : (d : Entry) → In d (e ∷ es) → IsMadeInsn d.insn
    insns d (inl q) = subst (λ (x : Entry). IsMadeInsn x.insn) (sym q) insn
    insns d (inr i) = are.insns d i

    known : (d : Entry) → In d (e ∷ es) → IsOfLog log d
    known d (inl q) = subst (IsOfLog log) (sym q) of
    known d (inr i) = are.known d i

    old : (g j : ℕ) (a : logs.Access) → g < harts → 7 * j + insn_of_access a < reach g → HasEntry log (e ∷ es) g j a
    old g j a small lt = let r = are.there g j a small lt in (r.0, r.1, r.2, inr r.3, r.4, r.5, r.6)

    own : (j : ℕ) (a : logs.Access) → h < harts → 7 * j + insn_of_access a < reach2 h → HasEntry log (e ∷ es) h j a
    own j a small lt = elim (cases_order (7 * j + insn_of_access a) (reach h)) [
      | inl q ↦ new j a q
      | inr (inl less) ↦ old h j a small less
      | inr (inr over) ↦ absurd (omega (arith, over, lt, more))
    ]

    there : (g j : ℕ) (a : logs.Access) → g < harts → 7 * j + insn_of_access a < reach2 g
        → HasEntry log (e ∷ es) g j a
    there g j a small lt = elim (cases_eq h g) [
      | inl q ↦
          subst (λ (x : ℕ). HasEntry log (e ∷ es) x j a) q
          (own j a (omega (arith, small, q)) (subst (λ (x : ℕ). 7 * j + insn_of_access a < reach2 x) (sym q) lt))
      | inr apart ↦ old g j a small (omega (arith, lt, others g apart))
    ]
