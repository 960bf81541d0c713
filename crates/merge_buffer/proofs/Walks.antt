-- Walks along the Inserts of a line.
use Rattle.std.proofs.Common.{ℕ, ◌≡◌, ◌≢◌, ◌+◌, ◌*◌, ◌<◌, List, [], ◌∷◌}
use Rattle.std.proofs.Common.{◌++◌, length, Option, None, Some, IsSome, refl, sym, ap, ◌∙◌, subst, arith, add-zero}
use Rattle.std.proofs.lemmas.List.{append-nil, append_assoc}
use Rattle.merge_buffer.specs.declared.waiting.Part.{Part}
use Rattle.merge_buffer.specs.declared.waiting.Waiting.{Waiting}
use Rattle.merge_buffer.specs.declared.merging.Merged.{Merged}
use Rattle.msg_frames.specs.Pieces.{byte_in}
use Rattle.merge_buffer.specs.Parts.{line_of, latest_byte, AllBelow, Falls, AllOn, IsWithinLine}
use Rattle.tandem_base.specs.FirstFault.{◌or_else◌}
use Rattle.merge_buffer.specs.Chains.{IsChain, IsChained, merged_byte}
use Rattle.merge_buffer.proofs.Merges.{or_else_none, or_else_assoc}

same_entry : (at : ℕ → Option Waiting) (i j : ℕ) (v w : Waiting) → i ≡ j → at i ≡ Some v → at j ≡ Some w → v ≡ w
same_entry at i j v w s e f =
    let one : Some v ≡ Some w = sym e ∙ subst (λ (x : ℕ). at x ≡ Some w) (sym s) f in
    cc

same_number : (i j : ℕ) (o : Option ℕ) → o ≡ Some i → o ≡ Some j → i ≡ j
same_number i j o e f =
    let one : Some i ≡ Some j = sym e ∙ f in
    cc

none_of : {A : Type 0} (x : A) (o : Option A) → o ≡ None → o ≡ Some x → ⊥
none_of x o e f =
    let no_one : None ≡ Some x = sym e ∙ f in
    cc

-- a chain is one list
pub chain_one : (at : ℕ → Option Waiting) (head : Option ℕ) (ps qs : List Part) → IsChain at head ps
    → IsChain at head qs → ps ≡ qs
chain_one at head [] [] c d = refl
chain_one at head [] (q ∷ qs) c d = absurd (none_of d.0 head c d.2)
chain_one at head (p ∷ ps) [] c d = absurd (none_of c.0 head d c.2)
chain_one at head (p ∷ ps) (q ∷ qs) c d =
    let w : c.1 ≡ d.1 = same_entry at c.0 d.0 c.1 d.1 (same_number c.0 d.0 head c.2 d.2) c.3 d.3 in
    let first : p ≡ q = sym c.4 ∙ ap (λ (x : Waiting). x.part) w ∙ d.4 in
    let tail : ps ≡ qs = chain_one at c.1.before ps qs c.5
    (subst (λ (x : Waiting). IsChain at x.before qs) (sym w) d.5) in
    cc

-- one step along it
pub record Steps (at : ℕ → Option Waiting) (line : ℕ) (w : Waiting) (parts : List Part) : Type 0 where
  pub tail : List Part
  pub is : parts ≡ w.part ∷ tail
  pub chain : IsChain at w.before tail
  pub below : AllBelow w.part.number tail
  pub falls : Falls tail
  pub line_is : line_of w.part ≡ line
  pub within : IsWithinLine w.part.piece
  pub on : AllOn line tail

pub step_of : (at : ℕ → Option Waiting) (line : ℕ) (head : Option ℕ) (i : ℕ) (w : Waiting) (parts : List Part)
    → IsChain at head parts → Falls parts → AllOn line parts → head ≡ Some i → at i ≡ Some w → Steps at line w parts
step_of at line head i w [] c f o e there = absurd (none_of i head c e)
step_of at line head i w (p ∷ ps) c f o e there =
    let v : c.1 ≡ w = same_entry at c.0 i c.1 w (same_number c.0 i head c.2 e) c.3 there in
    let first : p ≡ w.part = sym c.4 ∙ ap (λ (x : Waiting). x.part) v in
    record {
      tail = ps;
      is = ap (λ (x : Part). x ∷ ps) first;
      chain = subst (λ (x : Waiting). IsChain at x.before ps) v c.5;
      below = subst (λ (x : Part). AllBelow x.number ps) first f.0;
      falls = f.1;
      line_is = ap line_of (sym first) ∙ o.0;
      within = subst (λ (x : Part). IsWithinLine x.piece) first o.1;
      on = o.2;
    }

-- how far it still leads
abbrev pub rank_of : Option Waiting → ℕ
rank_of None = 0
rank_of (Some w) = w.part.number + 1

abbrev pub rank : (ℕ → Option Waiting) → Option ℕ → ℕ
rank at None = 0
rank at (Some i) = rank_of (at i)

-- it has come to `here`, with these bytes
pub record Merging (at : ℕ → Option Waiting) (head here : Option ℕ) (line : ℕ) (merged : Merged) : Type 0 where
  pub rest : IsChained at here line
  pub same : (full : List Part) → IsChain at head full → (k : ℕ) → k < 64 →
      ◌or_else◌ (merged_byte merged k) (latest_byte rest.parts (line * 64 + k)) ≡ latest_byte full (line * 64 + k)

pub merging_begins : (at : ℕ → Option Waiting) (head : Option ℕ) (line : ℕ) (merged : Merged) → IsChained at head line
    → ((k : ℕ) → merged_byte merged k ≡ None) → Merging at head head line merged
merging_begins at head line merged c none = record {
  rest = c;
  same = λ full f k l. ap (λ (o : Option ℕ). ◌or_else◌ o (latest_byte c.parts (line * 64 + k))) (none k)
      ∙ ap (λ (ps : List Part). latest_byte ps (line * 64 + k)) (chain_one at head c.parts full c.chain f);
}

module _ (at : ℕ → Option Waiting) (head here : Option ℕ) (line : ℕ) (merged : Merged)
    (m : Merging at head here line merged) where
  pub merging_ends : here ≡ None → (full : List Part) → IsChain at head full → (k : ℕ) → k < 64
      → merged_byte merged k ≡ latest_byte full (line * 64 + k)
  merging_ends e full f k l =
      let empty : m.rest.parts ≡ [] = chain_one at here m.rest.parts [] m.rest.chain e in
      sym (or_else_none (merged_byte merged k))
      ∙ ap (λ (ps : List Part). ◌or_else◌ (merged_byte merged k) (latest_byte ps (line * 64 + k))) (sym empty)
      ∙ m.same full f k l

  module _ (i : ℕ) (w : Waiting) (e : here ≡ Some i) (there : at i ≡ Some w) where
    pub here_step : Steps at line w m.rest.parts
    here_step = step_of at line here i w m.rest.parts m.rest.chain m.rest.falls m.rest.on e there

    pub merging_goes : (new : Merged) → ((k : ℕ) → k < 64 → merged_byte new k ≡ ◌or_else◌ (merged_byte merged k)
        (byte_in w.part.piece (line * 64 + k))) → Merging at head w.before line new
    merging_goes new add =
        let s = here_step in
        record {
          rest = record { parts = s.tail; chain = s.chain; falls = s.falls; on = s.on };
          same = λ full f k l.
              ap (λ (o : Option ℕ). ◌or_else◌ o (latest_byte s.tail (line * 64 + k))) (add k l)
              ∙ or_else_assoc (merged_byte merged k) (byte_in w.part.piece (line * 64 + k))
              (latest_byte s.tail (line * 64 + k))
              ∙ ap (λ (ps : List Part). ◌or_else◌ (merged_byte merged k) (latest_byte ps (line * 64 + k))) (sym s.is)
              ∙ m.same full f k l;
        }

    -- numbers fall along it
    pub rank_falls : rank at w.before < rank at here
    rank_falls =
        let s = here_step in
        by w.before s.tail s.chain s.below
      where
        mine : rank at here ≡ w.part.number + 1
        mine = ap (rank at) e ∙ ap rank_of there

        by : (o : Option ℕ) (ps : List Part) → IsChain at o ps → AllBelow w.part.number ps → rank at o < rank at here
        by o [] c b = subst (λ (x : Option ℕ). rank at x < rank at here) (sym c) (omega (arith, mine))
        by o (p ∷ ps) c b =
            let r : rank at o ≡ c.1.part.number + 1 = ap (rank at) c.2 ∙ ap rank_of c.3 in
            let n : c.1.part.number ≡ p.number = ap (λ (x : Part). x.number) c.4 in
            omega (arith, r, n, b.0, mine)

pub there_is : (at : ℕ → Option Waiting) (head : Option ℕ) (i : ℕ) (parts : List Part) → IsChain at head parts
    → head ≡ Some i → IsSome (at i)
there_is at head i [] c e = absurd (none_of i head c e)
there_is at head i (p ∷ ps) c e =
    let there : at i ≡ Some c.1 = subst (λ (x : ℕ). at x ≡ Some c.1) (same_number c.0 i head c.2 e) c.3 in
    subst (λ (x : Option Waiting). IsSome x) (sym there) refl

-- entries that stay keep a chain
pub chain_kept : (at new : ℕ → Option Waiting) (head : Option ℕ) (ps : List Part)
    → ((i : ℕ) (w : Waiting) → at i ≡ Some w → new i ≡ Some w) → IsChain at head ps → IsChain new head ps
chain_kept at new head [] keep c = c
chain_kept at new head (p ∷ ps) keep c = (
  c.0,
  c.1,
  c.2,
  keep c.0 c.1 c.3,
  c.4,
  chain_kept at new c.1.before ps keep
      c.5,
)

-- and those of one line that of another
pub chain_apart : (at new : ℕ → Option Waiting) (head : Option ℕ) (ps : List Part) (line other : ℕ) → line ≢ other
    → ((i : ℕ) (w : Waiting) → at i ≡ Some w → line_of w.part ≢ other → new i ≡ Some w) → AllOn line ps
    → IsChain at head ps → IsChain new head ps
chain_apart at new head [] line other d keep o c = c
chain_apart at new head (p ∷ ps) line other d keep o c = (
  c.0,
  c.1,
  c.2,
  keep c.0 c.1 c.3 (λ e. d (sym o.0 ∙ ap line_of (sym c.4) ∙ e)),
  c.4,
  chain_apart at new c.1.before ps line other d keep o.2 c.5,
)

-- an entry before which all the others come isn't one of them
pub chain_without : (at new : ℕ → Option Waiting) (i : ℕ) (w : Waiting) (head : Option ℕ) (ps : List Part)
    → at i ≡ Some w → ((k : ℕ) → k ≢ i → new k ≡ at k) → AllBelow w.part.number ps → IsChain at head ps
    → IsChain new head ps
chain_without at new i w head [] there others b c = c
chain_without at new i w head (p ∷ ps) there others b c = (
  c.0,
  c.1,
  c.2,
  others c.0 (λ s. (
      let same : c.1 ≡ w = same_entry at c.0 i c.1 w s c.3 there in
      let number : w.part.number ≡ p.number = ap (λ (x : Waiting). x.part.number) (sym same)
      ∙ ap (λ (x : Part). x.number) c.4 in
      omega (arith, b.0, number))) ∙ c.3,
  c.4,
  chain_without at new i w c.1.before ps there others b.1 c.5,
)

-- it is drained as far as `here`
pub record Draining (old now : ℕ → Option Waiting) (head here : Option ℕ) (line : ℕ) (before after : List Part)
    (count left : ℕ) : Type 0 where
  pub rest : IsChained now here line
  pub same : (full : List Part) → IsChain old head full → (before ++ full ≡ after ++ rest.parts)
      × (left + length full ≡ count + length rest.parts)
  pub keep : (i : ℕ) (w : Waiting) → old i ≡ Some w → line_of w.part ≢ line → now i ≡ Some w

pub draining_begins : (at : ℕ → Option Waiting) (head : Option ℕ) (line : ℕ) (before : List Part) (count : ℕ)
    → IsChained at head line → Draining at at head head line before before count count
draining_begins at head line before count c = record {
  rest = c;
  same = λ full f. (
      let one = chain_one at head c.parts full c.chain f in
      (ap (λ (ps : List Part). before ++ ps) (sym one), ap (λ (ps : List Part). count + length ps) (sym one)));
  keep = λ i w e d. e;
}

module _ (old now : ℕ → Option Waiting) (head here : Option ℕ) (line : ℕ) (before after : List Part) (count left : ℕ)
    (m : Draining old now head here line before after count left) where
  pub draining_ends : here ≡ None → (full : List Part) → IsChain old head full
      → (after ≡ before ++ full) × (left + length full ≡ count)
  draining_ends e full f =
      let empty : m.rest.parts ≡ [] = chain_one now here m.rest.parts [] m.rest.chain e in
      let s = m.same full f in (
        sym (s.0 ∙ ap (λ (ps : List Part). after ++ ps) empty ∙ append-nil after),
        s.1 ∙ ap (λ (ps : List Part). count + length ps) empty ∙ add-zero count,
      )

  module _ (i : ℕ) (w : Waiting) (e : here ≡ Some i) (there : now i ≡ Some w) where
    pub drain_step : Steps now line w m.rest.parts
    drain_step = step_of now line here i w m.rest.parts m.rest.chain m.rest.falls m.rest.on e there

    pub draining_goes : (new : ℕ → Option Waiting) (fewer : ℕ) → fewer + 1 ≡ left
        → ((k : ℕ) → k ≢ i → new k ≡ now k)
        → Draining old new head w.before line before (after ++ w.part ∷ []) count fewer
    draining_goes new fewer one others =
        let s = drain_step in
        record {
          rest = record {
            parts = s.tail;
            chain = chain_without now new i w w.before s.tail there others s.below s.chain;
            falls = s.falls;
            on = s.on;
          };
          same = λ full f. (
              let t = m.same full f in (
                t.0 ∙ ap (λ (ps : List Part). after ++ ps) s.is ∙ sym (append_assoc after (w.part ∷ []) s.tail),
                omega (arith, t.1, one, ap length s.is),
              ));
          keep = λ k v f d. (
              let was = m.keep k v f d in
              others k (λ q. (
              let same : v ≡ w = same_entry now k i v w q was there in
              d (ap (λ (x : Waiting). line_of x.part) same ∙ s.line_is))) ∙ was);
        }
