use Rattle.std.proofs.Common.{ℕ, ◌≡◌, ◌≢◌, ◌+◌, ◌-◌, ◌*◌, ◌/◌, ◌%◌, ◌<◌, ◌≤◌}
use Rattle.std.proofs.Common.{length, inl, inr, Option, Some, None, is_some, true, subst, ap}
use Rattle.std.proofs.Common.{◌∙◌, arith, sym}
use Rattle.std.proofs.lemmas.Bool.{cases_eq}
use Rattle.std.proofs.lemmas.Bool.Decides.{nat_tests}
use Rattle.byte_memory.specs.declared.line.Line.{Line}
use Rattle.msg_frames.specs.declared.message.Piece.{Piece}
use Rattle.byte_memory.specs.declared.writer.Writer.{Writer}
use Rattle.byte_memory.specs.Memory.{Written, held_line, written_at, written_on, after_part, after_store}
use Rattle.byte_memory.proofs.memory.Memory.store.Goals as goal

pub store_part-requires-else-len-room-2-clause-ready :
    goal.store_part-requires-else-len-room-2-clause-ready
store_part-requires-else-len-room-2-clause-ready c =
    let p = c.args.piece.now in
    let x : ℕ = (p.addr / 64 + 1) * 64 in
    let at : x / 64 ≡ p.addr / 64 + 1 = omega arith in
    subst (λ (n : ℕ). is_some (held_line c.store_part-else-len-room.new.self n) ≡ true) at
    (c.store_part-else-len-room.ensures.ready x ∙ c.requires.ready x (grind (arith, nat_tests)))

module _ (p : Piece) (w : Writer) (x : ℕ) (was : Option Written) (long : 64 - p.addr % 64 < length p.bytes) where
  first : x / 64 ≡ p.addr / 64 → after_part p 0 (64 - p.addr % 64) w x was ≡ after_store p w x was
  first e = grind (arith, nat_tests)

  second : x / 64 ≡ p.addr / 64 + 1 → after_part p (64 - p.addr % 64) (length p.bytes) w x was ≡ after_store p w x was
  second e = grind (arith, nat_tests)

  none : length p.bytes ≤ 8 → x / 64 ≢ p.addr / 64 → x / 64 ≢ p.addr / 64 + 1 → was ≡ after_store p w x was
  none l d e = grind (arith, nat_tests)

pub returns-else-len-room-clause-written : goal.returns-else-len-room-clause-written
returns-else-len-room-clause-written c =
    let p = c.args.piece.now in
    let w = c.args.writer.now in
    let m = c.args.self.now in
    let a = c.store_part-else-len-room.ensures in
    let b = c.store_part-else-len-room-2.ensures in
    let long : 64 - p.addr % 64 < length p.bytes = omega (arith, c.if-len-room.false, c.len-len.ensures.value) in
    let few : length p.bytes ≤ 8 = omega (arith, c.len-len.ensures.sized, c.len-len.ensures.value) in
    λ x. elim (cases_eq (x / 64) (p.addr / 64 + 1)) [
      | inl e ↦
          b.there x e ∙ ap (λ (o : Option Line). after_part p (64 - p.addr % 64) c.len-len.result w x (written_on o x))
          (a.others x (omega (arith, e)))
          ∙ subst (λ (n : ℕ). after_part p (64 - p.addr % 64) n w x (written_at m x)
          ≡ after_store p w x (written_at m x)) (sym c.len-len.ensures.value) (second p w x (written_at m x) long e)
      | inr n ↦ ap (λ (o : Option Line). written_on o x) (b.others x n) ∙ elim (cases_eq (x / 64) (p.addr / 64)) [
        | inl e ↦ a.there x e ∙ first p w x (written_at m x) long e
        | inr d ↦
            ap (λ (o : Option Line). written_on o x) (a.others x d) ∙ none p w x (written_at m x) long few d n
      ]
    ]
