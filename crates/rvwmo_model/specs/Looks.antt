-- Quick looks for a broken pair, as the judge's code takes them: what is asked of one operation is found once, and
-- not for each pair. They define nothing of the memory model: its rules stand in Rules and Tests, and each look is
-- proved to answer as its rule does.
use Rattle.std.specs.Prelude.{ℕ, zero, suc, ◌+◌, ◌-◌, ◌==◌, ◌&&◌, ◌||◌, nat_lt, nat_le, List, [], ◌∷◌, ◌++◌, Bool}
use Rattle.std.specs.Prelude.{None, Some, if◌then◌else◌}
use Rattle.std.specs.List.{list_any}
use Rattle.std.specs.declared.option.Option.{Option}
use Rattle.rvwmo_model.specs.declared.judge.walk.Use.{Use}
use Rattle.rvwmo_model.specs.declared.judge.walk.Use.TheVariants.{Address, Data}
use Rattle.rvwmo_model.specs.declared.operations.Op.{Op}
use Rattle.rvwmo_model.specs.declared.traces.Trace.{Trace}
use Rattle.rvwmo_model.specs.Order.{op_stores, reads, precedes}
use Rattle.rvwmo_model.specs.ProgramOrder.{insn_of, is_one}
use Rattle.rvwmo_model.specs.Sources.{source}
use Rattle.rvwmo_model.specs.Rules.{Rule}
use Rattle.rvwmo_model.specs.Tests.{is_operation, depends_at}
use Rattle.rvwmo_model.specs.Walk.{tags_on}
use Rattle.rvwmo_model.specs.Answer.{has_first}
use Rattle.rv_decode.specs.Kinds.{is_amo_or_sc}

-- some pair of rule k is broken
abbrev pub some_broken : Rule → Trace → Bool
some_broken k t = list_any (has_first k t) t.ops

-- b comes after a in program order, and before it in global order
abbrev pub is_against : Op → Op → Bool
is_against a b = (b.name.hart == a.name.hart) && nat_lt a.name.tag b.name.tag && precedes b a

-- these tags and one more, none twice
abbrev pub with_tag : ℕ → List ℕ → List ℕ
with_tag k tags = if list_any (λ j. j == k) tags then tags else tags ++ k ∷ []

-- these tags and that of a source, where it is an operation of the hart of b
abbrev pub with_source : Trace → Op → Option Op → List ℕ → List ℕ
with_source t b None tags = tags
with_source t b (Some s) tags =
    if (s.name.hart == b.name.hart) && is_operation t s then with_tag s.name.tag tags else tags

-- these tags and that of the source of byte x, where b loads it
abbrev pub with_byte : Trace → Op → ℕ → List ℕ → List ℕ
with_byte t b x tags = if reads x b then with_source t b (source t b x) tags else tags

-- the tags of the instructions of its own hart from which b reads so many bytes from an address up
unfoldable pub tags_from : Trace → Op → ℕ → ℕ → List ℕ
tags_from t b addr zero = []
tags_from t b addr (suc n) = with_byte t b (addr + n) (tags_from t b addr n)

-- the tags of the instructions of its own hart from which b reads
abbrev pub tags_read : Trace → Op → List ℕ
tags_read t b = tags_from t b b.extent.addr b.extent.len

-- b, which reads from the instructions under these tags, comes before an AMO or SC from which it reads
abbrev pub atomic_against : Trace → Op → List ℕ → Op → Bool
atomic_against t b tags a =
    is_against a b && list_any (λ k. k == a.name.tag) tags && is_one is_amo_or_sc (insn_of t a)

-- the instruction under the tag k is between a and b, and depends on that of a
abbrev pub depends_between_at : Trace → Op → Op → ℕ → Bool
depends_between_at t a b k =
    nat_lt a.name.tag k && nat_lt k b.name.tag && (depends_at Address t a k || depends_at Data t a k)

-- b, which reads from the instructions under these tags, comes before a, on which one of them depends
abbrev pub dependent_against : Trace → Op → List ℕ → Op → Bool
dependent_against t b tags a = is_against a b && list_any (depends_between_at t a b) tags

-- ---- what depends on a

-- the tags of the instructions that depend on that of a by a register in that use
abbrev pub tags_after : Use → Trace → Op → List ℕ
tags_after by t a = tags_on by a.name.hart a.name.tag [] t.insns

-- some tag is from a tag to a tag
abbrev pub some_in : ℕ → ℕ → List ℕ → Bool
some_in first last tags = list_any (λ k. nat_le first k && nat_le k last) tags

-- b comes before a, and is of one of the instructions under these tags
abbrev pub at_against : Op → List ℕ → Op → Bool
at_against a tags b = is_against a b && some_in b.name.tag b.name.tag tags

-- b is a store and comes before a, with one of the instructions under these tags between them
abbrev pub storing_against : Op → List ℕ → Op → Bool
storing_against a tags b = is_against a b && (op_stores b && some_in (a.name.tag + 1) (b.name.tag - 1) tags)
