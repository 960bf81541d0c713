-- The marks, as callers see them.
use Rattle.std.proofs.Common.{ℕ, zero, suc, ◌≡◌, ◌<◌, ◌/◌, ◌%◌, ◌==◌, Bool, true, false, List, [], ◌∷◌, Option}
use Rattle.std.proofs.Common.{None, Some, cond}
use Rattle.std.proofs.Common.{get_or, filter_map, refl, ap, ◌∙◌, arith}
use Rattle.std.proofs.Math.ListN.{get_or-map}
use Rattle.std.specs.Option.{option_and_then}
use Rattle.slab.specs.Slab.{Slab, get, values}
use Rattle.key_tree.specs.Entries.{KeyedEntries, number_of}
use Rattle.kept_ops.specs.declared.byte_keys.ByteKeys.{ByteKeys}
use Rattle.kept_ops.specs.declared.doubleword.Doubleword.{Doubleword}
use Rattle.kept_ops.specs.declared.operation.KeptOp.{KeptOp}
use Rattle.kept_ops.specs.Doublewords.{no_keys, keys_in, keys_of_bytes, marks_of, bytes_marked_by, marked_words}
use Rattle.kept_ops.specs.Marks.{ByteMarks, no_marks}
use Rattle.kept_ops.specs.Tables.{KeptTable, bytes_beside}
use Rattle.kept_ops.specs.declared.words.Words.{Words}
use Rattle.kept_ops.specs.Words.{keys_of, keys_of_word, doubleword_of}

bytes_found : (at : ℕ → Option KeptOp) (words : Slab Doubleword) (es : List (ℕ × ℕ)) (n : ℕ)
    → bytes_beside (marked_words at words es) n ≡ bytes_marked_by at (option_and_then (get words) (number_of es n))
bytes_found at words [] n = refl
bytes_found at words (e ∷ es) n = by (e.0 == n) (bytes_found at words es n)
  where
    by : (b : Bool)
        → bytes_beside (marked_words at words es) n ≡ bytes_marked_by at (option_and_then (get words) (number_of es n))
        → cond b (bytes_marked_by at (get words e.1)) (bytes_beside (marked_words at words es) n)
        ≡ bytes_marked_by at (option_and_then (get words) (cond b (Some e.1) (number_of es n)))
    by true rec = refl
    by false rec = rec

byte_of : (word : Doubleword) (k : ℕ) → k < 8 → get_or (keys_of_bytes word) k no_keys ≡ keys_in word k
byte_of word zero l = refl
byte_of word (suc zero) l = refl
byte_of word (suc (suc zero)) l = refl
byte_of word (suc (suc (suc zero))) l = refl
byte_of word (suc (suc (suc (suc zero)))) l = refl
byte_of word (suc (suc (suc (suc (suc zero))))) l = refl
byte_of word (suc (suc (suc (suc (suc (suc zero)))))) l = refl
byte_of word (suc (suc (suc (suc (suc (suc (suc zero))))))) l = refl
byte_of word (suc (suc (suc (suc (suc (suc (suc (suc k)))))))) l = absurd (omega (arith, l))

bytes_marked : (at : ℕ → Option KeptOp) (w : Option Doubleword) (k : ℕ) → k < 8
    → get_or (bytes_marked_by at w) k no_marks ≡ marks_of at (keys_of_word w k)
bytes_marked at None k l = refl
bytes_marked at (Some word) k l =
    get_or-map (λ (keys : ByteKeys). marks_of at keys) (keys_of_bytes word) k no_keys
    ∙ ap (λ (keys : ByteKeys). marks_of at keys) (byte_of word k l)

-- the marks of the value are those that the keys lead to
pub marks_seen : (at : ℕ → Option KeptOp) (words : Slab Doubleword) (index : KeyedEntries) (x : ℕ)
    → get_or (bytes_beside (marked_words at words index.entries) (x / 8)) (x % 8) no_marks
    ≡ marks_of at (keys_of words index x)
marks_seen at words index x =
    ap (λ (l : List ByteMarks). get_or l (x % 8) no_marks) (bytes_found at words index.entries (x / 8))
    ∙ bytes_marked at (doubleword_of words index (x / 8)) (x % 8) (omega arith)

abbrev table : List KeptOp → List (ℕ × List ByteMarks) → ℕ → KeptTable
table ops words capacity = record { ops = ops; words = words; capacity = capacity }

-- a new table is empty
pub nothing_seen : (ops : Slab KeptOp) (w : Words) (capacity : ℕ) → ops.slots ≡ [] → w.index.entries ≡ []
    → table (values ops) (marked_words (get ops) w.words w.index.entries) capacity ≡ table [] [] capacity
nothing_seen ops w capacity e f =
    ap (λ (s : List (Option KeptOp)). table (filter_map (λ (slot : Option KeptOp). slot) s)
    (marked_words (get ops) w.words w.index.entries) capacity) e
    ∙ ap (λ (es : List (ℕ × ℕ)). table [] (marked_words (get ops) w.words es) capacity) f
