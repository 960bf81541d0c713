-- The program headers that load a segment: a filter of a list that is made by index.
use Rattle.std.proofs.Common.{◌≡◌, ℕ, ◌+◌, ◌<◌, Bool, true, false, List, [], ◌∷◌, ◌++◌, map, arith, append-nil}
use Rattle.std.specs.List.{All, filter, range_with_len}
use Rattle.std.proofs.lemmas.List.FromFn.{filter_of_map_range_with_len_more}
use Rattle.std.proofs.lemmas.Bool.{and_parts, ltb-true}
use Rattle.std.proofs.lemmas.List.Elements.{All-weaker, filter_passes}
use Rattle.elf_image.specs.declared.program.ProgramHeader.{ProgramHeader}
use Rattle.elf_image.specs.Elf.{is_loadable}

pub kept_more : {X : Type 0} (p : X → Bool) (f : ℕ → X) (i : ℕ) (before after : List X) (x : X)
    → before ≡ filter p (map f (range_with_len 0 i)) → x ≡ f i → p x ≡ true → after ≡ before ++ x ∷ []
    → after ≡ filter p (map f (range_with_len 0 (i + 1)))
kept_more p f i before after x at here passes pushed =
    rw (filter_of_map_range_with_len_more p f 0 i i (omega arith), ← here, passes, ← at) pushed

pub skipped_more : {X : Type 0} (p : X → Bool) (f : ℕ → X) (i : ℕ) (before after : List X) (x : X)
    → before ≡ filter p (map f (range_with_len 0 i)) → x ≡ f i → p x ≡ false → after ≡ before
    → after ≡ filter p (map f (range_with_len 0 (i + 1)))
skipped_more p f i before after x at here fails same =
    rw (filter_of_map_range_with_len_more p f 0 i i (omega arith), ← here, fails, ← at, append-nil) same

takes_memory : (h : ProgramHeader) → is_loadable h ≡ true → 0 < h.size
takes_memory h e = ltb-true 0 h.size (and_parts _ _ e).1

pub loads_sized : (headers : List ProgramHeader) → All (λ h. 0 < h.size) (filter is_loadable headers)
loads_sized headers =
    All-weaker (λ h. is_loadable h ≡ true) (λ h. 0 < h.size) takes_memory (filter is_loadable headers)
    (filter_passes is_loadable headers)
