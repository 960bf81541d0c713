-- What decoding a text of digits tells.
use Rattle.std.proofs.Common.{◌≡◌, ℕ, Bool, true, false, if◌then◌else◌, List, Some, None, Result, Ok, Err}
use Rattle.std.proofs.Common.{refl, ◌∙◌, ap}
use Rattle.std.specs.Prelude.{MatchOption, MatchResult}
use Rattle.hex.specs.Hex.{encode_lower, decode_sized}
use Rattle.hex.specs.declared.error.FromHexError.{FromHexError}
use Rattle.trace_text.specs.Values.{is_text, if_written, bytes_in}

written_told : (text new bytes : List ℕ) (b t : Bool) → is_text text (encode_lower bytes) ≡ t
    → b ≡ is_text text (encode_lower new) → new ≡ bytes
    → MatchOption (if t then Some bytes else None) (b ≡ false) (λ found. (b ≡ true) × (new ≡ found))
written_told text new bytes b true p e same = (e ∙ ap (λ l. is_text text (encode_lower l)) same ∙ p, same)
written_told text new bytes b false p e same = e ∙ ap (λ l. is_text text (encode_lower l)) same ∙ p

-- the text was decoded, and compared with how its bytes are written
pub read_ok : (text new : List ℕ) (count : ℕ) (r : Result (Unit {0}) FromHexError) (b : Bool)
    → MatchResult (decode_sized text count) (λ bytes. (r ≡ Ok tt) × (new ≡ bytes)) (λ e. r ≡ Err e) → r ≡ Ok tt
    → b ≡ is_text text (encode_lower new)
    → MatchOption (bytes_in count text) (b ≡ false) (λ bytes. (b ≡ true) × (new ≡ bytes))
unfolding bytes_in
read_ok text new count r b tells ok e = told (decode_sized text count) tells
  where
    told : (d : Result (List ℕ) FromHexError) → MatchResult d (λ bytes. (r ≡ Ok tt) × (new ≡ bytes)) (λ e. r ≡ Err e)
        → MatchOption (if_written text d) (b ≡ false) (λ bytes. (b ≡ true) × (new ≡ bytes))
    told (Ok bytes) h = written_told text new bytes b (is_text text (encode_lower bytes)) refl e h.1
    told (Err broken) h = cc

-- the text was not decoded
pub read_err : (text new : List ℕ) (count : ℕ) (r : Result (Unit {0}) FromHexError) {broken : FromHexError}
    → MatchResult (decode_sized text count) (λ bytes. (r ≡ Ok tt) × (new ≡ bytes)) (λ e. r ≡ Err e) → r ≡ Err broken
    → MatchOption (bytes_in count text) (false ≡ false) (λ bytes. (false ≡ true) × (new ≡ bytes))
unfolding bytes_in
read_err text new count r {broken} tells err = told (decode_sized text count) tells
  where
    told : (d : Result (List ℕ) FromHexError) → MatchResult d (λ bytes. (r ≡ Ok tt) × (new ≡ bytes)) (λ e. r ≡ Err e)
        → MatchOption (if_written text d) (false ≡ false) (λ bytes. (false ≡ true) × (new ≡ bytes))
    told (Ok bytes) h = cc
    told (Err other) h = refl
