-- Texts that are gathered in a buffer, and poured out piece by piece.
use Rattle.std.proofs.Common.{◌≡◌, ℕ, inl, inr, List, [], ◌++◌, take, Option, refl, sym, ap, subst, ◌∙◌}
use Rattle.std.proofs.Common.{append_assoc, append-nil}
use Rattle.std.specs.Io.KnownBytes.{Appends}
use Rattle.std.proofs.KnownBytes.{Appends-nil, Appends-trans}
use Rattle.tandem_base.specs.Puts.{Puts}
use Rattle.text_runs.specs.Written.{Pours, TakesFront}
use Rattle.text_runs.proofs.Fronts.{front_then}

-- a sink took the first bytes of the text, and the others stand at the front of the buffer
pub record Gathers (old new : Option (List ℕ)) (buffer : List ℕ) (used : ℕ) (text : List ℕ) : Type 0 where
  pub put : List ℕ
  pub written : Appends old new put
  pub is : put ++ take used buffer ≡ text

-- no text
pub gathers_none : (old : Option (List ℕ)) (buffer : List ℕ) → Gathers old old buffer 0 []
gathers_none old buffer = record { put = []; written = Appends-nil old; is = refl }

-- one text more
pub gathers_more : {old new : Option (List ℕ)} {buffer buffer' text more : List ℕ} {used end : ℕ}
    → Gathers old new buffer used text → Puts used buffer end buffer' more → Gathers old new buffer' end (text ++ more)
gathers_more {buffer = buffer} {more = more} {used = used} p q = record {
  put = p.put;
  written = p.written;
  is = ap (λ (l : List ℕ). p.put ++ l) q.front ∙ sym (append_assoc p.put (take used buffer) more)
      ∙ ap (λ (l : List ℕ). l ++ more) p.is;
}

-- after a piece was poured out, or none
pub gathers_poured : {old mid new : Option (List ℕ)} {buffer text : List ℕ} {used left : ℕ}
    → Gathers old mid buffer used text → Pours mid new buffer used left → Gathers old new buffer left text
gathers_poured {old} {mid} {new} {buffer} {text} {used} {left} p (inl none) = record {
  put = p.put ++ [];
  written = Appends-trans old mid new p.put [] p.written none.1;
  is = ap (λ (l : List ℕ). l ++ take left buffer) (append-nil p.put)
      ∙ ap (λ (n : ℕ). p.put ++ take n buffer) none.0 ∙ p.is;
}
gathers_poured {old} {mid} {new} {buffer} {text} {used} {left} p (inr all) = record {
  put = p.put ++ take used buffer;
  written = Appends-trans old mid new p.put (take used buffer) p.written all.1;
  is = ap (λ (n : ℕ). (p.put ++ take used buffer) ++ take n buffer) all.0
      ∙ append-nil (p.put ++ take used buffer) ∙ p.is;
}

-- after all was poured out
pub gathers_all : {old mid : Option (List ℕ)} {buffer text : List ℕ} {used : ℕ} (new : Option (List ℕ))
    → Gathers old mid buffer used text → Appends mid new (take used buffer) → Appends old new text
gathers_all {old} {mid} {buffer} {text} {used} new p took =
    subst (λ (l : List ℕ). Appends old new l) p.is
    (Appends-trans old mid new p.put (take used buffer) p.written took)

-- after a front of what stands there was poured out
pub gathers_front : {old mid new : Option (List ℕ)} {buffer text : List ℕ} {used : ℕ}
    → Gathers old mid buffer used text → TakesFront mid new (take used buffer) → TakesFront old new text
gathers_front {old} {mid} {new} {buffer} {text} {used} p front =
    subst (λ (l : List ℕ). TakesFront old new l) p.is (front_then p.put p.written front)
