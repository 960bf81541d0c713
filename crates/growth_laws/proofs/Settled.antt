-- A settled source stays under all growths.
use Rattle.std.proofs.Common.{ℕ, ◌≡◌, inl, inr, Option, Some, None, refl, subst, ◌∙◌}
use Rattle.std.proofs.lemmas.Bool.{and_parts}
use Rattle.std.specs.List.{Contains}
use Rattle.rvwmo_model.specs.declared.operations.Op.{Op}
use Rattle.rvwmo_model.specs.declared.traces.Trace.{Trace}
use Rattle.rvwmo_model.specs.Order.{op_loads, has_byte}
use Rattle.rvwmo_model.specs.Sources.{source}
use Rattle.rvwmo_model.specs.InForm.{IsPlaced}
use Rattle.growth_laws.specs.Writers.{SameSource}
use Rattle.growth_laws.specs.Laws.{IsSettled, source_place, SourceStays, SettledSources}
use Rattle.growth_laws.proofs.Places.{not_both}
use Rattle.growth_laws.proofs.Facts.{load_placed}
use Rattle.growth_laws.proofs.Sources.{source_moves, same_origin}
use Rattle.growth_laws.proofs.Links.{Link, Chain, none, then}
use Rattle.growth_laws.proofs.Lawful.{same_given}
use Rattle.growth_laws.proofs.Chains.{chain_stays}
use Rattle.growth_laws.proofs.Growths.{grows_chain}

same_place : (t t' : Trace) (x : ℕ) (o n : Option Op) → IsSettled o → SameSource t t' x o n
    → source_place n ≡ source_place o
same_place t t' x None None d h = refl
same_place t t' x (Some s) (Some n) d h = elim h.becomes.place [ inl e ↦ e | inr m ↦ absurd (not_both s d m.0) ]
same_place t t' x None (Some n) d h = absurd h
same_place t t' x (Some s) None d h = absurd h

settled_by : (t t' : Trace) (x : ℕ) (o n : Option Op) → IsSettled o → SameSource t t' x o n → IsSettled n
settled_by t t' x None None d h = tt
settled_by t t' x (Some s) (Some n) d h = (d.0, same_place t t' x (Some s) (Some n) d h ∙ d.1)
settled_by t t' x None (Some n) d h = absurd h
settled_by t t' x (Some s) None d h = absurd h

-- one step: the same source, settled still
step_settled : (t t' : Trace) (i : Op) (x : ℕ) → Link t t' → Contains t.ops i → IsPlaced i → IsSettled (source t i x)
    → SourceStays t t' i x × IsSettled (source t' i x)
step_settled t t' i x g h p d =
    elim (source_moves t t' x i g.before g.after (g.writers x) h (g.operations.stays i h p) p) [
      | inr m ↦ absurd (not_both m.0 (subst IsSettled m.1 d) m.2)
      | inl s ↦ (
        record {
          store = same_origin t t' x (source t i x) (source t' i x) s;
          place = same_place t t' x (source t i x) (source t' i x) d s;
          byte = λ initial. same_given initial t t' x (source t i x) (source t' i x) s;
        },
        settled_by t t' x (source t i x) (source t' i x) d s,
      )
    ]

chain_settled : (t v : Trace) (i : Op) (x : ℕ) → Chain t v → Contains t.ops i → IsPlaced i → IsSettled (source t i x)
    → SourceStays t v i x × IsSettled (source v i x)
chain_settled _ _ i x (none t) h p d = (record { store = refl; place = refl; byte = λ initial. refl }, d)
chain_settled _ _ i x (then t u v c g) h p d =
    let a = chain_settled t u i x c h p d in
    let b = step_settled u v i x g (chain_stays t u i c h p) p a.1 in (
      record {
        store = b.0.store ∙ a.0.store;
        place = b.0.place ∙ a.0.place;
        byte = λ initial. b.0.byte initial
            ∙ a.0.byte initial;
      },
      b.1,
    )

pub settled_sources : SettledSources
settled_sources t t' i x k g h q d =
    (chain_settled t t' i x (grows_chain t t' k g) h
    (load_placed t i k h (and_parts (op_loads i) (has_byte x i) q).0) d).0
