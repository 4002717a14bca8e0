-- Texts are accepted or refused.
use Rattle.std.proofs.Common.{◌≡◌, ℕ, ◌⊎◌, inl, inr, List, Some, Ok, Err, refl, ap, ◌∙◌}
use Rattle.vdm_kinds.specs.declared.spec_fault.SpecFault.{SpecFault}
use Rattle.abstract_syntax.specs.Expressions.{ExprTree}
use Rattle.abstract_syntax.specs.Classes.{SpecTree}
use Rattle.text_phases.specs.Phases.{Read, read_spec, read_expr, refusal_in, refusal_behind, spec_refusal, first_refusal, IsChecked, IsAccepted}

-- what was read, or the fault
read_or_fault : {T : Type 0} (read : Read T) → ((names : List (List ℕ)) × (tree : T) × (read ≡ Ok (names, tree))) ⊎ ((fault : SpecFault) × (read ≡ Err fault))
read_or_fault (Ok read) = inl (read.0, read.1, refl)
read_or_fault (Err fault) = inr (fault, refl)

pub specification_decided : (spec : List ℕ) → ((tree : SpecTree) × IsChecked spec tree) ⊎ ((fault : SpecFault) × (spec_refusal spec ≡ Some fault))
specification_decided spec =
    elim (read_or_fault (read_spec spec)) [
      | inl s ↦ inl (s.1, record { names = s.0; specification = s.2 })
      | inr told ↦ inr (told.0, ap refusal_in told.1)
    ]

pub answer_decided : (spec text : List ℕ)
    → ((names : List (List ℕ)) × (tree : SpecTree) × (expression : ExprTree) × IsAccepted spec text names tree expression)
    ⊎ ((fault : SpecFault) × (first_refusal spec text ≡ Some fault))
answer_decided spec text =
    elim (read_or_fault (read_spec spec)) [
      | inr told ↦ inr (told.0, ap (λ (read : Read SpecTree). refusal_behind read text) told.1)
      | inl s ↦ elim (read_or_fault (read_expr s.0 s.1 text)) [
        | inl e ↦ inl (e.0, s.1, e.1, record { first = s.0; specification = s.2; expression_tree = e.2 })
        | inr told ↦ inr (told.0, ap (λ (read : Read SpecTree). refusal_behind read text) s.2 ∙ ap refusal_in told.1)
      ]
    ]

-- what refuses the specification refuses both texts
refused_first : (read : Read SpecTree) (text : List ℕ) (fault : SpecFault) → refusal_in read ≡ Some fault → refusal_behind read text ≡ Some fault
refused_first (Ok read) text fault e = absurd (cc)
refused_first (Err told) text fault e = e

pub specification_first : (spec text : List ℕ) (fault : SpecFault) → spec_refusal spec ≡ Some fault → first_refusal spec text ≡ Some fault
specification_first spec text fault e = refused_first (read_spec spec) text fault e
