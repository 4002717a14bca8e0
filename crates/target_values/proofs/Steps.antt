-- What is given of steps one by one is given of them together.
use Rattle.std.proofs.Common.{◌≡◌, true, false, nat_eq, List, [], ◌∷◌, map, length, Result, ap, sym, ◌∙◌, subst, arith}
use Rattle.std.proofs.lemmas.Bool.Decides.{nat_tests}
use Rattle.std.specs.List.Sorted.{IsStrictlySortedBy}
use Rattle.vdm_kinds.specs.declared.halt.Halt.{Halt}
use Rattle.vdm_kinds.specs.declared.operator.Operator.TheVariants.{LookUp}
use Rattle.vdm_kinds.specs.declared.run_fault.RunFault.{RunFault}
use Rattle.abstract_syntax.specs.Classes.{SpecTree}
use Rattle.abstract_syntax.specs.Statements.{TargetStepTree}
use Rattle.abstract_syntax.specs.Values.{ValueTree}
use Rattle.abstract_syntax.specs.ValueSets.{key_order}
use Rattle.value_operators.specs.Operators.{applied_two}
use Rattle.value_operators.specs.Outcomes.{Outcome, Gives}
use Rattle.vdm_tree.specs.declared.target.TargetStep.{TargetStep}
use Rattle.vdm_tree.specs.StmtView.{target_step_view}
use Rattle.stmt_meaning.specs.Targets.{and_then, changed_by, stepped_into}

-- where one outcome is another, what gives the one gives the other
pub moved : (r : Result ValueTree (Halt RunFault)) (a b : Outcome) → a ≡ b → Gives r a → Gives r b
moved r a b e h = subst (Gives r) e h

module _ (r : Result ValueTree (Halt RunFault)) (spec : SpecTree) (vs : List ValueTree) (old : ValueTree) where
  -- no step is left
  pub at_last : (steps : List TargetStep) → length steps ≡ 0 → Gives r (changed_by spec [] vs old) → Gives r (changed_by spec (map target_step_view steps) vs old)
  at_last [] e h = h
  at_last (step ∷ steps) e h = absurd (omega arith)

  -- of the first of the steps and the others
  pub at_first : (steps others : List TargetStep) (step : TargetStep) (t : TargetStepTree) → steps ≡ step ∷ others → target_step_view step ≡ t →
      Gives r (changed_by spec (t ∷ map target_step_view others) vs old) → Gives r (changed_by spec (map target_step_view steps) vs old)
  at_first steps others step t e is h =
      moved r _ _ (ap (λ (ts : List TargetStepTree). changed_by spec ts vs old)
      (ap (λ (u : TargetStepTree). u ∷ map target_step_view others) (sym is) ∙ ap (map target_step_view) (sym e))) h

  -- nothing has to stand at the index
  pub into_none : (index : ValueTree) (steps : List TargetStep) → nat_eq (length steps) 0 ≡ true → Gives r (changed_by spec [] vs old) →
      Gives r (and_then (stepped_into (map target_step_view steps) old index) (changed_by spec (map target_step_view steps) vs))
  into_none index [] e h = h
  into_none index (step ∷ steps) e h = absurd (grind (arith, nat_tests))

  -- what stands there is looked up
  pub into_some : (index : ValueTree) (steps : List TargetStep) → nat_eq (length steps) 0 ≡ false →
      Gives r (and_then (applied_two LookUp old index) (changed_by spec (map target_step_view steps) vs)) →
      Gives r (and_then (stepped_into (map target_step_view steps) old index) (changed_by spec (map target_step_view steps) vs))
  into_some index [] e h = absurd (grind (arith, nat_tests))
  into_some index (step ∷ steps) e h = h

-- a map of one pair
pub pair_rises : (p : ValueTree × ValueTree) → IsStrictlySortedBy key_order (p ∷ [])
unfolding IsStrictlySortedBy
pair_rises p = (tt, tt)
