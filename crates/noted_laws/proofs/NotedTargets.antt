-- Assignments: a thread asks for them by questions that entries answer.
use Rattle.std.proofs.Common.{◌∷◌, ◌++◌, [], Option, Some, None, List, Ok, Err, ℕ}
use Rattle.vdm_kinds.specs.declared.place.Place.{Place}
use Rattle.vdm_values.specs.declared.slot.Slot.{Slot}
use Rattle.abstract_syntax.specs.Values.{ValueTree}
use Rattle.abstract_syntax.specs.Expressions.{ExprTree}
use Rattle.abstract_syntax.specs.Statements.{AssignmentTree, TargetStepTree}
use Rattle.abstract_syntax.specs.Classes.{SpecTree}
use Rattle.run_journal.specs.declared.answer.Answer.{Answer}
use Rattle.run_journal.specs.declared.answer.Answer.TheVariants.{Refused}
use Rattle.run_journal.specs.declared.write.Write.{Write as Pair}
use Rattle.value_operators.specs.Outcomes.{Outcome}
use Rattle.stmt_meaning.specs.Targets.{Goal, to_local, to_variable, goal_of, target_steps, indices, changed_by, goal_typed, local_read, goal_read, changed_typed, goal_changed, goal_given, written, write_of, stored, assigned, written_together, joined_goal, object_of_first, together}
use Rattle.node_meaning.specs.Envs.{Locals, no_nest, Here, local_named}
use Rattle.node_meaning.specs.Matching.{exprs_of}
use Rattle.node_meaning.specs.Needs.{slot_in}
use Rattle.node_meaning.specs.Tasks.{gave, Code}
use Rattle.noted_laws.proofs.Noting.{Notes, Onward, OnwardWith, notes-collected, notes-evaluated, notes-typed, notes-with_value}

module _ (spec : SpecTree) (here : Here) (place : Place) where
  notes-written : (locals : Locals) (answer : Answer) → Notes (written place locals answer)
  notes-written locals Refused = tt
  notes-written locals _ = tt

  notes-stored : (goal : Goal) → OnwardWith (stored place goal)
  notes-stored (to_local name t) v locals = tt
  notes-stored (to_variable me var t) v locals = (tt, notes-written locals)

  -- ---- the value that it gets

  module _ (goal : Goal) (further : ValueTree → Locals → Code) (h : OnwardWith further) where
    notes-goal_typed : OnwardWith (goal_typed spec here place goal further)
    notes-goal_typed = by goal
      where
        by : (each : Goal) → OnwardWith (goal_typed spec here place each further)
        by (to_local name t) = notes-typed spec no_nest here.scope t place further h
        by (to_variable me var t) = notes-typed spec no_nest (Some var.class) t place further h

    notes-changed_typed : (changed : Outcome) → Onward (changed_typed spec here place goal further changed)
    notes-changed_typed (Ok v) locals = notes-goal_typed v locals
    notes-changed_typed (Err kind) locals = tt

  notes-local_read : (further : ValueTree → Locals → Code) → OnwardWith further → (found : Option Slot) → Onward (local_read place further found)
  notes-local_read further h None locals = tt
  notes-local_read further h (Some slot) locals = notes-with_value place further h (gave slot locals)

  notes-goal_read : (goal : Goal) (further : ValueTree → Locals → Code) → OnwardWith further → Onward (goal_read place goal further)
  notes-goal_read (to_local name t) further h locals = notes-local_read further h (local_named locals name) locals
  notes-goal_read (to_variable me var t) further h locals = (tt, λ answer. notes-with_value place further h (gave (slot_in answer) locals))

  notes-goal_changed : (goal : Goal) (steps : List TargetStepTree) (further : ValueTree → Locals → Code) → OnwardWith further → OnwardWith (goal_changed spec here place goal steps further)
  notes-goal_changed goal steps further h vs locals =
      notes-goal_read goal (λ old. changed_typed spec here place goal further (changed_by spec steps vs old))
      (λ old. notes-changed_typed goal further h (changed_by spec steps vs old)) locals

  notes-goal_given : (goal : Goal) (steps : List TargetStepTree) (tree : ExprTree) (further : ValueTree → Locals → Code) → OnwardWith further → Onward (goal_given spec here place goal steps tree further)
  notes-goal_given goal [] tree further h locals =
      notes-evaluated here locals tree place (goal_typed spec here place goal further) (notes-goal_typed goal further h)
  notes-goal_given goal (step ∷ steps) tree further h locals =
      notes-collected here place (exprs_of (indices (step ∷ steps) ++ tree ∷ [])) [] (goal_changed spec here place goal (step ∷ steps) further)
      (notes-goal_changed goal (step ∷ steps) further h) locals

  pub notes-assigned : (goal : Option Goal) (steps : List TargetStepTree) (tree : ExprTree) → Onward (assigned spec here place goal steps tree)
  notes-assigned None steps tree locals = tt
  notes-assigned (Some goal) steps tree locals = notes-goal_given goal steps tree (stored place goal) (notes-stored goal) locals

  -- ---- several at once

  notes-written_together : (object : Option ℕ) (pairs : List Pair) → Onward (written_together place object pairs)
  notes-written_together None pairs locals = tt
  notes-written_together (Some me) pairs locals = (tt, notes-written locals)

  notes-joined_goal : (goal : Option Goal) (steps : List TargetStepTree) (tree : ExprTree) (further : ℕ → Pair → Locals → Code) → ((me : ℕ) → OnwardWith (further me)) → Onward (joined_goal spec here place goal steps tree further)
  notes-joined_goal (Some (to_variable me var t)) steps tree further h locals =
      notes-goal_given (to_variable me var t) steps tree (λ v. further me (write_of var v)) (λ v. h me (write_of var v)) locals
  notes-joined_goal _ steps tree further h locals = tt

  pub notes-together : (assignments : List AssignmentTree) (object : Option ℕ) (pairs : List Pair) → Onward (together spec here place assignments object pairs)
  notes-together [] object pairs locals = notes-written_together object pairs locals
  notes-together (a ∷ assignments) object pairs locals =
      notes-joined_goal (goal_of spec here [] a.target) (target_steps a.target) a.value (λ me pair. together spec here place assignments (object_of_first object me) (pairs ++ pair ∷ []))
      (λ me pair. notes-together assignments (object_of_first object me) (pairs ++ pair ∷ [])) locals
