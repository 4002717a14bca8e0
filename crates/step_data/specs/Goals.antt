-- What is done with values that variables get.
use Rattle.std.specs.Prelude.{List, [], ◌∷◌, ◌++◌, map, Option, Some, None}
use Rattle.std.specs.Borrow.{Bor}
use Rattle.std.specs.Prelude.{Box}
use Rattle.std.specs.declared.alloc.Global.{Global}
use Rattle.vdm_kinds.specs.declared.place.Place.{Place}
use Rattle.vdm_kinds.specs.declared.run_fault.RunFault.TheVariants.{Undefined}
use Rattle.abstract_syntax.specs.Classes.{SpecTree}
use Rattle.abstract_syntax.specs.Expressions.{ExprTree}
use Rattle.abstract_syntax.specs.Statements.{TargetStepTree}
use Rattle.abstract_syntax.specs.Values.{ValueTree}
use Rattle.run_journal.specs.declared.answer.Answer.{Answer}
use Rattle.type_tree.specs.TypeView.{type_view}
use Rattle.expr_tree.specs.View.{boxed_view}
use Rattle.expr_tree.specs.declared.expr.Expr.{Expr}
use Rattle.vdm_tree.specs.StmtView.{target_step_view, assignment_view}
use Rattle.node_meaning.specs.Envs.{Here as MeantHere, Locals}
use Rattle.node_meaning.specs.Matching.{exprs_of}
use Rattle.node_meaning.specs.Needs.{slot_in}
use Rattle.node_meaning.specs.Strict.{with_others}
use Rattle.node_meaning.specs.Tasks.{Flow as MeantFlow, gave, Code, fault, with_value}
use Rattle.stmt_meaning.specs.Targets.{Goal as MeantGoal, to_local, to_variable, indices, changed_by, goal_typed, changed_typed, goal_changed, stored, write_of, object_of_first, together}
use Rattle.eval_data.specs.Parts.{here_of}
use Rattle.step_data.specs.declared.assigning.Assigning.{Assigning}
use Rattle.step_data.specs.declared.assigning.Kept.{Kept}
use Rattle.step_data.specs.declared.assigning.Kept.TheVariants.{Stored, Joined}
use Rattle.step_data.specs.declared.goal.Goal.{Goal}
use Rattle.step_data.specs.declared.goal.Goal.TheVariants.{Local, Variable}

abbrev pub goal_view : Goal → MeantGoal
goal_view (Local name t) = to_local name (type_view t.now)
goal_view (Variable me var t) = to_variable me var (type_view t.now)

-- what is done with the value that a goal gets
abbrev pub kept_then : SpecTree → MeantHere → Place → MeantGoal → Kept → ValueTree → Locals → Code
kept_then spec here place goal Stored v locals = stored place goal v locals
kept_then spec here place (to_variable me var t) (Joined object pairs left) v locals =
    together spec here place (map assignment_view left.now) (object_of_first object me) (pairs.items ++ write_of var v ∷ []) locals
kept_then spec here place (to_local name t) (Joined object pairs left) v locals = fault Undefined place

abbrev pub steps_of : Assigning → List TargetStepTree
steps_of a = map target_step_view a.steps.now

abbrev pub kept_with : SpecTree → Assigning → ValueTree → Locals → Code
kept_with spec a = kept_then spec (here_of a.here) a.place (goal_view a.goal) a.kept

-- the expression for the value, while it is still to come
abbrev pub value_left : Option (Bor (Box Expr Global)) → List ExprTree
value_left None = []
value_left (Some value) = boxed_view value.now ∷ []

abbrev pub exprs_left : Assigning → List ExprTree
exprs_left a = indices (map target_step_view a.left.now) ++ value_left a.value

-- an index came, or the value for the part
abbrev pub index_then : SpecTree → Assigning → MeantFlow → Code
index_then spec a =
    with_value a.place
    (with_others (here_of a.here) a.place (exprs_of (exprs_left a)) a.done.items
    (goal_changed spec (here_of a.here) a.place (goal_view a.goal) (steps_of a) (kept_with spec a)))

-- the value of a whole variable came
abbrev pub join_then : SpecTree → Assigning → MeantFlow → Code
join_then spec a = with_value a.place (goal_typed spec (here_of a.here) a.place (goal_view a.goal) (kept_with spec a))

-- the old value was read
abbrev pub old_changed : SpecTree → Assigning → ValueTree → Locals → Code
old_changed spec a old =
    changed_typed spec (here_of a.here) a.place (goal_view a.goal) (kept_with spec a) (changed_by spec (steps_of a) a.done.items old)

abbrev pub old_answered : SpecTree → Assigning → Locals → Answer → Code
old_answered spec a locals answer = with_value a.place (old_changed spec a) (gave (slot_in answer) locals)
