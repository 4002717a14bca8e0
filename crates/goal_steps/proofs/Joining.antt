-- Assignments that are written together.
use Rattle.std.proofs.Common.{◌≡◌, ℕ, ◌≤◌, ◌-◌, ◌++◌, List, [], ◌∷◌, Option, Some, Vec, map, length, take, drop, get_or, ap, sym, ◌∙◌, arith}
use Rattle.std.proofs.lemmas.List.{take_rest}
use Rattle.std.specs.Borrow.{Bor}
use Rattle.std.specs.declared.alloc.Global.{Global}
use Rattle.vdm_kinds.specs.declared.member.VarRef.{VarRef}
use Rattle.vdm_kinds.specs.declared.place.Place.{Place}
use Rattle.abstract_syntax.specs.Classes.{SpecTree}
use Rattle.abstract_syntax.specs.Expressions.{ExprTree}
use Rattle.abstract_syntax.specs.Statements.{TargetStepTree}
use Rattle.run_journal.specs.declared.write.Write.{Write}
use Rattle.type_tree.specs.declared.type_expr.TypeExpr.{TypeExpr}
use Rattle.vdm_tree.specs.StmtView.{assignment_view}
use Rattle.vdm_tree.specs.declared.target.Assignment.{Assignment}
use Rattle.node_meaning.specs.Envs.{Here, Locals}
use Rattle.stmt_meaning.specs.Targets.{goal_given, joined_goal, object_of_first, together}
use Rattle.step_data.specs.declared.assigning.Kept.TheVariants.{Joined}
use Rattle.step_data.specs.declared.goal.Goal.{Goal}
use Rattle.step_data.specs.declared.goal.Goal.TheVariants.{Variable}
use Rattle.step_data.specs.Goals.{goal_view, kept_then}

-- a variable gets its value with the others
pub one_joined : (spec : SpecTree) (here : Here) (place : Place) (tree : ExprTree) (first : Option ℕ) (pairs : Vec Write Global) (left : Bor (List Assignment)) (locals : Locals)
    (goal : Goal) (me : ℕ) (var : VarRef) (t : Bor TypeExpr) (given steps : List TargetStepTree) → goal ≡ Variable me var t → given ≡ steps
    → goal_given spec here place (goal_view goal) given tree (kept_then spec here place (goal_view goal) (Joined first pairs left)) locals
    ≡ joined_goal spec here place (Some (goal_view goal)) steps tree
    (λ object pair. together spec here place (map assignment_view left.now) (object_of_first first object) (pairs.items ++ pair ∷ [])) locals
one_joined spec here place tree first pairs left locals goal me var t given steps is same =
    ap (λ (ss : List TargetStepTree). goal_given spec here place (goal_view goal) ss tree (kept_then spec here place (goal_view goal) (Joined first pairs left)) locals) same
    ∙ ap (λ (g : Goal). goal_given spec here place (goal_view g) steps tree (kept_then spec here place (goal_view g) (Joined first pairs left)) locals) is
    ∙ ap (λ (g : Goal). joined_goal spec here place (Some (goal_view g)) steps tree
    (λ object pair. together spec here place (map assignment_view left.now) (object_of_first first object) (pairs.items ++ pair ∷ [])) locals) (sym is)

-- the first of them, and those behind it
pub first_and_rest : (xs : List Assignment) (x : Assignment) → 1 ≤ length xs → x ≡ get_or xs 0 x → x ∷ take (length xs - 1) (drop 1 xs) ≡ xs
first_and_rest [] x some is = absurd (omega (arith, some))
first_and_rest (y ∷ ys) x some is = ap (λ (rest : List Assignment). x ∷ rest) (take_rest (y ∷ ys) 1) ∙ (λ i. is i ∷ ys)
