-- Variables of which a part is changed: what they have is read first.
use Rattle.std.proofs.Common.{◌≡◌, ℕ, ap, sym}
use Rattle.std.specs.Borrow.{Bor}
use Rattle.vdm_kinds.specs.declared.member.VarRef.{VarRef}
use Rattle.vdm_kinds.specs.declared.name.Name.{Name}
use Rattle.abstract_syntax.specs.Classes.{SpecTree}
use Rattle.type_tree.specs.TypeView.{type_view}
use Rattle.type_tree.specs.declared.type_expr.TypeExpr.{TypeExpr}
use Rattle.node_meaning.specs.Envs.{Locals, local_named}
use Rattle.node_meaning.specs.Tasks.{Code}
use Rattle.stmt_meaning.specs.Targets.{goal_changed, goal_read, local_read, to_variable}
use Rattle.eval_data.specs.Parts.{here_of}
use Rattle.step_data.specs.declared.assigning.Assigning.{Assigning}
use Rattle.step_data.specs.declared.goal.Goal.{Goal}
use Rattle.step_data.specs.declared.goal.Goal.TheVariants.{Local, Variable}
use Rattle.step_data.specs.Goals.{goal_view, kept_with, old_changed, steps_of}

module _ (spec : SpecTree) (a : Assigning) (locals : Locals) where
  -- behind all indices and the value
  abbrev pub changed_part : Code
  changed_part = goal_changed spec (here_of a.here) a.place (goal_view a.goal) (steps_of a) (kept_with spec a) a.done.items locals

  pub of_local : (name : Name) (t : Bor TypeExpr) → a.goal ≡ Local name t → local_read a.place (old_changed spec a) (local_named locals name) locals ≡ changed_part
  of_local name t is = ap (λ (g : Goal). goal_read a.place (goal_view g) (old_changed spec a) locals) (sym is)

  pub of_variable : (me : ℕ) (var : VarRef) (t : Bor TypeExpr) → a.goal ≡ Variable me var t
      → goal_read a.place (to_variable me var (type_view t.now)) (old_changed spec a) locals ≡ changed_part
  of_variable me var t is = ap (λ (g : Goal). goal_read a.place (goal_view g) (old_changed spec a) locals) (sym is)
