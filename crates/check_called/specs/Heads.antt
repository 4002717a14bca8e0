-- What stands before the arguments of an application.
use Rattle.std.specs.Prelude.{ℕ, Bool, true, false}
use Rattle.abstract_syntax.specs.Expressions.{ExprTree, expr_place, named, qualified, select, select_of_class}
use Rattle.vdm_kinds.specs.declared.place.Place.{Place}
use Rattle.class_checks.specs.Callees.{is_applied, value_callee, named_callee, qualified_callee, selected_callee, selected_of_class}
use Rattle.class_checks.specs.Expressions.{check, called_by}
use Rattle.class_checks.specs.Results.{Checked, after}
use Rattle.class_checks.specs.Scopes.{ScopeTree}
use Rattle.class_checks.specs.Shapes.{ShapeTree}
use Rattle.abstract_syntax.specs.Classes.{SpecTree}
use Rattle.form_meaning.specs.Forms.{FormTree}
use Rattle.std.specs.Prelude.{[]}
use Rattle.expr_tree.specs.View.{view_of}
use Rattle.check_called.specs.declared.head.Head.{Head}
use Rattle.check_called.specs.declared.head.Head.TheVariants.{Name, Qualified, Select, SelectOfClass, Other}

-- whether what is applied is found by its name, and not by its value
abbrev pub is_by_name : ExprTree → Bool
is_by_name (named name place) = true
is_by_name (qualified class name name_place place) = true
is_by_name (select target name name_place place) = true
is_by_name (select_of_class target class class_place name name_place place) = true
is_by_name _ = false

module _ (spec : SpecTree) where
  -- as `applied`, by what kind of head stands there; `place_of` is its place, where it is of no such kind
  abbrev pub head_applied : ScopeTree → Head → Place → Checked → ℕ → Place → (ShapeTree → Checked) → Checked
  head_applied scope (Name name name_place) head_place whole n place arguments =
      called_by spec (named_callee spec scope name name_place n place) arguments
  head_applied scope (Qualified class name name_place class_place) head_place whole n place arguments =
      called_by spec (qualified_callee spec scope class name name_place class_place n place) arguments
  head_applied scope (Select target name name_place dot) head_place whole n place arguments =
      after (check spec scope (view_of target.now.value)) (λ (form : FormTree).
      called_by spec (selected_callee spec scope (is_applied dot n place) (expr_place (view_of target.now.value)) name name_place form) arguments)
  head_applied scope (SelectOfClass target class class_place name name_place dot) head_place whole n place arguments =
      after (check spec scope (view_of target.now.value)) (λ (form : FormTree).
      called_by spec
      (selected_of_class spec scope (is_applied dot n place) (expr_place (view_of target.now.value)) class class_place name name_place form)
      arguments)
  head_applied scope Other head_place whole n place arguments = after whole (λ (form : FormTree).
      called_by spec (value_callee spec [] form head_place n place) arguments)
