-- Calls of what is known at once, and of what is applied: their arguments come next.
use Rattle.std.specs.Prelude.{◌≡◌, ℕ, suc, false, List, [], ◌∷◌, length}
use Rattle.std.specs.Borrow.{Bor}
use Rattle.std.specs.declared.alloc.Global.{Global}
use Rattle.std.specs.declared.boxed.Box.{Box}
use Rattle.std.proofs.Common.{refl, ap, sym}
use Rattle.vdm_kinds.specs.declared.name.Name.{Name}
use Rattle.vdm_kinds.specs.declared.name_at.TypeName.{TypeName}
use Rattle.vdm_kinds.specs.declared.place.Place.{Place}
use Rattle.abstract_syntax.specs.Classes.{SpecTree}
use Rattle.abstract_syntax.specs.Expressions.{ExprTree, apply, create, expr_place, make_record, named, qualified, select, select_of_class}
use Rattle.expr_tree.specs.View.{expr_trees, views_of}
use Rattle.expr_tree.specs.declared.expr.Expr.{Expr}
use Rattle.class_checks.specs.Callees.{created_callee}
use Rattle.class_checks.specs.Expressions.{applied, check, expr_count, listed, record_callee}
use Rattle.class_checks.specs.Results.{Checked, after}
use Rattle.class_checks.specs.Scopes.{ScopeTree}
use Rattle.class_checks.specs.Shapes.{ShapeTree}
use Rattle.check_steps.specs.Below.check_scopes.specs.Told.{spec_in}
use Rattle.check_steps.specs.Below.check_scopes.specs.declared.setting.Setting.{Setting}
use Rattle.check_steps.specs.Below.check_frames.specs.Meant.{boxed, called_with, target_check, target_of_class_check, value_applied, value_behind}
use Rattle.check_steps.specs.Below.check_frames.specs.declared.rest.Rest.TheVariants.{Items}
use Rattle.check_steps.specs.Below.check_frames.specs.declared.way.Way.TheVariants.{Applied}
use Rattle.check_called.specs.Heads.{head_applied, is_by_name}
use Rattle.check_called.specs.declared.head.Head.TheVariants.{Select, SelectOfClass, Other}

counted : (es : List Expr) → expr_count (expr_trees (views_of es)) ≡ length es
counted [] = refl
counted (e ∷ es) = ap suc (counted es)

module _ (setting : Setting) (scope : ScopeTree) where
  pub record_begun : (t : TypeName) (fields : Bor (List Expr)) (place : Place)
      → check (spec_in setting) scope (make_record t (expr_trees (views_of fields.now)) place)
      ≡ called_with setting scope (Items fields) (record_callee (spec_in setting) scope t (length fields.now) place)
  unfolding check
  record_begun t fields place =
      ap (λ (n : ℕ). called_with setting scope (Items fields) (record_callee (spec_in setting) scope t n place)) (counted fields.now)

  pub create_begun : (class : Name) (class_place : Place) (arguments : Bor (List Expr)) (place : Place)
      → check (spec_in setting) scope (create class class_place (expr_trees (views_of arguments.now)) place)
      ≡ called_with setting scope (Items arguments) (created_callee (spec_in setting) scope class_place place (length arguments.now) class)
  unfolding check
  create_begun class class_place arguments place =
      ap (λ (n : ℕ). called_with setting scope (Items arguments) (created_callee (spec_in setting) scope class_place place n class))
      (counted arguments.now)

  pub apply_begun : (head : ExprTree) (arguments : Bor (List Expr)) (place : Place)
      → check (spec_in setting) scope (apply head (expr_trees (views_of arguments.now)) place)
      ≡ applied (spec_in setting) scope head (check (spec_in setting) scope head) (length arguments.now) place
      (λ (shape : ShapeTree). listed (spec_in setting) scope shape [] (expr_trees (views_of arguments.now)))
  unfolding check
  apply_begun head arguments place =
      ap (λ (n : ℕ).
      applied (spec_in setting) scope head (check (spec_in setting) scope head) n place
      (λ (shape : ShapeTree). listed (spec_in setting) scope shape [] (expr_trees (views_of arguments.now))))
      (counted arguments.now)

  pub value_at : (head : ExprTree) (arguments : Bor (List Expr)) (head_place place : Place) → head_place ≡ expr_place head
      → value_applied setting scope head arguments place
      ≡ after (check (spec_in setting) scope head) (value_behind setting scope head_place arguments place)
  unfolding value_applied
  value_at head arguments head_place place is =
      ap (λ (p : Place). after (check (spec_in setting) scope head) (value_behind setting scope p arguments place)) (sym is)

  -- the arguments, whatever shape they have
  abbrev pub given_arguments : Bor (List Expr) → ShapeTree → Checked
  given_arguments arguments shape = listed (spec_in setting) scope shape [] (expr_trees (views_of arguments.now))

  pub select_applied : (target : Bor (Box Expr Global)) (name : Name) (name_place dot head_place : Place) (whole : Checked)
      (arguments : Bor (List Expr)) (place : Place)
      → head_applied (spec_in setting) scope (Select target name name_place dot) head_place whole (length arguments.now) place (given_arguments arguments)
      ≡ after (check (spec_in setting) scope (boxed target))
      (target_check setting scope (expr_place (boxed target)) name name_place (Applied dot arguments place))
  unfolding target_check
  select_applied target name name_place dot head_place whole arguments place = refl

  pub select_of_class_applied : (target : Bor (Box Expr Global)) (class : Name) (class_place : Place) (name : Name) (name_place dot head_place : Place)
      (whole : Checked) (arguments : Bor (List Expr)) (place : Place)
      → head_applied (spec_in setting) scope (SelectOfClass target class class_place name name_place dot) head_place whole (length arguments.now) place
      (given_arguments arguments)
      ≡ after (check (spec_in setting) scope (boxed target))
      (target_of_class_check setting scope (expr_place (boxed target)) class class_place name name_place (Applied dot arguments place))
  unfolding target_of_class_check
  select_of_class_applied target class class_place name name_place dot head_place whole arguments place = refl

  pub other_applied : (head : ExprTree) (arguments : Bor (List Expr)) (place : Place)
      → head_applied (spec_in setting) scope Other (expr_place head) (check (spec_in setting) scope head) (length arguments.now) place (given_arguments arguments)
      ≡ value_applied setting scope head arguments place
  unfolding value_applied
  other_applied head arguments place = refl

-- what is found by its value
pub other_begun : (spec : SpecTree) (scope : ScopeTree) (t : ExprTree) (whole : Checked) (n : ℕ) (place : Place) (arguments : ShapeTree → Checked)
    → is_by_name t ≡ false → applied spec scope t whole n place arguments ≡ head_applied spec scope Other (expr_place t) whole n place arguments
unfolding applied
other_begun spec scope (named name name_place) whole n place arguments is = absurd (cc)
other_begun spec scope (qualified class name name_place head_place) whole n place arguments is = absurd (cc)
other_begun spec scope (select target name name_place dot) whole n place arguments is = absurd (cc)
other_begun spec scope (select_of_class target class class_place name name_place dot) whole n place arguments is = absurd (cc)
other_begun spec scope t whole n place arguments is = refl
