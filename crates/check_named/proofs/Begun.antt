-- The check of each kind of expression, by what comes first of it.
use Rattle.std.specs.Prelude.{◌≡◌, List, []}
use Rattle.std.specs.Borrow.{Bor}
use Rattle.std.specs.declared.alloc.Global.{Global}
use Rattle.std.specs.declared.boxed.Box.{Box}
use Rattle.std.proofs.Common.{refl}
use Rattle.vdm_kinds.specs.declared.counter.Counter.{Counter}
use Rattle.vdm_kinds.specs.declared.name.Name.{Name}
use Rattle.vdm_kinds.specs.declared.name_at.NameAt.{NameAt}
use Rattle.vdm_kinds.specs.declared.name_at.TypeName.{TypeName}
use Rattle.vdm_kinds.specs.declared.place.Place.{Place}
use Rattle.abstract_syntax.specs.Literals.{LiteralTree}
use Rattle.abstract_syntax.specs.Types.{TypeTree}
use Rattle.abstract_syntax.specs.Expressions.{
  ExprTree,
  literal,
  named,
  old_value,
  qualified,
  self_object,
  current_time,
  result_value,
  bracketed,
  empty_map,
  is_of_type,
  is_of_named,
  is_of_class,
  is_of_base_class,
  history,
}
use Rattle.expr_tree.specs.declared.expr.Expr.{Expr}
use Rattle.form_meaning.specs.Forms.{any_form}
use Rattle.class_checks.specs.Expressions.{check, class_faults, literal_form}
use Rattle.class_checks.specs.Members.{beyond, may_not_count, read_name, read_old, read_qualified, read_result, read_self, uncounted}
use Rattle.class_checks.specs.Operators.{map_with, number}
use Rattle.class_checks.specs.Results.{gives, refusing}
use Rattle.class_checks.specs.Scopes.{ScopeTree, type_scope}
use Rattle.class_checks.specs.Shapes.{of_test}
use Rattle.class_checks.specs.TypeNames.{name_faults, type_faults}
use Rattle.check_steps.specs.Below.check_scopes.specs.Told.{spec_in}
use Rattle.check_steps.specs.Below.check_scopes.specs.declared.setting.Setting.{Setting}
use Rattle.check_steps.specs.Below.check_frames.specs.Meant.{boxed, part_then, rest_check}
use Rattle.check_steps.specs.Below.check_frames.specs.declared.rest.Rest.TheVariants.{One}

abbrev Boxed : Type 0
Boxed = Bor (Box Expr Global)

module _ (setting : Setting) (scope : ScopeTree) where
  -- ---- names and words

  pub named_begun : (name : Name) (place : Place) → check (spec_in setting) scope (named name place) ≡ read_name (spec_in setting) scope place name
  unfolding check
  named_begun name place = refl

  pub old_begun : (name : Name) (place : Place) → check (spec_in setting) scope (old_value name place) ≡ read_old (spec_in setting) scope place name
  unfolding check
  old_begun name place = refl

  pub qualified_begun : (class name : Name) (name_place place : Place)
      → check (spec_in setting) scope (qualified class name name_place place) ≡ read_qualified (spec_in setting) scope class name name_place place
  unfolding check
  qualified_begun class name name_place place = refl

  pub self_begun : (place : Place) → check (spec_in setting) scope (self_object place) ≡ read_self (spec_in setting) scope place
  unfolding check
  self_begun place = refl

  pub result_begun : (place : Place) → check (spec_in setting) scope (result_value place) ≡ read_result (spec_in setting) scope place scope.result
  unfolding check
  result_begun place = refl

  pub time_begun : (place : Place)
      → check (spec_in setting) scope (current_time place) ≡ refusing (beyond (spec_in setting) scope place scope.reach) (gives number)
  unfolding check
  time_begun place = refl

  pub history_begun : (counter : Counter) (names : List NameAt) (place : Place)
      → check (spec_in setting) scope (history counter names place)
      ≡ refusing (may_not_count (spec_in setting) scope place scope.reach) (refusing (uncounted (spec_in setting) scope names) (gives number))
  unfolding check
  history_begun counter names place = refl

  pub bracketed_begun : (inner : ExprTree) (place : Place) → check (spec_in setting) scope (bracketed inner place) ≡ check (spec_in setting) scope inner
  unfolding check
  bracketed_begun inner place = refl

  pub empty_map_begun : (place : Place) → check (spec_in setting) scope (empty_map place) ≡ gives (map_with any_form any_form)
  unfolding check
  empty_map_begun place = refl

  pub literal_begun : (value : LiteralTree) (place : Place) → check (spec_in setting) scope (literal value place) ≡ gives (literal_form value)
  unfolding check
  literal_begun value place = refl

  -- ---- tests

  pub of_type_begun : (tested : Boxed) (declared : TypeTree) (place : Place)
      → check (spec_in setting) scope (is_of_type (boxed tested) declared place)
      ≡ refusing (type_faults (spec_in setting) (type_scope scope) declared) (rest_check setting scope of_test [] (One tested))
  unfolding check part_then
  of_type_begun tested declared place = refl

  pub of_named_begun : (t : TypeName) (tested : Boxed) (place : Place)
      → check (spec_in setting) scope (is_of_named t (boxed tested) place)
      ≡ refusing (name_faults (spec_in setting) (type_scope scope) t place) (rest_check setting scope of_test [] (One tested))
  unfolding check part_then
  of_named_begun t tested place = refl

  pub of_class_begun : (class : Name) (class_place : Place) (tested : Boxed) (place : Place)
      → check (spec_in setting) scope (is_of_class class class_place (boxed tested) place)
      ≡ refusing (class_faults (spec_in setting) class class_place) (rest_check setting scope of_test [] (One tested))
  unfolding check part_then
  of_class_begun class class_place tested place = refl

  pub of_base_class_begun : (class : Name) (class_place : Place) (tested : Boxed) (place : Place)
      → check (spec_in setting) scope (is_of_base_class class class_place (boxed tested) place)
      ≡ refusing (class_faults (spec_in setting) class class_place) (rest_check setting scope of_test [] (One tested))
  unfolding check part_then
  of_base_class_begun class class_place tested place = refl
