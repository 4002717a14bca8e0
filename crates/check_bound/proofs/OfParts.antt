-- Nodes whose parts stand in one scope: the check of each kind, by its parts.
use Rattle.std.specs.Prelude.{◌≡◌, List, [], Vec, map}
use Rattle.std.specs.Borrow.{Bor}
use Rattle.std.specs.declared.alloc.Global.{Global}
use Rattle.std.specs.declared.boxed.Box.{Box}
use Rattle.std.proofs.Common.{ap, sym, ◌∙◌}
use Rattle.vdm_kinds.specs.declared.place.Place.{Place}
use Rattle.abstract_syntax.specs.Expressions.{
  prefixed,
  joined as joined_by,
  set_enumeration,
  set_range,
  map_enumeration,
  sequence_enumeration,
  make_tuple,
  make_token,
  modify_record,
  is_of_basic,
  same_class,
  same_base_class,
  subsequence,
  select_part,
}
use Rattle.expr_tree.specs.View.{expr_trees, field_value_trees, field_value_view, maplet_trees, maplet_view, views_of}
use Rattle.expr_tree.specs.declared.expr.Expr.{Expr}
use Rattle.expr_tree.specs.declared.parts.FieldValue.{FieldValue}
use Rattle.expr_tree.specs.declared.parts.Maplet.{Maplet}
use Rattle.class_checks.specs.Expressions.{check, listed, pairs_in}
use Rattle.class_checks.specs.Results.{Checked}
use Rattle.class_checks.specs.Scopes.{ScopeTree}
use Rattle.class_checks.specs.Shapes.{of_sequence, of_set, of_tuple}
use Rattle.check_frames.specs.Below.check_scopes.specs.Told.{spec_in}
use Rattle.check_frames.specs.Below.check_scopes.specs.declared.setting.Setting.{Setting}
use Rattle.check_frames.specs.Below.check_shapes.specs.ShapeView.{shape_view}
use Rattle.check_frames.specs.Below.check_shapes.specs.declared.shape.Shape.TheVariants.{Changed, Map, Operator, Part, Prefix, Range, Sequence, Set, Subsequence, Test, Token, Tuple}
use Rattle.check_frames.specs.Meant.{boxed, part_then, rest_check}
use Rattle.check_frames.specs.declared.rest.Rest.TheVariants.{Items, Maplets, Modified, One, Three, Two}
use Rattle.check_bound.specs.declared.parts.Parts.{Parts}

abbrev Boxed : Type 0
Boxed = Bor (Box Expr Global)

module _ (setting : Setting) (scope : ScopeTree) where
  abbrev checked_by : Parts → Checked
  checked_by parts = rest_check setting scope (shape_view parts.shape) [] parts.rest

  pub prefix_parts : (sign : _) (operand : Boxed) (place : Place) (parts : Parts) → parts ≡ record { shape = Prefix sign; rest = One operand }
      → check (spec_in setting) scope (prefixed sign (boxed operand) place) ≡ checked_by parts
  unfolding check part_then
  prefix_parts sign operand place parts is = ap checked_by (sym is)

  pub infix_parts : (left : Boxed) (sign : _) (right : Boxed) (place : Place) (parts : Parts) → parts ≡ record { shape = Operator sign; rest = Two left right }
      → check (spec_in setting) scope (joined_by (boxed left) sign (boxed right) place) ≡ checked_by parts
  unfolding check part_then
  infix_parts left sign right place parts is = ap checked_by (sym is)

  pub range_parts : (low high : Boxed) (place : Place) (parts : Parts) → parts ≡ record { shape = Range; rest = Two low high }
      → check (spec_in setting) scope (set_range (boxed low) (boxed high) place) ≡ checked_by parts
  unfolding check part_then
  range_parts low high place parts is = ap checked_by (sym is)

  pub token_parts : (inner : Boxed) (place : Place) (parts : Parts) → parts ≡ record { shape = Token; rest = One inner }
      → check (spec_in setting) scope (make_token (boxed inner) place) ≡ checked_by parts
  unfolding check part_then
  token_parts inner place parts is = ap checked_by (sym is)

  pub basic_parts : (basic : _) (tested : Boxed) (place : Place) (parts : Parts) → parts ≡ record { shape = Test; rest = One tested }
      → check (spec_in setting) scope (is_of_basic basic (boxed tested) place) ≡ checked_by parts
  unfolding check part_then
  basic_parts basic tested place parts is = ap checked_by (sym is)

  pub same_class_parts : (left right : Boxed) (place : Place) (parts : Parts) → parts ≡ record { shape = Test; rest = Two left right }
      → check (spec_in setting) scope (same_class (boxed left) (boxed right) place) ≡ checked_by parts
  unfolding check part_then
  same_class_parts left right place parts is = ap checked_by (sym is)

  pub same_base_class_parts : (left right : Boxed) (place : Place) (parts : Parts) → parts ≡ record { shape = Test; rest = Two left right }
      → check (spec_in setting) scope (same_base_class (boxed left) (boxed right) place) ≡ checked_by parts
  unfolding check part_then
  same_base_class_parts left right place parts is = ap checked_by (sym is)

  pub subsequence_parts : (target low high : Boxed) (place : Place) (parts : Parts) → parts ≡ record { shape = Subsequence; rest = Three target low high }
      → check (spec_in setting) scope (subsequence (boxed target) (boxed low) (boxed high) place) ≡ checked_by parts
  unfolding check part_then
  subsequence_parts target low high place parts is = ap checked_by (sym is)

  pub select_parts : (target : Boxed) (number : _) (place : Place) (parts : Parts) → parts ≡ record { shape = Part number; rest = One target }
      → check (spec_in setting) scope (select_part (boxed target) number place) ≡ checked_by parts
  unfolding check part_then
  select_parts target number place parts is = ap checked_by (sym is)

  pub set_parts : (lent : Bor (List Expr)) (items : List Expr) (place : Place) (parts : Parts) → parts ≡ record { shape = Set; rest = Items lent } → lent.now ≡ items
      → check (spec_in setting) scope (set_enumeration (expr_trees (views_of items)) place) ≡ checked_by parts
  unfolding check part_then
  set_parts lent items place parts is same =
      ap (λ (es : List Expr). listed (spec_in setting) scope of_set [] (expr_trees (views_of es))) (sym same) ∙ ap checked_by (sym is)

  pub sequence_parts : (lent : Bor (List Expr)) (items : List Expr) (place : Place) (parts : Parts) → parts ≡ record { shape = Sequence; rest = Items lent } → lent.now ≡ items
      → check (spec_in setting) scope (sequence_enumeration (expr_trees (views_of items)) place) ≡ checked_by parts
  unfolding check part_then
  sequence_parts lent items place parts is same =
      ap (λ (es : List Expr). listed (spec_in setting) scope of_sequence [] (expr_trees (views_of es))) (sym same) ∙ ap checked_by (sym is)

  pub tuple_parts : (lent : Bor (List Expr)) (items : List Expr) (place : Place) (parts : Parts) → parts ≡ record { shape = Tuple; rest = Items lent } → lent.now ≡ items
      → check (spec_in setting) scope (make_tuple (expr_trees (views_of items)) place) ≡ checked_by parts
  unfolding check part_then
  tuple_parts lent items place parts is same =
      ap (λ (es : List Expr). listed (spec_in setting) scope of_tuple [] (expr_trees (views_of es))) (sym same) ∙ ap checked_by (sym is)

  pub map_parts : (lent : Bor (List Maplet)) (pairs : List Maplet) (place : Place) (parts : Parts) → parts ≡ record { shape = Map; rest = Maplets lent } → lent.now ≡ pairs
      → check (spec_in setting) scope (map_enumeration (maplet_trees (map maplet_view pairs)) place) ≡ checked_by parts
  unfolding check part_then
  map_parts lent pairs place parts is same =
      ap (λ (ms : List Maplet). pairs_in (spec_in setting) scope [] (maplet_trees (map maplet_view ms))) (sym same) ∙ ap checked_by (sym is)

  pub modified_parts : (target : Boxed) (fields : Bor (Vec FieldValue Global)) (place : Place) (parts : Parts) → parts ≡ record { shape = Changed fields; rest = Modified target fields }
      → check (spec_in setting) scope (modify_record (boxed target) (field_value_trees (map field_value_view fields.now.items)) place) ≡ checked_by parts
  unfolding check part_then
  modified_parts target fields place parts is = ap checked_by (sym is)
