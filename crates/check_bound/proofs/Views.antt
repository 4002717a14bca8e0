-- The pure tree of each kind of expression.
use Rattle.std.proofs.Common.{◌≡◌, ap, ◌∙◌, sym, map, rules}
use Rattle.abstract_syntax.specs.Expressions.{
  cases_of,
  def_in,
  exists_one,
  exists_some,
  for_all,
  if_else,
  iota_of,
  is_of_basic,
  joined,
  let_be,
  let_in,
  make_token,
  make_tuple,
  map_comprehension,
  map_enumeration,
  modify_record,
  prefixed,
  same_base_class,
  same_class,
  select_part,
  sequence_comprehension,
  sequence_enumeration,
  set_comprehension,
  set_enumeration,
  set_range,
  subsequence,
}
use Rattle.expr_tree.specs.View.{
  bind_trees,
  bind_view,
  branch_trees,
  branch_view,
  case_trees,
  case_view,
  defined_trees,
  defined_view,
  expr_trees,
  field_value_trees,
  field_value_view,
  maplet_trees,
  maplet_view,
  maybe_view,
  pattern_view,
  view_of,
  views_of,
}
use Rattle.expr_tree.specs.declared.expr.Expr as rust
use Rattle.expr_tree.specs.declared.expr.Expr.{the_lemmas}
use Rattle.expr_tree.specs.declared.expr.Expr.TheVariants.{
  rolls-Prefix,
  rolls-Infix,
  rolls-SetEnumeration,
  rolls-SetRange,
  rolls-SetComprehension,
  rolls-MapEnumeration,
  rolls-MapComprehension,
  rolls-SequenceEnumeration,
  rolls-SequenceComprehension,
  rolls-MakeTuple,
  rolls-MakeToken,
  rolls-ModifyRecord,
  rolls-IsOfBasic,
  rolls-SameClass,
  rolls-SameBaseClass,
  rolls-Subsequence,
  rolls-SelectPart,
  rolls-LetIn,
  rolls-LetBe,
  rolls-DefIn,
  rolls-IfElse,
  rolls-Cases,
  rolls-ForAll,
  rolls-Exists,
  rolls-ExistsOne,
  rolls-Iota,
}

pub view-Prefix : (sign : _) (operand : _) (place : _) → view_of (rust.Prefix sign operand place) ≡ prefixed sign (view_of operand.value) place
view-Prefix sign operand place = ap view_of (sym (rolls-Prefix sign operand place)) ∙ search (rules, the_lemmas)

pub view-Infix : (left : _) (sign : _) (right : _) (place : _) → view_of (rust.Infix left sign right place) ≡ joined (view_of left.value) sign (view_of right.value) place
view-Infix left sign right place = ap view_of (sym (rolls-Infix left sign right place)) ∙ search (rules, the_lemmas)

pub view-SetEnumeration : (elements : _) (place : _) → view_of (rust.SetEnumeration elements place) ≡ set_enumeration (expr_trees (views_of elements.items)) place
view-SetEnumeration elements place = ap view_of (sym (rolls-SetEnumeration elements place)) ∙ search (rules, the_lemmas)

pub view-SetRange : (first : _) (last : _) (place : _) → view_of (rust.SetRange first last place) ≡ set_range (view_of first.value) (view_of last.value) place
view-SetRange first last place = ap view_of (sym (rolls-SetRange first last place)) ∙ search (rules, the_lemmas)

pub view-SetComprehension : (element : _) (binds : _) (condition : _) (place : _) → view_of (rust.SetComprehension element binds condition place) ≡ set_comprehension (view_of element.value) (bind_trees (map bind_view binds.items)) (maybe_view condition) place
view-SetComprehension element binds condition place = ap view_of (sym (rolls-SetComprehension element binds condition place)) ∙ search (rules, the_lemmas)

pub view-MapEnumeration : (pairs : _) (place : _) → view_of (rust.MapEnumeration pairs place) ≡ map_enumeration (maplet_trees (map maplet_view pairs.items)) place
view-MapEnumeration pairs place = ap view_of (sym (rolls-MapEnumeration pairs place)) ∙ search (rules, the_lemmas)

pub view-MapComprehension : (key : _) (value : _) (binds : _) (condition : _) (place : _) → view_of (rust.MapComprehension key value binds condition place) ≡ map_comprehension (view_of key.value) (view_of value.value) (bind_trees (map bind_view binds.items)) (maybe_view condition) place
view-MapComprehension key value binds condition place = ap view_of (sym (rolls-MapComprehension key value binds condition place)) ∙ search (rules, the_lemmas)

pub view-SequenceEnumeration : (items : _) (place : _) → view_of (rust.SequenceEnumeration items place) ≡ sequence_enumeration (expr_trees (views_of items.items)) place
view-SequenceEnumeration items place = ap view_of (sym (rolls-SequenceEnumeration items place)) ∙ search (rules, the_lemmas)

pub view-SequenceComprehension : (item : _) (pattern : _) (set : _) (condition : _) (place : _) → view_of (rust.SequenceComprehension item pattern set condition place) ≡ sequence_comprehension (view_of item.value) (pattern_view pattern.value) (view_of set.value) (maybe_view condition) place
view-SequenceComprehension item pattern set condition place = ap view_of (sym (rolls-SequenceComprehension item pattern set condition place)) ∙ search (rules, the_lemmas)

pub view-MakeTuple : (parts : _) (place : _) → view_of (rust.MakeTuple parts place) ≡ make_tuple (expr_trees (views_of parts.items)) place
view-MakeTuple parts place = ap view_of (sym (rolls-MakeTuple parts place)) ∙ search (rules, the_lemmas)

pub view-MakeToken : (inner : _) (place : _) → view_of (rust.MakeToken inner place) ≡ make_token (view_of inner.value) place
view-MakeToken inner place = ap view_of (sym (rolls-MakeToken inner place)) ∙ search (rules, the_lemmas)

pub view-ModifyRecord : (target : _) (fields : _) (place : _) → view_of (rust.ModifyRecord target fields place) ≡ modify_record (view_of target.value) (field_value_trees (map field_value_view fields.items)) place
view-ModifyRecord target fields place = ap view_of (sym (rolls-ModifyRecord target fields place)) ∙ search (rules, the_lemmas)

pub view-IsOfBasic : (basic : _) (tested : _) (place : _) → view_of (rust.IsOfBasic basic tested place) ≡ is_of_basic basic (view_of tested.value) place
view-IsOfBasic basic tested place = ap view_of (sym (rolls-IsOfBasic basic tested place)) ∙ search (rules, the_lemmas)

pub view-SameClass : (left : _) (right : _) (place : _) → view_of (rust.SameClass left right place) ≡ same_class (view_of left.value) (view_of right.value) place
view-SameClass left right place = ap view_of (sym (rolls-SameClass left right place)) ∙ search (rules, the_lemmas)

pub view-SameBaseClass : (left : _) (right : _) (place : _) → view_of (rust.SameBaseClass left right place) ≡ same_base_class (view_of left.value) (view_of right.value) place
view-SameBaseClass left right place = ap view_of (sym (rolls-SameBaseClass left right place)) ∙ search (rules, the_lemmas)

pub view-Subsequence : (target : _) (first : _) (last : _) (place : _) → view_of (rust.Subsequence target first last place) ≡ subsequence (view_of target.value) (view_of first.value) (view_of last.value) place
view-Subsequence target first last place = ap view_of (sym (rolls-Subsequence target first last place)) ∙ search (rules, the_lemmas)

pub view-SelectPart : (target : _) (number : _) (place : _) → view_of (rust.SelectPart target number place) ≡ select_part (view_of target.value) number place
view-SelectPart target number place = ap view_of (sym (rolls-SelectPart target number place)) ∙ search (rules, the_lemmas)

pub view-LetIn : (definitions : _) (body : _) (place : _) → view_of (rust.LetIn definitions body place) ≡ let_in (defined_trees (map defined_view definitions.items)) (view_of body.value) place
view-LetIn definitions body place = ap view_of (sym (rolls-LetIn definitions body place)) ∙ search (rules, the_lemmas)

pub view-LetBe : (bind : _) (condition : _) (body : _) (place : _) → view_of (rust.LetBe bind condition body place) ≡ let_be (bind_view bind.value) (maybe_view condition) (view_of body.value) place
view-LetBe bind condition body place = ap view_of (sym (rolls-LetBe bind condition body place)) ∙ search (rules, the_lemmas)

pub view-DefIn : (pattern : _) (value : _) (body : _) (place : _) → view_of (rust.DefIn pattern value body place) ≡ def_in (pattern_view pattern.value) (view_of value.value) (view_of body.value) place
view-DefIn pattern value body place = ap view_of (sym (rolls-DefIn pattern value body place)) ∙ search (rules, the_lemmas)

pub view-IfElse : (condition : _) (value : _) (elseifs : _) (otherwise : _) (place : _) → view_of (rust.IfElse condition value elseifs otherwise place) ≡ if_else (view_of condition.value) (view_of value.value) (branch_trees (map branch_view elseifs.items)) (view_of otherwise.value) place
view-IfElse condition value elseifs otherwise place = ap view_of (sym (rolls-IfElse condition value elseifs otherwise place)) ∙ search (rules, the_lemmas)

pub view-Cases : (subject : _) (cases : _) (others : _) (place : _) → view_of (rust.Cases subject cases others place) ≡ cases_of (view_of subject.value) (case_trees (map case_view cases.items)) (maybe_view others) place
view-Cases subject cases others place = ap view_of (sym (rolls-Cases subject cases others place)) ∙ search (rules, the_lemmas)

pub view-ForAll : (binds : _) (condition : _) (place : _) → view_of (rust.ForAll binds condition place) ≡ for_all (bind_trees (map bind_view binds.items)) (view_of condition.value) place
view-ForAll binds condition place = ap view_of (sym (rolls-ForAll binds condition place)) ∙ search (rules, the_lemmas)

pub view-Exists : (binds : _) (condition : _) (place : _) → view_of (rust.Exists binds condition place) ≡ exists_some (bind_trees (map bind_view binds.items)) (view_of condition.value) place
view-Exists binds condition place = ap view_of (sym (rolls-Exists binds condition place)) ∙ search (rules, the_lemmas)

pub view-ExistsOne : (bind : _) (condition : _) (place : _) → view_of (rust.ExistsOne bind condition place) ≡ exists_one (bind_view bind.value) (view_of condition.value) place
view-ExistsOne bind condition place = ap view_of (sym (rolls-ExistsOne bind condition place)) ∙ search (rules, the_lemmas)

pub view-Iota : (bind : _) (condition : _) (place : _) → view_of (rust.Iota bind condition place) ≡ iota_of (bind_view bind.value) (view_of condition.value) place
view-Iota bind condition place = ap view_of (sym (rolls-Iota bind condition place)) ∙ search (rules, the_lemmas)
