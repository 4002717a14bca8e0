-- The pure tree of each kind of expression.
use Rattle.std.proofs.Common.{◌≡◌, ap, ◌∙◌, sym, rules}
use Rattle.abstract_syntax.specs.Expressions.{
  bracketed,
  current_time,
  empty_map,
  history,
  is_of_base_class,
  is_of_class,
  is_of_named,
  is_of_type,
  literal,
  named,
  old_value,
  qualified,
  result_value,
  self_object,
}
use Rattle.type_tree.specs.LiteralView.{literal_view}
use Rattle.type_tree.specs.TypeView.{type_view}
use Rattle.expr_tree.specs.View.{view_of}
use Rattle.expr_tree.specs.declared.expr.Expr as rust
use Rattle.expr_tree.specs.declared.expr.Expr.{the_lemmas}
use Rattle.expr_tree.specs.declared.expr.Expr.TheVariants.{
  rolls-Literal,
  rolls-Name,
  rolls-Qualified,
  rolls-Old,
  rolls-SelfObject,
  rolls-Time,
  rolls-Result,
  rolls-Bracketed,
  rolls-EmptyMap,
  rolls-IsOfType,
  rolls-IsOfNamed,
  rolls-IsOfClass,
  rolls-IsOfBaseClass,
  rolls-History,
}

pub view-Literal : (value : _) (place : _) → view_of (rust.Literal value place) ≡ literal (literal_view value) place
view-Literal value place = ap view_of (sym (rolls-Literal value place)) ∙ search (rules, the_lemmas)

pub view-Name : (name : _) (place : _) → view_of (rust.Name name place) ≡ named name place
view-Name name place = ap view_of (sym (rolls-Name name place)) ∙ search (rules, the_lemmas)

pub view-Qualified : (class : _) (name : _) (name_place : _) (place : _) → view_of (rust.Qualified class name name_place place) ≡ qualified class name name_place place
view-Qualified class name name_place place = ap view_of (sym (rolls-Qualified class name name_place place)) ∙ search (rules, the_lemmas)

pub view-Old : (name : _) (place : _) → view_of (rust.Old name place) ≡ old_value name place
view-Old name place = ap view_of (sym (rolls-Old name place)) ∙ search (rules, the_lemmas)

pub view-SelfObject : (place : _) → view_of (rust.SelfObject place) ≡ self_object place
view-SelfObject place = ap view_of (sym (rolls-SelfObject place)) ∙ search (rules, the_lemmas)

pub view-Time : (place : _) → view_of (rust.Time place) ≡ current_time place
view-Time place = ap view_of (sym (rolls-Time place)) ∙ search (rules, the_lemmas)

pub view-Result : (place : _) → view_of (rust.Result place) ≡ result_value place
view-Result place = ap view_of (sym (rolls-Result place)) ∙ search (rules, the_lemmas)

pub view-Bracketed : (inner : _) (place : _) → view_of (rust.Bracketed inner place) ≡ bracketed (view_of inner.value) place
view-Bracketed inner place = ap view_of (sym (rolls-Bracketed inner place)) ∙ search (rules, the_lemmas)

pub view-EmptyMap : (place : _) → view_of (rust.EmptyMap place) ≡ empty_map place
view-EmptyMap place = ap view_of (sym (rolls-EmptyMap place)) ∙ search (rules, the_lemmas)

pub view-IsOfType : (tested : _) (declared : _) (place : _) → view_of (rust.IsOfType tested declared place) ≡ is_of_type (view_of tested.value) (type_view declared) place
view-IsOfType tested declared place = ap view_of (sym (rolls-IsOfType tested declared place)) ∙ search (rules, the_lemmas)

pub view-IsOfNamed : (type_name : _) (tested : _) (place : _) → view_of (rust.IsOfNamed type_name tested place) ≡ is_of_named type_name (view_of tested.value) place
view-IsOfNamed type_name tested place = ap view_of (sym (rolls-IsOfNamed type_name tested place)) ∙ search (rules, the_lemmas)

pub view-IsOfClass : (class : _) (class_place : _) (tested : _) (place : _) → view_of (rust.IsOfClass class class_place tested place) ≡ is_of_class class class_place (view_of tested.value) place
view-IsOfClass class class_place tested place = ap view_of (sym (rolls-IsOfClass class class_place tested place)) ∙ search (rules, the_lemmas)

pub view-IsOfBaseClass : (class : _) (class_place : _) (tested : _) (place : _) → view_of (rust.IsOfBaseClass class class_place tested place) ≡ is_of_base_class class class_place (view_of tested.value) place
view-IsOfBaseClass class class_place tested place = ap view_of (sym (rolls-IsOfBaseClass class class_place tested place)) ∙ search (rules, the_lemmas)

pub view-History : (counter : _) (names : _) (place : _) → view_of (rust.History counter names place) ≡ history counter names.items place
view-History counter names place = ap view_of (sym (rolls-History counter names place)) ∙ search (rules, the_lemmas)
