-- The pure tree of each kind of expression.
use Rattle.std.proofs.Common.{◌≡◌, ap, ◌∙◌, sym, rules}
use Rattle.abstract_syntax.specs.Expressions.{select, select_of_class}
use Rattle.expr_tree.specs.View.{view_of}
use Rattle.expr_tree.specs.declared.expr.Expr as rust
use Rattle.expr_tree.specs.declared.expr.Expr.{the_lemmas}
use Rattle.expr_tree.specs.declared.expr.Expr.TheVariants.{rolls-Select, rolls-SelectOfClass}

pub view-Select : (target : _) (name : _) (name_place : _) (place : _) → view_of (rust.Select target name name_place place) ≡ select (view_of target.value) name name_place place
view-Select target name name_place place = ap view_of (sym (rolls-Select target name name_place place)) ∙ search (rules, the_lemmas)

pub view-SelectOfClass : (target : _) (class : _) (class_place : _) (name : _) (name_place : _) (place : _) → view_of (rust.SelectOfClass target class class_place name name_place place) ≡ select_of_class (view_of target.value) class class_place name name_place place
view-SelectOfClass target class class_place name name_place place = ap view_of (sym (rolls-SelectOfClass target class class_place name name_place place)) ∙ search (rules, the_lemmas)
