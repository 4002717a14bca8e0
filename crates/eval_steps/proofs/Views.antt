-- The pure tree of kinds of expressions.
use Rattle.std.proofs.Common.{◌≡◌, ap, ◌∙◌, sym, map, rules}
use Rattle.abstract_syntax.specs.Expressions.{def_in, if_else, is_of_base_class, is_of_class, modify_record, same_base_class, same_class, sequence_comprehension, set_range, subsequence}
use Rattle.expr_tree.specs.View.{branch_trees, branch_view, field_value_trees, field_value_view, maybe_view, pattern_view, view_of}
use Rattle.expr_tree.specs.declared.expr.Expr as rust
use Rattle.expr_tree.specs.declared.expr.Expr.{the_lemmas}
use Rattle.expr_tree.specs.declared.expr.Expr.TheVariants.{rolls-SetRange, rolls-SequenceComprehension, rolls-Subsequence, rolls-DefIn, rolls-IfElse, rolls-IsOfClass, rolls-IsOfBaseClass, rolls-SameClass, rolls-SameBaseClass, rolls-ModifyRecord}

pub view-SetRange : (first : _) (last : _) (place : _) → view_of (rust.SetRange first last place) ≡ set_range (view_of first.value) (view_of last.value) place
view-SetRange first last place = ap view_of (sym (rolls-SetRange first last place)) ∙ search (rules, the_lemmas)

pub view-SequenceComprehension : (item : _) (pattern : _) (set : _) (condition : _) (place : _) → view_of (rust.SequenceComprehension item pattern set condition place) ≡ sequence_comprehension (view_of item.value) (pattern_view pattern.value) (view_of set.value) (maybe_view condition) place
view-SequenceComprehension item pattern set condition place = ap view_of (sym (rolls-SequenceComprehension item pattern set condition place)) ∙ search (rules, the_lemmas)

pub view-Subsequence : (target : _) (first : _) (last : _) (place : _) → view_of (rust.Subsequence target first last place) ≡ subsequence (view_of target.value) (view_of first.value) (view_of last.value) place
view-Subsequence target first last place = ap view_of (sym (rolls-Subsequence target first last place)) ∙ search (rules, the_lemmas)

pub view-DefIn : (pattern : _) (value : _) (body : _) (place : _) → view_of (rust.DefIn pattern value body place) ≡ def_in (pattern_view pattern.value) (view_of value.value) (view_of body.value) place
view-DefIn pattern value body place = ap view_of (sym (rolls-DefIn pattern value body place)) ∙ search (rules, the_lemmas)

pub view-IfElse : (condition : _) (value : _) (elseifs : _) (otherwise : _) (place : _) → view_of (rust.IfElse condition value elseifs otherwise place) ≡ if_else (view_of condition.value) (view_of value.value) (branch_trees (map branch_view elseifs.items)) (view_of otherwise.value) place
view-IfElse condition value elseifs otherwise place = ap view_of (sym (rolls-IfElse condition value elseifs otherwise place)) ∙ search (rules, the_lemmas)

pub view-ModifyRecord : (target : _) (changes : _) (place : _) → view_of (rust.ModifyRecord target changes place) ≡ modify_record (view_of target.value) (field_value_trees (map field_value_view changes.items)) place
view-ModifyRecord target changes place = ap view_of (sym (rolls-ModifyRecord target changes place)) ∙ search (rules, the_lemmas)

pub view-IsOfClass : (class : _) (class_place : _) (tested : _) (place : _) → view_of (rust.IsOfClass class class_place tested place) ≡ is_of_class class class_place (view_of tested.value) place
view-IsOfClass class class_place tested place = ap view_of (sym (rolls-IsOfClass class class_place tested place)) ∙ search (rules, the_lemmas)

pub view-IsOfBaseClass : (class : _) (class_place : _) (tested : _) (place : _) → view_of (rust.IsOfBaseClass class class_place tested place) ≡ is_of_base_class class class_place (view_of tested.value) place
view-IsOfBaseClass class class_place tested place = ap view_of (sym (rolls-IsOfBaseClass class class_place tested place)) ∙ search (rules, the_lemmas)

pub view-SameClass : (left : _) (right : _) (place : _) → view_of (rust.SameClass left right place) ≡ same_class (view_of left.value) (view_of right.value) place
view-SameClass left right place = ap view_of (sym (rolls-SameClass left right place)) ∙ search (rules, the_lemmas)

pub view-SameBaseClass : (left : _) (right : _) (place : _) → view_of (rust.SameBaseClass left right place) ≡ same_base_class (view_of left.value) (view_of right.value) place
view-SameBaseClass left right place = ap view_of (sym (rolls-SameBaseClass left right place)) ∙ search (rules, the_lemmas)
