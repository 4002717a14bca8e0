-- How many parts there are.
use Rattle.std.proofs.Common.{◌≡◌, ℕ, zero, suc, ◌+◌, List, [], ◌∷◌, ◌++◌, length, ap, sym, ◌∙◌, refl, arith, Option, Some, None, option_map, slice_get}
use Rattle.std.proofs.lemmas.Option.{slice_get_past, slice_get_read}
use Rattle.std.specs.Borrow.{Bor}
use Rattle.std.specs.Slice.{IsItemAt}
use Rattle.expr_tree.specs.View.{pattern_views, pattern_trees}
use Rattle.expr_tree.specs.declared.pattern.Pattern.{Pattern}
use Rattle.form_meaning.specs.Forms.{FormTree, any_form, one_form, form_count}
use Rattle.class_checks.specs.Patterns.{pattern_count, any_parts}
use Rattle.form_meaning.specs.Parts.{form_at}
use Rattle.type_forms.specs.Taking.{form_or_none}
use Rattle.type_forms.specs.Tree.{form_trees}

pub count_of_patterns : (ps : List Pattern) → pattern_count (pattern_trees (pattern_views ps)) ≡ length ps
count_of_patterns [] = refl
count_of_patterns (p ∷ ps) = ap suc (count_of_patterns ps)

pub count_of_forms : (forms : List FormTree) → form_count (form_trees forms) ≡ length forms
count_of_forms [] = refl
count_of_forms (form ∷ forms) = ap suc (count_of_forms forms)

-- so many that have any form
abbrev pub any_list : ℕ → List FormTree
any_list zero = []
any_list (suc n) = any_form ∷ any_list n

pub any_more : (n : ℕ) → any_list n ++ any_form ∷ [] ≡ any_list (suc n)
any_more zero = refl
any_more (suc n) = ap (λ (fs : List FormTree). any_form ∷ fs) (any_more n)

pub any_list-trees : (n : ℕ) → form_trees (any_list n) ≡ any_parts n
any_list-trees zero = refl
any_list-trees (suc n) = ap (one_form any_form) (any_list-trees n)

pub any_step : (made next : List FormTree) (n : ℕ) (a : FormTree) → next ≡ made ++ a ∷ [] → a ≡ any_form → made ≡ any_list n → next ≡ any_list (n + 1)
any_step made next n a pushed is all =
    let more : suc n ≡ n + 1 = omega arith in
    pushed ∙ ap (λ (f : FormTree). made ++ f ∷ []) is ∙ ap (λ (fs : List FormTree). fs ++ any_form ∷ []) all ∙ any_more n ∙ ap any_list more

pub any_end : (made : List FormTree) (n count : ℕ) → n ≡ count → made ≡ any_list n → form_trees made ≡ any_parts count
any_end made n count is all = ap form_trees all ∙ any_list-trees n ∙ ap any_parts is

at_number : (forms : List FormTree) (i : ℕ) → form_or_none (slice_get forms i) ≡ form_at i (form_trees forms)
at_number [] i = refl
at_number (f ∷ forms) zero = refl
at_number (f ∷ forms) (suc i) = at_number forms i

item_at : {A : Type 0} (xs : List A) (i : ℕ) (r : Option (Bor A)) → IsItemAt xs i r → option_map (λ (x : Bor A). x.now) r ≡ slice_get xs i
item_at xs i None h = sym (slice_get_past xs i h.3)
item_at xs i (Some x) h = sym (slice_get_read xs (length xs) i x.now refl h.3.0 h.1)

-- a form by its number
pub form_found : (forms : List FormTree) (i : ℕ) (r : Option (Bor FormTree)) → IsItemAt forms i r
    → form_or_none (option_map (λ (f : Bor FormTree). f.now) r) ≡ form_at i (form_trees forms)
form_found forms i r h = ap form_or_none (item_at forms i r h) ∙ at_number forms i
