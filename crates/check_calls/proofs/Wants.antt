-- What several callees want of their arguments, one argument after the other.
use Rattle.std.proofs.Common.{◌≡◌, ℕ, ◌+◌, ◌<◌, ◌≤◌, List, [], ◌∷◌, ◌++◌, get_or, length, drop, refl, ap, sym, ◌∙◌}
use Rattle.std.proofs.lemmas.List.{drop_more, drop_all}
use Rattle.form_meaning.specs.Forms.{FormTree, FormTrees, no_forms, one_form, joined}
use Rattle.type_forms.specs.Tree.{form_trees}
use Rattle.class_checks.specs.Callees.{wants_joined}

abbrev pub forms_then : FormTrees → FormTrees → FormTrees
forms_then no_forms others = others
forms_then (one_form form forms) others = one_form form (forms_then forms others)

form_pushed : (made : List FormTree) (a : FormTree) (later : FormTrees)
    → forms_then (form_trees (made ++ a ∷ [])) later ≡ forms_then (form_trees made) (one_form a later)
form_pushed [] a later = refl
form_pushed (b ∷ made) a later = ap (one_form b) (form_pushed made a later)

forms_whole : (forms : FormTrees) → forms_then forms no_forms ≡ forms
forms_whole no_forms = refl
forms_whole (one_form a forms) = ap (one_form a) (forms_whole forms)

next_forms : (xs : List FormTree) (i : ℕ) (x : FormTree) → x ≡ get_or xs i x → i < length xs
    → form_trees (drop i xs) ≡ one_form x (form_trees (drop (i + 1) xs))
next_forms xs i x is below = ap form_trees (drop_more xs i x below) ∙ ap (λ (y : FormTree). one_form y (form_trees (drop (i + 1) xs))) (sym is)

pub wants_step : (xs ys : List FormTree) (i : ℕ) (x y : FormTree) (made next : List FormTree) (whole : FormTrees)
    → x ≡ get_or xs i x → i < length xs → y ≡ get_or ys i y → i < length ys → next ≡ made ++ joined x y ∷ []
    → forms_then (form_trees made) (wants_joined (form_trees (drop i xs)) (form_trees (drop i ys))) ≡ whole
    → forms_then (form_trees next) (wants_joined (form_trees (drop (i + 1) xs)) (form_trees (drop (i + 1) ys))) ≡ whole
wants_step xs ys i x y made next whole xis xb yis yb pushed before =
    ap (λ (m : List FormTree). forms_then (form_trees m) (wants_joined (form_trees (drop (i + 1) xs)) (form_trees (drop (i + 1) ys)))) pushed
    ∙ form_pushed made (joined x y) (wants_joined (form_trees (drop (i + 1) xs)) (form_trees (drop (i + 1) ys)))
    ∙ ap (λ (fs : FormTrees). forms_then (form_trees made) (wants_joined fs (one_form y (form_trees (drop (i + 1) ys))))) (sym (next_forms xs i x xis xb))
    ∙ ap (λ (fs : FormTrees). forms_then (form_trees made) (wants_joined (form_trees (drop i xs)) fs)) (sym (next_forms ys i y yis yb))
    ∙ before

nothing_wanted : (forms : FormTrees) → wants_joined forms no_forms ≡ no_forms
nothing_wanted no_forms = refl
nothing_wanted (one_form form forms) = refl

pub wants_end : (xs ys : List FormTree) (i : ℕ) (made : List FormTree) (whole : FormTrees) → length xs ≤ i
    → forms_then (form_trees made) (wants_joined (form_trees (drop i xs)) (form_trees (drop i ys))) ≡ whole → form_trees made ≡ whole
wants_end xs ys i made whole past before =
    sym (forms_whole (form_trees made))
    ∙ ap (λ (zs : List FormTree). forms_then (form_trees made) (wants_joined (form_trees zs) (form_trees (drop i ys)))) (sym (drop_all i xs past))
    ∙ before

pub wants_stop : (xs ys : List FormTree) (i : ℕ) (made : List FormTree) (whole : FormTrees) → length ys ≤ i
    → forms_then (form_trees made) (wants_joined (form_trees (drop i xs)) (form_trees (drop i ys))) ≡ whole → form_trees made ≡ whole
wants_stop xs ys i made whole past before =
    sym (forms_whole (form_trees made))
    ∙ ap (forms_then (form_trees made)) (sym (nothing_wanted (form_trees (drop i xs))))
    ∙ ap (λ (zs : List FormTree). forms_then (form_trees made) (wants_joined (form_trees (drop i xs)) (form_trees zs))) (sym (drop_all i ys past))
    ∙ before
