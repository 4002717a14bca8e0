-- Lists of forms and of parts, and the trees that they stand for.
use Rattle.std.proofs.Common.{◌≡◌, List, [], ◌∷◌, ◌++◌, ap, refl}
use Rattle.form_meaning.specs.Forms.{FormTree, FormTrees, no_forms, one_form}
use Rattle.type_forms.specs.Tree.{form_trees}

abbrev pub forms_then : FormTrees → FormTrees → FormTrees
forms_then no_forms others = others
forms_then (one_form form forms) others = one_form form (forms_then forms others)

-- one more, in front of what is still to come
pub form_pushed : (made : List FormTree) (a : FormTree) (later : FormTrees)
    → forms_then (form_trees (made ++ a ∷ [])) later ≡ forms_then (form_trees made) (one_form a later)
form_pushed [] a later = refl
form_pushed (b ∷ made) a later = ap (one_form b) (form_pushed made a later)

-- nothing more to come
pub forms_whole : (forms : FormTrees) → forms_then forms no_forms ≡ forms
forms_whole no_forms = refl
forms_whole (one_form a forms) = ap (one_form a) (forms_whole forms)
