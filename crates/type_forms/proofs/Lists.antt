-- Lists of forms and of alternatives, and the trees that they stand for.
use Rattle.std.proofs.Common.{◌≡◌, ℕ, ◌+◌, ◌<◌, ◌≤◌, List, [], ◌∷◌, ◌++◌, length, get_or, drop, ap, sym, ◌∙◌, Option, Some, None, option_map, slice_get, zero, suc, refl, arith}
use Rattle.std.proofs.lemmas.List.{drop_more, drop_all}
use Rattle.std.proofs.lemmas.Option.{slice_get_past, slice_get_read}
use Rattle.std.specs.Borrow.{Bor}
use Rattle.std.specs.Slice.{IsItemAt}
use Rattle.type_forms.specs.Sizes.{nodes_of, nodes_of_alt, nodes_of_alts, nodes_of_forms}
use Rattle.form_meaning.specs.Forms.{FormTree, any_form, no_form, one_of, joined, FormTrees, no_forms, one_form, form_count, AltTrees, no_alts, one_alt, followed_by}
use Rattle.type_forms.specs.declared.form.Alt.{Alt}
use Rattle.form_meaning.specs.Parts.{form_at}
use Rattle.type_forms.specs.Taking.{form_or_none}
use Rattle.type_forms.specs.Tree.{alt_of, alt_trees, form_trees}

pub count_of_forms : (forms : List FormTree) → form_count (form_trees forms) ≡ length forms
count_of_forms [] = refl
count_of_forms (form ∷ forms) = ap suc (count_of_forms forms)

abbrev pub forms_then : FormTrees → FormTrees → FormTrees
forms_then no_forms others = others
forms_then (one_form form forms) others = one_form form (forms_then forms others)

-- one more, in front of what is still to come
pub alt_pushed : (made : List Alt) (a : Alt) (later : AltTrees)
    → followed_by (alt_trees (made ++ a ∷ [])) later ≡ followed_by (alt_trees made) (one_alt (alt_of a) later)
alt_pushed [] a later = refl
alt_pushed (b ∷ made) a later = ap (one_alt (alt_of b)) (alt_pushed made a later)

pub form_pushed : (made : List FormTree) (a : FormTree) (later : FormTrees)
    → forms_then (form_trees (made ++ a ∷ [])) later ≡ forms_then (form_trees made) (one_form a later)
form_pushed [] a later = refl
form_pushed (b ∷ made) a later = ap (one_form b) (form_pushed made a later)

-- nothing more to come
pub alts_whole : (alternatives : AltTrees) → followed_by alternatives no_alts ≡ alternatives
alts_whole no_alts = refl
alts_whole (one_alt a alternatives) = ap (one_alt a) (alts_whole alternatives)

pub forms_whole : (forms : FormTrees) → forms_then forms no_forms ≡ forms
forms_whole no_forms = refl
forms_whole (one_form a forms) = ap (one_form a) (forms_whole forms)

-- ---- a loop over a list, at an item and behind the last

pub next_alts : (xs : List Alt) (i : ℕ) (x : Alt) → x ≡ get_or xs i x → i < length xs
    → alt_trees (drop i xs) ≡ one_alt (alt_of x) (alt_trees (drop (i + 1) xs))
next_alts xs i x is below = ap alt_trees (drop_more xs i x below) ∙ ap (λ y. one_alt (alt_of y) (alt_trees (drop (i + 1) xs))) (sym is)

pub no_more_alts : (xs : List Alt) (i : ℕ) → length xs ≤ i → alt_trees (drop i xs) ≡ no_alts
no_more_alts xs i past = ap alt_trees (drop_all i xs past)

pub next_forms : (xs : List FormTree) (i : ℕ) (x : FormTree) → x ≡ get_or xs i x → i < length xs
    → form_trees (drop i xs) ≡ one_form x (form_trees (drop (i + 1) xs))
next_forms xs i x is below = ap form_trees (drop_more xs i x below) ∙ ap (λ y. one_form y (form_trees (drop (i + 1) xs))) (sym is)

pub no_more_forms : (xs : List FormTree) (i : ℕ) → length xs ≤ i → form_trees (drop i xs) ≡ no_forms
no_more_forms xs i past = ap form_trees (drop_all i xs past)

-- ---- no item has more nodes than all of them together

pub nodes_of-alt : (xs : List Alt) (i : ℕ) (x : Alt) → x ≡ get_or xs i x → i < length xs → nodes_of_alt (alt_of x) ≤ nodes_of_alts (alt_trees xs)
nodes_of-alt [] i x is below = absurd (omega arith)
nodes_of-alt (y ∷ ys) zero x is below = omega (arith, ap (λ z. nodes_of_alt (alt_of z)) is)
nodes_of-alt (y ∷ ys) (suc i) x is below =
    let ih : nodes_of_alt (alt_of x) ≤ nodes_of_alts (alt_trees ys) = nodes_of-alt ys i x is (omega arith) in omega arith

pub nodes_of-form : (xs : List FormTree) (i : ℕ) (x : FormTree) → x ≡ get_or xs i x → i < length xs → nodes_of x ≤ nodes_of_forms (form_trees xs)
nodes_of-form [] i x is below = absurd (omega arith)
nodes_of-form (y ∷ ys) zero x is below = omega (arith, ap nodes_of is)
nodes_of-form (y ∷ ys) (suc i) x is below =
    let ih : nodes_of x ≤ nodes_of_forms (form_trees ys) = nodes_of-form ys i x is (omega arith) in omega arith

-- ---- an item by its number

pub item_at : {A : Type 0} (xs : List A) (i : ℕ) (r : Option (Bor A)) → IsItemAt xs i r → option_map (λ (x : Bor A). x.now) r ≡ slice_get xs i
item_at xs i None h = sym (slice_get_past xs i h.3)
item_at xs i (Some x) h = sym (slice_get_read xs (length xs) i x.now refl h.3.0 h.1)

pub form_found : (xs : List FormTree) (n : ℕ) → form_or_none (slice_get xs n) ≡ form_at n (form_trees xs)
form_found [] n = refl
form_found (x ∷ xs) zero = refl
form_found (x ∷ xs) (suc n) = form_found xs n

-- any value takes in all that is known
pub any_joined : (known : FormTree) → any_form ≡ joined known any_form
any_joined any_form = refl
any_joined no_form = refl
any_joined (one_of alternatives) = refl
