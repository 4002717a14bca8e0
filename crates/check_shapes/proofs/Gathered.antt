-- The steps of the loops over parts that were seen.
use Rattle.std.proofs.Common.{◌≡◌, ℕ, suc, ◌+◌, ◌<◌, ◌≤◌, Bool, true, false, not, ◌&&◌, ◌||◌, if◌then◌else◌, List, [], ◌∷◌, ◌++◌, length, get_or, drop, map, ap, sym, ◌∙◌, arith}
use Rattle.std.proofs.lemmas.List.{drop_more, drop_all}
use Rattle.form_meaning.specs.Forms.{FormTree, FormTrees, any_form, joined}
use Rattle.class_checks.specs.Shapes.{Seen as SeenTree, all_seen, forms_seen, unfit, unless_unfit}
use Rattle.type_forms.specs.Tree.{form_trees}
use Rattle.check_shapes.specs.declared.shape.Seen.{Seen}
use Rattle.check_shapes.specs.InTurn.{in_turn}
use Rattle.check_shapes.specs.ShapeView.{seen_view}
use Rattle.check_shapes.proofs.Lists.{forms_then, form_pushed, forms_whole}

next_seen : (xs : List Seen) (i : ℕ) (x : Seen) → x ≡ get_or xs i x → i < length xs
    → map seen_view (drop i xs) ≡ seen_view x ∷ map seen_view (drop (i + 1) xs)
next_seen xs i x is below =
    ap (map seen_view) (drop_more xs i x below) ∙ ap (λ (y : Seen). seen_view y ∷ map seen_view (drop (i + 1) xs)) (sym is)

no_more_seen : (xs : List Seen) (i : ℕ) → length xs ≤ i → map seen_view (drop i xs) ≡ []
no_more_seen xs i past = ap (map seen_view) (drop_all i xs past)

-- ---- all of them

pub all_step : (xs : List Seen) (i : ℕ) (x : Seen) (known next whole : FormTree) → x ≡ get_or xs i x → i < length xs → next ≡ joined known x.form
    → all_seen known (map seen_view (drop i xs)) ≡ whole → all_seen next (map seen_view (drop (i + 1) xs)) ≡ whole
all_step xs i x known next whole is below step before =
    ap (λ (f : FormTree). all_seen f (map seen_view (drop (i + 1) xs))) step
    ∙ ap (all_seen known) (sym (next_seen xs i x is below))
    ∙ before

pub all_end : (xs : List Seen) (i : ℕ) (known whole : FormTree) → length xs ≤ i
    → all_seen known (map seen_view (drop i xs)) ≡ whole → known ≡ whole
all_end xs i known whole past before = ap (all_seen known) (sym (no_more_seen xs i past)) ∙ before

-- ---- every other one

pub turn_step : (takes : Bool) (xs : List Seen) (i : ℕ) (x : Seen) (known next whole : FormTree) → x ≡ get_or xs i x → i < length xs
    → next ≡ (if takes then joined known x.form else known)
    → all_seen known (in_turn takes (map seen_view (drop i xs))) ≡ whole
    → all_seen next (in_turn (not takes) (map seen_view (drop (i + 1) xs))) ≡ whole
turn_step true xs i x known next whole is below step before =
    ap (λ (f : FormTree). all_seen f (in_turn false (map seen_view (drop (i + 1) xs)))) step
    ∙ ap (λ (ys : List SeenTree). all_seen known (in_turn true ys)) (sym (next_seen xs i x is below))
    ∙ before
turn_step false xs i x known next whole is below step before =
    ap (λ (f : FormTree). all_seen f (in_turn true (map seen_view (drop (i + 1) xs)))) step
    ∙ ap (λ (ys : List SeenTree). all_seen known (in_turn false ys)) (sym (next_seen xs i x is below))
    ∙ before

pub turn_end : (takes : Bool) (xs : List Seen) (i : ℕ) (known whole : FormTree) → length xs ≤ i
    → all_seen known (in_turn takes (map seen_view (drop i xs))) ≡ whole → known ≡ whole
turn_end true xs i known whole past before =
    ap (λ (ys : List SeenTree). all_seen known (in_turn true ys)) (sym (no_more_seen xs i past)) ∙ before
turn_end false xs i known whole past before =
    ap (λ (ys : List SeenTree). all_seen known (in_turn false ys)) (sym (no_more_seen xs i past)) ∙ before

-- ---- their forms as a list

pub forms_step : (xs : List Seen) (i : ℕ) (x : Seen) (made next : List FormTree) (a : FormTree) (whole : FormTrees)
    → x ≡ get_or xs i x → i < length xs → next ≡ made ++ a ∷ [] → a ≡ x.form
    → forms_then (form_trees made) (forms_seen (map seen_view (drop i xs))) ≡ whole
    → forms_then (form_trees next) (forms_seen (map seen_view (drop (i + 1) xs))) ≡ whole
forms_step xs i x made next a whole is below pushed same before =
    ap (λ (m : List FormTree). forms_then (form_trees m) (forms_seen (map seen_view (drop (i + 1) xs)))) pushed
    ∙ form_pushed made a (forms_seen (map seen_view (drop (i + 1) xs)))
    ∙ ap (λ (f : FormTree). forms_then (form_trees made) (forms_seen ((record { form = f; fits = x.fits }) ∷ map seen_view (drop (i + 1) xs)))) same
    ∙ ap (λ (ys : List SeenTree). forms_then (form_trees made) (forms_seen ys)) (sym (next_seen xs i x is below))
    ∙ before

pub forms_end : (xs : List Seen) (i : ℕ) (made : List FormTree) (whole : FormTrees) → length xs ≤ i
    → forms_then (form_trees made) (forms_seen (map seen_view (drop i xs))) ≡ whole → form_trees made ≡ whole
forms_end xs i made whole past before =
    sym (forms_whole (form_trees made))
    ∙ ap (λ (ys : List SeenTree). forms_then (form_trees made) (forms_seen ys)) (sym (no_more_seen xs i past))
    ∙ before

-- ---- whether one does not fit

pub unfit_here : (takes : ℕ → Bool) (xs : List Seen) (i : ℕ) (x : Seen) (whole : Bool) → x ≡ get_or xs i x → i < length xs
    → true ≡ (takes i && not x.fits) → unfit takes i (map seen_view (drop i xs)) ≡ whole → true ≡ whole
unfit_here takes xs i x whole is below unfits before =
    ap (λ (b : Bool). b || unfit takes (suc i) (map seen_view (drop (i + 1) xs))) unfits
    ∙ ap (unfit takes i) (sym (next_seen xs i x is below))
    ∙ before

pub unfit_step : (takes : ℕ → Bool) (xs : List Seen) (i : ℕ) (x : Seen) (whole : Bool) → x ≡ get_or xs i x → i < length xs
    → false ≡ (takes i && not x.fits) → unfit takes i (map seen_view (drop i xs)) ≡ whole
    → unfit takes (i + 1) (map seen_view (drop (i + 1) xs)) ≡ whole
unfit_step takes xs i x whole is below fit before =
    let e : i + 1 ≡ suc i = omega arith in
    ap (λ (n : ℕ). unfit takes n (map seen_view (drop (i + 1) xs))) e
    ∙ ap (λ (b : Bool). b || unfit takes (suc i) (map seen_view (drop (i + 1) xs))) fit
    ∙ ap (unfit takes i) (sym (next_seen xs i x is below))
    ∙ before

pub unfit_end : (takes : ℕ → Bool) (xs : List Seen) (i : ℕ) (whole : Bool) → length xs ≤ i
    → unfit takes i (map seen_view (drop i xs)) ≡ whole → false ≡ whole
unfit_end takes xs i whole past before = ap (unfit takes i) (sym (no_more_seen xs i past)) ∙ before

pub gone : (takes : ℕ → Bool) (done : List SeenTree) (form : FormTree) → true ≡ unfit takes 0 done
    → any_form ≡ unless_unfit takes done form
gone takes done form e = ap (λ (b : Bool). if b then any_form else form) e

pub stays : (takes : ℕ → Bool) (done : List SeenTree) (form : FormTree) → false ≡ unfit takes 0 done
    → form ≡ unless_unfit takes done form
stays takes done form e = ap (λ (b : Bool). if b then any_form else form) e
