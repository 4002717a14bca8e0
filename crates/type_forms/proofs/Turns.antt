-- The steps of the loops that join forms.
use Rattle.std.proofs.Common.{◌≡◌, ℕ, ◌+◌, ◌-◌, ◌<◌, ◌≤◌, Bool, true, false, List, [], ◌∷◌, ◌++◌, length, get_or, take, drop, ap, sym, ◌∙◌, refl, arith, if◌then◌else◌, is_some}
use Rattle.form_meaning.specs.Forms.{FormTree, FormTrees, no_forms, one_form, AltTree, AltTrees, one_alt, followed_by, further, same_kind_in, joined, alt_joined}
use Rattle.type_forms.specs.declared.form.Alt.{Alt}
use Rattle.type_forms.specs.Tree.{alt_of, alt_trees, form_trees}
use Rattle.type_forms.specs.JoinedAgain.{each_joined, parts_joined}
use Rattle.type_forms.proofs.Lists.{forms_then, alt_pushed, alts_whole, form_pushed, forms_whole, next_alts, no_more_alts, next_forms, no_more_forms}

pub each_step : (xs : List Alt) (i : ℕ) (x : Alt) (made next : List Alt) (a : Alt) (others whole : AltTrees)
    → x ≡ get_or xs i x → i < length xs → next ≡ made ++ a ∷ [] → alt_of a ≡ alt_joined (alt_of x) (same_kind_in (alt_of x) others)
    → followed_by (alt_trees made) (each_joined (alt_trees (drop i xs)) others) ≡ whole
    → followed_by (alt_trees next) (each_joined (alt_trees (drop (i + 1) xs)) others) ≡ whole
each_step xs i x made next a others whole is below pushed same before =
    ap (λ (m : List Alt). followed_by (alt_trees m) (each_joined (alt_trees (drop (i + 1) xs)) others)) pushed
    ∙ alt_pushed made a (each_joined (alt_trees (drop (i + 1) xs)) others)
    ∙ ap (λ (b : AltTree). followed_by (alt_trees made) (one_alt b (each_joined (alt_trees (drop (i + 1) xs)) others))) same
    ∙ ap (λ (ys : AltTrees). followed_by (alt_trees made) (each_joined ys others)) (sym (next_alts xs i x is below))
    ∙ before

pub each_end : (xs : List Alt) (i : ℕ) (made : List Alt) (others whole : AltTrees) → length xs ≤ i
    → followed_by (alt_trees made) (each_joined (alt_trees (drop i xs)) others) ≡ whole → alt_trees made ≡ whole
each_end xs i made others whole past before =
    sym (alts_whole (alt_trees made))
    ∙ ap (λ (ys : AltTrees). followed_by (alt_trees made) (each_joined ys others)) (sym (no_more_alts xs i past))
    ∙ before

-- one that is of no kind before is put behind
further_new : (known : AltTrees) (x : AltTree) (others : AltTrees) (test : Bool)
    → test ≡ false → (if test then further known others else one_alt x (further known others)) ≡ one_alt x (further known others)
further_new known x others test is = ap (λ (b : Bool). if b then further known others else one_alt x (further known others)) is

further_old : (known : AltTrees) (x : AltTree) (others : AltTrees) (test : Bool)
    → test ≡ true → (if test then further known others else one_alt x (further known others)) ≡ further known others
further_old known x others test is = ap (λ (b : Bool). if b then further known others else one_alt x (further known others)) is

pub further_step : (xs : List Alt) (i : ℕ) (x : Alt) (made next : List Alt) (a : Alt) (known whole : AltTrees)
    → x ≡ get_or xs i x → i < length xs → next ≡ made ++ a ∷ [] → is_some (same_kind_in (alt_of x) known) ≡ false → alt_of a ≡ alt_of x
    → followed_by (alt_trees made) (further known (alt_trees (drop i xs))) ≡ whole
    → followed_by (alt_trees next) (further known (alt_trees (drop (i + 1) xs))) ≡ whole
further_step xs i x made next a known whole is below pushed new same before =
    ap (λ (m : List Alt). followed_by (alt_trees m) (further known (alt_trees (drop (i + 1) xs)))) pushed
    ∙ alt_pushed made a (further known (alt_trees (drop (i + 1) xs)))
    ∙ ap (λ (b : AltTree). followed_by (alt_trees made) (one_alt b (further known (alt_trees (drop (i + 1) xs))))) same
    ∙ ap (followed_by (alt_trees made)) (sym (further_new known (alt_of x) (alt_trees (drop (i + 1) xs)) _ new))
    ∙ ap (λ (ys : AltTrees). followed_by (alt_trees made) (further known ys)) (sym (next_alts xs i x is below))
    ∙ before

pub further_pass : (xs : List Alt) (i : ℕ) (x : Alt) (made next : List Alt) (known whole : AltTrees)
    → x ≡ get_or xs i x → i < length xs → next ≡ made → is_some (same_kind_in (alt_of x) known) ≡ true
    → followed_by (alt_trees made) (further known (alt_trees (drop i xs))) ≡ whole
    → followed_by (alt_trees next) (further known (alt_trees (drop (i + 1) xs))) ≡ whole
further_pass xs i x made next known whole is below kept old before =
    ap (λ (m : List Alt). followed_by (alt_trees m) (further known (alt_trees (drop (i + 1) xs)))) kept
    ∙ ap (followed_by (alt_trees made)) (sym (further_old known (alt_of x) (alt_trees (drop (i + 1) xs)) _ old))
    ∙ ap (λ (ys : AltTrees). followed_by (alt_trees made) (further known ys)) (sym (next_alts xs i x is below))
    ∙ before

pub further_end : (xs : List Alt) (i : ℕ) (made : List Alt) (known whole : AltTrees) → length xs ≤ i
    → followed_by (alt_trees made) (further known (alt_trees (drop i xs))) ≡ whole → alt_trees made ≡ whole
further_end xs i made known whole past before =
    sym (alts_whole (alt_trees made))
    ∙ ap (λ (ys : AltTrees). followed_by (alt_trees made) (further known ys)) (sym (no_more_alts xs i past))
    ∙ before

-- ---- parts

parts_alone : (parts : FormTrees) → parts_joined parts no_forms ≡ parts
parts_alone no_forms = refl
parts_alone (one_form part parts) = refl

whole_list : (ys : List FormTree) → take (length ys) ys ≡ ys
whole_list [] = refl
whole_list (y ∷ ys) = ap (λ (zs : List FormTree). y ∷ zs) (whole_list ys)

all_taken : (y : FormTree) (ys : List FormTree) → take (length (y ∷ ys) - 1) ys ≡ ys
all_taken y ys = let one_less : length (y ∷ ys) - 1 ≡ length ys = omega arith in ap (λ (n : ℕ). take n ys) one_less ∙ whole_list ys

both_parts : (part a : FormTree) (later : FormTrees) (made left : List FormTree) (other : FormTree)
    → 1 ≤ length left → other ≡ get_or left 0 other → a ≡ joined part other
    → forms_then (form_trees made) (one_form a (parts_joined later (form_trees (take (length left - 1) (drop 1 left)))))
    ≡ forms_then (form_trees made) (parts_joined (one_form part later) (form_trees left))
both_parts part a later made [] other some is same = absurd (omega arith)
both_parts part a later made (o ∷ left) other some is same =
    ap (λ (os : List FormTree). forms_then (form_trees made) (one_form a (parts_joined later (form_trees os)))) (all_taken o left)
    ∙ ap (λ (b : FormTree). forms_then (form_trees made) (one_form b (parts_joined later (form_trees left)))) (same ∙ ap (joined part) is)

pub parts_step : (xs : List FormTree) (i : ℕ) (x : FormTree) (made next : List FormTree) (a : FormTree) (left left_next : List FormTree)
    (other : FormTree) (whole : FormTrees) → x ≡ get_or xs i x → i < length xs → next ≡ made ++ a ∷ []
    → left_next ≡ take (length left - 1) (drop 1 left) → 1 ≤ length left → other ≡ get_or left 0 other → a ≡ joined x other
    → forms_then (form_trees made) (parts_joined (form_trees (drop i xs)) (form_trees left)) ≡ whole
    → forms_then (form_trees next) (parts_joined (form_trees (drop (i + 1) xs)) (form_trees left_next)) ≡ whole
parts_step xs i x made next a left left_next other whole is below pushed taken some other_is same before =
    ap (λ (m : List FormTree). forms_then (form_trees m) (parts_joined (form_trees (drop (i + 1) xs)) (form_trees left_next))) pushed
    ∙ ap (λ (os : List FormTree). forms_then (form_trees (made ++ a ∷ [])) (parts_joined (form_trees (drop (i + 1) xs)) (form_trees os))) taken
    ∙ form_pushed made a (parts_joined (form_trees (drop (i + 1) xs)) (form_trees (take (length left - 1) (drop 1 left))))
    ∙ both_parts x a (form_trees (drop (i + 1) xs)) made left other some other_is same
    ∙ ap (λ (ys : FormTrees). forms_then (form_trees made) (parts_joined ys (form_trees left))) (sym (next_forms xs i x is below))
    ∙ before

pub parts_pass : (xs : List FormTree) (i : ℕ) (x : FormTree) (made next : List FormTree) (a : FormTree) (left left_next : List FormTree)
    (whole : FormTrees) → x ≡ get_or xs i x → i < length xs → next ≡ made ++ a ∷ [] → left_next ≡ left → length left < 1 → a ≡ x
    → forms_then (form_trees made) (parts_joined (form_trees (drop i xs)) (form_trees left)) ≡ whole
    → forms_then (form_trees next) (parts_joined (form_trees (drop (i + 1) xs)) (form_trees left_next)) ≡ whole
parts_pass xs i x made next a [] left_next whole is below pushed kept none same before =
    ap (λ (m : List FormTree). forms_then (form_trees m) (parts_joined (form_trees (drop (i + 1) xs)) (form_trees left_next))) pushed
    ∙ ap (λ (os : List FormTree). forms_then (form_trees (made ++ a ∷ [])) (parts_joined (form_trees (drop (i + 1) xs)) (form_trees os))) kept
    ∙ form_pushed made a (parts_joined (form_trees (drop (i + 1) xs)) no_forms)
    ∙ ap (λ (ps : FormTrees). forms_then (form_trees made) (one_form a ps)) (parts_alone (form_trees (drop (i + 1) xs)))
    ∙ ap (λ (b : FormTree). forms_then (form_trees made) (one_form b (form_trees (drop (i + 1) xs)))) same
    ∙ ap (λ (ys : FormTrees). forms_then (form_trees made) (parts_joined ys no_forms)) (sym (next_forms xs i x is below))
    ∙ before
parts_pass xs i x made next a (o ∷ left) left_next whole is below pushed kept none same before = absurd (omega arith)

pub parts_end : (xs : List FormTree) (i : ℕ) (made left : List FormTree) (whole : FormTrees) → length xs ≤ i
    → forms_then (form_trees made) (parts_joined (form_trees (drop i xs)) (form_trees left)) ≡ whole → form_trees made ≡ whole
parts_end xs i made left whole past before =
    sym (forms_whole (form_trees made))
    ∙ ap (λ (ys : FormTrees). forms_then (form_trees made) (parts_joined ys (form_trees left))) (sym (no_more_forms xs i past))
    ∙ before

-- ---- copies

pub copy_step : (xs : List Alt) (i : ℕ) (x : Alt) (made next : List Alt) (a : Alt) (whole : AltTrees)
    → x ≡ get_or xs i x → i < length xs → next ≡ made ++ a ∷ [] → alt_of a ≡ alt_of x
    → followed_by (alt_trees made) (alt_trees (drop i xs)) ≡ whole
    → followed_by (alt_trees next) (alt_trees (drop (i + 1) xs)) ≡ whole
copy_step xs i x made next a whole is below pushed same before =
    ap (λ (m : List Alt). followed_by (alt_trees m) (alt_trees (drop (i + 1) xs))) pushed
    ∙ alt_pushed made a (alt_trees (drop (i + 1) xs))
    ∙ ap (λ (b : AltTree). followed_by (alt_trees made) (one_alt b (alt_trees (drop (i + 1) xs)))) same
    ∙ ap (followed_by (alt_trees made)) (sym (next_alts xs i x is below))
    ∙ before

pub copy_end : (xs : List Alt) (i : ℕ) (made : List Alt) (whole : AltTrees) → length xs ≤ i
    → followed_by (alt_trees made) (alt_trees (drop i xs)) ≡ whole → alt_trees made ≡ whole
copy_end xs i made whole past before =
    sym (alts_whole (alt_trees made)) ∙ ap (followed_by (alt_trees made)) (sym (no_more_alts xs i past)) ∙ before
