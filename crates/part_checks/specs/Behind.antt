-- What is refused of parts one behind the other.
use Rattle.std.specs.Prelude.{◌≡◌, List, ◌++◌, Option, Result, Ok, Err, OnOk, map}
use Rattle.std.specs.List.{flat_map}
use Rattle.std.proofs.Common.{ℕ, ◌+◌, ◌<◌, ◌≤◌, length, get_or, drop, ap, sym, ◌∙◌}
use Rattle.std.proofs.lemmas.List.{drop_more, drop_all}
use Rattle.vdm_kinds.specs.declared.spec_fault.SpecFault.{SpecFault}
use Rattle.class_checks.specs.Results.{first_among}
use Rattle.definition_scopes.specs.Below.check_scopes.specs.Told.{first_among-++}

-- two lists of refusals, one behind the other
pub on_both : {A E : Type 0} (r : Result A E) (first middle later : Option SpecFault) (xs ys : List SpecFault) → middle ≡ first_among first xs
    → OnOk r (later ≡ first_among middle ys) → OnOk r (later ≡ first_among first (xs ++ ys))
on_both (Ok a) first middle later xs ys e h = h ∙ ap (λ (m : Option SpecFault). first_among m ys) e ∙ sym (first_among-++ first xs ys)
on_both (Err f) first middle later xs ys e h = h

-- ... where both are noted
pub both : (first middle later : Option SpecFault) (xs ys : List SpecFault) → middle ≡ first_among first xs → later ≡ first_among middle ys
    → later ≡ first_among first (xs ++ ys)
both first middle later xs ys e h = h ∙ ap (λ (m : Option SpecFault). first_among m ys) e ∙ sym (first_among-++ first xs ys)

-- the same refusals, said otherwise
pub on_same : {A E : Type 0} (r : Result A E) (first later : Option SpecFault) (xs ys : List SpecFault) → xs ≡ ys
    → OnOk r (later ≡ first_among first xs) → OnOk r (later ≡ first_among first ys)
on_same (Ok a) first later xs ys e h = h ∙ ap (first_among first) e
on_same (Err f) first later xs ys e h = h

-- what is refused of each of several, one behind the other: at one of them
pub each_turn : {A B : Type 0} (view : A → B) (faults : B → List SpecFault) (xs : List A) (i : ℕ) (x : A) (before after whole : Option SpecFault)
    → x ≡ get_or xs i x → i < length xs → after ≡ first_among before (faults (view x))
    → first_among before (flat_map faults (map view (drop i xs))) ≡ whole
    → first_among after (flat_map faults (map view (drop (i + 1) xs))) ≡ whole
each_turn {A = A} view faults xs i x before after whole is below told so_far =
    let later : List SpecFault = flat_map faults (map view (drop (i + 1) xs)) in
    ap (λ (f : Option SpecFault). first_among f later) told
    ∙ sym (first_among-++ before (faults (view x)) later)
    ∙ ap (λ (y : A). first_among before (faults (view y) ++ later)) is
    ∙ ap (λ (ys : List A). first_among before (flat_map faults (map view ys))) (sym (drop_more xs i x below))
    ∙ so_far

-- ... and behind the last
pub each_past : {A B : Type 0} (view : A → B) (faults : B → List SpecFault) (xs : List A) (i : ℕ) (now whole : Option SpecFault) → length xs ≤ i
    → first_among now (flat_map faults (map view (drop i xs))) ≡ whole → now ≡ whole
each_past {A = A} view faults xs i now whole past so_far =
    ap (λ (ys : List A). first_among now (flat_map faults (map view ys))) (sym (drop_all i xs past)) ∙ so_far
