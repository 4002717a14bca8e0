-- What is refused, one part behind the other, where each part has another form in the definition.
use Rattle.std.proofs.Common.{◌≡◌, List, [], ◌++◌, Option, Result, Ok, Err, OnOk, ap, sym, ◌∙◌}
use Rattle.vdm_kinds.specs.declared.spec_fault.SpecFault.{SpecFault}
use Rattle.class_checks.specs.Results.{first_among}
use Rattle.part_checks.specs.Below.check_scopes.specs.Told.{first_among-++}

-- the same refusals in other words
pub on_same : {A E : Type 0} (r : Result A E) (first later : Option SpecFault) (xs ys : List SpecFault) → xs ≡ ys
    → OnOk r (later ≡ first_among first xs) → OnOk r (later ≡ first_among first ys)
on_same (Ok a) first later xs ys e h = h ∙ ap (first_among first) e
on_same (Err error) first later xs ys e h = h

-- two behind one another
pub both : (first middle later : Option SpecFault) (xs ys : List SpecFault) → middle ≡ first_among first xs → later ≡ first_among middle ys
    → later ≡ first_among first (xs ++ ys)
both first middle later xs ys e h = h ∙ ap (λ (m : Option SpecFault). first_among m ys) e ∙ sym (first_among-++ first xs ys)

-- nothing stands behind it
pub alone : (first later : Option SpecFault) (xs : List SpecFault) → later ≡ first_among first (xs ++ []) → later ≡ first_among first xs
alone first later xs h = h ∙ first_among-++ first xs []
