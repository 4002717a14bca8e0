-- What is refused, in other words.
use Rattle.std.proofs.Common.{◌≡◌, List, Option, Result, Ok, Err, OnOk, ap, ◌∙◌}
use Rattle.vdm_kinds.specs.declared.spec_fault.SpecFault.{SpecFault}
use Rattle.class_checks.specs.Results.{first_among}

-- the same refusals in other words
pub on_same : {A E : Type 0} (r : Result A E) (first later : Option SpecFault) (xs ys : List SpecFault) → xs ≡ ys
    → OnOk r (later ≡ first_among first xs) → OnOk r (later ≡ first_among first ys)
on_same (Ok a) first later xs ys e h = h ∙ ap (first_among first) e
on_same (Err error) first later xs ys e h = h
