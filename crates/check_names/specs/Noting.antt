-- What is noted of refusals: the first one, and whether one spoils what was named.
use Rattle.std.specs.Prelude.{Bool, List, Option, Some, None}
use Rattle.std.specs.List.{list_any}
use Rattle.vdm_kinds.specs.declared.spec_fault.SpecFault.{SpecFault}
use Rattle.class_checks.specs.Results.{spoils, first_of, first_among}
use Rattle.check_scopes.specs.Told.{first_in}
use Rattle.check_scopes.specs.declared.refusals.Refusals.{Refusals}

pub record Note : Type 0 where
  pub first : Option SpecFault
  -- whether what is named, or called, may have any form
  pub spoiled : Bool

-- of these refusals, where this was the first one before them
abbrev pub note : Option SpecFault → List SpecFault → Note
note first refusals = record { first = first_among first refusals; spoiled = list_any (λ (r : SpecFault). spoils r.kind) refusals }

abbrev pub noted_as : Option SpecFault → Bool → Note
noted_as first spoiled = record { first = first; spoiled = spoiled }

abbrev pub noted : Refusals → Bool → Note
noted refusals spoiled = noted_as (first_in refusals) spoiled

-- the first refusal of two lists, from the first of each
abbrev pub first_of_both : Option SpecFault → Option SpecFault → Option SpecFault
first_of_both first None = first
first_of_both first (Some refused) = first_of first refused
