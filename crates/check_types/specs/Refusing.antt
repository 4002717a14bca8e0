-- What is noted of refusals: the first one, and whether something is refused.
use Rattle.std.specs.Prelude.{ℕ, Bool, true, false, not, nat_eq, is_some, List, [], ◌∷◌, Option, length}
use Rattle.vdm_kinds.specs.declared.spec_fault.SpecFault.{SpecFault}
use Rattle.vdm_kinds.specs.declared.name_at.TypeName.{TypeName}
use Rattle.vdm_kinds.specs.declared.place.Place.{Place}
use Rattle.vdm_kinds.specs.declared.spec_kind.SpecKind.TheVariants.{UnknownName, WrongArity}
use Rattle.abstract_syntax.specs.Classes.{SpecTree}
use Rattle.pattern_meaning.specs.RecordTypes.{RecordType}
use Rattle.class_checks.specs.Results.{first_among, refused_if}
use Rattle.class_checks.specs.TypeNames.{fields_made, or_else_faults}

abbrev pub refuses : List SpecFault → Bool
refuses [] = false
refuses (refused ∷ refusals) = true

pub record Refused : Type 0 where
  pub first : Option SpecFault
  pub some : Bool

-- of these refusals, where this was the first one before them
abbrev pub refused_by : Option SpecFault → List SpecFault → Refused
refused_by first refusals = record { first = first_among first refusals; some = refuses refusals }

abbrev pub refused_as : Option SpecFault → Bool → Refused
refused_as first some = record { first = first; some = some }

-- what is refused of the record type that a name makes, for so many parts
abbrev pub made_faults : SpecTree → Option RecordType → TypeName → ℕ → Place → List SpecFault
made_faults spec made t n place =
    or_else_faults
    (refused_if (not (is_some made)) UnknownName t.name_place)
    (refused_if (not (nat_eq n (length (fields_made spec made)))) WrongArity place)
