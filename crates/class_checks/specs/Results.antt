-- What a check gives: the form of what was checked, and all that is refused in it.
use Rattle.std.specs.Prelude.{Bool, true, false, nat_eq, nat_lt, if◌then◌else◌, List, [], ◌∷◌, ◌++◌, Option, Some, None}
use Rattle.std.specs.List.{list_any}
use Rattle.vdm_kinds.specs.SpecKinds.{spec_number}
use Rattle.vdm_kinds.specs.declared.place.Place.{Place}
use Rattle.vdm_kinds.specs.declared.spec_fault.SpecFault.{SpecFault}
use Rattle.vdm_kinds.specs.declared.spec_kind.SpecKind.{SpecKind}
use Rattle.vdm_kinds.specs.declared.spec_kind.SpecKind.TheVariants.{LeftOut, UnknownName, Ambiguous, NotVisible, WrongArity}
use Rattle.form_meaning.specs.Forms.{FormTree, any_form}

pub record Checked : Type 0 where
  pub form : FormTree
  pub refusals : List SpecFault

abbrev pub refusal : SpecKind → Place → SpecFault
refusal kind place = record { kind = kind; place = place }

abbrev pub refused_if : Bool → SpecKind → Place → List SpecFault
refused_if refused kind place = if refused then refusal kind place ∷ [] else []

-- ---- checks of parts, one behind the other

-- a node without parts that are checked
abbrev pub gives : FormTree → Checked
gives form = record { form = form; refusals = [] }

-- what is refused here, and then the rest
abbrev pub refusing : List SpecFault → Checked → Checked
refusing refusals rest = record { form = rest.form; refusals = refusals ++ rest.refusals }

-- a part, and then what follows from its form
unfoldable pub after : Checked → (FormTree → Checked) → Checked
after part next = record { form = (next part.form).form; refusals = part.refusals ++ (next part.form).refusals }

-- several ways through one text, of which each adds to the form
abbrev pub after_each : FormTree → List Checked → (FormTree → FormTree → FormTree) → (FormTree → Checked) → Checked
after_each form [] join next = next form
after_each form (part ∷ parts) join next = after part (λ (other : FormTree). after_each (join form other) parts join next)

-- ---- the first refusal

-- a name or a call that is refused by one of these has any form
abbrev pub spoils : SpecKind → Bool
spoils LeftOut = true
spoils UnknownName = true
spoils Ambiguous = true
spoils NotVisible = true
spoils WrongArity = true
spoils _ = false

abbrev pub form_unless : List SpecFault → FormTree → FormTree
form_unless refusals form = if list_any (λ (r : SpecFault). spoils r.kind) refusals then any_form else form

-- a name, with what is refused of it
abbrev pub named_as : List SpecFault → FormTree → Checked
named_as refusals form = refusing refusals (gives (form_unless refusals form))

-- whether the first stands before the second in the text, or at its place with a lesser number
abbrev pub is_before : SpecFault → SpecFault → Bool
is_before a b =
    if nat_eq a.place.line b.place.line then
    (if nat_eq a.place.column b.place.column then nat_lt (spec_number a.kind) (spec_number b.kind)
    else nat_lt a.place.column b.place.column)
    else nat_lt a.place.line b.place.line

abbrev pub first_of : Option SpecFault → SpecFault → Option SpecFault
first_of None refused = Some refused
first_of (Some least) refused = if is_before refused least then Some refused else Some least

-- the first one, where `least` was the first so far
abbrev pub first_among : Option SpecFault → List SpecFault → Option SpecFault
first_among least [] = least
first_among least (refused ∷ refusals) = first_among (first_of least refused) refusals

-- the refusal at the first place in text order, and there the one with the least number
abbrev pub first_fault : Checked → Option SpecFault
first_fault checked = first_among None checked.refusals
