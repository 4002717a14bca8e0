-- What is selected behind an object or a record, as the program holds it: each list of refusals by its first.
use Rattle.std.specs.Prelude.{Option, Some, None, option_map}
use Rattle.vdm_kinds.specs.declared.name.Name.{Name}
use Rattle.vdm_kinds.specs.declared.place.Place.{Place}
use Rattle.vdm_kinds.specs.declared.spec_fault.SpecFault.{SpecFault}
use Rattle.abstract_syntax.specs.Classes.{SpecTree}
use Rattle.form_meaning.specs.Forms.{AltTrees, no_alts, one_alt, joined}
use Rattle.class_checks.specs.Callees.{
  Selected as SelectedTree,
  no_member,
  no_field,
  refused_member,
  selected,
  Use as UseTree,
  is_read,
  is_applied,
  Selection as SelectionTree,
  of_alternative,
  wants_joined,
}
use Rattle.class_checks.specs.Results.{first_among}
use Rattle.class_checks.specs.Scopes.{ScopeTree}
use Rattle.check_names.specs.Noting.{first_of_both}
use Rattle.check_calls.specs.Calling.{Called, called, made}
use Rattle.check_calls.specs.declared.selected.Selected.{Selected}
use Rattle.check_calls.specs.declared.selected.Selected.TheVariants.{Nothing, Refused, Found}
use Rattle.check_calls.specs.declared.selected.Use.{Use}
use Rattle.check_calls.specs.declared.selected.Use.TheVariants.{Read, Applied}
use Rattle.check_calls.specs.declared.selection.Found.{Found as FoundThere}
use Rattle.check_calls.specs.declared.selection.Selection.{Selection}

abbrev pub use_view : Use → UseTree
use_view Read = is_read
use_view (Applied call) = is_applied call.head_place call.count call.place

-- ---- of one alternative

pub data Shown : Type 0 where
  absent : Shown
  refused_by : Option SpecFault → Shown
  found_as : Called → Shown

abbrev pub shown_of : SelectedTree → Shown
shown_of no_member = absent
shown_of no_field = absent
shown_of (refused_member refusals) = refused_by (first_among None refusals)
shown_of (selected callee) = found_as (called None callee)

abbrev pub shown : Selected → Shown
shown Nothing = absent
shown (Refused first) = refused_by first
shown (Found callee first) = found_as (made first callee)

-- ---- of several

pub record ShownAll : Type 0 where
  pub found : Option Called
  pub refused : Option SpecFault

abbrev pub all_of : SelectionTree → ShownAll
all_of selection = record { found = option_map (called None) selection.found; refused = first_among None selection.refusals }

abbrev pub nothing_shown : ShownAll
nothing_shown = record { found = None; refused = None }

abbrev pub found_view : FoundThere → Called
found_view found = made found.first found.callee

abbrev pub found_in : Selection → Option Called
found_in selection = option_map found_view selection.found

abbrev pub all_shown : Selection → ShownAll
all_shown selection = record { found = found_in selection; refused = selection.refused }

abbrev pub both_called : Option Called → Called → Called
both_called None found = found
both_called (Some known) found = record {
  wants = wants_joined known.wants found.wants;
  gives = joined known.gives found.gives;
  first = first_of_both known.first found.first;
}

abbrev pub with_shown : ShownAll → Shown → ShownAll
with_shown known absent = known
with_shown known (refused_by first) = record { found = known.found; refused = first_of_both known.refused first }
with_shown known (found_as found) = record { found = Some (both_called known.found found); refused = known.refused }

module _ (spec : SpecTree) (scope : ScopeTree) where
  abbrev pub among_shown : UseTree → Name → Place → ShownAll → AltTrees → ShownAll
  among_shown way name place known no_alts = known
  among_shown way name place known (one_alt alternative alternatives) =
      among_shown way name place (with_shown known (shown_of (of_alternative spec scope way name place alternative))) alternatives
