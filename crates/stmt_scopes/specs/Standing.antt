-- Where statements stand, as the definitions have it.
use Rattle.std.specs.Prelude.{Bool, false, Option, Some, None}
use Rattle.vdm_kinds.specs.declared.name.Name.{Name}
use Rattle.shared_names.specs.Maps.{held}
use Rattle.shared_names.specs.declared.shared_map.SharedMap.{SharedMap}
use Rattle.spec_checks.specs.Targets.{Returned as ReturnedTree, anything, no_value, a_value, StmtScope}
use Rattle.check_frames.specs.Below.check_scopes.specs.Told.{scope_at}
use Rattle.check_frames.specs.Below.check_scopes.specs.declared.setting.Setting.{Setting}
use Rattle.check_frames.specs.Meant.{scope_here}
use Rattle.stmt_scopes.specs.declared.returned.Returned.{Returned}
use Rattle.stmt_scopes.specs.declared.returned.Returned.TheVariants.{Anything, NoValue, AValue}
use Rattle.stmt_scopes.specs.declared.standing.Standing.{Standing as Kept}
use Rattle.stmt_scopes.specs.declared.stands.Stands.{Stands}

abbrev pub returned_view : Returned → ReturnedTree
returned_view Anything = anything
returned_view NoValue = no_value
returned_view (AValue form) = a_value form

abbrev pub is_held : Option Bool → Bool
is_held None = false
is_held (Some declared) = declared

-- whether the newest local of a name was declared
abbrev pub declared_in : SharedMap Bool → Name → Bool
declared_in declared name = is_held (held declared name)

-- of what is kept
abbrev pub stands_at : Setting → Returned → Kept → StmtScope
stands_at setting returned standing = record {
  within = scope_at setting (held standing.locals);
  declared = declared_in standing.declared;
  returned = returned_view returned;
}

-- where a statement is checked
abbrev pub stands_here : Stands → StmtScope
stands_here stands = record {
  within = scope_here stands.here;
  declared = declared_in stands.declared.now;
  returned = returned_view stands.returned.now;
}

-- ... and what is kept there
abbrev pub standing_of : Stands → Kept → StmtScope
standing_of stands = stands_at stands.here.setting stands.returned.now
