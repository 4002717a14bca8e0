-- The places of the endings that count.
use Rattle.std.proofs.Common.{Bool, if◌then◌else◌, List, map, Option, Some, None}
use Rattle.std.specs.Prelude.{filter, is_some}
use Rattle.std.specs.List.{list_all}
use Rattle.vdm_kinds.specs.declared.place.Place.{Place}
use Rattle.stmt_fronts.specs.declared.ending.Ending.{Ending}
use Rattle.stmt_fronts.specs.Fronts.{deep_in_all}

abbrev pub counted : Bool → List Ending → List (Option Place)
counted whole endings = map (λ (ending : Ending). ending.deep) (if whole then filter (λ (ending : Ending). ending.whole) endings else endings)

-- with the first place of those before
abbrev pub from_first : Option Place → List (Option Place) → Option Place
from_first None places = deep_in_all places
from_first (Some place) places = if list_all is_some places then Some place else None
