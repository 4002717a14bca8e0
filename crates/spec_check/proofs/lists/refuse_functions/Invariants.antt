use Rattle.std.proofs.Common.{◌≡◌, map, drop}
use Rattle.std.specs.List.{flat_map}
use Rattle.vdm_tree.specs.ClassView.{function_view}
use Rattle.spec_checks.specs.Definitions.{function_faults}
use Rattle.class_checks.specs.Results.{first_among}
use Rattle.sync_checks.specs.Below.check_scopes.specs.Told.{first_in}
use Rattle.sync_checks.specs.Below.definition_scopes.specs.Standing.{spec_at}
use Rattle.spec_check.proofs.lists.refuse_functions.Given as goal

-- those that are left, behind what was refused so far
abbrev pub invariant-loop-definition : goal.invariant-loop-definition
invariant-loop-definition l =
    first_among (first_in l.refusals) (flat_map (function_faults (spec_at l.site) l.site.class) (map function_view (drop l.definition-index l.definitions)))
    ≡ first_among (first_in l.fn.refusals) (flat_map (function_faults (spec_at l.site) l.site.class) (map function_view l.definitions))
