use Rattle.std.proofs.Common.{◌≡◌, map, drop}
use Rattle.std.specs.List.{flat_map}
use Rattle.vdm_tree.specs.ClassView.{sync_view}
use Rattle.spec_checks.specs.Definitions.{sync_faults}
use Rattle.class_checks.specs.Results.{first_among}
use Rattle.sync_checks.specs.Below.check_scopes.specs.Told.{first_in}
use Rattle.sync_checks.specs.Below.definition_scopes.specs.Standing.{spec_at}
use Rattle.spec_check.proofs.lists.refuse_clauses.Given as goal

-- those that are left, behind what was refused so far
abbrev pub invariant-loop-clause : goal.invariant-loop-clause
invariant-loop-clause l =
    first_among (first_in l.refusals) (flat_map (sync_faults (spec_at l.site) l.site.class) (map sync_view (drop l.clause-index l.clauses)))
    ≡ first_among (first_in l.fn.refusals) (flat_map (sync_faults (spec_at l.site) l.site.class) (map sync_view l.clauses))
