use Rattle.std.proofs.Common.{◌≡◌}
use Rattle.vdm_kinds.specs.declared.place.Place.{Place}
use Rattle.eval_data.specs.Steps.{meets_with, missed}
use Rattle.spec_table.specs.Tables.{table_spec}
use Rattle.match_steps.specs.Trials.{further_count, tried_as}
use Rattle.match_steps.proofs.trying.settled.Given as goal

-- what follows the last trial is what follows the first pattern
abbrev pub invariant-loop-next : goal.invariant-loop-next
invariant-loop-next l =
    (place : Place) → tried_as (table_spec l.table) l.met place l.value (missed (table_spec l.table) l.met place l.value) l.tried l.locals.items
    ≡ meets_with (table_spec l.table) l.fn.first place l.value l.fn.locals.items

abbrev pub decreases-loop-next : goal.decreases-loop-next
decreases-loop-next l = further_count l.met
