use Rattle.std.proofs.Common.{arith}
use Rattle.vdm_tree.specs.ClassView.{variable_item_view}
use Rattle.spec_checks.specs.Definitions.{item_faults}
use Rattle.sync_checks.specs.Below.check_scopes.specs.Told.{first_in}
use Rattle.sync_checks.specs.Below.definition_scopes.specs.Standing.{spec_at}
use Rattle.spec_check.proofs.Turns.{turn, ended}
use Rattle.spec_check.proofs.lists.refuse_items.Goals as goal

pub loop-item-preserved : goal.loop-item-preserved
loop-item-preserved c =
    turn (item_faults (spec_at c.args.site) c.args.site.class) variable_item_view c.args.items.now c.loop-item.item-index c.item-item.result
    (first_in c.loop-item.refusals) (first_in c.refuse_item.new.refusals) _ c.item-item.is c.loop-item-test.true c.in_ok-refuse_item.ensures c.loop-item.invariant

pub returns : goal.returns
returns c =
    ended (item_faults (spec_at c.args.site) c.args.site.class) variable_item_view c.args.items.now c.loop-item.item-index (first_in c.loop-item.refusals) _
    (omega (arith, c.loop-item-test.false)) c.loop-item.invariant
