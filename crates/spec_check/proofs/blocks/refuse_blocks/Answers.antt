use Rattle.std.proofs.Common.{arith}
use Rattle.vdm_tree.specs.ClassView.{block_view}
use Rattle.spec_checks.specs.Definitions.{block_faults}
use Rattle.sync_checks.specs.Below.check_scopes.specs.Told.{first_in}
use Rattle.sync_checks.specs.Below.definition_scopes.specs.Standing.{spec_at}
use Rattle.spec_check.proofs.Turns.{turn, ended}
use Rattle.spec_check.proofs.blocks.refuse_blocks.Goals as goal

pub loop-block-preserved : goal.loop-block-preserved
loop-block-preserved c =
    turn (block_faults (spec_at c.args.site) c.args.site.class) block_view c.args.blocks.now c.loop-block.block-index c.block-item.result
    (first_in c.loop-block.refusals) (first_in c.refuse_block.new.refusals) _ c.block-item.is c.loop-block-test.true c.in_ok-refuse_block.ensures c.loop-block.invariant

pub returns : goal.returns
returns c =
    ended (block_faults (spec_at c.args.site) c.args.site.class) block_view c.args.blocks.now c.loop-block.block-index (first_in c.loop-block.refusals) _
    (omega (arith, c.loop-block-test.false)) c.loop-block.invariant
