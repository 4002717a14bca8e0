use Rattle.std.proofs.Common.{Option, ap, sym, ◌+◌, ◌∙◌}
use Rattle.vdm_kinds.specs.declared.spec_fault.SpecFault.{SpecFault}
use Rattle.table_faults.specs.Firsts.{or_behind}
use Rattle.table_faults.specs.Known.{known_of}
use Rattle.table_faults.specs.Tables.{spec_in}
use Rattle.table_faults.proofs.Telling.{block_told, members_from, told}
use Rattle.table_faults.proofs.table.Table.members_fault.Goals as goal

pub loop-block-preserved : goal.loop-block-preserved
loop-block-preserved c =
    let spec = spec_in c.args.self.now in
    let blocks = c.args.blocks.now in
    let i = c.loop-block.block-index in
    ap (λ (f : Option SpecFault). or_behind f (told spec c.args.k (known_of c.block_fault.new.seen) (members_from (i + 1) blocks))) (sym c.in_default.is)
    ∙ block_told spec c.args.k blocks i c.block-item.result c.loop-block-test.true c.block-item.is c.loop-block.seen c.block_fault.new.seen _ _
    c.in_ok-fault.ensures c.loop-block.invariant

pub returns-in-Some : goal.returns-in-Some
returns-in-Some c =
    let spec = spec_in c.args.self.now in
    let blocks = c.args.blocks.now in
    let i = c.loop-block.block-index in
    ap (λ (f : Option SpecFault). or_behind f (told spec c.args.k (known_of c.block_fault.new.seen) (members_from (i + 1) blocks))) (sym c.in-Some.is)
    ∙ block_told spec c.args.k blocks i c.block-item.result c.loop-block-test.true c.block-item.is c.loop-block.seen c.block_fault.new.seen _ _
    c.in_ok-fault.ensures c.loop-block.invariant
