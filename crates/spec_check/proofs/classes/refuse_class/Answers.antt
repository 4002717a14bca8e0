use Rattle.std.proofs.Common.{List, map, ap}
use Rattle.std.specs.List.{flat_map}
use Rattle.spec_checks.specs.Definitions.{block_faults, class_faults}
use Rattle.sync_checks.specs.Below.check_scopes.specs.Told.{first_in}
use Rattle.sync_checks.specs.Below.spec_table.specs.Tables.{table_spec}
use Rattle.vdm_tree.specs.ClassView.{block_view, class_view}
use Rattle.vdm_tree.specs.declared.class_def.Block.{Block}
use Rattle.spec_check.proofs.Noted.{on_same}
use Rattle.spec_check.proofs.classes.refuse_class.Goals as goal

pub returns : goal.returns
returns c =
    let spec = table_spec c.args.table.now in
    on_same c.refuse_blocks.result (first_in c.args.refusals.now) (first_in c.refuse_blocks.new.refusals)
    (flat_map (block_faults spec c.args.class.now.name) (map block_view c.as_slice.result.now)) (class_faults spec (class_view c.args.class.now))
    (ap (λ (bs : List Block). flat_map (block_faults spec c.args.class.now.name) (map block_view bs)) c.as_slice.ensures.value)
    c.refuse_blocks.ensures
