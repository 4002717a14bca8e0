use Rattle.std.proofs.Common.{List, map, ap}
use Rattle.std.specs.List.{flat_map}
use Rattle.vdm_tree.specs.ClassView.{block_view, class_view}
use Rattle.vdm_tree.specs.declared.class_def.Block.{Block}
use Rattle.stmt_meaning.specs.Keeping.{class_conditions, conditions_in}
use Rattle.spec_table.specs.Tables.{table_spec}
use Rattle.kept_invariants.specs.Guarding.{all_hold_in}
use Rattle.kept_invariants.proofs.Verdicts.{same_verdict}
use Rattle.kept_invariants.proofs.own.class_holds.Goals as goal

pub returns : goal.returns
returns c =
    let spec = table_spec c.args.table.now in
    same_verdict c.blocks_hold.result
    (all_hold_in spec c.args.env.now (flat_map conditions_in (map block_view c.as_slice.result.now)))
    (all_hold_in spec c.args.env.now (class_conditions (class_view c.args.class.now)))
    (ap (λ (bs : List Block). all_hold_in spec c.args.env.now (flat_map conditions_in (map block_view bs))) c.as_slice.ensures.value)
    c.blocks_hold.ensures
