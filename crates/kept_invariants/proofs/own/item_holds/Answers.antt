use Rattle.std.proofs.Common.{ap, sym}
use Rattle.expr_tree.specs.View.{boxed_view}
use Rattle.vdm_tree.specs.ClassView.{variable_item_view}
use Rattle.vdm_tree.specs.declared.class_def.VariableItem.{VariableItem}
use Rattle.spec_table.specs.Tables.{table_spec}
use Rattle.kept_invariants.specs.Guarding.{holds_in, item_holds}
use Rattle.kept_invariants.proofs.Verdicts.{same_verdict}
use Rattle.kept_invariants.proofs.own.item_holds.Goals as goal

pub returns-in-Invariant : goal.returns-in-Invariant
returns-in-Invariant c =
    let spec = table_spec c.args.table.now in
    same_verdict c.condition_holds.result (holds_in spec c.args.env.now (boxed_view c.in-Invariant.condition))
    (item_holds spec c.args.env.now (variable_item_view c.args.item.now))
    (ap (λ (i : VariableItem). item_holds spec c.args.env.now (variable_item_view i)) (sym c.in-Invariant.is)) c.condition_holds.ensures
