use Rattle.std.proofs.Common.{◌∙◌}
use Rattle.vdm_kinds.specs.declared.run_fault.RunFault.TheVariants.{NoMatch}
use Rattle.expr_tree.specs.View.{boxed_view}
use Rattle.spec_table.specs.Tables.{table_spec}
use Rattle.node_meaning.specs.Matching.{decided as condition}
use Rattle.node_meaning.specs.Tasks.{fault}
use Rattle.eval_data.specs.Parts.{here_of}
use Rattle.eval_data.specs.Steps.{told}
use Rattle.fit_steps.specs.Tests.{under}
use Rattle.fit_steps.proofs.invariants.met.Goals as goal

pub returns : goal.returns
returns c = λ asker.
    let spec = table_spec c.args.table.now in
    c.answered.ensures (under spec asker) c.bound_to.new.locals.items
    ∙ c.in_ok-attempt.ensures c.args.place
    (λ inner. condition (here_of c.args.here) inner (boxed_view c.args.invariant.now.condition) c.args.place (told spec c.args.asking.value)) (λ inner. fault NoMatch c.args.place)
