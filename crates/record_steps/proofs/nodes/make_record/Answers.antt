use Rattle.std.proofs.Common.{[], ap, sym, ◌∙◌}
use Rattle.std.proofs.lemmas.Result.{IfOk-weaker}
use Rattle.abstract_syntax.specs.Expressions.{ExprTrees}
use Rattle.spec_table.specs.Tables.{table_spec}
use Rattle.node_meaning.specs.Records.{record_made}
use Rattle.node_meaning.specs.Strict.{collected}
use Rattle.eval_data.specs.Parts.{here_of}
use Rattle.fit_steps.specs.Tests.{under}
use Rattle.record_steps.proofs.nodes.make_record.Goals as goal

pub returns-in-Some : goal.returns-in-Some
returns-in-Some c =
    let here = here_of c.args.here in
    let spec = table_spec c.args.table.now in
    IfOk-weaker c.first_part.result _ _ (λ s is asker.
    is (under spec asker) c.args.locals.now.items ∙
    ap (λ (trees : ExprTrees). collected here c.args.place trees [] (record_made spec here.nest here.scope c.args.type_name c.args.place) c.args.locals.now.items)
    (sym c.in-Some.ensures)) c.first_part.ensures

pub returns-in-None : goal.returns-in-None
returns-in-None c =
    let here = here_of c.args.here in
    let spec = table_spec c.args.table.now in
    IfOk-weaker c.record_made.result _ _ (λ s is asker.
    is asker ∙
    (λ i. record_made spec here.nest here.scope c.args.type_name c.args.place (c.new-values.ensures.items i) c.args.locals.now.items) ∙
    ap (λ (trees : ExprTrees). collected here c.args.place trees [] (record_made spec here.nest here.scope c.args.type_name c.args.place) c.args.locals.now.items)
    (sym c.in-None.ensures)) c.record_made.ensures
