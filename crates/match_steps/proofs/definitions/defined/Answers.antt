use Rattle.std.proofs.Common.{ap, sym, ◌∙◌}
use Rattle.expr_tree.specs.View.{boxed_view}
use Rattle.node_meaning.specs.Expressions.{defined}
use Rattle.eval_data.specs.Parts.{here_of}
use Rattle.match_steps.proofs.Firsts.{first_defined}
use Rattle.match_steps.proofs.definitions.defined.Goals as goal

pub returns-in-Some : goal.returns-in-Some
returns-in-Some c = λ setting locals.
    c.first_defined.ensures setting locals ∙
    ap (λ ds. defined setting.spec (here_of c.args.here) c.args.place c.args.count ds (boxed_view c.args.body.now) locals)
    (first_defined c.args.definitions.now c.in-Some.definition.now c.in-Some.more.now (sym c.in-Some.ensures.cases.0))
