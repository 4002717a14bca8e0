use Rattle.std.proofs.Common.{map, option_map, ap, sym}
use Rattle.abstract_syntax.specs.Expressions.{DefinedTrees, one_defined}
use Rattle.type_tree.specs.TypeView.{type_view}
use Rattle.expr_tree.specs.View.{boxed_view, pattern_view, defined_view, defined_trees}
use Rattle.vdm_tree.specs.StmtView.{boxed_stmt}
use Rattle.node_meaning.specs.Expressions.{definitions}
use Rattle.stmt_meaning.specs.Flows.{stmt_within}
use Rattle.eval_data.specs.Parts.{here_of}
use Rattle.meet_steps.proofs.Firsts.{first_defined}
use Rattle.meet_steps.proofs.Moving.{at_all}
use Rattle.meet_steps.proofs.defining.definitions.Goals as goal

pub returns-in-Some-clause-same : goal.returns-in-Some-clause-same
returns-in-Some-clause-same c =
    let here = here_of c.args.here in
    let first = c.in-Some.first.now in
    let within = stmt_within here c.args.count (boxed_stmt c.args.body.now) in
    at_all c.first_defined.result
    (λ spec locals. definitions spec here c.args.place (one_defined (pattern_view first.pattern.value) (option_map type_view first.declared) (boxed_view first.value) (defined_trees (map defined_view c.in-Some.more.now))) within locals)
    (λ spec locals. definitions spec here c.args.place (defined_trees (map defined_view c.args.definitions.now)) within locals)
    c.first_defined.ensures.same
    (λ spec locals. ap (λ (trees : DefinedTrees). definitions spec here c.args.place trees within locals)
    (first_defined c.args.definitions.now first c.in-Some.more.now (sym c.in-Some.ensures.cases.0)))
