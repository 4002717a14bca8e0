use Rattle.std.proofs.Common.{◌++◌, ◌∷◌, [], ap, sym, ◌∙◌}
use Rattle.std.proofs.lemmas.Result.{IfOk-weaker}
use Rattle.abstract_syntax.specs.Expressions.{ExprTrees}
use Rattle.expr_tree.specs.View.{view_of}
use Rattle.node_meaning.specs.Strict.{strict, collected, make}
use Rattle.node_meaning.specs.Tasks.{evaluated}
use Rattle.eval_data.specs.Parts.{here_of, parts_of, strict_of}
use Rattle.value_steps.proofs.strict_nodes.strict.Goals as goal

pub returns-in-Some : goal.returns-in-Some
returns-in-Some c =
    let here = here_of c.args.here in
    let what = strict_of c.args.what in
    IfOk-weaker c.part_among.result _ _ (λ s is setting locals.
    is setting locals
    ∙ (λ i. evaluated here locals (view_of c.in-Some.tree.now) c.args.place (λ v after. collected here c.args.place (parts_of c.in-Some.rest) (c.new-in-Some.ensures.items i ++ v ∷ []) (make what c.args.place) after))
    ∙ ap (λ (trees : ExprTrees). strict here what c.args.place trees locals) (sym c.in-Some.ensures)) c.part_among.ensures
