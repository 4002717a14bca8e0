use Rattle.std.proofs.Common.{◌++◌, ◌∷◌, [], ap, ◌∙◌}
use Rattle.std.proofs.lemmas.Result.{IfOk-weaker}
use Rattle.abstract_syntax.specs.Expressions.{ExprTree}
use Rattle.expr_tree.specs.View.{view_of}
use Rattle.node_meaning.specs.ClassTests.{class_told}
use Rattle.node_meaning.specs.Strict.{collected}
use Rattle.node_meaning.specs.Tasks.{evaluated}
use Rattle.eval_data.specs.Parts.{class_test_of, here_of, parts_of}
use Rattle.value_steps.proofs.strict_nodes.class_tested.Goals as goal

pub returns : goal.returns
returns c =
    let here = here_of c.args.here in
    IfOk-weaker c.part_among.result _ _ (λ s is setting locals.
    let further = class_told setting.spec (class_test_of c.args.test) in
    is setting locals
    ∙ (λ i. evaluated here locals (view_of c.boxed.result.now) c.args.place (λ v after. collected here c.args.place (parts_of c.args.rest) (c.new.ensures.items i ++ v ∷ []) further after))
    ∙ ap (λ (tree : ExprTree). evaluated here locals tree c.args.place (λ v after. collected here c.args.place (parts_of c.args.rest) (v ∷ []) further after)) c.boxed.ensures) c.part_among.ensures
