use Rattle.std.proofs.Common.{ap, sym, ◌∙◌}
use Rattle.abstract_syntax.specs.Expressions.{BranchTrees}
use Rattle.expr_tree.specs.View.{boxed_view}
use Rattle.node_meaning.specs.Expressions.{branches}
use Rattle.eval_data.specs.Parts.{here_of}
use Rattle.value_steps.proofs.Elseifs.{first_branch}
use Rattle.value_steps.proofs.branches.branches.Goals as goal

pub returns-in-len1-up : goal.returns-in-len1-up
returns-in-len1-up c = λ setting locals.
    c.if_else.ensures setting locals
    ∙ ap (λ (bs : BranchTrees). branches (here_of c.args.here) c.args.place bs (boxed_view c.args.otherwise.now) locals)
    (sym (first_branch c.args.more.now c.first-item.result c.in-len1-up.len_at_least c.first-item.is))
