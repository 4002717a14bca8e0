use Rattle.std.proofs.Common.{List, map, ap, sym, ◌∙◌}
use Rattle.abstract_syntax.specs.Expressions.{one_branch}
use Rattle.expr_tree.specs.declared.parts.Branch.{Branch}
use Rattle.expr_tree.specs.View.{boxed_view, branch_trees, branch_view, view_of}
use Rattle.node_meaning.specs.Expressions.{branches, expr_plan}
use Rattle.eval_data.specs.Parts.{here_of}
use Rattle.eval_steps.proofs.Views.{view-DefIn, view-IfElse}
use Rattle.eval_steps.proofs.chosen.chosen.Goals as goal

pub returns-in-DefIn : goal.returns-in-DefIn
returns-in-DefIn c = λ setting.
    c.def_in.ensures setting
    ∙ sym (ap (expr_plan setting (here_of c.args.here) c.args.locals.now.items) (ap view_of c.in-DefIn.is ∙ view-DefIn _ _ _ _))

pub returns-in-IfElse : goal.returns-in-IfElse
returns-in-IfElse c = λ setting.
    c.if_else.ensures setting c.args.locals.now.items
    ∙ ap (λ (es : List Branch). branches (here_of c.args.here) c.in-IfElse.place (one_branch (boxed_view c.in-IfElse.condition) (boxed_view c.in-IfElse.then) (branch_trees (map branch_view es))) (boxed_view c.in-IfElse.otherwise) c.args.locals.now.items) c.as_slice-elseifs.ensures.value
    ∙ sym (ap (expr_plan setting (here_of c.args.here) c.args.locals.now.items) (ap view_of c.in-IfElse.is ∙ view-IfElse _ _ _ _ _))
