use Rattle.std.proofs.Common.{ap, sym, ◌∙◌}
use Rattle.expr_tree.specs.View.{view_of}
use Rattle.node_meaning.specs.Expressions.{expr_plan}
use Rattle.eval_data.specs.Parts.{here_of}
use Rattle.eval_steps.proofs.Results.{if_ok}
use Rattle.eval_steps.proofs.Views.{view-IsOfBaseClass, view-IsOfClass}
use Rattle.eval_steps.proofs.tested.tested.Goals as goal

pub returns-in-IsOfClass : goal.returns-in-IsOfClass
returns-in-IsOfClass c =
    if_ok c.class_tested.result c.class_tested.ensures (λ s is setting locals.
    is setting locals
    ∙ sym (ap (expr_plan setting (here_of c.args.here) locals) (ap view_of c.in-IsOfClass.is ∙ view-IsOfClass _ _ _ _)))

pub returns-in-IsOfBaseClass : goal.returns-in-IsOfBaseClass
returns-in-IsOfBaseClass c =
    if_ok c.class_tested-in-IsOfBaseClass.result c.class_tested-in-IsOfBaseClass.ensures (λ s is setting locals.
    is setting locals
    ∙ sym (ap (expr_plan setting (here_of c.args.here) locals) (ap view_of c.in-IsOfBaseClass.is ∙ view-IsOfBaseClass _ _ _ _)))
