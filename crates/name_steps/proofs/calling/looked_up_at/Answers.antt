use Rattle.std.proofs.Common.{List, ◌∷◌, [], ◌++◌, ap, ◌∙◌}
use Rattle.vdm_kinds.specs.declared.operator.Operator.TheVariants.{LookUp}
use Rattle.abstract_syntax.specs.Expressions.{no_exprs}
use Rattle.abstract_syntax.specs.Values.{ValueTree}
use Rattle.expr_tree.specs.View.{view_of}
use Rattle.plans.specs.Plans.{part}
use Rattle.node_meaning.specs.Envs.{at}
use Rattle.node_meaning.specs.Strict.{make, two_operands, with_others}
use Rattle.node_meaning.specs.Tasks.{expr_in, with_value}
use Rattle.eval_data.specs.Parts.{here_of}
use Rattle.name_steps.proofs.calling.looked_up_at.Goals as goal

pub returns-clause-same : goal.returns-clause-same
returns-clause-same c = λ setting locals.
    ap (part (expr_in (at (here_of c.args.here) locals) (view_of c.args.argument.now)))
    (c.in_ok-frame.ensures setting ∙
    ap (λ (vs : List ValueTree). with_value c.args.place (with_others (here_of c.args.here) c.args.place no_exprs vs (make (two_operands LookUp) c.args.place)))
    (c.in_ok-push.ensures.items ∙ ap (λ (vs : List ValueTree). vs ++ c.args.value ∷ []) c.new-done.ensures.items))
