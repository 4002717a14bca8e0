use Rattle.std.proofs.Common.{◌≡◌, List, IfOk, subst}
use Rattle.abstract_syntax.specs.Expressions.{ExprTree}
use Rattle.expr_tree.specs.View.{pattern_views}
use Rattle.eval_data.specs.Parts.{boxed_list}
use Rattle.function_steps.proofs.Listed.{each_given}
use Rattle.function_steps.proofs.brackets.givens_of.Goals as goal

pub returns : goal.returns
returns c =
    subst (λ (es : List ExprTree). IfOk c.givens_in_each.result (λ found. boxed_list found.items ≡ es)) (each_given (pattern_views c.args.patterns.now))
    c.givens_in_each.ensures
