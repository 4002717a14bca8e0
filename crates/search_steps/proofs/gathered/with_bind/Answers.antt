use Rattle.std.proofs.Common.{◌≡◌, List, ◌++◌, IfOk, map, subst, ap, ◌∙◌}
use Rattle.abstract_syntax.specs.Expressions.{PatternTree}
use Rattle.expr_tree.specs.View.{pattern_view}
use Rattle.eval_data.specs.Parts.{patterns_at}
use Rattle.search_steps.proofs.Binds.{patterns_shown}
use Rattle.search_steps.proofs.gathered.with_bind.Goals as goal

pub returns : goal.returns
returns c =
    subst (λ (ps : List PatternTree). IfOk c.with_each.result (λ all. patterns_at all.items ≡ patterns_at c.args.found.items ++ ps))
    (ap (map pattern_view) c.as_slice.ensures.value ∙ patterns_shown c.args.bind.now) c.with_each.ensures
