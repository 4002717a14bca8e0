use Rattle.std.proofs.Common.{◌∷◌, ap, ◌∙◌, refl}
use Rattle.abstract_syntax.specs.Values.{sequence, value_trees}
use Rattle.expr_tree.specs.View.{pattern_view, pattern_views, pattern_trees}
use Rattle.patterns.specs.Search.{to_come}
use Rattle.patterns.specs.Todos.{to_match, to_split, all_ways}
use Rattle.patterns.proofs.Steps.{goes_on, put_two}
use Rattle.patterns.proofs.search.Search.part.Goals as goal

pub returns : goal.returns
returns c = λ types. (
  refl,
  goes_on types _ _ _ refl refl c.requires.nested
      (ap (all_ways types _) (put_two _ _ _ _ _ c.in_ok-push-2.ensures c.in_ok-push.ensures ∙
      (λ i. to_match (pattern_view c.args.pattern.now) (sequence (value_trees (c.split_at.ensures.front i))) ∷
      to_split (pattern_trees (pattern_views c.args.others.now)) (c.split_at.ensures.back i) 0 ∷ to_come c.args.self.now.work))),
)
