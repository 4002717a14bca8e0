use Rattle.std.proofs.Common.{◌≡◌, ◌++◌, drop}
use Rattle.type_tree.specs.TypeView.{type_trees, type_views}
use Rattle.expr_tree.specs.Alternatives.{alternatives_among}
use Rattle.type_graphs.proofs.alternatives.+push_alternatives.Given as goal

-- the names so far, and those of the rest
abbrev pub invariant-loop-alternative : goal.invariant-loop-alternative
invariant-loop-alternative l =
    l.found.items ++ alternatives_among (type_trees (type_views (drop l.alternative-index l.alternative-items)))
    ≡ l.fn.found.items ++ alternatives_among (type_trees (type_views l.alternative-items))
