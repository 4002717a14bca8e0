use Rattle.std.proofs.Common.{◌≡◌, ◌++◌, drop}
use Rattle.expr_tree.specs.View.{expr_trees, views_of}
use Rattle.node_meaning.specs.Expressions.{places_of}
use Rattle.name_steps.proofs.argument_list.places_in.Given as goal

-- those so far, and those of the arguments that are left
abbrev pub invariant-loop-argument : goal.invariant-loop-argument
invariant-loop-argument l =
    l.places.items ++ places_of (expr_trees (views_of (drop l.argument-index l.arguments))) ≡ places_of (expr_trees (views_of l.arguments))
