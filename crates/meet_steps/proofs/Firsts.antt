-- The first of a list of definitions.
use Rattle.std.proofs.Common.{◌≡◌, List, ◌∷◌, map, option_map, rules}
use Rattle.abstract_syntax.specs.Expressions.{one_defined}
use Rattle.type_tree.specs.TypeView.{type_view}
use Rattle.expr_tree.specs.View.{boxed_view, pattern_view, defined_view, defined_trees}
use Rattle.expr_tree.specs.declared.expr.Expr.{the_lemmas}
use Rattle.expr_tree.specs.declared.parts.Defined.{Defined}

pub first_defined : (all : List Defined) (first : Defined) (more : List Defined) → first ∷ more ≡ all →
    one_defined (pattern_view first.pattern.value) (option_map type_view first.declared) (boxed_view first.value) (defined_trees (map defined_view more))
    ≡ defined_trees (map defined_view all)
first_defined all first more e = search (rules, the_lemmas)
