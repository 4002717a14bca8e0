-- The expressions that references lead to.
use Rattle.std.specs.Prelude.{Box, List, map}
use Rattle.std.specs.Borrow.{Bor}
use Rattle.std.specs.declared.alloc.Global.{Global}
use Rattle.abstract_syntax.specs.Expressions.{ExprTree}
use Rattle.expr_tree.specs.declared.expr.Expr.{Expr}
use Rattle.expr_tree.specs.View.{boxed_view}

-- what references lead to
abbrev pub expr_trees : List (Bor (Box Expr Global)) → List ExprTree
expr_trees = map (λ (e : Bor (Box Expr Global)). boxed_view e.now)
