use Rattle.std.proofs.Common.{List, ap, ◌∙◌}
use Rattle.expr_tree.specs.declared.expr.Expr.{Expr}
use Rattle.expr_tree.specs.View.{expr_trees, view_of, views_of}
use Rattle.grammar_trees.specs.Lists.{and_expr}
use Rattle.tree_frames.proofs.Pushes.{exprs-push}
use Rattle.tree_frames.proofs.lists.with_expr.Goals as goal

pub returns : goal.returns
returns c = ap (λ (items : List Expr). expr_trees (views_of items)) c.in_ok-push.ensures.items ∙ exprs-push c.args.items.items c.into_inner.result ∙ ap (λ (last : Expr). and_expr (expr_trees (views_of c.args.items.items)) (view_of last)) c.into_inner.ensures
