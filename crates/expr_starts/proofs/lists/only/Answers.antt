use Rattle.std.proofs.Common.{◌≡◌, false}
use Rattle.expr_tree.specs.View.{expr_trees, views_of}
use Rattle.tree_nodes.specs.Emptiness.{is_empty_exprs}
use Rattle.expr_starts.proofs.Emptiness.{not-only}
use Rattle.expr_starts.proofs.lists.only.Goals as goal

pub returns : goal.returns
returns c =
    let left : is_empty_exprs (expr_trees (views_of c.pop.new.self.items)) ≡ false = cc (c.deref.ensures.value, c.is_empty.ensures, c.if-is_empty.false) in
    not-only c.args.items.items c.pop.new.self.items c.in-Some.last c.in-Some.ensures.items left
