use Rattle.std.proofs.Common.{◌≡◌, ◌++◌, drop}
use Rattle.eval_data.specs.Parts.{boxed_list}
use Rattle.search_steps.proofs.brackets.joined.Given as goal

abbrev pub invariant-loop-expr : goal.invariant-loop-expr
invariant-loop-expr l =
    boxed_list l.all.items ++ boxed_list (drop l.expr-index l.fn.more.items) ≡ boxed_list l.initial.all.items ++ boxed_list l.fn.more.items
