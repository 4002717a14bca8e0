use Rattle.std.proofs.Common.{ap, rules}
use Rattle.expr_tree.specs.TypeDefView.{invariant_view}
use Rattle.expr_tree.specs.View.{boxed_view}
use Rattle.spec_table.specs.Tables.{table_spec}
use Rattle.eval_data.specs.declared.asking.Asking.{Asking}
use Rattle.eval_data.specs.Parts.{boxed_list, here_of}
use Rattle.fit_steps.proofs.Meeting.{met_at_once, met_behind_first}
use Rattle.fit_steps.proofs.invariants.meets.Goals as goal

pub returns-in-Some : goal.returns-in-Some
returns-in-Some c =
    met_behind_first (table_spec c.args.table.now) (here_of c.args.here) c.args.asking.value (invariant_view c.args.invariant.now) c.args.value c.waiting.result
    (boxed_list c.in_ok-found.found.items) c.deref.result.now.place _ (boxed_view c.in-Some.first.now)
    c.in_ok-found.ensures (search rules) c.cleared.ensures (ap (λ (a : Asking). a.place) c.deref.ensures) c.waiting.ensures

pub returns : goal.returns
returns c =
    met_at_once (table_spec c.args.table.now) (here_of c.args.here) c.args.asking.value (invariant_view c.args.invariant.now) c.args.value c.met.result
    (boxed_list c.in_ok-found.found.items) c.deref.result.now.place c.cleared.new.locals.items c.met.new.locals.items c.new.result.items
    c.in_ok-found.ensures (search rules) c.cleared.ensures c.new.ensures.items (ap (λ (a : Asking). a.place) c.deref.ensures) c.met.ensures
