use Rattle.std.proofs.Common.{map}
use Rattle.spec_table.specs.Tables.{table_spec}
use Rattle.search_steps.proofs.Going.{turned}
use Rattle.search_steps.proofs.passing.turn.Goals as goal

pub returns : goal.returns
returns c =
    let first = rw c.in-Some.is at c.in_ok-values.ensures in
    rw c.found_of.ensures (turned (table_spec c.args.table.now) c.args.search.now (map (λ v. v.now) c.in-Some.values.items) c.in_ok-attempt.attempt c.args.locals.now.items
    c.bound_or.new.locals.items first
    (λ matched missed. rw (c.as_slice.ensures.value, c.as_slice-2.ensures.value) at (c.in_ok-attempt.ensures c.args.search.now.place matched missed)))
