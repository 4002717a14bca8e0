use Rattle.std.proofs.Common.{◌≡◌, ◌+◌, length, rules, ap, sym, ◌∙◌}
use Rattle.leaf_reader.specs.Closers.{next_count}
use Rattle.leaf_reader.proofs.Closing.{kept_counts, pushed_counts}
use Rattle.leaf_reader.proofs.closers.push_next.Goals as goal

pub returns-in_default-next_count-clause-counts : goal.returns-in_default-next_count-clause-counts
returns-in_default-next_count-clause-counts c items token all word are = kept_counts _ items token all are

pub returns-clause-counts : goal.returns-clause-counts
returns-clause-counts c =
    let before : c.in-Some.left + 1 ≡ length c.args.counts.now.items = search rules in
    pushed_counts _ _ _ c.args.word c.in-Some.left _ c.push.ensures.items before
    (ap (next_count c.args.word c.in-Some.left) (sym c.deref.ensures.value) ∙ sym c.next_count.ensures ∙ c.in-Some-next_count.is)
