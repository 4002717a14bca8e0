use Rattle.std.proofs.Common.{◌≡◌, ◌+◌, ◌≤◌, ◌∷◌, [], length, rules}
use Rattle.leaf_reader.proofs.Closing.{all_counts, fewer_counts}
use Rattle.leaf_reader.proofs.closers.Closers.put.Goals as goal

pub returns-then-len-left : goal.returns-then-len-left
returns-then-len-left c items token at word are =
    let few : length c.args.self.now.counts.items ≤ length items + 1 = search rules in
    all_counts _ items (token ∷ []) few are

pub returns : goal.returns
returns c items token at word are =
    let all : length c.truncate.new.self.items ≡ length items + 1 = search rules in
    c.push_next.ensures.counts items token all word (rw c.truncate.ensures.items (fewer_counts _ _ items are))
