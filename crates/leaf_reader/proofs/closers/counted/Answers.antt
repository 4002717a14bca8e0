use Rattle.std.proofs.Common.{◌≡◌, ◌+◌, ◌<◌, ◌≤◌, length, get_or, take, rules, ◌∙◌}
use Rattle.grammar_tokens.specs.View.{token_views}
use Rattle.leaf_reader.specs.Closers.{AreCounts}
use Rattle.leaf_reader.proofs.Closing.{next_counted, stopped_counts}
use Rattle.leaf_reader.proofs.closers.counted.Goals as goal
use Rattle.leaf_reader.proofs.closers.counted.Goals.{After-push_next}

-- one token more is counted
next : (c : After-push_next) → AreCounts c.push_next.new.counts.items (token_views (take (c.loop-token.token-index + 1) c.args.items.now))
next c =
    let there : c.loop-token.token-index < length c.args.items.now = search rules in
    let is : get_or c.args.items.now c.loop-token.token-index c.token-item.result ≡ c.token-item.result = search rules in
    next_counted _ _ c.args.items.now c.loop-token.token-index c.token-item.result there is
    (λ tokens token all word are. c.push_next.ensures.counts tokens token all (c.word_of.ensures ∙ word) are) c.loop-token.invariant

pub returns-then-not-push_next : goal.returns-then-not-push_next
returns-then-not-push_next c =
    let there : c.loop-token.token-index + 1 ≤ length c.args.items.now = search rules in
    let short : length c.push_next.new.counts.items ≤ (c.loop-token.token-index + 1) + 1 = search rules in
    stopped_counts _ c.args.items.now (c.loop-token.token-index + 1) there short (next c.before)

pub loop-token-preserved : goal.loop-token-preserved
loop-token-preserved c = record { counted = next c.before; all = search rules; there = search rules }
