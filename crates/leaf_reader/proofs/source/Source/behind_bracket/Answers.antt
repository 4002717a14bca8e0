use Rattle.std.proofs.Common.{◌≡◌, Some, length, reverse, take, slice_get, rules, ap, ◌∙◌}
use Rattle.grammar_tokens.specs.View.{token_views}
use Rattle.stmt_reading.specs.Statements.{behind_bracket}
use Rattle.leaf_reader.proofs.Closing.{counted_rest}
use Rattle.leaf_reader.proofs.source.Source.behind_bracket.Goals as goal

pub returns-in-Some : goal.returns-in-Some
returns-in-Some c =
    let items = c.self.inside.items.items in
    let at : slice_get c.self.inside.closers.counts.items (length items) ≡ Some c.in-Some.left = search rules in
    ap (λ rest. reverse (token_views rest)) (c.first_of.ensures ∙ ap (take c.in-Some.left) c.deref.ensures.value)
    ∙ counted_rest _ items c.in-Some.left c.self.invariant at
    ∙ ap (behind_bracket 0) c.self.view_is
