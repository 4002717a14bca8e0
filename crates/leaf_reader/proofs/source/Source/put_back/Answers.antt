use Rattle.std.proofs.Common.{◌≡◌, length, rules, sym, ◌∙◌}
use Rattle.std.proofs.lemmas.List.{length-map}
use Rattle.grammar_tokens.specs.View.{token_view, token_views}
use Rattle.leaf_reader.proofs.Closing.{more_items}
use Rattle.leaf_reader.proofs.source.Source.put_back.Goals as goal

pub invariant_of-self : goal.invariant_of-self
invariant_of-self c =
    let items = c.self.inside.items.items in
    let at : c.len.result ≡ length items = search rules in
    more_items _ items _ c.args.token _ c.push.ensures.items
    (c.put.ensures (token_views items) (token_view c.args.token) (at ∙ sym (length-map items token_view)) c.word_of.ensures c.self.invariant)

pub invariant_of-self-2 : goal.invariant_of-self-2
invariant_of-self-2 c =
    let items = c.self.inside.items.items in
    let at : c.len.result ≡ length items = search rules in
    more_items _ items _ c.args.token _ c.push.ensures.items
    (c.put.ensures (token_views items) (token_view c.args.token) (at ∙ sym (length-map items token_view)) c.word_of.ensures c.self.invariant)
