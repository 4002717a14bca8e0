use Rattle.std.proofs.Common.{reverse, ap, ◌∙◌}
use Rattle.std.proofs.lemmas.List.{reverse-reverse}
use Rattle.grammar_tokens.specs.View.{token_view, token_views}
use Rattle.leaf_reader.proofs.Turned.{map-reverse}
use Rattle.leaf_reader.proofs.source.Source.new.Goals as goal

pub returns : goal.returns
returns c =
    ap (λ items. reverse (token_views items)) c.reverse.ensures.items
    ∙ ap reverse (map-reverse token_view c.args.tokens.items)
    ∙ reverse-reverse (token_views c.args.tokens.items)
