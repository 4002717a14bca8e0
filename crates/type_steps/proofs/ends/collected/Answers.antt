use Rattle.std.proofs.Common.{List, [], ◌∷◌, ap, ◌∙◌}
use Rattle.std.proofs.lemmas.List.{map-append}
use Rattle.grammar_tokens.specs.View.{token_view, token_views}
use Rattle.grammar_words.specs.Tokens.{Token}
use Rattle.grammar_trees.specs.Frames.{typing}
use Rattle.type_steps.proofs.ends.collected.Goals as goal

pub returns : goal.returns
returns c = ap (λ (ts : List Token). typing ts) (ap token_views c.in_ok-push.ensures.items ∙ map-append token_view c.args.tokens.items (c.args.token ∷ []))
