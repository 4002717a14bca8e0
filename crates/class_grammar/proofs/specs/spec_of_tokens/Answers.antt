use Rattle.std.proofs.Common.{◌∙◌, arith}
use Rattle.text_fronts.proofs.Fronts.{few-words, readable}
use Rattle.class_grammar.proofs.specs.spec_of_tokens.Goals as goal

pub tokens_of-requires-clause-room : goal.tokens_of-requires-clause-room
tokens_of-requires-clause-room c =
    let most = few-words c.args.text.now c.args.tokens.now 0 c.deref.result.now c.requires.tokens (c.deref.ensures.value ∙ c.in_ok-words.ensures) in
    omega (arith, c.requires.names)

pub tokens_of-requires-clause-readable : goal.tokens_of-requires-clause-readable
tokens_of-requires-clause-readable c = readable c.args.text.now c.args.tokens.now c.requires.tokens
