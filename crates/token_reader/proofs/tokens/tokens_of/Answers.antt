use Rattle.std.proofs.lemmas.List.{get_or_default}
use Rattle.token_reader.proofs.Reading.{read-to}
use Rattle.token_reader.proofs.tokens.tokens_of.Goals as goal

pub loop-word-preserved : goal.loop-word-preserved
loop-word-preserved c =
    let was = c.loop-word.invariant in
    let now = c.in_ok-token.ensures in
    read-to _ _ _ _ _ c.args.text.now _ _ _ _ c.args.words.now c.loop-word.word-index _ _ c.in_ok-token.token c.loop-word-test.true (get_or_default _ _ _ _ c.loop-word-test.true) was.tokens was.names was.kept was.room was.readable now.token now.names c.first_token.ensures.kept c.first_token.ensures.room c.in_ok-push.ensures.items c.width.ensures c.behind-rest.ensures
