use Rattle.word_reader.proofs.Fronts.{read-step}
use Rattle.word_reader.proofs.words.words_of.Goals as goal

pub loop-rest-preserved : goal.loop-rest-preserved
loop-rest-preserved c =
    read-step c.args.text.now c.loop-rest.ended _ c.loop-rest.rest.now _ _ _ _ _ _ _ c.in-len1-up.len_at_least c.loop-rest.invariant c.front_word-word.ensures c.in_ok-push.ensures.items c.ends_operand-ended.ensures c.more.ensures c.behind-rest-in-len1-up.ensures.behind
