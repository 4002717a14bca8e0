use Rattle.std.proofs.Common.{arith}
use Rattle.text_fronts.proofs.Fronts.{few, few-words, readable}
use Rattle.text_fronts.proofs.front.read_front.Goals as goal

pub read_reach-requires-clause-readable : goal.read_reach-requires-clause-readable
read_reach-requires-clause-readable c = readable c.args.text.now c.args.lexemes.now c.requires.lexemes

pub read_reach-requires-clause-at : goal.read_reach-requires-clause-at
read_reach-requires-clause-at c = let most = few c.args.text.now c.args.lexemes.now c.requires.lexemes in omega (arith, c.requires.at)

pub read_reach-requires-clause-few : goal.read_reach-requires-clause-few
read_reach-requires-clause-few c =
    let most = few-words c.args.text.now c.args.lexemes.now c.args.at c.args.words.now c.requires.lexemes c.requires.words in
    omega arith
