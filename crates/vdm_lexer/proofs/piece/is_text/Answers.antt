use Rattle.std.proofs.Common.{arith}
use Rattle.std.proofs.lemmas.Grind.{common_steps}
use Rattle.std.proofs.lemmas.Bool.Decides.{nat_tests}
use Rattle.vdm_lexer.specs.Pieces.{is_text}
use Rattle.vdm_lexer.proofs.piece.is_text.Goals as goal

pub returns-then-text-other : goal.returns-then-text-other
unfolding is_text
returns-then-text-other c = grind (arith, common_steps, nat_tests)

pub returns-else-text-other : goal.returns-else-text-other
unfolding is_text
returns-else-text-other c = grind (arith, common_steps, nat_tests)
