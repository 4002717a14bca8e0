use Rattle.vdm_lexer.proofs.Longest.{none_longer, longest-there}
use Rattle.vdm_lexer.proofs.laws.longest_sign_is_taken.Goals as goal

pub returns : goal.returns
returns c = record { longest = none_longer; there = longest-there }
