use Rattle.lexeme_laws.proofs.Slicing.{put-together}
use Rattle.lexeme_laws.proofs.laws.pieces_are_the_text.Goals as goal

pub returns : goal.returns
returns c = put-together
