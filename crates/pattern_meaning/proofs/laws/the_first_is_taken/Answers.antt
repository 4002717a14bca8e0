use Rattle.pattern_meaning.specs.Ways.{ways}
use Rattle.pattern_meaning.proofs.Firsts.{first_is_first, none_is_none}
use Rattle.pattern_meaning.proofs.Tried.{fits_tried}
use Rattle.pattern_meaning.proofs.laws.the_first_is_taken.Goals as goal

pub returns-clause-first : goal.returns-clause-first
returns-clause-first c = λ types p given v b e. first_is_first (ways types p given v) b e

pub returns-clause-none : goal.returns-clause-none
returns-clause-none c = λ types p given v e w f. none_is_none (ways types p given v) e w (fits_tried types p given v w f)
