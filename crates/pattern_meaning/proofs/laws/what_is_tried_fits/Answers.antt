use Rattle.pattern_meaning.proofs.Tried.{tried_fits, fits_tried}
use Rattle.pattern_meaning.proofs.laws.what_is_tried_fits.Goals as goal

pub returns : goal.returns
returns c = λ types p given v w. (tried_fits types p given v w, fits_tried types p given v w)
