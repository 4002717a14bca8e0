use Rattle.std.proofs.Common.{refl}
use Rattle.patterns.proofs.Picked.{headed_slice}
use Rattle.patterns.proofs.Steps.{goes_by_value}
use Rattle.patterns.proofs.search.Search.compare.Goals as goal

pub returns : goal.returns
returns c = λ types.
    goes_by_value types _ _ _ _ _ _ refl refl refl refl (headed_slice _ _ c.in-len1-up.len_at_least c.value-item.is) c.requires c.is.ensures
