use Rattle.std.proofs.Common.{refl}
use Rattle.grammar_fronts.proofs.worked.worked_types.Goals as goal

pub returns : goal.returns
returns c = record {
  nothing = refl;
  basic = refl;
  union = refl;
  function = refl;
  function_inside = refl;
  function_of_nothing = refl;
  cut = refl;
  map_cut = refl;
  quote = refl;
}
