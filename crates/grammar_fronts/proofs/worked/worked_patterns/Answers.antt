use Rattle.std.proofs.Common.{refl}
use Rattle.grammar_fronts.proofs.worked.worked_patterns.Goals as goal

pub returns : goal.returns
returns c = record {
  nothing = refl;
  any = refl;
  joined = refl;
  value = refl;
  set = refl;
  map = refl;
  empty_map = refl;
  map_of_set = refl;
  tuple = refl;
  record_of_class = refl;
  union = refl;
  map_union = refl;
  no_sum = refl;
}
