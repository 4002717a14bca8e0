use Rattle.std.proofs.Common.{refl}
use Rattle.grammar_fronts.proofs.worked.worked_depths.Goals as goal

pub returns : goal.returns
returns c = record {
  brackets = refl;
  brackets_too_deep = refl;
  brackets_cut = refl;
  sum = refl;
  sum_too_deep = refl;
  longer_sum_too_deep = refl;
  sum_ends_in_product = refl;
  sum_in_bracket = refl;
  sum_in_bracket_too_deep = refl;
  sum_of_brackets = refl;
  implications = refl;
  implications_too_deep = refl;
  longer_implications_too_deep = refl;
  powers_too_deep = refl;
  negations = refl;
  negations_too_deep = refl;
  choices_too_deep = refl;
  sets_too_deep = refl;
  more_sets_too_deep = refl;
  calls = refl;
  calls_too_deep = refl;
  members_too_deep = refl;
  patterns_too_deep = refl;
  types_too_deep = refl;
  alternatives = refl;
  factors = refl;
  parts = refl;
  alternatives_of_factors = refl;
  alternatives_of_factors_too_deep = refl;
}
