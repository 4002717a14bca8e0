use Rattle.std.proofs.Common.{refl}
use Rattle.vdm_meaning.proofs.WorkedSums.{one_and_one, one_and_one-over, too_few_units, one_too_many, makes_a_class, beside_a_class, beside_a_class-over}
use Rattle.vdm_meaning.proofs.laws.worked_sums.Goals as goal

pub returns : goal.returns
returns c = record {
  first = λ p q plus. refl;
  ends = one_and_one;
  stops = one_and_one-over;
  too_few_units = too_few_units;
  overflows = one_too_many;
  first_beside_a_class = λ class p q plus. refl;
  makes_the_class = λ class p q plus none. makes_a_class class none p q plus;
  ends_beside_a_class = λ class p q plus none. beside_a_class class none p q plus;
  stops_beside_a_class = λ class p q plus none. beside_a_class-over class none p q plus;
}
