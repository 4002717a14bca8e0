use Rattle.vdm_meaning.proofs.WorkedPrints.{printed-said, line-said, through-said, told-said, sub_is_base-said, base_is_sub-said, sub_has_base-said, sub_is_no_base-said, not_the_same-said, the_same_base-said, no_object-said}
use Rattle.vdm_meaning.proofs.laws.worked_prints.Goals as goal

pub returns : goal.returns
returns c = record {
  printed = printed-said;
  line = line-said;
  through = through-said;
  told = told-said;
  sub_is_base = sub_is_base-said;
  base_is_sub = base_is_sub-said;
  sub_has_base = sub_has_base-said;
  sub_is_no_base = sub_is_no_base-said;
  not_the_same = not_the_same-said;
  the_same_base = the_same_base-said;
  no_object = no_object-said;
}
