use Rattle.vdm_meaning.proofs.WorkedCounter.{counter-said, no_unit, none_for_the_object, none_for_the_initialiser, none_for_the_body, none_for_the_statement, none_for_the_call, none_for_the_last_name}
use Rattle.vdm_meaning.proofs.laws.worked_counter.Goals as goal

pub returns : goal.returns
returns c = record {
  said = counter-said;
  no_unit = no_unit;
  none_for_the_object = none_for_the_object;
  none_for_the_initialiser = none_for_the_initialiser;
  none_for_the_body = none_for_the_body;
  none_for_the_statement = none_for_the_statement;
  none_for_the_call = none_for_the_call;
  none_for_the_last_name = none_for_the_last_name;
}
