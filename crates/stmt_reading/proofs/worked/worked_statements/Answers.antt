use Rattle.std.proofs.Common.{refl}
use Rattle.stmt_reading.proofs.worked.worked_statements.Goals as goal

pub returns : goal.returns
returns c = record {
  assigned = refl;
  steps = refl;
  called = refl;
  no_call = refl;
  last_semicolon = refl;
  two_statements = refl;
  two_semicolons = refl;
  head_in_brackets = refl;
  call_in_block = refl;
  nearest_if = refl;
  elseif_inside = refl;
  both_if = refl;
  returned = refl;
  returned_value = refl;
  let_values = refl;
  let_such = refl;
  cases_of = refl;
  nested_traps = refl;
  for_numbers = refl;
  for_sequence = refl;
}
