use Rattle.std.proofs.Common.{refl}
use Rattle.stmt_fronts.proofs.worked.worked_forms.Goals as goal

pub returns : goal.returns
returns c = record {
  let_values = refl;
  let_such = refl;
  let_two = refl;
  let_function = refl;
  let_sequence = refl;
  let_typed_bind = refl;
  let_union = refl;
  def_value = refl;
  def_two = refl;
  nearest_if = refl;
  else_thrice = refl;
  elseif = refl;
  elseif_inside = refl;
  value_in_if = refl;
  if_cut = refl;
  cases_of = refl;
  cases_and_head = refl;
  others_last = refl;
  while_loop = refl;
  for_numbers = refl;
  for_no_step = refl;
  for_set = refl;
  for_all_seq = refl;
  for_sequence = refl;
  for_pattern = refl;
  for_no_end = refl;
  for_pattern_equals = refl;
  trap_exit = refl;
  trap_in_handler = refl;
  trap_in_body = refl;
  always = refl;
  always_value = refl;
  started = refl;
  all_started = refl;
}
