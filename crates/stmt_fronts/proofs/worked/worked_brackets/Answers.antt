use Rattle.std.proofs.Common.{refl}
use Rattle.stmt_fronts.proofs.worked.worked_brackets.Goals as goal

pub returns : goal.returns
returns c = record {
  one_block = refl;
  last_semicolon = refl;
  two_semicolons = refl;
  empty_block = refl;
  locals = refl;
  locals_alone = refl;
  no_statement = refl;
  later_dcl = refl;
  head = refl;
  head_member = refl;
  sum_in_block = refl;
  no_head = refl;
  call_in_blocks = refl;
  blocks_as_head = refl;
  inner_head = refl;
  sum_of_inner = refl;
  assignment_is_no_head = refl;
  block_then_dot = refl;
  if_as_head = refl;
  if_in_block = refl;
  mixed_if = refl;
  if_of_values = refl;
  let_as_head = refl;
  let_in_block = refl;
  list_as_head = refl;
  list_in_block = refl;
  prefix_in_head = refl;
  prefix_of_inner = refl;
  cases_as_head = refl;
}
