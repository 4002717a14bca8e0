use Rattle.std.proofs.Common.{refl}
use Rattle.stmt_fronts.proofs.worked.worked_statements.Goals as goal

pub returns : goal.returns
returns c = record {
  nothing = refl;
  skips = refl;
  errs = refl;
  assigned = refl;
  assigned_cut = refl;
  steps = refl;
  of_class = refl;
  two_indices = refl;
  no_index = refl;
  class_of_field = refl;
  old_target = refl;
  called = refl;
  called_with_none = refl;
  name_alone = refl;
  member = refl;
  member_called = refl;
  qualified = refl;
  member_of_class = refl;
  old_called = refl;
  self_called = refl;
  new_called = refl;
  literal_called = refl;
  set_called = refl;
  subsequence = refl;
  subsequence_called = refl;
  twice_called = refl;
  dot_last = refl;
  operator_first = refl;
  quantifier = refl;
  specification = refl;
  returned = refl;
  returned_value = refl;
  exited = refl;
  exit_value = refl;
  assign_cut = refl;
  together = refl;
  started = refl;
  all_started = refl;
}
