use Rattle.std.proofs.Common.{refl}
use Rattle.stmt_fronts.proofs.worked.worked_definitions.Goals as goal

pub returns : goal.returns
returns c = record {
  types = refl;
  field_without_name = refl;
  second_without_name = refl;
  function_type = refl;
  values = refl;
  two_semicolons = refl;
  no_value = refl;
  variables = refl;
  variable_typeless = refl;
  static_twice = refl;
  level_twice = refl;
  static_last = refl;
  function = refl;
  other_function = refl;
  bracketed_type = refl;
  nothing_times = refl;
  curried = refl;
  arrow_again = refl;
  implicit_post = refl;
  implicit_pre = refl;
  later_name = refl;
  open_bodies = refl;
  operation = refl;
  arrow_of_operation = refl;
  arrow_of_none = refl;
  body_left_out = refl;
  body_of_value = refl;
  measure_of_operation = refl;
  other_definition = refl;
}
