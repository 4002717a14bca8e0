use Rattle.std.proofs.Common.{refl}
use Rattle.stmt_fronts.proofs.worked.worked_classes.Goals as goal

pub returns : goal.returns
returns c = record {
  nothing = refl;
  one_class = refl;
  other_name = refl;
  no_end = refl;
  two_classes = refl;
  superclasses = refl;
  blocks = refl;
  lone_semicolon = refl;
  no_thread = refl;
  thread_ends = refl;
  statement_outside = refl;
  expression_thread = refl;
  phase_cut = refl;
  thread_left_out = refl;
  clauses = refl;
  clause_of_two = refl;
  mutex_empty = refl;
  class_inside = refl;
}
