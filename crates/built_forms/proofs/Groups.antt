-- A statement is of one group.
use Rattle.std.proofs.Common.{◌≡◌, Option, Some, None, refl}
use Rattle.abstract_syntax.specs.Statements.{
  StmtTree,
  block,
  assign,
  assign_together,
  call,
  returns,
  exits,
  let_then,
  let_be_then,
  def_then,
  if_then,
  cases_then,
  while_do,
  for_numbers,
  for_set,
  for_sequence,
  trap_exit,
  trap_exits,
  always_after,
  in_parallel,
  start_thread,
  start_threads,
  skips,
  errs,
}
use Rattle.text_phases.specs.Built.{or_behind, unbuilt_in_stmt}
use Rattle.built_forms.specs.Groups.{in_simple, in_bound, in_ordered}

nothing_behind : {A : Type 0} (first : Option A) → or_behind first None ≡ first
nothing_behind None = refl
nothing_behind (Some a) = refl

pub three_groups : (s : StmtTree) → or_behind (in_simple s) (or_behind (in_bound s) (in_ordered s)) ≡ unbuilt_in_stmt s
three_groups (block locals statements place) = refl
three_groups (assign target value place) = nothing_behind (unbuilt_in_stmt (assign target value place))
three_groups (assign_together assignments place) = nothing_behind (unbuilt_in_stmt (assign_together assignments place))
three_groups (call application place) = nothing_behind (unbuilt_in_stmt (call application place))
three_groups (returns value place) = nothing_behind (unbuilt_in_stmt (returns value place))
three_groups (exits value place) = nothing_behind (unbuilt_in_stmt (exits value place))
three_groups (let_then definitions body place) = nothing_behind (unbuilt_in_stmt (let_then definitions body place))
three_groups (let_be_then bind condition body place) = nothing_behind (unbuilt_in_stmt (let_be_then bind condition body place))
three_groups (def_then pattern value body place) = nothing_behind (unbuilt_in_stmt (def_then pattern value body place))
three_groups (if_then condition body elseifs otherwise place) = refl
three_groups (cases_then subject cases others place) = nothing_behind (unbuilt_in_stmt (cases_then subject cases others place))
three_groups (while_do condition body place) = refl
three_groups (for_numbers name name_place first last by body place) = refl
three_groups (for_set pattern set body place) = nothing_behind (unbuilt_in_stmt (for_set pattern set body place))
three_groups (for_sequence pattern items body place) = nothing_behind (unbuilt_in_stmt (for_sequence pattern items body place))
three_groups (trap_exit pattern handler body place) = nothing_behind (unbuilt_in_stmt (trap_exit pattern handler body place))
three_groups (trap_exits handlers body place) = nothing_behind (unbuilt_in_stmt (trap_exits handlers body place))
three_groups (always_after last body place) = refl
three_groups (in_parallel statements place) = refl
three_groups (start_thread object place) = nothing_behind (unbuilt_in_stmt (start_thread object place))
three_groups (start_threads objects place) = nothing_behind (unbuilt_in_stmt (start_threads objects place))
three_groups (skips place) = refl
three_groups (errs place) = refl
