use Rattle.std.proofs.Common.{◌≡◌, ◌≤◌, length}
use Rattle.abstract_syntax.specs.Classes.{SpecTree}
use Rattle.vdm_tree.specs.StmtView.{maybe_stmt}
use Rattle.node_meaning.specs.Envs.{Locals}
use Rattle.stmt_meaning.specs.Blocks.{alternatives}
use Rattle.eval_data.specs.Parts.{here_of}
use Rattle.step_data.specs.Meetings.{cases_left}
use Rattle.meet_steps.specs.Onwards.{case_count}
use Rattle.meet_steps.proofs.choices.first_case.Given as goal

-- those that were passed have no patterns
abbrev pub invariant-loop-case : goal.invariant-loop-case
invariant-loop-case l = record {
  same : (spec : SpecTree) (locals : Locals)
      → alternatives spec (here_of l.here) l.place l.count (cases_left l.cases) (maybe_stmt l.others) l.value locals
      ≡ alternatives spec (here_of l.here) l.place l.count (cases_left l.left) (maybe_stmt l.others) l.value locals;
  fewer : case_count (cases_left l.left) ≤ case_count (cases_left l.cases);
}

abbrev pub decreases-loop-case : goal.decreases-loop-case
decreases-loop-case l = length l.left
