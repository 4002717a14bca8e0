use Rattle.std.proofs.Common.{◌≡◌, ◌↔◌, List, ◌++◌, take, drop}
use Rattle.run_journal.specs.declared.answer.Answer.{Answer}
use Rattle.spec_table.specs.Tables.{table_spec}
use Rattle.stmt_exec.specs.Standing.{rest}
use Rattle.vdm_meaning.specs.Main.{main_code}
use Rattle.vdm_meaning.specs.Runs.{AreLegal, IsRun}
use Rattle.vdm_legal.proofs.Journals.{main_answers}
use Rattle.expr_tree.specs.View.{view_of}
use Rattle.plain_judge.proofs.run.are_legal.Given as goal

-- the entries so far are legal, so that the rest decides, and the machine stands where main stands behind them
abbrev pub invariant-loop-index : goal.invariant-loop-index
invariant-loop-index l = record {
  legal : AreLegal l.names (table_spec l.table) (view_of l.tree) l.units (take l.index l.entries) (drop l.index l.entries) ↔ IsRun l.names (table_spec l.table) (view_of l.tree) l.units l.entries;
  stands : (answers : List Answer) → rest l.machine answers ≡ main_code l.names (table_spec l.table) (view_of l.tree) l.units (main_answers (take l.index l.entries) ++ answers);
}
