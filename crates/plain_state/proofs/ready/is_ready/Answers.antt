use Rattle.std.proofs.Common.{sym, subst}
use Rattle.std.specs.Prelude.{◌↔◌, IsTrue}
use Rattle.run_journal.specs.declared.question.Question.{Question}
use Rattle.spec_table.specs.Tables.{table_spec}
use Rattle.plain_state.specs.Readiness.{IsReadyFor}
use Rattle.plain_state.proofs.ready.is_ready.Goals as goal

pub returns-in-Act : goal.returns-in-Act
returns-in-Act c = subst (λ (q : Question). IsTrue c.may_begin.result ↔ IsReadyFor (table_spec c.args.table.now) c.args.thread c.args.before.now q) (sym c.in-Act.is) c.may_begin.ensures

pub returns-in-Fin : goal.returns-in-Fin
returns-in-Fin c = subst (λ (q : Question). IsTrue c.may_end.result ↔ IsReadyFor (table_spec c.args.table.now) c.args.thread c.args.before.now q) (sym c.in-Fin.is) c.may_end.ensures
