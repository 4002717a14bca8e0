use Rattle.std.proofs.Common.{sym, ◌∙◌}
use Rattle.plain_state.proofs.Entries.{done-entered}
use Rattle.plain_state.proofs.store.Store.note.Goals as goal

pub returns-clause-entered : goal.returns-clause-entered
returns-clause-entered c = done-entered _ _ _ _ _ _ c.requires.ready c.requires.done (sym c.entry_made.ensures ∙ c.in-Some.is) c.in_ok-enter.ensures.ok
