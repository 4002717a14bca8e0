use Rattle.std.proofs.Common.{sym, ◌∙◌}
use Rattle.vdm_lexer.specs.Written.{early_words, late_words}
use Rattle.vdm_lexer.proofs.Table.{kind-first, kind-second}
use Rattle.vdm_lexer.proofs.written.word_kind.Goals as goal

pub returns-in-Some : goal.returns-in-Some
returns-in-Some c = sym (kind-first c.args.word.now early_words late_words c.in-Some.kind (sym c.in-Some.ensures))

pub returns-in-None : goal.returns-in-None
returns-in-None c = c.late_kind.ensures ∙ sym (kind-second c.args.word.now early_words late_words (sym c.in-None.ensures))
