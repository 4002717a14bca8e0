use Rattle.std.proofs.Common.{ap}
use Rattle.pattern_meaning.specs.Ways.{literal_value}
use Rattle.type_tree.specs.LiteralView.{literal_view}
use Rattle.patterns.proofs.Lists.{texts_are_told}
use Rattle.patterns.proofs.literals.is_text_literal.Goals as goal

pub returns-in-Text : goal.returns-in-Text
returns-in-Text c = texts_are_told _ _ _ _ _ (ap (λ l. literal_value (literal_view l)) c.in-Text.is) c.as_slice.ensures.value c.is_text.ensures
