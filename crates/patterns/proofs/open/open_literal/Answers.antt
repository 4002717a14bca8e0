use Rattle.std.proofs.Common.{true≢false, sym, ◌∙◌}
use Rattle.patterns.proofs.Opening.{is_same-yes, is_same-no, leads_past, leads_nowhere}
use Rattle.patterns.proofs.open.open_literal.Goals as goal

pub returns-then-is_literal : goal.returns-then-is_literal
returns-then-is_literal c = λ types given ts. leads_past types _ _ (is_same-yes _ _ (c.is_literal.ensures.0 c.if-is_literal.true))

pub returns-else-is_literal : goal.returns-else-is_literal
returns-else-is_literal c = λ types given ts. leads_nowhere types _ _ _ (is_same-no _ _ (λ e. true≢false (sym (c.is_literal.ensures.1 e) ∙ c.if-is_literal.false)))
