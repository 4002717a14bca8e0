use Rattle.std.proofs.Common.{sym, ◌∙◌}
use Rattle.std.proofs.lemmas.Result.{IfOk-weaker}
use Rattle.shared_names.proofs.Extending.{beside_high, beside_low}
use Rattle.shared_names.proofs.tree.beside.Goals as goal

pub returns-then-has_bit : goal.returns-then-has_bit
returns-then-has_bit g c =
    IfOk-weaker
    c.branch-alloc.result
    _
    _
    (λ made e w old_is. e ∙ beside_high _ _ _ w _ _ _ _ old_is c.in_ok-old.ensures c.in_ok-new.ensures c.place_between-place.ensures (sym c.has_bit.ensures ∙ c.if-has_bit.true))
    c.branch-alloc.ensures

pub returns-else-has_bit : goal.returns-else-has_bit
returns-else-has_bit g c =
    IfOk-weaker
    c.branch-alloc-else-has_bit.result
    _
    _
    (λ made e w old_is. e ∙ beside_low _ _ _ w _ _ _ _ old_is c.in_ok-old.ensures c.in_ok-new.ensures c.place_between-place.ensures (sym c.has_bit.ensures ∙ c.if-has_bit.false))
    c.branch-alloc-else-has_bit.ensures
