use Rattle.std.proofs.Common.{sym, ◌∙◌, ap}
use Rattle.std.proofs.lemmas.Result.{IfOk-weaker}
use Rattle.shared_names.specs.Trees.{held_in}
use Rattle.shared_names.proofs.Extending.{extended_high, extended_low}
use Rattle.shared_names.proofs.tree.+with_name.Goals as goal

pub returns-else-eq : goal.returns-else-eq
returns-else-eq g t c =
    IfOk-weaker c.beside.result _ _ (λ made beside. beside _ (sym c.as_ref.ensures ∙ c.in-Leaf.is)) c.beside.ensures

pub returns-in_ok-shared-in-Branch : goal.returns-in_ok-shared-in-Branch
returns-in_ok-shared-in-Branch g t c =
    IfOk-weaker
    c.branch-branch.result
    _
    _
    (λ made e. e ∙ extended_high _ _ _ _ _ _ _ _ (ap held_in (sym c.as_ref.ensures ∙ c.in-Branch.is)) (ap held_in c.in_ok-shared-in-Branch.ensures) c.in_ok-high-in-Branch.ensures (sym c.has_bit.ensures ∙ c.if-has_bit.true))
    c.branch-branch.ensures

pub returns-in_ok-shared-in-Branch-2 : goal.returns-in_ok-shared-in-Branch-2
returns-in_ok-shared-in-Branch-2 g t c =
    IfOk-weaker
    c.branch-low-else-has_bit.result
    _
    _
    (λ made e. e ∙ extended_low _ _ _ _ _ _ _ _ (ap held_in (sym c.as_ref.ensures ∙ c.in-Branch.is)) (ap held_in c.in_ok-shared-in-Branch-2.ensures) c.in_ok-low-in-Branch.ensures (sym c.has_bit.ensures ∙ c.if-has_bit.false))
    c.branch-low-else-has_bit.ensures
