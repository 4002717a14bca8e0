use Rattle.std.proofs.Common.{ap, ◌∷◌, [], ◌∙◌, Some, subst, sym, arith}
use Rattle.atomic_table.specs.Table.{opening}
use Rattle.turn_lock.specs.Rule.{IsKept}
use Rattle.turn_lock.specs.Views.{fresh}
use Rattle.turn_lock.proofs.Cutting.{begins}
use Rattle.turn_lock.proofs.dealing.lay.Goals as goal

pub new-requires : goal.new-requires
new-requires g c =
    let story = g.V.Storied.story in
    let adds_up = g.V.Storied.adds_up in
    let n = c.from.result in
    let value = c.of.result.value in
    subst (λ slots. IsKept story adds_up n (story value) (opening (0 ∷ 0 ∷ 0 ∷ []) slots (fresh n (story value))))
    (sym (c.in-Ok.ensures.ok ∙ ap (λ v. Some v ∷ []) (sym c.of.ensures)))
    (begins story adds_up n value (omega arith) (omega arith) (subst adds_up (sym c.of.ensures) c.requires.sums))
