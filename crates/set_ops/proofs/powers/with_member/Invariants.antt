use Rattle.std.proofs.Common.{◌≡◌, ◌∷◌, take, map}
use Rattle.set_ops.proofs.powers.with_member.Given as goal

abbrev pub invariant-loop-list : goal.invariant-loop-list
invariant-loop-list l = l.longer.items ≡ map (λ ws. l.member ∷ ws) (take l.list-index l.lists)
