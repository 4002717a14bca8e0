use Rattle.std.proofs.Common.{◌≡◌, ap, sym, ◌∙◌, true≢false, rules, ◌+ℤ◌, Ok, of_z, to_z}
use Rattle.std.specs.Prelude.{int_rem}
use Rattle.std.specs.Int.{w128}
use Rattle.std.proofs.lemmas.Int.{to_z-of_z}
use Rattle.value_operators.specs.Numbers.{in_range, modulus}
use Rattle.number_ops.proofs.Rests.{by_nonzero, modulus_level, modulus_below, nonzero, level_as}
use Rattle.number_ops.proofs.division.modulus.Goals as goal

pub returns-then-is_level : goal.returns-then-is_level
returns-then-is_level c =
    let rest : c.wrapping_rem-rest.result ≡ int_rem c.args.m c.args.n = search (rules, to_z-of_z) in
    let same_rest : to_z w128 (of_z w128 c.wrapping_rem-rest.result) ≡ c.wrapping_rem-rest.result = search (rules, to_z-of_z) in
    let same_n : to_z w128 (of_z w128 c.args.n) ≡ c.args.n = search (rules, to_z-of_z) in
    let given : in_range c.wrapping_rem-rest.result ≡ Ok c.number.result = search (rules, to_z-of_z) in
    sym (by_nonzero modulus c.args.m c.args.n (nonzero c.args.n c.if-n-eq0.false)
    ∙ ap in_range (modulus_level c.args.m c.args.n _ rest ((level_as _ _ _ _ _ same_rest same_n c.is_level.ensures).0 c.if-is_level.true))
    ∙ given)

pub returns-else-is_level : goal.returns-else-is_level
returns-else-is_level c =
    let rest : c.wrapping_rem-rest.result ≡ int_rem c.args.m c.args.n = search (rules, to_z-of_z) in
    let same_rest : to_z w128 (of_z w128 c.wrapping_rem-rest.result) ≡ c.wrapping_rem-rest.result = search (rules, to_z-of_z) in
    let same_n : to_z w128 (of_z w128 c.args.n) ≡ c.args.n = search (rules, to_z-of_z) in
    let given : c.sum.result ≡ in_range (c.wrapping_rem-rest.result +ℤ c.args.n) = search (rules, to_z-of_z) in
    given
    ∙ sym (by_nonzero modulus c.args.m c.args.n (nonzero c.args.n c.if-n-eq0.false)
    ∙ ap in_range (modulus_below c.args.m c.args.n _ rest (λ h. true≢false (sym ((level_as _ _ _ _ _ same_rest same_n c.is_level.ensures).1 h) ∙ c.if-is_level.false))))
