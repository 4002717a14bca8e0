use Rattle.std.proofs.Common.{◌≡◌, ap, sym, ◌∙◌, rules, Ok}
use Rattle.std.specs.Prelude.{int_rem}
use Rattle.std.proofs.lemmas.Int.{to_z-of_z}
use Rattle.value_operators.specs.Numbers.{in_range, remainder}
use Rattle.number_ops.proofs.Rests.{by_nonzero, remainder_is, nonzero}
use Rattle.number_ops.proofs.division.remainder.Goals as goal

pub returns : goal.returns
returns c =
    let rest : c.wrapping_rem.result ≡ int_rem c.args.m c.args.n = search (rules, to_z-of_z) in
    let given : in_range c.wrapping_rem.result ≡ Ok c.number.result = search (rules, to_z-of_z) in
    sym (by_nonzero remainder c.args.m c.args.n (nonzero c.args.n c.if-n-eq0.false)
    ∙ ap in_range (remainder_is c.args.m c.args.n ∙ sym rest)
    ∙ given)
