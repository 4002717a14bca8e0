use Rattle.std.proofs.Common.{ap, sym, ◌∷◌, ◌∙◌, arith}
use Rattle.record_steps.proofs.Moving.{headed}
use Rattle.record_steps.proofs.changing.first_taken.Goals as goal

pub returns : goal.returns
returns c =
    headed c.args.values.items c.remove-first.result (omega arith) c.remove-first.ensures.value ∙
    ap (λ vs. c.remove-first.result ∷ vs) (sym c.remove-first.ensures.items)
