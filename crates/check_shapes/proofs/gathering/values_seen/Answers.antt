use Rattle.std.proofs.Common.{subst, sym, arith, IfOk, ◌≡◌}
use Rattle.form_meaning.specs.Forms.{FormTree}
use Rattle.check_shapes.proofs.Turns.{some_values}
use Rattle.check_shapes.proofs.gathering.values_seen.Goals as goal

pub returns : goal.returns
returns c =
    subst (λ (t : FormTree). IfOk c.seen_in_turn.result (λ f. f ≡ t)) (sym (some_values c.args.done.now (omega (arith, c.if-count-lt2.false))))
    (c.seen_in_turn.ensures)
