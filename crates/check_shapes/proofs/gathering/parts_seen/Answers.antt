use Rattle.std.proofs.Common.{subst, sym, arith, IfOk, ◌≡◌}
use Rattle.form_meaning.specs.Forms.{FormTree}
use Rattle.check_shapes.proofs.Turns.{some_parts}
use Rattle.check_shapes.proofs.gathering.parts_seen.Goals as goal

pub returns : goal.returns
returns c =
    subst (λ (t : FormTree). IfOk c.all_seen.result (λ f. f ≡ t)) (sym (some_parts c.args.done.now (omega (arith, c.if-count-lt1.false))))
    (c.all_seen.ensures)
