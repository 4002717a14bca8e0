use Rattle.std.proofs.Common.{ap, sym, ◌∙◌}
use Rattle.stmt_front_reader.specs.declared.readings.Readings.{Readings}
use Rattle.stmt_front_reader.proofs.Losing.{all_lost, no_turn}
use Rattle.stmt_front_reader.proofs.alive.Alive.lose.Goals as goal

pub returns : goal.returns
returns c =
    all_lost c.args.item c.args.self.now _ (λ e. c.if-len-eq0.false (c.len.ensures ∙ e))
    (no_turn c.turn_of.result _ c.turn_of.ensures (sym c.is_some.ensures ∙ c.if-is_some.false))
    (sym c.want_expressions.ensures ∙ c.if-not-want_expressions.false) (ap (λ (r : Readings). r.readings.items) c.in_ok-let_go.ensures.same)
    c.in_ok-let_go.ensures.held
