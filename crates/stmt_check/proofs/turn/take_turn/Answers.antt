use Rattle.std.proofs.Common.{ap, sym, ◌∙◌}
use Rattle.stmt_kinds.specs.Below.check_scopes.specs.Told.{first_in}
use Rattle.stmt_kinds.specs.Below.stmt_scopes.specs.Refused.{refused}
use Rattle.stmt_kinds.specs.Below.stmt_pending.specs.Meant.{next_check, pending_check, under}
use Rattle.stmt_kinds.specs.Below.stmt_pending.specs.declared.next.Next.{Next}
use Rattle.stmt_check.proofs.Turns.{refused_pushed, refused_under}
use Rattle.stmt_check.proofs.turn.take_turn.Goals as goal

pub returns-in_ok-next-in-One : goal.returns-in_ok-next-in-One
returns-in_ok-next-in-One c =
    ap (λ (n : Next). refused (first_in c.args.refusals.now) (under c.args.setting c.args.returned.now c.args.state.stack.items (next_check c.args.setting c.args.returned.now n))) c.in-One.is
    ∙ refused_under c.args.setting c.args.returned.now c.args.state.stack.items (first_in c.args.refusals.now) (first_in c.pending_next.new.refusals) (pending_check c.args.setting c.args.returned.now c.in-One.pending) (next_check c.args.setting c.args.returned.now c.in_ok-next-in-One.next) c.in_ok-next-in-One.ensures

pub returns-in_ok-state-in-Two : goal.returns-in_ok-state-in-Two
returns-in_ok-state-in-Two c =
    let later = first_in c.pending_next-in-Two.new.refusals in
    ap (λ (n : Next). refused (first_in c.args.refusals.now) (under c.args.setting c.args.returned.now c.args.state.stack.items (next_check c.args.setting c.args.returned.now n))) c.in-Two.is
    ∙ refused_pushed c.args.setting c.args.returned.now c.args.state.stack.items c.in_ok-state-in-Two.state.stack.items c.in-Two.rest (first_in c.args.refusals.now) later (pending_check c.args.setting c.args.returned.now c.in-Two.pending) (next_check c.args.setting c.args.returned.now c.in_ok-state-in-Two.state.next)
    c.in_ok-state-in-Two.ensures.stack
    (c.in_ok-next-in-Two.ensures ∙ ap (λ (n : Next). refused later (next_check c.args.setting c.args.returned.now n)) (sym c.in_ok-state-in-Two.ensures.next))
