use Rattle.std.proofs.Common.{ap, sym, ◌∙◌}
use Rattle.expr_tree.specs.View.{view_of}
use Rattle.class_checks.specs.Expressions.{check}
use Rattle.check_named.specs.Below.check_scopes.specs.Told.{first_in, spec_in, told}
use Rattle.check_named.specs.Below.check_frames.specs.Meant.{after_check, at, next_check, under}
use Rattle.check_named.specs.Below.check_frames.specs.declared.next.Next.{Next}
use Rattle.type_check.proofs.Turns.{told_pushed, told_under}
use Rattle.type_check.proofs.turn.take_turn.Goals as goal

pub returns-in_ok-state-in-Part : goal.returns-in_ok-state-in-Part
returns-in_ok-state-in-Part c =
    let later = first_in c.begun.new.refusals in
    ap (λ (n : Next). told (first_in c.args.refusals.now) (under c.args.setting c.args.state.frames.items (next_check c.args.setting n))) c.in-Part.is
    ∙ told_pushed c.args.setting c.args.state.frames.items c.in_ok-state-in-Part.state.frames.items c.in-Part.frame (first_in c.args.refusals.now) later (check (spec_in c.args.setting) (at c.args.setting c.in-Part.locals) (view_of c.in-Part.part.now)) (next_check c.args.setting c.in_ok-state-in-Part.state.next)
    c.in_ok-state-in-Part.ensures.frames
    (c.in_ok-next-in-Part.ensures ∙ ap (λ (n : Next). told later (next_check c.args.setting n)) (sym c.in_ok-state-in-Part.ensures.next))

pub returns-in_ok-next-in-Goes : goal.returns-in_ok-next-in-Goes
returns-in_ok-next-in-Goes c =
    ap (λ (n : Next). told (first_in c.args.refusals.now) (under c.args.setting c.args.state.frames.items (next_check c.args.setting n))) c.in-Goes.is ∙ told_under c.args.setting c.args.state.frames.items (first_in c.args.refusals.now) (first_in c.after_next.new.refusals) (after_check c.args.setting c.in-Goes.after) (next_check c.args.setting c.in_ok-next-in-Goes.next) c.in_ok-next-in-Goes.ensures

pub returns-in_ok-next-in-Becomes : goal.returns-in_ok-next-in-Becomes
returns-in_ok-next-in-Becomes c =
    ap (λ (n : Next). told (first_in c.args.refusals.now) (under c.args.setting c.args.state.frames.items (next_check c.args.setting n))) c.in-Becomes.is ∙ told_under c.args.setting c.args.state.frames.items (first_in c.args.refusals.now) (first_in c.begun-in-Becomes.new.refusals) (check (spec_in c.args.setting) (at c.args.setting c.in-Becomes.locals) (view_of c.in-Becomes.expr.now)) (next_check c.args.setting c.in_ok-next-in-Becomes.next) c.in_ok-next-in-Becomes.ensures
