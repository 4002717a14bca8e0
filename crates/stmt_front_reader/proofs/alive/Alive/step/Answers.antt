use Rattle.std.proofs.Common.{refl, ap, sym, ◌∙◌}
use Rattle.stmt_fronts.specs.Fronts.{stopped}
use Rattle.stmt_front_reader.specs.Held.{spread}
use Rattle.stmt_front_reader.proofs.Stepping.{ends, goes_on}
use Rattle.stmt_front_reader.proofs.alive.Alive.step.Goals as goal

pub returns-then-len-eq0 : goal.returns-then-len-eq0
returns-then-len-eq0 c further =
    ends c.args.count c.args.item c.args.self.now _ c.follow.new.self
    (c.begins_shallow.ensures c.if-not-begins_shallow.false (spread c.args.self.now.held.items)) c.in_ok-read_each.ensures.readings
    c.in_ok-read_each.ensures.endings refl c.in_ok-follow.ensures (sym c.len.ensures ∙ c.if-len-eq0.true) further
    ∙ sym (c.stopped.ensures ∙ ap (stopped c.args.count) c.deref.ensures.value)

pub returns : goal.returns
returns c further =
    goes_on c.args.count c.args.item c.args.self.now _ c.follow.new.self
    (c.begins_shallow.ensures c.if-not-begins_shallow.false (spread c.args.self.now.held.items)) c.in_ok-read_each.ensures.readings refl
    c.in_ok-follow.ensures (λ e. c.if-len-eq0.false (c.len.ensures ∙ e)) further
