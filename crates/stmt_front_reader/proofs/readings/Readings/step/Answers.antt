use Rattle.std.proofs.Common.{◌∙◌, ap, sym}
use Rattle.stmt_fronts.specs.Fronts.{stopped}
use Rattle.stmt_front_reader.specs.Views.{reading_views}
use Rattle.stmt_front_reader.proofs.Rounds.{none_left}
use Rattle.stmt_front_reader.proofs.readings.Readings.step.Goals as goal

pub returns-then-len-eq0 : goal.returns-then-len-eq0
returns-then-len-eq0 c further =
    none_left c.args.count c.args.item (reading_views c.args.self.now.readings.items) c.read_each.new.self.readings.items
    c.read_each.new.self.endings.items (sym c.deep_now.ensures ∙ c.in_default.is) c.in_ok-read_each.ensures.readings
    (sym c.len.ensures ∙ c.if-len-eq0.true) c.in_ok-read_each.ensures.endings further
    ∙ sym (c.stopped.ensures ∙ ap (stopped c.args.count) c.deref.ensures.value)
