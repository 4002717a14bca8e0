use Rattle.std.proofs.Common.{None, if◌then◌else◌, ap, sym, ◌∙◌}
use Rattle.stmt_front_reader.specs.Views.{first_deep}
use Rattle.stmt_front_reader.proofs.Rounds.{each_deep}
use Rattle.stmt_front_reader.proofs.readings.Readings.deep_now.Goals as goal

pub returns-then-is_deep_in_all : goal.returns-then-is_deep_in_all
returns-then-is_deep_in_all c =
    let items = c.args.self.now.readings.items in
    c.first_deep.ensures ∙ sym (each_deep items c.is_deep_in_all.result c.is_deep_in_all.ensures
    ∙ ap (λ b. if b then first_deep items else None) c.if-is_deep_in_all.true)

pub returns-else-is_deep_in_all : goal.returns-else-is_deep_in_all
returns-else-is_deep_in_all c =
    let items = c.args.self.now.readings.items in
    sym (each_deep items c.is_deep_in_all.result c.is_deep_in_all.ensures
    ∙ ap (λ b. if b then first_deep items else None) c.if-is_deep_in_all.false)
