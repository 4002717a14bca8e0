use Rattle.std.proofs.Common.{sym, ◌∙◌}
use Rattle.std.specs.HashMap.{get}
use Rattle.type_graphs.specs.Numbers.{same_pair}
use Rattle.type_graphs.proofs.Numbering.{noted_new}
use Rattle.type_graphs.proofs.type_numbers.note.Goals as goal

pub returns-in_ok-insert : goal.returns-in_ok-insert
returns-in_ok-insert c = λ other_class other.
    noted_new c.args.class c.args.name c.args.number (get same_pair c.args.numbers.now) (get same_pair c.insert.new.self)
    (sym c.contains_key.ensures ∙ c.if-not-contains_key.true) c.in_ok-insert.ensures.updates.0 other_class other
