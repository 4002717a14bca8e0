use Rattle.sync_checks.proofs.numbers.value_number.Goals as goal

pub returns-in-One : goal.returns-in-One
returns-in-One c = λ spec class. rw c.in-One.is (c.item_number.ensures spec class c.in-One.field-0.number)
