use Rattle.sync_checks.proofs.numbers.item_number.Goals as goal

pub returns-in-Value : goal.returns-in-Value
returns-in-Value c = λ spec class owner. rw c.in-Value.is (c.literal_number.ensures spec class)
