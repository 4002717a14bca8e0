use Rattle.sync_checks.proofs.releases.refuse_meant.Goals as goal

pub returns-in-One : goal.returns-in-One
returns-in-One c = λ k e. rw c.in-One.is (c.refuse_item.ensures k)
