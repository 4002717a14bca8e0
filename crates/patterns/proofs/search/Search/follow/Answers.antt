use Rattle.std.proofs.Common.{ap}
use Rattle.patterns.specs.Todos.{todo_of}
use Rattle.patterns.proofs.Steps.{goes_as}
use Rattle.patterns.proofs.search.Search.follow.Goals as goal

pub returns-in_ok-items-in-Items : goal.returns-in_ok-items-in-Items
returns-in_ok-items-in-Items g c = goes_as _ _ _ _ _ _ (ap todo_of c.in-Items.is) (c.in_ok-items-in-Items.ensures _)

pub returns-in_ok-choose-in-Choose : goal.returns-in_ok-choose-in-Choose
returns-in_ok-choose-in-Choose g c = goes_as _ _ _ _ _ _ (ap todo_of c.in-Choose.is) (c.in_ok-choose-in-Choose.ensures _)

pub returns-in_ok-choose_pair-in-ChoosePair : goal.returns-in_ok-choose_pair-in-ChoosePair
returns-in_ok-choose_pair-in-ChoosePair g c = goes_as _ _ _ _ _ _ (ap todo_of c.in-ChoosePair.is) (c.in_ok-choose_pair-in-ChoosePair.ensures _)

pub returns-in_ok-split-in-Split : goal.returns-in_ok-split-in-Split
returns-in_ok-split-in-Split g c = goes_as _ _ _ _ _ _ (ap todo_of c.in-Split.is) (c.in_ok-split-in-Split.ensures _)
