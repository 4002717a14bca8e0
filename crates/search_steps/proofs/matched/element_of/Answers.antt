use Rattle.search_steps.proofs.matched.element_of.Goals as goal

pub returns-in-Two : goal.returns-in-Two
returns-in-Two c = rw c.in-Two.is c.element_part-in-Two.ensures
