use Rattle.match_steps.proofs.alternatives.next_of.Goals as goal

pub returns-in-Case-clause-found : goal.returns-in-Case-clause-found
returns-in-Case-clause-found c = rw c.in-Case.is c.next_case.ensures.found
