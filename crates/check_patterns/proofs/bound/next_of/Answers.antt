use Rattle.std.proofs.Common.{map}
use Rattle.check_patterns.specs.Shown.{local_view}
use Rattle.check_patterns.proofs.Waiting.{popped}
use Rattle.check_patterns.proofs.bound.next_of.Goals as goal

pub returns : goal.returns
returns c = λ spec class.
    popped spec class c.pop.result (map local_view c.args.binding.now.found.items) _ _ _ _ c.pop.ensures.items c.pop.ensures.rest c.pop.ensures.cases
