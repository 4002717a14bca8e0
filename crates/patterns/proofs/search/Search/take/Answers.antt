use Rattle.std.proofs.Common.{ap, sym, refl}
use Rattle.patterns.specs.Search.{to_come}
use Rattle.patterns.specs.Todos.{all_ways, next_ways}
use Rattle.patterns.proofs.Steps.{goes_on, goes_next}
use Rattle.patterns.proofs.search.Search.take.Goals as goal

pub returns-in-Holds : goal.returns-in-Holds
returns-in-Holds c = λ types. goes_on types _ _ _ refl refl c.requires (sym (ap (λ n. next_ways types n c.args.self.now.given.now (to_come c.args.self.now.work)) c.in-Holds.is))

pub returns-in-Compares : goal.returns-in-Compares
returns-in-Compares c = λ types. goes_next types _ _ _ _ _ c.in-Compares.is (c.compare.ensures types)

pub returns-in_ok-bind-in-Binds : goal.returns-in_ok-bind-in-Binds
returns-in_ok-bind-in-Binds c = λ types. goes_next types _ _ _ _ _ c.in-Binds.is (c.in_ok-bind-in-Binds.ensures types)

pub returns-in_ok-push-in-Becomes : goal.returns-in_ok-push-in-Becomes
returns-in_ok-push-in-Becomes c = λ types.
    goes_next types _ _ _ _ _ c.in-Becomes.is
    (goes_on types _ _ _ refl refl c.requires (ap (all_ways types _) c.in_ok-push-in-Becomes.ensures))
