use Rattle.std.proofs.Common.{◌≡◌, ℕ, ◌<◌, length, true, false, ⊎_elim}
use Rattle.std.proofs.lemmas.Bool.{cases_Bool}
use Rattle.graph_cycles.specs.Graphs.{Graph, InRange, IsReached, is_on_cycle, leads_to_no_cycle}
use Rattle.graph_cycles.proofs.Members.{not_both}
use Rattle.graph_cycles.proofs.Paths.{cycle_found}
use Rattle.graph_cycles.proofs.laws.unsettled_nodes.Goals as goal

settles : (g : Graph) (a : ℕ) → InRange g → a < length g → ((b : ℕ) → b < length g → IsReached g a b → is_on_cycle g b ≡ false) → leads_to_no_cycle g a ≡ true
settles g a in_range l none = ⊎_elim
    (λ t. t)
    (λ f. let c = cycle_found g in_range a l f in not_both c.cycle (none c.node c.within c.reached))
    (cases_Bool (leads_to_no_cycle g a))

pub returns-clause-each : goal.returns-clause-each
returns-clause-each c = settles

pub returns-clause-all : goal.returns-clause-all
returns-clause-all c = λ g in_range none a l. settles g a in_range l (λ b m _. none b m)
