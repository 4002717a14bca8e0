-- What came of the body of `always` is kept without its locals.
use Rattle.std.proofs.Common.{◌≡◌, ℕ, [], take, refl, ap}
use Rattle.abstract_syntax.specs.Statements.{StmtTree}
use Rattle.plans.specs.Plans.{finish, part}
use Rattle.node_meaning.specs.Envs.{Here, Locals, at}
use Rattle.stmt_meaning.specs.Flows.{with_locals}
use Rattle.stmt_meaning.specs.Handlers.{at_last, unless_replaced}
use Rattle.node_meaning.specs.Tasks.{Flow as MeantFlow, gave, next, returned, exited, stmt_in}
use Rattle.eval_data.specs.declared.flow.Flow.{Flow}
use Rattle.eval_data.specs.declared.flow.Flow.TheVariants.{Gave, Next, Returned, Exited}
use Rattle.eval_data.specs.Parts.{flow_of}

alike : (a b : MeantFlow) → ((locals : Locals) → with_locals locals a ≡ with_locals locals b) → (flow : MeantFlow) → unless_replaced a flow ≡ unless_replaced b flow
alike a b h (gave slot locals) = refl
alike a b h (next locals) = ap finish (h locals)
alike a b h (returned slot locals) = refl
alike a b h (exited v from locals) = refl

pub kept : (here : Here) (count : ℕ) (last : StmtTree) (flow : Flow) (locals : Locals)
    → part (stmt_in (at here (take count locals)) [] last) (unless_replaced (flow_of flow [])) ≡ at_last here count last (flow_of flow locals)
kept here count last (Gave slot) locals =
    λ i. part (stmt_in (at here (take count locals)) [] last) (λ flow. alike (gave slot []) (gave slot locals) (λ l. refl) flow i)
kept here count last Next locals = λ i. part (stmt_in (at here (take count locals)) [] last) (λ flow. alike (next []) (next locals) (λ l. refl) flow i)
kept here count last (Returned slot) locals =
    λ i. part (stmt_in (at here (take count locals)) [] last) (λ flow. alike (returned slot []) (returned slot locals) (λ l. refl) flow i)
kept here count last (Exited v from) locals =
    λ i. part (stmt_in (at here (take count locals)) [] last) (λ flow. alike (exited v from []) (exited v from locals) (λ l. refl) flow i)
