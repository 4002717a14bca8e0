-- What each task does.
use Rattle.plans.specs.Plans.{bind}
use Rattle.node_meaning.specs.Envs.{Locals, Here}
use Rattle.node_meaning.specs.Expressions.{expr_plan, bare_call}
use Rattle.node_meaning.specs.Needs.{Setting}
use Rattle.node_meaning.specs.Matching.{on_truth}
use Rattle.node_meaning.specs.Tasks.{Declared, Task, expr_in, call_in, stmt_in, round_in, Round, while_true, counts, handles, env_of, Code, placed, among, with_value}
use Rattle.stmt_meaning.specs.Handlers.{caught}
use Rattle.stmt_meaning.specs.Loops.{while_decided, counted}
use Rattle.stmt_meaning.specs.Statements.{stmt_plan}

-- A round of a loop does what the node does with which it begins, and goes on behind it. What an expression calls stands among no local
-- variables of whoever calls.
abbrev pub round_plan : Setting → Here → Declared → Locals → Round → Code
round_plan setting here declared locals (while_true condition body place) =
    bind (expr_plan setting here locals condition)
    (λ flow. among declared (with_value place (on_truth place (while_decided here condition body place)) flow))
round_plan setting here declared locals (counts counting) =
    among declared (bind (stmt_plan setting.spec here declared locals counting.body) (counted here counting))
round_plan setting here declared locals (handles all count body place) =
    among declared (bind (stmt_plan setting.spec here declared locals body) (caught setting.spec here place all count))

abbrev pub node_plan : Setting → Task → Code
node_plan setting (expr_in env tree) = expr_plan setting env.here env.locals tree
node_plan setting (call_in env tree) = bare_call setting env.here env.locals tree
node_plan setting (stmt_in env declared statement) = among declared (stmt_plan setting.spec env.here declared env.locals statement)
node_plan setting (round_in env declared round) = round_plan setting env.here declared env.locals round

-- with its faults where they stand
abbrev pub plan_of : Setting → Task → Code
plan_of setting task = placed (env_of task).here.nest (node_plan setting task)
