-- Each task keeps the rules of journals.
use Rattle.std.proofs.Common.{List}
use Rattle.vdm_kinds.specs.declared.run_fault.RunFault.TheVariants.{StepLimit, TypeFault}
use Rattle.abstract_syntax.specs.Classes.{SpecTree}
use Rattle.abstract_syntax.specs.Expressions.{ExprTree, apply, expr_place}
use Rattle.abstract_syntax.specs.Statements.{stmt_place}
use Rattle.run_journal.specs.declared.entry.Entry.{Entry}
use Rattle.plans.specs.Steps.{KeepRules}
use Rattle.node_meaning.specs.Envs.{Here, Locals, outermost}
use Rattle.plans.specs.Plans.{bind}
use Rattle.node_meaning.specs.Tasks.{among, Declared, Round, Task, call_in, counts, env_of, expr_in, handles, round_in, round_place, spent, stmt_in, while_true, with_value}
use Rattle.node_meaning.specs.Matching.{on_truth}
use Rattle.node_meaning.specs.Expressions.{expr_plan}
use Rattle.stmt_meaning.specs.Handlers.{caught}
use Rattle.stmt_meaning.specs.Loops.{counted, while_decided}
use Rattle.stmt_meaning.specs.Statements.{stmt_plan}
use Rattle.node_meaning.specs.Expressions.{bare_call}
use Rattle.stmt_meaning.specs.TaskPlans.{node_plan, plan_of, round_plan}
use Rattle.node_meaning.specs.Wanted.{no_value}
use Rattle.stmt_meaning.specs.Questions.{of_thread}
use Rattle.vdm_meaning.proofs.Rules.{IsSafe, MayBegin, MayFail, rules}
use Rattle.vdm_meaning.proofs.Parts.{IsAt, at-behind, at-later, at-start, may-fail, safe-bind, safe-with_value}
use Rattle.vdm_meaning.proofs.Around.{safe-among, safe-placed}
use Rattle.vdm_meaning.proofs.Matching.{safe-on_truth}
use Rattle.vdm_meaning.proofs.Applications.{safe-application}
use Rattle.vdm_meaning.proofs.Expressions.{safe-expr}
use Rattle.vdm_meaning.proofs.Handlers.{safe-caught}
use Rattle.vdm_meaning.proofs.Loops.{safe-counted, safe-while_decided}
use Rattle.vdm_meaning.proofs.Statements.{safe-statement}

module _ (spec : SpecTree) where
  safe-bare_call : (now : List Entry) (here : Here) (locals : Locals) (tree : ExprTree) → IsAt spec now now here locals → IsSafe spec now now (bare_call (of_thread spec) here locals tree)
  safe-bare_call now here locals (apply head arguments place) is_at = safe-application spec now now here head arguments place no_value locals is_at
  safe-bare_call now here locals tree is_at = may-fail spec TypeFault (expr_place tree) is_at.may

  safe-round : (now : List Entry) (here : Here) (declared : Declared) (locals : Locals) (round : Round) → IsAt spec now now here locals → IsSafe spec now now (round_plan (of_thread spec) here declared locals round)
  safe-round now here declared locals (while_true condition body place) is_at =
      let further = on_truth place (while_decided here condition body place) in
      safe-bind spec now now (λ flow. among declared (with_value place further flow))
      (λ later flow w leaves.
      safe-among spec now declared (with_value place further flow) later
      (safe-with_value spec place further flow (at-later is_at w leaves.0) leaves.1
      (λ v after known others.
      let at_value = at-behind is_at w leaves.0 after others in
      safe-on_truth spec place (while_decided here condition body place) v at_value
      (λ b. safe-while_decided spec now here later condition body place b after at_value))))
      (expr_plan (of_thread spec) here locals condition) now (safe-expr spec now now here locals is_at condition)
  safe-round now here declared locals (counts counting) is_at =
      safe-among spec now declared (bind (stmt_plan spec here declared locals counting.body) (counted here counting)) now
      (safe-bind spec now now (counted here counting)
      (λ later flow w leaves. safe-counted spec now here later locals counting flow (at-later is_at w leaves.0) leaves.1)
      (stmt_plan spec here declared locals counting.body) now (safe-statement spec now here now declared locals counting.body is_at))
  safe-round now here declared locals (handles all count body place) is_at =
      safe-among spec now declared (bind (stmt_plan spec here declared locals body) (caught spec here place all count)) now
      (safe-bind spec now now (caught spec here place all count)
      (λ later flow w leaves. safe-caught spec now here place later locals all count flow (at-later is_at w leaves.0) leaves.1)
      (stmt_plan spec here declared locals body) now (safe-statement spec now here now declared locals body is_at))

  safe-node : (t : Task) (now : List Entry) → MayBegin spec now t → IsSafe spec now now (node_plan (of_thread spec) t)
  safe-node (expr_in env tree) now h = safe-expr spec now now env.here env.locals (at-start h) tree
  safe-node (call_in env tree) now h = safe-bare_call now env.here env.locals tree (at-start h)
  safe-node (stmt_in env declared statement) now h =
      safe-among spec now declared (stmt_plan spec env.here declared env.locals statement) now (safe-statement spec now env.here now declared env.locals statement (at-start h))
  safe-node (round_in env declared round) now h = safe-round now env.here declared env.locals round (at-start h)

  -- wherever its faults stand
  safe-task : (t : Task) (now : List Entry) → MayBegin spec now t → IsSafe spec now now (plan_of (of_thread spec) t)
  safe-task t now h = safe-placed spec now (env_of t).here.nest (node_plan (of_thread spec) t) now (safe-node t now h)

  spent-fails : (t : Task) (now : List Entry) → MayBegin spec now t → MayFail spec now (spent t)
  spent-fails (expr_in env tree) now h = may-fail spec StepLimit (outermost env.here.nest.test (expr_place tree)) h
  spent-fails (call_in env tree) now h = may-fail spec StepLimit (outermost env.here.nest.test (expr_place tree)) h
  spent-fails (stmt_in env declared statement) now h = may-fail spec StepLimit (outermost env.here.nest.test (stmt_place statement)) h
  spent-fails (round_in env declared round) now h = may-fail spec StepLimit (outermost env.here.nest.test (round_place round)) h

  pub tasks-keep : KeepRules (rules spec) (plan_of (of_thread spec)) spent
  tasks-keep = record { plans = safe-task; stops = spent-fails }
