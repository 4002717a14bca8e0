-- What the evaluation of an expression without a thread comes to.
use Rattle.std.specs.Prelude.{◌≡◌, ℕ, List, [], ◌∷◌, Option, Some, None, option_map, Result, Ok, Err}
use Rattle.vdm_kinds.specs.declared.halt.Halt.{Halt}
use Rattle.vdm_kinds.specs.declared.halt.Halt.TheVariants.{Of, OutOfMemory}
use Rattle.vdm_kinds.specs.declared.place.Place.{Place}
use Rattle.vdm_kinds.specs.declared.run_fault.RunFault.{RunFault}
use Rattle.vdm_kinds.specs.declared.run_fault.RunFault.TheVariants.{UncaughtExit, Undefined}
use Rattle.vdm_values.specs.declared.slot.Slot.TheVariants.{Unset, Held}
use Rattle.abstract_syntax.specs.Classes.{SpecTree}
use Rattle.abstract_syntax.specs.Expressions.{ExprTree, expr_place}
use Rattle.abstract_syntax.specs.Values.{ValueTree}
use Rattle.run_journal.specs.declared.answer.Answer.{Answer}
use Rattle.plans.specs.Plans.{Outcome, gives, faults, needs, onward, part, run, meaning}
use Rattle.node_meaning.specs.Envs.{Locals, Here, at, bound_locals}
use Rattle.node_meaning.specs.Faults.{Fault}
use Rattle.node_meaning.specs.Needs.{Setting, evaluator}
use Rattle.stmt_meaning.specs.TaskPlans.{plan_of}
use Rattle.node_meaning.specs.Tasks.{expr_in, Flow, gave, next, returned, exited, Query, Code, spent, placed, fault, value}
use Rattle.eval_data.specs.declared.frame.Level.{Level}
use Rattle.eval_data.specs.declared.nest.Nest.{Nest}
use Rattle.eval_data.specs.declared.step.Step.{Step}
use Rattle.eval_data.specs.Parts.{held_of, nest_of}
use Rattle.eval_data.specs.Steps.{code_of, level_then}
use Rattle.expr_eval.specs.declared.env.Env.{Env}

-- who evaluates without a thread asks for each need as such
abbrev pub of_evaluator : SpecTree → Setting
of_evaluator spec = record { spec = spec; asker = evaluator }

-- what comes of code
abbrev pub Evaluated : Type 0
Evaluated = Outcome Flow Query Answer Fault

-- what code comes to under a specification
abbrev pub comes_to : SpecTree → Code → List Answer → ℕ → Evaluated
comes_to spec code answers units = run (meaning (plan_of (of_evaluator spec)) spent) code answers units

-- ---- the whole expression

-- what an expression gives that is evaluated alone: its value. An exit that leaves it is a fault at the exit's place, and what is
-- no value is undefined.
abbrev pub alone : Place → Flow → Code
alone place (gave (Held v) locals) = value v locals
alone place (gave Unset locals) = fault Undefined place
alone place (next locals) = fault Undefined place
alone place (returned slot locals) = fault Undefined place
alone place (exited v from locals) = fault UncaughtExit from

-- where it stands, inside of so many tests of invariants of types
abbrev pub here_in : Env → ℕ → Here
here_in env depth = record {
  scope = env.scope;
  own = env.own;
  me = env.me;
  held = option_map held_of env.held;
  nest = record { depth = depth; test = None };
}

-- what is bound there
abbrev pub locals_in : Env → Locals
locals_in env = bound_locals env.locals

-- the meaning of its evaluation
abbrev pub evaluation : SpecTree → Env → ℕ → ExprTree → List Answer → ℕ → Evaluated
evaluation spec env depth tree answers units =
    comes_to spec (part (expr_in (at (here_in env depth) (locals_in env)) tree) (alone (expr_place tree))) answers units

-- ---- on the way

-- what a step means whose node stands inside of these tests
abbrev pub placed_code : Setting → Nest → Locals → Step → Code
placed_code setting nest locals step = placed (nest_of nest) (code_of setting locals step)

-- what an outcome comes to where these levels wait for it, the outermost first
abbrev pub unwind : SpecTree → List Level → Evaluated → Evaluated
unwind spec [] o = o
unwind spec (level ∷ others) o = onward (unwind spec others o) (λ r. comes_to spec (level_then (of_evaluator spec) level r))

-- what the whole expression, which stands at the place, gives of an outcome
abbrev pub whole : SpecTree → Place → Evaluated → Evaluated
whole spec place o = onward o (λ r. comes_to spec (alone place r))

-- where an evaluation stands that does this next
abbrev pub stands : SpecTree → Place → List Level → Code → List Answer → ℕ → Evaluated
stands spec place frames code answers units = whole spec place (unwind spec frames (comes_to spec code answers units))

-- ---- an expression that needs nothing

-- its fault, if it has one; nobody gives what it needs, and so that is undefined
abbrev pub pure_fault : Evaluated → Option RunFault
pure_fault (gives flow answers units) = None
pure_fault (faults f answers) = Some f.fault
pure_fault (needs query) = Some Undefined

-- The result where the evaluation without an answer comes to this, and these units are left: its value or its fault. Want of memory
-- alone is told of any.
abbrev pub PureResult : Evaluated → ℕ → Result ValueTree (Halt RunFault) → Type 0
PureResult outcome left (Ok v) = (locals : Locals) × (outcome ≡ gives (gave (Held v) locals) [] left)
PureResult outcome left (Err (Of kind)) = pure_fault outcome ≡ Some kind
PureResult outcome left (Err OutOfMemory) = Unit {0}
