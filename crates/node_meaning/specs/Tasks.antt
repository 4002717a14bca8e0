-- What is evaluated, what comes of it, and what is asked on the way.
use Rattle.std.specs.Prelude.{ℕ, ℤ, List, [], ◌∷◌, ◌++◌, Result, Ok, Err, take}
use Rattle.vdm_kinds.specs.declared.member.OpRef.{OpRef}
use Rattle.vdm_kinds.specs.declared.member.VarRef.{VarRef}
use Rattle.vdm_kinds.specs.declared.name.Name.{Name}
use Rattle.vdm_kinds.specs.declared.run_fault.RunFault.{RunFault}
use Rattle.vdm_kinds.specs.declared.run_fault.RunFault.TheVariants.{StepLimit, Undefined}
use Rattle.vdm_kinds.specs.declared.place.Place.{Place}
use Rattle.vdm_values.specs.declared.slot.Slot.{Slot}
use Rattle.vdm_values.specs.declared.slot.Slot.TheVariants.{Unset, Held}
use Rattle.abstract_syntax.specs.Values.{ValueTree}
use Rattle.abstract_syntax.specs.Expressions.{ExprTree, expr_place}
use Rattle.abstract_syntax.specs.Statements.{StmtTree, HandlerTrees, stmt_place}
use Rattle.abstract_syntax.specs.Types.{TypeTree}
use Rattle.run_journal.specs.declared.answer.Answer.{Answer}
use Rattle.run_journal.specs.declared.question.Question.{Question}
use Rattle.plans.specs.Plans.{Plan, finish, fail, ask, part, become}
use Rattle.node_meaning.specs.Envs.{Locals, Nest, outermost, Here, Env, at}
use Rattle.node_meaning.specs.Faults.{Fault, fault_at}

-- Where `for i = a to b by c` stands: the name, how many locals stand before it, the number of this round, the difference to that of the
-- next one, the number behind which there is none, and the body.
pub record Counting : Type 0 where
  pub name : Name
  pub count : ℕ
  pub at : ℤ
  pub step : ℤ
  pub last : ℤ
  pub body : StmtTree

-- a round of a loop
pub data Round : Type 0 where
  -- of a `while` at this place: its condition, and the body where that is true
  while_true : ExprTree → StmtTree → Place → Round
  counts : Counting → Round
  -- of a `tixe` at this place: its handlers, how many locals stand before those that a pattern binds, and a statement whose exits they
  -- handle too
  handles : HandlerTrees → ℕ → StmtTree → Place → Round

-- the local variables that are declared round a statement, with their types, the newest last
abbrev pub Declared : Type 0
Declared = List (Name × TypeTree)

-- what is evaluated: a node, which costs one unit
pub data Task : Type 0 where
  -- an expression, for its value
  expr_in : Env → ExprTree → Task
  -- a call whose value is not wanted: that of a call statement, or the whole expression of a run
  call_in : Env → ExprTree → Task
  stmt_in : Env → Declared → StmtTree → Task
  -- the node with which a round of a loop begins, and what is done behind it
  round_in : Env → Declared → Round → Task

-- what comes of it, with the locals after it
pub data Flow : Type 0 where
  -- a value, or none where a call gave none
  gave : Slot → Locals → Flow
  -- a statement is done, and the next one follows
  next : Locals → Flow
  -- the body is done, with a value or without
  returned : Slot → Locals → Flow
  -- an exit with this value, at this place
  exited : ValueTree → Place → Locals → Flow

-- what an expression needs from outside of it
pub data Need : Type 0 where
  -- a variable of an object is read
  reads : ℕ → VarRef → Need
  -- an operation is called on an object, with its class, and the arguments with their places
  calls : ℕ → Name → OpRef → List ValueTree → List Place → Need
  -- an object of a class is made, with the arguments of its constructor and their places
  creates : Name → List ValueTree → List Place → Need
  -- values are printed, one after another
  prints : List ValueTree → Need
  -- the time is told
  tells_time : Need

-- What is asked: a question that an entry answers; that values are printed, which is such a question once their texts are written, over
-- the names of the texts that run; or a need as such.
pub data Query : Type 0 where
  noted : Question → Query
  printing : List ValueTree → Query
  needed : Need → Query

-- what a thread does
abbrev pub Code : Type 0
Code = Plan Task Flow Query Answer Fault

abbrev pub env_of : Task → Env
env_of (expr_in env tree) = env
env_of (call_in env tree) = env
env_of (stmt_in env declared tree) = env
env_of (round_in env declared round) = env

abbrev pub round_place : Round → Place
round_place (while_true condition body place) = expr_place condition
round_place (counts counting) = stmt_place counting.body
round_place (handles all count body place) = stmt_place body

abbrev pub task_place : Task → Place
task_place (expr_in env tree) = expr_place tree
task_place (call_in env tree) = expr_place tree
task_place (stmt_in env declared tree) = stmt_place tree
task_place (round_in env declared round) = round_place round

-- ---- what is declared round a statement

-- what stands round a statement, and behind it what it declares itself
abbrev pub declared_behind : Declared → Declared → Declared
declared_behind outer [] = outer
declared_behind outer (d ∷ own) = outer ++ d ∷ own

-- a statement among further local variables. An expression assigns to none.
abbrev pub task_among : Declared → Task → Task
task_among outer (expr_in env tree) = expr_in env tree
task_among outer (call_in env tree) = call_in env tree
task_among outer (stmt_in env own tree) = stmt_in env (declared_behind outer own) tree
task_among outer (round_in env own round) = round_in env (declared_behind outer own) round

abbrev pub all_among : Declared → Code → Code
all_among outer (finish flow) = finish flow
all_among outer (fail f) = fail f
all_among outer (ask query further) = ask query (λ answer. all_among outer (further answer))
all_among outer (part task further) = part (task_among outer task) (λ flow. all_among outer (further flow))
all_among outer (become task) = become (task_among outer task)

-- what is done among these local variables: each statement of it stands among them
abbrev pub among : Declared → Code → Code
among [] code = code
among (d ∷ outer) code = all_among (d ∷ outer) code

-- ---- where faults stand

-- inside of tests of invariants of types each fault stands where the outermost test is made
abbrev pub placed : Nest → Code → Code
placed nest (finish flow) = finish flow
placed nest (fail f) = fail (record f { place = outermost nest.test f.place })
placed nest (ask query further) = ask query (λ answer. placed nest (further answer))
placed nest (part task further) = part task (λ flow. placed nest (further flow))
placed nest (become task) = become task

-- a node that finds no unit left fails at its place
abbrev pub spent : Task → Fault
spent task = fault_at StepLimit (outermost (env_of task).here.nest.test (task_place task))

-- ---- plans that each kind of node is made of

-- a fault that is no exit
abbrev pub fault : RunFault → Place → Code
fault kind place = fail (fault_at kind place)

-- the value of a node
abbrev pub value : ValueTree → Locals → Code
value v locals = finish (gave (Held v) locals)

-- the value, or the fault at the node's place
abbrev pub value_or_fault : Place → Result ValueTree RunFault → Locals → Code
value_or_fault place (Ok v) locals = value v locals
value_or_fault place (Err kind) locals = fault kind place

-- What is done with the value that came. A part that is no expression gives none, and then there is nothing to do it with.
abbrev pub with_value : Place → (ValueTree → Locals → Code) → Flow → Code
with_value place further (gave (Held v) locals) = further v locals
with_value place further (gave Unset locals) = fault Undefined place
with_value place further (next locals) = fault Undefined place
with_value place further (returned slot locals) = fault Undefined place
with_value place further (exited v from locals) = finish (exited v from locals)

-- an expression, and what is done with its value
abbrev pub evaluated : Here → Locals → ExprTree → Place → (ValueTree → Locals → Code) → Code
evaluated here locals tree place further = part (expr_in (at here locals) tree) (with_value place further)

-- the locals that were there before a node bound further ones
abbrev pub cut_to : ℕ → Flow → Code
cut_to count (gave slot locals) = finish (gave slot (take count locals))
cut_to count (next locals) = finish (next (take count locals))
cut_to count (returned slot locals) = finish (returned slot (take count locals))
cut_to count (exited v from locals) = finish (exited v from (take count locals))
