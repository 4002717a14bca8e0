-- What is waiting, what is asked, and what is done next: the plan of each.
use Rattle.std.specs.Prelude.{ℕ, ℤ, ◌+◌, ◌-◌, List, [], ◌∷◌, ◌++◌, length, drop, option_map}
use Rattle.std.specs.Borrow.{Bor}
use Rattle.abstract_syntax.specs.Classes.{SpecTree}
use Rattle.expr_tree.specs.View.{view_of, boxed_view, pattern_view}
use Rattle.expr_tree.specs.declared.expr.Expr.{Expr as ExprOf}
use Rattle.vdm_tree.specs.StmtView.{boxed_stmt, maybe_stmt}
use Rattle.run_journal.specs.declared.answer.Answer.{Answer}
use Rattle.run_journal.specs.declared.question.Question.{Question}
use Rattle.run_journal.specs.declared.question.Question.TheVariants as question
use Rattle.report_texts.specs.Printing.{printed_text}
use Rattle.plans.specs.Plans.{finish, fail, ask, part, become, bind}
use Rattle.stmt_meaning.specs.Blocks.{alternatives}
use Rattle.stmt_meaning.specs.Flows.{unless_ended, unless_ended_at, stmt_within, sequence, called, return_value, exit_value}
use Rattle.stmt_meaning.specs.Handlers.{at_last, unless_replaced, trapped, caught}
use Rattle.stmt_meaning.specs.Loops.{while_round, while_decided, counted, on_number, counts_by, counts_to, counts_on, each_of_set, each_of_sequence}
use Rattle.stmt_meaning.specs.Statements.{branch_taken, branches_of, started, all_started}
use Rattle.stmt_meaning.specs.Targets.{goal_typed, stored, written, write_of}
use Rattle.stmt_meaning.specs.Calls.{back, begun, begins, body_left, pre_decided, post_decided, value_given}
use Rattle.node_meaning.specs.Envs.{Here as MeantHere, Locals, at, old_name}
use Rattle.node_meaning.specs.Matching.{on_truth}
use Rattle.node_meaning.specs.Needs.{asked, slot_in}
use Rattle.stmt_meaning.specs.Questions.{of_thread, answered_slot, printed, time_answered}
use Rattle.stmt_meaning.specs.Objects.{created}
use Rattle.node_meaning.specs.Tasks.{Flow as MeantFlow, round_in, Round as MeantRound, while_true, counts, handles, Code, Query, noted, printing, fault, with_value, cut_to}
use Rattle.vdm_meaning.specs.Main.{uncaught, ended as main_ended, came}
use Rattle.eval_data.specs.Parts.{here_of, flow_of, need_of}
use Rattle.eval_data.specs.Steps.{after_need, frame_then}
use Rattle.eval_data.specs.declared.flow.Flow.TheVariants.{Gave}
use Rattle.eval_data.specs.declared.frame.Frame.{Frame}
use Rattle.eval_data.specs.declared.here.Here.{Here}
use Rattle.step_data.specs.declared.action.Action.{Action}
use Rattle.step_data.specs.declared.action.Action.TheVariants.{Finish as Done, Fail, Uncaught, Ask, Part, Become, Round as OfRound, Block, Test, Fit, Begin, Need}
use Rattle.step_data.specs.declared.asking.Asking.{Asking}
use Rattle.step_data.specs.declared.asking.Asking.TheVariants.{Class, Request, Activation, Before, Finish, Read, Write, WriteTogether, Old, New, Print, Time, End as Ending}
use Rattle.step_data.specs.declared.level.Level.{Level}
use Rattle.step_data.specs.declared.round.ForLoop.{ForLoop}
use Rattle.step_data.specs.declared.waiting.Waiting.{Waiting}
use Rattle.step_data.specs.declared.waiting.Waiting.TheVariants.{
  Expr,
  After,
  Called,
  Rest,
  Cut as CutTo,
  Local,
  LocalFits,
  Assign,
  Store,
  Index,
  Join,
  GoalFits,
  Return,
  Argument,
  Back,
  Parameters,
  Pre,
  Body,
  Leave,
  Post,
  Initial,
  Static,
  StaticFits,
  Slots,
  Exit,
  Branches,
  Round as BehindFirst,
  Again,
  First,
  Last,
  By,
  AtLast,
  Replaced,
  Trapped,
  Defined,
  DefinedFits,
  Found,
  Subject,
  OfSet,
  OfSequence,
  Element,
  Given,
  Start,
  StartAll,
  End,
}
use Rattle.step_data.specs.Declarations.{surrounded, rest_of_block, local_came, local_fits}
use Rattle.step_data.specs.Goals.{goal_view, kept_with, index_then, join_then, old_answered}
use Rattle.step_data.specs.Meetings.{cases_left, given_then, element_then, defined_meets, defined_tested}
use Rattle.step_data.specs.Callings.{calling_of, olds_of, arguments_left, read_from, binding_then, making_of, initial_of, slots_left, class_behind, static_given, statics_tested}
use Rattle.step_data.specs.Parts.{expression_in, task_of, round_of, statements_of, branches_left}

-- ---- what is waiting

-- what is done behind the node with which a round of a loop began
abbrev pub round_done : SpecTree → MeantHere → MeantRound → MeantFlow → Code
round_done spec here (while_true condition body place) = with_value place (on_truth place (while_decided here condition body place))
round_done spec here (counts counting) = counted here counting
round_done spec here (handles all count body place) = caught spec here place all count

-- what is done behind each number of a loop
abbrev pub behind_first : Here → ForLoop → ℤ → Locals → Code
behind_first here l = counts_on (here_of here) l.name (boxed_view l.last.now) (option_map boxed_view l.by.now) (boxed_stmt l.body.now) l.place

abbrev pub behind_last : Here → ForLoop → ℤ → ℤ → Locals → Code
behind_last here l first = counts_to (here_of here) l.name (option_map boxed_view l.by.now) (boxed_stmt l.body.now) l.place first

abbrev pub behind_by : Here → ForLoop → ℤ → ℤ → ℤ → Locals → Code
behind_by here l first last = counts_by (here_of here) l.name (boxed_stmt l.body.now) l.place first last

abbrev pub waiting_then : SpecTree → Waiting → MeantFlow → Code
waiting_then spec (Expr frame) = frame_then (of_thread spec) frame
waiting_then spec (After after place) = after_need after place
waiting_then spec Called = called
waiting_then spec (Rest here statements count) = unless_ended_at count (sequence (here_of here) count (statements_of statements.now))
waiting_then spec (CutTo count) = cut_to count
waiting_then spec (Local declaring) = local_came spec declaring.value
waiting_then spec (LocalFits declaring) = local_fits spec declaring.value
waiting_then spec (Assign here goal place) =
    with_value place (goal_typed spec (here_of here) place (goal_view goal) (stored place (goal_view goal)))
waiting_then spec (Store goal place) = with_value place (stored place (goal_view goal))
waiting_then spec (Index assigning) = index_then spec assigning.value
waiting_then spec (Join assigning) = join_then spec assigning.value
waiting_then spec (GoalFits assigning) = with_value assigning.value.place (kept_with spec assigning.value)
waiting_then spec (Return place) = with_value place return_value
waiting_then spec (Argument requesting tested place) = with_value place (λ v. arguments_left spec requesting.value tested)
waiting_then spec (Back saved) = back saved.items
waiting_then spec (Parameters binding) = binding_then spec binding.value
waiting_then spec (Pre call) = with_value call.value.place (on_truth call.value.place (pre_decided spec (calling_of call.value)))
waiting_then spec (Body call count) = body_left spec (calling_of call.value) count
waiting_then spec (Leave call) = with_value call.value.place (value_given (calling_of call.value))
waiting_then spec (Post call slot) = with_value call.value.place (on_truth call.value.place (post_decided (calling_of call.value) slot))
waiting_then spec (Initial making) = initial_of spec making.value
waiting_then spec (Static making place) = came place (static_given spec making.value)
waiting_then spec (StaticFits making tested place) = came place (λ v. statics_tested spec making.value tested)
waiting_then spec (Slots making tested) = with_value making.value.object.value.place (λ v. slots_left spec making.value tested)
waiting_then spec (Exit place) = with_value place (exit_value place)
waiting_then spec (Branches here statement more otherwise place) =
    with_value place
    (on_truth place
    (branch_taken (here_of here) (boxed_stmt statement.now)
    (branches_of (here_of here) place (branches_left more.now) (maybe_stmt otherwise.now))))
waiting_then spec (BehindFirst here round) = round_done spec (here_of here) (round_of round)
waiting_then spec (Again here condition body place) =
    unless_ended (while_round (here_of here) (boxed_view condition.now) (boxed_stmt body.now) place)
waiting_then spec (First here l) = with_value l.place (on_number l.place (behind_first here l))
waiting_then spec (Last here l first) = with_value l.place (on_number l.place (behind_last here l first))
waiting_then spec (By here l first last) = with_value l.place (on_number l.place (behind_by here l first last))
waiting_then spec (AtLast here statement count) = at_last (here_of here) count (boxed_stmt statement.now)
waiting_then spec (Replaced flow) = unless_replaced (flow_of flow [])
waiting_then spec (Trapped here pattern handler place count) =
    trapped spec (here_of here) place (pattern_view pattern.now.value) (boxed_stmt handler.now) count
waiting_then spec (Defined defining) = with_value defining.value.place (defined_tested spec defining.value)
waiting_then spec (DefinedFits defining) = with_value defining.value.place (defined_meets spec defining.value)
waiting_then spec (Found here body count) = unless_ended (stmt_within (here_of here) count (boxed_stmt body.now))
waiting_then spec (Subject here cases others count place) =
    with_value place (alternatives spec (here_of here) place count (cases_left cases.now) (maybe_stmt others.now))
waiting_then spec (OfSet here pattern body place) =
    with_value place (each_of_set spec (here_of here) place (pattern_view pattern.now.value) (boxed_stmt body.now))
waiting_then spec (OfSequence here pattern body place) =
    with_value place (each_of_sequence spec (here_of here) place (pattern_view pattern.now.value) (boxed_stmt body.now))
waiting_then spec (Element elements) = element_then spec elements.value
waiting_then spec (Given given) = given_then spec given.value
waiting_then spec (Start place) = with_value place (started place)
waiting_then spec (StartAll place) = with_value place (all_started place)
waiting_then spec End = main_ended

-- ... with what stands round the node
abbrev pub level_then : SpecTree → Level → MeantFlow → Code
level_then spec level flow = surrounded level.around (waiting_then spec level.waiting.waiting flow)

-- ---- what is asked

-- as a query of the meaning
abbrev pub query_of : Asking → Query
query_of (Class making) = noted (question.Class making.value.object making.value.class making.value.slots.items)
query_of (Request call) = noted (question.Req call.value.me call.value.op)
query_of (Activation call) = noted (question.Act call.value.me call.value.op)
query_of (Before call old next) = noted (question.Read old.object old.var)
query_of (Finish me op flow) = noted (question.Fin me op)
query_of (Read me var) = noted (question.Read me var)
query_of (Write me var v place) = noted (question.Write me (write_of var v ∷ []))
query_of (WriteTogether me pairs place) = noted (question.Write me pairs.items)
query_of (Old assigning me var) = noted (question.Read me var)
query_of (New creating slots) = noted (question.New creating.value.class slots)
query_of (Print vs) = printing vs
query_of (Time place) = noted question.Time
query_of (Ending slot) = noted (question.End slot)

-- ... and as a question, over the names of the texts
abbrev pub question_of : List (List ℕ) → Asking → Question
question_of names (Class making) = question.Class making.value.object making.value.class making.value.slots.items
question_of names (Request call) = question.Req call.value.me call.value.op
question_of names (Activation call) = question.Act call.value.me call.value.op
question_of names (Before call old next) = question.Read old.object old.var
question_of names (Finish me op flow) = question.Fin me op
question_of names (Read me var) = question.Read me var
question_of names (Write me var v place) = question.Write me (write_of var v ∷ [])
question_of names (WriteTogether me pairs place) = question.Write me pairs.items
question_of names (Old assigning me var) = question.Read me var
question_of names (New creating slots) = question.New creating.value.class slots
question_of names (Print vs) = question.Print (printed_text names vs)
question_of names (Time place) = question.Time
question_of names (Ending slot) = question.End slot

-- what is done with the answer
abbrev pub answered_of : SpecTree → Locals → Asking → Answer → Code
answered_of spec locals (Class making) answer = class_behind spec making.value
answered_of spec locals (Request call) answer =
    ask (noted (question.Act call.value.me call.value.op)) (begins spec (calling_of call.value) (olds_of call.value) locals)
answered_of spec locals (Activation call) answer = begins spec (calling_of call.value) (olds_of call.value) locals answer
answered_of spec locals (Before call old next) answer = read_from spec call.value next (locals ++ (old_name old.name, slot_in answer) ∷ [])
answered_of spec locals (Finish me op flow) answer = finish (flow_of flow locals)
answered_of spec locals (Read me var) answer = answered_slot locals answer
answered_of spec locals (Write me var v place) answer = written place locals answer
answered_of spec locals (WriteTogether me pairs place) answer = written place locals answer
answered_of spec locals (Old assigning me var) answer = old_answered spec assigning.value locals answer
answered_of spec locals (New creating slots) answer = created spec (making_of creating.value) locals answer
answered_of spec locals (Print vs) answer = printed locals answer
answered_of spec locals (Time place) answer = time_answered place locals answer
answered_of spec locals (Ending slot) answer = finish (flow_of (Gave slot) locals)

-- ---- what is done next

-- a part of the test of a value: what is done with what comes of it, and what is done with what comes of the test
abbrev pub nested : SpecTree → Locals → Here → Bor ExprOf → Frame → Waiting → Code
nested spec locals here tree inner outer = bind (part (expression_in here tree locals) (frame_then (of_thread spec) inner)) (waiting_then spec outer)

abbrev pub action_code : SpecTree → Locals → Action → Code
action_code spec locals (Done flow) = finish (flow_of flow locals)
action_code spec locals (Fail kind place) = fault kind place
action_code spec locals (Uncaught v place) = fail (uncaught v place)
action_code spec locals (Ask asking) = ask (query_of asking) (answered_of spec locals asking)
action_code spec locals (Part task pending) = part (task_of task locals) (waiting_then spec pending.waiting)
action_code spec locals (Become task) = become (task_of task locals)
action_code spec locals (OfRound here round) = become (round_in (at (here_of here) locals) [] (round_of round))
action_code spec locals (Block rest) = rest_of_block rest locals
action_code spec locals (Test test) = nested spec locals test.value.here test.value.tree test.value.inner (Expr test.value.outer)
action_code spec locals (Fit fit) = nested spec locals fit.value.here fit.value.tree fit.value.inner fit.value.outer.waiting
action_code spec locals (Begin call) = begun spec (calling_of call.value) (olds_of call.value) locals
action_code spec locals (Need need place after) = asked (of_thread spec) (need_of need) place locals (after_need after place)

-- ---- what falls

-- More than the greatest number of 32 bits: no `post` names more variables with `~`, and there are no more class objects.
unfoldable pub most : ℕ
most = 4294967296

-- what an asking weighs: more than the action behind its answer
abbrev pub weight : Asking → ℕ
weight (Class making) = 2 + (most - making.value.object)
weight (Request call) = 6 + length call.value.olds.items
weight (Activation call) = 5 + length call.value.olds.items
weight (Before call old next) = 2 + length (drop next call.value.olds.items)
weight (New creating slots) = 7 + most
weight (Old assigning me var) = 3
weight _ = 2

-- what an action weighs, before the next question
abbrev pub height : Action → ℕ
height (Ask asking) = weight asking
height (Begin call) = 4 + length call.value.olds.items
height (Need need place after) = 9 + most
height (Block rest) = 2
height _ = 1

-- whether another action follows at once
abbrev pub busy : Action → ℕ
busy (Done flow) = 1
busy (Part task pending) = 1
busy (Become task) = 1
busy (OfRound here round) = 1
busy (Test test) = 1
busy (Fit fit) = 1
busy (Begin call) = 4
busy (Need need place after) = 4
busy (Block rest) = 2
busy _ = 0

-- what waits behind a need or a call weighs little, since it is done at once
abbrev pub waiting_weight : Waiting → ℕ
waiting_weight (After after place) = 2
waiting_weight (Back saved) = 2
waiting_weight _ = 10 + most
