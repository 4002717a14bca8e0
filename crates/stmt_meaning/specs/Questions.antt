-- The questions of a thread.
use Rattle.std.specs.Prelude.{ℕ, pos, List, Option, Some, None}
use Rattle.vdm_kinds.specs.declared.member.OpRef.{OpRef}
use Rattle.vdm_kinds.specs.declared.name.Name.{Name}
use Rattle.vdm_kinds.specs.declared.place.Place.{Place}
use Rattle.vdm_kinds.specs.declared.run_fault.RunFault.TheVariants.{TypeFault, Undefined}
use Rattle.vdm_values.specs.declared.slot.Slot.TheVariants.{Unset, Held}
use Rattle.abstract_syntax.specs.Values.{ValueTree, number}
use Rattle.abstract_syntax.specs.Classes.{OperationTree, SpecTree}
use Rattle.run_journal.specs.declared.answer.Answer.{Answer}
use Rattle.run_journal.specs.declared.answer.Answer.TheVariants.{Ticks}
use Rattle.run_journal.specs.declared.question.Question.TheVariants.{Read, Time}
use Rattle.plans.specs.Plans.{finish, ask, bind}
use Rattle.node_meaning.specs.Envs.{Locals}
use Rattle.node_meaning.specs.Names.{operation_definition, variables_of}
use Rattle.node_meaning.specs.Needs.{Asker, Setting, slot_in}
use Rattle.node_meaning.specs.Tasks.{gave, Need, reads, calls, creates, prints, tells_time, noted, printing, Code, fault}
use Rattle.stmt_meaning.specs.Calling.{gives_slot}
use Rattle.stmt_meaning.specs.Calls.{called}
use Rattle.stmt_meaning.specs.Objects.{new_object}

-- what was read
abbrev pub answered_slot : Locals → Answer → Code
answered_slot locals answer = finish (gave (slot_in answer) locals)

-- what is no operation of its class is a type fault at the call
abbrev pub called_if : SpecTree → ℕ → Name → OpRef → Option OperationTree → List ValueTree → List Place → Place → Locals → Code
called_if spec me own op None vs places place locals = fault TypeFault place
called_if spec me own op (Some operation) vs places place locals = called spec me own op operation vs places place gives_slot locals

-- what is printed gives no value
abbrev pub printed : Locals → Answer → Code
printed locals answer = finish (gave Unset locals)

-- the number of ticks that was told
abbrev pub time_answered : Place → Locals → Answer → Code
time_answered place locals (Ticks n) = finish (gave (Held (number (pos n))) locals)
time_answered place locals _ = fault Undefined place

-- the questions of a thread
abbrev pub questions_of : SpecTree → Need → Place → Locals → Code
questions_of spec (reads me var) place locals = ask (noted (Read me var)) (answered_slot locals)
questions_of spec (calls me own op vs places) place locals = called_if spec me own op (operation_definition spec op) vs places place locals
questions_of spec (creates class vs places) place locals =
    new_object spec (record { class = class; arguments = vs; places = places; place = place }) (variables_of spec class) locals
questions_of spec (prints vs) place locals = ask (printing vs) (printed locals)
questions_of spec tells_time place locals = ask (noted Time) (time_answered place locals)

-- a thread asks the questions that a need stands for
abbrev pub thread : SpecTree → Asker
thread spec need place locals further = bind (questions_of spec need place locals) further

-- what a thread's nodes mean
abbrev pub of_thread : SpecTree → Setting
of_thread spec = record { spec = spec; asker = thread spec }
