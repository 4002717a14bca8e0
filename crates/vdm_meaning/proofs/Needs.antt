-- What a thread asks for a need keeps the rules, and so does what is done with what comes of it.
use Rattle.std.proofs.Common.{List, None, Option, Some, refl, ℕ}
use Rattle.vdm_kinds.specs.declared.member.OpRef.{OpRef}
use Rattle.vdm_kinds.specs.declared.name.Name.{Name}
use Rattle.vdm_kinds.specs.declared.place.Place.{Place}
use Rattle.vdm_kinds.specs.declared.run_fault.RunFault.TheVariants.{TypeFault}
use Rattle.vdm_values.specs.declared.slot.Slot.TheVariants.{Unset, Held}
use Rattle.abstract_syntax.specs.Classes.{OperationTree, SpecTree}
use Rattle.std.specs.Prelude.{pos}
use Rattle.abstract_syntax.specs.Values.{ValueTree, number}
use Rattle.run_journal.specs.declared.deed.Deed.TheVariants as deed
use Rattle.run_journal.specs.declared.entry.Entry.{Entry}
use Rattle.run_journal.specs.declared.question.Question.TheVariants.{Time}
use Rattle.plans.specs.Plans.{ask}
use Rattle.vdm_legal.specs.ClassObjects.{AreMade}
use Rattle.vdm_legal.proofs.Sanity.{IsQuiet, quiet-sane, quiet-within}
use Rattle.node_meaning.specs.Envs.{Here, Locals}
use Rattle.node_meaning.specs.Names.{operation_definition, variables_of}
use Rattle.node_meaning.specs.Needs.{asked}
use Rattle.node_meaning.specs.Tasks.{Code, Flow, Need, calls, creates, gave, noted, printing, prints, reads, tells_time}
use Rattle.stmt_meaning.specs.Calling.{gives_slot}
use Rattle.stmt_meaning.specs.Objects.{Making}
use Rattle.stmt_meaning.specs.Questions.{answered_slot, called_if, of_thread, printed, questions_of, time_answered}
use Rattle.vdm_meaning.proofs.Rules.{GivesKnown, IsOn, IsSafe, MayLeave}
use Rattle.vdm_meaning.proofs.Parts.{EachKnown, IsAt, at-later, at-start, may-fail, safe-bind, safe-finish}
use Rattle.vdm_meaning.proofs.Asking.{safe-Time, safe-printing}
use Rattle.vdm_meaning.proofs.Reading.{safe-read}
use Rattle.vdm_meaning.proofs.Calls.{safe-called}
use Rattle.vdm_meaning.proofs.Objects.{safe-new_object}

-- What is read, or called on, is there, and each value that is given is known. A node that prints, or asks for the time, comes behind all
-- class objects.
abbrev pub IsMet : SpecTree → List Entry → Need → Type 0
IsMet spec entries (reads me var) = IsOn spec entries me
IsMet spec entries (calls me own op vs places) = IsOn spec entries me × EachKnown spec entries vs
IsMet spec entries (creates class vs places) = AreMade spec entries × EachKnown spec entries vs
IsMet spec entries (prints vs) = AreMade spec entries
IsMet spec entries tells_time = AreMade spec entries

print-quiet : (text : List ValueTree) → IsQuiet (deed.Print text)
print-quiet text = λ name. (refl, refl, refl)

time-quiet : (told : ℕ) → IsQuiet (deed.Time told)
time-quiet told = λ name. (refl, refl, refl)

module _ (spec : SpecTree) where
  module _ (first now : List Entry) (here : Here) (locals : Locals) (is_at : IsAt spec first now here locals) (place : Place) where
    safe-called_if : (me : ℕ) (own : Name) (op : OpRef) (found : Option OperationTree) (vs : List ValueTree) (places : List Place) → IsOn spec now me → EachKnown spec now vs → IsSafe spec first now (called_if spec me own op found vs places place locals)
    safe-called_if me own op None vs places there known = may-fail spec TypeFault place is_at.may
    safe-called_if me own op (Some operation) vs places there known = safe-called spec first now here locals me own op operation vs places place gives_slot is_at there known tt

    safe-prints : (vs : List ValueTree) → AreMade spec now → IsSafe spec first now (ask (printing vs) (printed locals))
    safe-prints vs made =
        safe-printing spec (MayLeave spec) first now (printed locals) vs (λ text. record { ready = is_at.may.main; sane = is_at.may.sane; turn = made }) (λ text.
        let sane = quiet-sane now 0 (deed.Print text) (print-quiet text) is_at.may.sane tt refl in
        let within = quiet-within now 0 (deed.Print text) (print-quiet text) spec made in
        let at_end = at-later is_at within sane in
        safe-finish spec (gave Unset locals) at_end (tt, at_end.may.known))

    safe-tells : AreMade spec now → IsSafe spec first now (ask (noted Time) (time_answered place locals))
    safe-tells made =
        safe-Time spec (MayLeave spec) first now (time_answered place locals) (record { ready = is_at.may.main; sane = is_at.may.sane; turn = made }) (λ told.
        let sane = quiet-sane now 0 (deed.Time told) (time-quiet told) is_at.may.sane tt refl in
        let within = quiet-within now 0 (deed.Time told) (time-quiet told) spec made in
        let at_end = at-later is_at within sane in
        safe-finish spec (gave (Held (number (pos told))) locals) at_end (tt, at_end.may.known))

    safe-questions : (need : Need) → IsMet spec now need → IsSafe spec first now (questions_of spec need place locals)
    safe-questions (reads me var) met =
        safe-read spec first now here locals is_at me var (answered_slot locals) met (λ later slot w at_later known. safe-finish spec (gave slot locals) at_later (known, at_later.may.known))
    safe-questions (calls me own op vs places) met = safe-called_if me own op (operation_definition spec op) vs places met.0 met.1
    safe-questions (creates class vs places) met =
        let m : Making = record { class = class; arguments = vs; places = places; place = place } in
        safe-new_object spec first here m now locals (variables_of spec class) is_at met.0 met.1
    safe-questions (prints vs) met = safe-prints vs met
    safe-questions tells_time met = safe-tells met

  -- the questions, and what follows them
  pub safe-asked : (first now : List Entry) (here : Here) (locals : Locals) (need : Need) (place : Place) (further : Flow → Code) → IsAt spec first now here locals → IsMet spec now need → ((later : List Entry) (flow : Flow) → IsAt spec first later here locals → GivesKnown spec later flow → IsSafe spec first later (further flow)) → IsSafe spec first now (asked (of_thread spec) need place locals further)
  safe-asked first now here locals need place further is_at met goes =
      safe-bind spec now first further (λ later flow w leaves. goes later flow (at-later is_at w leaves.0) leaves.1)
      (questions_of spec need place locals) now (safe-questions now now here locals (at-start is_at.may) place need met)
