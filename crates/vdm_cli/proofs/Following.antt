-- What follows from the clauses of the top call.
use Rattle.std.specs.Prelude.{◌≡◌, ◌≢◌, ℕ, ◌⊎◌, Bool, List, [], Option, Some, None, IsSome}
use Rattle.std.proofs.Common.{refl, sym, ap, subst, inl, inr}
use Rattle.abstract_syntax.specs.Classes.{SpecTree}
use Rattle.abstract_syntax.specs.Expressions.{ExprTree}
use Rattle.run_journal.specs.declared.entry.Entry.{Entry}
use Rattle.vdm_kinds.specs.declared.spec_fault.SpecFault.{SpecFault}
use Rattle.text_phases.specs.Phases.{IsAccepted, first_refusal}
use Rattle.vdm_legal.specs.Order.{IsInOrder}
use Rattle.vdm_legal.specs.Finishes.{Finish, finish_of}
use Rattle.vdm_meaning.specs.Runs.{IsRun}
use Rattle.report_texts.specs.Words.{Limits, Command, check, run, IsCommand, IsNoCommand}
use Rattle.report_texts.proofs.Commands.{one_command}
use Rattle.vdm_report.specs.declared.end.End.{End}
use Rattle.vdm_report.specs.declared.end.End.TheVariants.{Ended, Checked, Refused, Usage, Failed, ReadFault}
use Rattle.vdm_report.specs.Ends.{finish_in}
use Rattle.vdm_report.specs.Outside.{Outside}
use Rattle.vdm_cli.specs.Meant.{read_of, Means}
use Rattle.vdm_cli.specs.Headline.{Call, StandsFor, KeepsWords, RunsText, ChecksSpec, Refuses, RunsOf, KeepsJournal, IsReported, KeepsOutput}
use Rattle.vdm_cli.specs.Following.{IsMeant}
use Rattle.vdm_cli.proofs.Refusals.{not_both, one_accepted, counts_by}
use Rattle.vdm_cli.proofs.Keeping.{wrote_stands, finished_is}

-- what is reported, behind some bytes
reported-by : (call : Call) → KeepsOutput call → (before : Option (List ℕ)) → call.source.before ≡ before → (spec : List ℕ) × IsReported call spec
reported-by call k None e = k.silent e
reported-by call k (Some told) e = (read_of told, k.told told e)

reported : (call : Call) → KeepsOutput call → (spec : List ℕ) × IsReported call spec
reported call k = reported-by call k call.source.before refl

-- the end stands for the one that is meant
meant_stands : (call : Call) (spec : List ℕ) (r : IsReported call spec) → StandsFor call.report.end r.meant
meant_stands call spec r = wrote_stands r.names call.report.journal call.report.log r.meant call.sink call.report.end r.wrote

is_meant : (call : Call) (spec : List ℕ) → IsReported call spec → IsMeant call spec
is_meant call spec r = record { names = r.names; meant = r.meant; means = r.means; stands = meant_stands call spec r }

pub meant_told : (call : Call) (told : List ℕ) → KeepsOutput call → call.source.before ≡ Some told → IsMeant call (read_of told)
meant_told call told k e = is_meant call (read_of told) (k.told told e)

pub meant_silent : (call : Call) → KeepsOutput call → call.source.before ≡ None → (spec : List ℕ) × IsMeant call spec
meant_silent call k e = let r = k.silent e in (r.0, is_meant call r.0 r.1)

-- an end that stands for itself alone is meant
means_end : (call : Call) (spec : List ℕ) (r : IsReported call spec) (end : End) → StandsFor call.report.end r.meant → call.report.end ≡ end → (StandsFor end r.meant → end ≡ r.meant) → Means call.words call.report.log call.source spec r.names call.report.journal end
means_end call spec r end s e itself =
    subst (Means call.words call.report.log call.source spec r.names call.report.journal) (sym (itself (subst (λ x. StandsFor x r.meant) e s))) r.means

-- the end of a run is its journal's
finish_meant : (words : List (List ℕ)) (log : Bool) (source : Outside) (spec : List ℕ) (names : List (List ℕ)) (journal : List Entry) (meant : End) → IsSome (finish_in meant) → Means words log source spec names journal meant → finish_of journal ≡ finish_in meant
finish_meant words log source spec names journal (Ended slot) f m = m.2.2.1
finish_meant words log source spec names journal (Failed fault exit thread place) f m = m.2.2.1
finish_meant words log source spec names journal meant f m = cc f

pub finish_of_journal : (call : Call) → KeepsOutput call → IsSome (finish_in call.report.end) → finish_of call.report.journal ≡ finish_in call.report.end
finish_of_journal call k f =
    let r = reported call k in
    let is = finished_is call.report.end r.1.meant f (meant_stands call r.0 r.1) in
    subst (λ x. finish_of call.report.journal ≡ finish_in x) (sym is)
    (finish_meant call.words call.report.log call.source r.0 r.1.names call.report.journal r.1.meant (subst (λ x. IsSome (finish_in x)) is f) r.1.means)

-- the journal is empty, or a run behind some specification
entries-by : (call : Call) → KeepsJournal call → (before : Option (List ℕ)) → call.source.before ≡ before → (call.report.journal ≡ []) ⊎ ((spec : List ℕ) × RunsOf call spec)
entries-by call k None e = k.silent e
entries-by call k (Some told) e = elim (k.told told e) [ inl none ↦ inl none | inr r ↦ inr (told, r.1) ]

-- the words' text is one, and so are their limits
abbrev text_in : Command → List ℕ
text_in check = []
text_in (run text limits log) = text

abbrev limits_in : Limits → Command → Limits
limits_in other check = other
limits_in other (run text limits log) = limits

same_text : (words : List (List ℕ)) (a b : List ℕ) (l m : Limits) → RunsText words a l → RunsText words b m → a ≡ b
same_text words a b l m p q = ap text_in (one_command words (run a l p.0) (run b m q.0) p.1 q.1)

same_limits : (words : List (List ℕ)) (a b : List ℕ) (l m : Limits) → RunsText words a l → RunsText words b m → l ≡ m
same_limits words a b l m p q = ap (limits_in l) (one_command words (run a l p.0) (run b m q.0) p.1 q.1)

accepted_text : (call : Call) (told text : List ℕ) (limits : Limits) (r : RunsOf call told) → RunsText call.words text limits → IsAccepted told text r.names r.runs.tree r.runs.expression
accepted_text call told text limits r p =
    subst (λ t. IsAccepted told t r.names r.runs.tree r.runs.expression) (same_text call.words r.text text r.limits limits r.command p) r.runs.accepted

pub journal_is_the_run : (call : Call) (told text : List ℕ) (limits : Limits) (names : List (List ℕ)) (tree : SpecTree) (expression : ExprTree) → KeepsJournal call → call.source.before ≡ Some told → RunsText call.words text limits → IsAccepted told text names tree expression → IsRun names tree expression limits.steps call.report.journal × IsInOrder tree call.report.journal
journal_is_the_run call told text limits names tree expression k e p h =
    elim (k.told told e) [
      | inl none ↦ (subst (IsRun names tree expression limits.steps) (sym none) tt, subst (IsInOrder tree) (sym none) tt)
      | inr r ↦
          let own = r.1.runs in
          let same = one_accepted told text r.1.names names own.tree tree own.expression expression (accepted_text call told text limits r.1 p) h in
          let units = same_limits call.words r.1.text text r.1.limits limits r.1.command p in (
            subst (λ l. IsRun names tree expression l.steps call.report.journal) units
                (subst (λ x. IsRun names tree x r.1.limits.steps call.report.journal) same.1
                (subst (λ t. IsRun names t own.expression r.1.limits.steps call.report.journal) same.0
                (subst (λ those. IsRun those own.tree own.expression r.1.limits.steps call.report.journal) same.2 own.run_of))),
            subst (λ t. IsInOrder t call.report.journal) same.0 own.order,
          )
    ]

pub empty_no_command : (call : Call) → KeepsJournal call → IsNoCommand call.words → call.report.journal ≡ []
empty_no_command call k faulty =
    elim (entries-by call k call.source.before refl) [
      | inl none ↦ none
      | inr r ↦ absurd (faulty (run r.1.text r.1.limits r.1.command.0) r.1.command.1)
    ]

pub empty_no_trees : (call : Call) (told text : List ℕ) (limits : Limits) (fault : SpecFault) → KeepsJournal call → call.source.before ≡ Some told → RunsText call.words text limits → first_refusal told text ≡ Some fault → call.report.journal ≡ []
empty_no_trees call told text limits fault k e p f =
    elim (k.told told e) [
      | inl none ↦ none
      | inr r ↦ absurd (not_both told text fault r.1.names r.1.runs.tree r.1.runs.expression f (accepted_text call told text limits r.1 p))
    ]

pub empty_unread : (call : Call) (told : List ℕ) → KeepsJournal call → call.source.before ≡ Some told → call.source.after ≢ Some [] → call.report.journal ≡ []
empty_unread call told k e more = elim (k.told told e) [ inl none ↦ none | inr r ↦ absurd (more r.0) ]

pub empty_usage : (call : Call) → KeepsWords call → KeepsJournal call → call.report.end ≡ Usage → call.report.journal ≡ []
empty_usage call words k e = empty_no_command call k (words.usage e)

pub empty_refused : (call : Call) (fault : SpecFault) → KeepsOutput call → call.report.end ≡ Refused fault → call.report.journal ≡ []
empty_refused call fault k e =
    let r = reported call k in
    (means_end call r.0 r.1 (Refused fault) (meant_stands call r.0 r.1) e (λ s. s)).2.2.1

pub empty_read_fault : (call : Call) → KeepsOutput call → call.report.end ≡ ReadFault → call.report.journal ≡ []
empty_read_fault call k e =
    let r = reported call k in
    (means_end call r.0 r.1 ReadFault (meant_stands call r.0 r.1) e (λ s. s)).2.1

pub empty_check : (call : Call) → KeepsJournal call → IsCommand call.words check → call.report.journal ≡ []
empty_check call k c =
    elim (entries-by call k call.source.before refl) [
      | inl none ↦ none
      | inr r ↦ absurd (let same = one_command call.words check (run r.1.text r.1.limits r.1.command.0) c r.1.command.1 in cc)
    ]

pub empty_checked : (call : Call) (classes : ℕ) → KeepsOutput call → call.report.end ≡ Checked classes → call.report.journal ≡ []
empty_checked call classes k e =
    let r = reported call k in
    (means_end call r.0 r.1 (Checked classes) (meant_stands call r.0 r.1) e (λ s. s)).2.2.1

pub silent_refusal : (call : Call) (fault : SpecFault) → KeepsOutput call → call.source.before ≡ None → call.report.end ≡ Refused fault → (spec : List ℕ) × Refuses call.words spec fault
silent_refusal call fault k none e =
    let r = k.silent none in
    let n = means_end call r.0 r.1 (Refused fault) (meant_stands call r.0 r.1) e (λ s. s) in
    (r.0, (n.0, n.1.words_are, n.2.2.0))

pub silent_check : (call : Call) (classes : ℕ) → KeepsOutput call → call.source.before ≡ None → call.report.end ≡ Checked classes → (spec : List ℕ) × ChecksSpec call.words spec classes
silent_check call classes k none e =
    let r = k.silent none in
    let n = means_end call r.0 r.1 (Checked classes) (meant_stands call r.0 r.1) e (λ s. s) in
    (r.0, counts_by call.words n.0 r.0 classes n.1.words_are n.2.2.0)

-- the journal of a run that ended is not empty
empty_unfinished : (journal : List Entry) (finish : Option Finish) → journal ≡ [] → finish_of journal ≡ finish → IsSome finish → ⊥
empty_unfinished journal None none e f = absurd (cc)
empty_unfinished journal (Some finish) none e f = absurd (cc)

pub check_unfinished : (call : Call) → KeepsJournal call → KeepsOutput call → IsCommand call.words check → IsSome (finish_in call.report.end) → ⊥
check_unfinished call j k c f = empty_unfinished call.report.journal (finish_in call.report.end) (empty_check call j c) (finish_of_journal call k f) f
