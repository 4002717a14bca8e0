-- What the end that is meant, and what was written of it, say of a whole call.
use Rattle.std.specs.Prelude.{◌≡◌, ℕ, ◌+◌, ◌≤◌, ◌⊎◌, Bool, List, [], length, take, drop, Some, IsSome}
use Rattle.std.proofs.Common.{refl, sym, ap, ◌∙◌, subst, arith, inl, inr, length-take, take_all}
use Rattle.std.proofs.lemmas.List.{drop_all}
use Rattle.abstract_syntax.specs.Classes.{SpecTree}
use Rattle.abstract_syntax.specs.Expressions.{ExprTree}
use Rattle.run_journal.specs.declared.entry.Entry.{Entry}
use Rattle.vdm_kinds.specs.declared.spec_fault.SpecFault.{SpecFault}
use Rattle.text_phases.specs.Phases.{IsAccepted, IsChecked, spec_limit}
use Rattle.report_texts.specs.Words.{Limits, Command, check, run, IsCommand, IsNoCommand, asks_log}
use Rattle.report_texts.proofs.Commands.{one_command}
use Rattle.vdm_report.specs.declared.end.End.{End}
use Rattle.vdm_report.specs.declared.end.End.TheVariants.{Ended, Refused, Usage, Failed, ReadFault, WriteFault, OutOfMemory}
use Rattle.vdm_report.specs.declared.end.End.TheVariants.{Checked}
use Rattle.vdm_report.specs.Ends.{finish_in}
use Rattle.vdm_report.specs.Outside.{Outside, IsCalm, IsFaulty}
use Rattle.vdm_report.specs.Written.{Wrote}
use Rattle.vdm_cli.specs.Meant.{read_of, WasRead, RunsBy, HasClasses, refusal_of, MeansCommand, MeansUsage, Means}
use Rattle.vdm_cli.specs.Headline.{Call, StandsFor, KeepsStatus, KeepsWords, KeepsReading, AcceptsTexts, ChecksSpec, KeepsTexts, RunsOf, KeepsJournal, KeepsOutput, KeepsCauses, Keeps}
use Rattle.vdm_cli.proofs.AcceptedSpecs.{short}
use Rattle.vdm_cli.proofs.Refusals.{not_both, not_checked, same_count, run_unrefused, count_unrefused, run_short, count_short, accepts_by, counts_by, runs_of}

-- ---- what is written

-- what was written stands for what is meant
pub wrote_stands : (names : List (List ℕ)) (journal : List Entry) (log : Bool) (meant : End) (sink : Outside) (end : End) → Wrote names journal log meant sink end → StandsFor end meant
wrote_stands names journal log meant sink WriteFault w = tt
wrote_stands names journal log meant sink OutOfMemory w = tt
wrote_stands names journal log meant sink end w = w.1

-- ---- the command of words

-- words that are no command mean usage
means_usage : (words : List (List ℕ)) (log : Bool) (source : Outside) (spec : List ℕ) (names : List (List ℕ)) (journal : List Entry) (meant : End) → IsNoCommand words → Means words log source spec names journal meant → (meant ≡ Usage) × MeansUsage words log source journal
means_usage words log source spec names journal Usage none m = (refl, m)
means_usage words log source spec names journal meant none m = absurd (none m.0 m.1.words_are)

-- words that are a command mean a report that has the log where it asks for it
means_asks : (words : List (List ℕ)) (log : Bool) (source : Outside) (spec : List ℕ) (names : List (List ℕ)) (journal : List Entry) (meant : End) → (command : Command) → IsCommand words command → Means words log source spec names journal meant → log ≡ asks_log command
means_asks words log source spec names journal Usage command c m = absurd (m.no_command command c)
means_asks words log source spec names journal meant command c m = m.1.log_is ∙ ap asks_log (one_command words m.0 command m.1.words_are c)

-- words that are a command mean what it means
means_command : (words : List (List ℕ)) (log : Bool) (source : Outside) (spec : List ℕ) (names : List (List ℕ)) (journal : List Entry) (meant : End) (command : Command) → IsCommand words command → Means words log source spec names journal meant → MeansCommand source spec command names journal meant
means_command words log source spec names journal Usage command c m = absurd (m.no_command command c)
means_command words log source spec names journal meant command c m = subst (λ (d : Command). MeansCommand source spec d names journal meant) (one_command words m.0 command m.1.words_are c) m.2

-- ---- the bytes that were read

-- what is meant behind the bytes that were read is meant behind those that were told
command_told : (source : Outside) (spec : List ℕ) (command : Command) (told : List ℕ) (names : List (List ℕ)) (journal : List Entry) (meant : End) → source.before ≡ Some told → MeansCommand source spec command names journal meant → MeansCommand source (read_of told) command names journal meant
command_told source spec command told names journal ReadFault e m = m
command_told source spec command told names journal OutOfMemory e m = (m.0, elim m.1 [ inl none ↦ inl none | inr r ↦ inr (subst (λ s. WasRead source s × RunsBy command s names journal) (r.0 told e).0 r) ])
command_told source spec command told names journal meant e m = subst (λ s. MeansCommand source s command names journal meant) (m.1 told e).0 m

means_told : (words : List (List ℕ)) (log : Bool) (source : Outside) (spec : List ℕ) (names : List (List ℕ)) (journal : List Entry) (meant : End) (told : List ℕ) → source.before ≡ Some told → Means words log source spec names journal meant → Means words log source (read_of told) names journal meant
means_told words log source spec names journal Usage told e m = m
means_told words log source spec names journal meant told e m = (m.0, m.1, command_told source spec m.0 told names journal meant e m.2)

-- a specification is short, so that it was read to its end
short_is_all : (n : ℕ) (xs : List ℕ) → length xs ≤ n → (take (n + 1) xs ≡ xs) × (drop (n + 1) xs ≡ [])
short_is_all n xs h = (take_all (n + 1) xs (omega arith), drop_all (n + 1) xs (omega arith))

short_front : (n : ℕ) (xs : List ℕ) → length (take (n + 1) xs) ≤ n → length xs ≤ n
short_front n xs h = let e = length-take (n + 1) xs in omega arith

pub read_to_end : (source : Outside) (spec told : List ℕ) → source.before ≡ Some told → WasRead source spec → length spec ≤ spec_limit → (source.after ≡ Some []) × (spec ≡ told)
read_to_end source spec told e r s =
    let first = r told e in
    let short : length (take (spec_limit + 1) told) ≤ spec_limit = subst (λ l. length l ≤ spec_limit) first.0 s in
    let all = short_is_all spec_limit told (short_front spec_limit told short) in
    (first.1 ∙ ap Some all.1, first.0 ∙ all.0)

-- a specification that is told was read whole
read_whole : (source : Outside) (spec told : List ℕ) → source.before ≡ Some told → WasRead source spec → length told ≤ spec_limit → spec ≡ told
read_whole source spec told e r s = (r told e).0 ∙ (short_is_all spec_limit told s).0

-- ---- ends that stand for what is meant

-- an end that want of memory means may stand for any
stands_again : (end other : End) → StandsFor end OutOfMemory → StandsFor end other
stands_again WriteFault other s = tt
stands_again OutOfMemory other s = tt
stands_again end other s = cc s

-- an end of a run is the one that is meant
pub finished_is : (end meant : End) → IsSome (finish_in end) → StandsFor end meant → end ≡ meant
finished_is WriteFault meant f s = cc f
finished_is OutOfMemory meant f s = cc f
finished_is end meant f s = s

-- what stands for an end of a run
stands_for_finish : (end meant : End) → IsSome (finish_in meant) → StandsFor end meant → IsSome (finish_in end) ⊎ ((end ≡ WriteFault) ⊎ (end ≡ OutOfMemory))
stands_for_finish WriteFault meant f s = inr (inl refl)
stands_for_finish OutOfMemory meant f s = inr (inr refl)
stands_for_finish end meant f s = inl (subst (λ e. IsSome (finish_in e)) (sym s) f)

-- want of memory stands for nothing else
stands_for_memory : (end : End) → StandsFor end OutOfMemory → IsSome (finish_in end) ⊎ ((end ≡ WriteFault) ⊎ (end ≡ OutOfMemory))
stands_for_memory WriteFault s = inr (inl refl)
stands_for_memory OutOfMemory s = inr (inr refl)
stands_for_memory end s = cc s

-- ---- what is meant, by the command

-- the command of an end that is a run's
finished_by : (words : List (List ℕ)) (log : Bool) (source : Outside) (spec : List ℕ) (names : List (List ℕ)) (journal : List Entry) (meant : End) → IsSome (finish_in meant) → Means words log source spec names journal meant → (command : Command) × (IsCommand words command × (WasRead source spec × RunsBy command spec names journal))
finished_by words log source spec names journal (Ended slot) f m = (m.0, (m.1.words_are, (m.2.1, m.2.2.0)))
finished_by words log source spec names journal (Failed fault exit thread place) f m = (m.0, (m.1.words_are, (m.2.1, m.2.2.0)))
finished_by words log source spec names journal meant f m = cc f

-- where the command has a refusal, it or want of memory is meant
refusal_meant : (source : Outside) (spec : List ℕ) (command : Command) (names : List (List ℕ)) (journal : List Entry) (fault : SpecFault) (meant : End) → (IsFaulty source → ⊥) → refusal_of command spec ≡ Some fault → MeansCommand source spec command names journal meant → (meant ≡ Refused fault) ⊎ (meant ≡ OutOfMemory)
refusal_meant source spec command names journal fault (Ended slot) calm f m = absurd (run_unrefused command spec names journal fault m.2.0 f)
refusal_meant source spec command names journal fault (Failed g exit thread place) calm f m = absurd (run_unrefused command spec names journal fault m.2.0 f)
refusal_meant source spec command names journal fault (Checked classes) calm f m = absurd (count_unrefused command spec classes fault m.2.0 f)
refusal_meant source spec command names journal fault (Refused g) calm f m = inl (ap Refused (let e = m.2.0 in cc))
refusal_meant source spec command names journal fault ReadFault calm f m = absurd (calm m.0)
refusal_meant source spec command names journal fault OutOfMemory calm f m = inr refl
refusal_meant source spec command names journal fault meant calm f m = absurd m.2

-- where both texts are accepted, an end of a run or want of memory is meant
run_meant : (source : Outside) (spec text : List ℕ) (limits : Limits) (log : Bool) (told : List ℕ) (all names : List (List ℕ)) (journal : List Entry) (tree : SpecTree) (expression : ExprTree) (meant : End) → (IsFaulty source → ⊥) → source.before ≡ Some told → IsAccepted told text all tree expression → MeansCommand source spec (run text limits log) names journal meant → IsSome (finish_in meant) ⊎ (meant ≡ OutOfMemory)
run_meant source spec text limits log told all names journal tree expression (Ended slot) calm e h m = inl refl
run_meant source spec text limits log told all names journal tree expression (Failed g exit thread place) calm e h m = inl refl
run_meant source spec text limits log told all names journal tree expression (Checked classes) calm e h m = absurd m.2.0
run_meant source spec text limits log told all names journal tree expression (Refused g) calm e h m =
    let same = read_whole source spec told e m.1 (short told (h.first, tree) h.specification) in
    absurd (not_both told text g all tree expression (subst (λ x. refusal_of (run text limits log) x ≡ Some g) same m.2.0) h)
run_meant source spec text limits log told all names journal tree expression ReadFault calm e h m = absurd (calm m.0)
run_meant source spec text limits log told all names journal tree expression OutOfMemory calm e h m = inr refl
run_meant source spec text limits log told all names journal tree expression meant calm e h m = absurd m.2

-- where the specification is accepted that is checked, its classes or want of memory is meant
check_meant : (source : Outside) (spec told : List ℕ) (names : List (List ℕ)) (journal : List Entry) (tree : SpecTree) (meant : End) → (IsFaulty source → ⊥) → source.before ≡ Some told → IsChecked told tree → MeansCommand source spec check names journal meant → (meant ≡ Checked (length tree.classes)) ⊎ (meant ≡ OutOfMemory)
check_meant source spec told names journal tree (Ended slot) calm e h m = absurd m.2.0
check_meant source spec told names journal tree (Failed g exit thread place) calm e h m = absurd m.2.0
check_meant source spec told names journal tree (Checked classes) calm e h m =
    let same = read_whole source spec told e m.1 (short told (h.names, tree) h.specification) in
    inl (ap Checked (same_count told tree classes h (subst (λ x. HasClasses x classes) same m.2.0)))
check_meant source spec told names journal tree (Refused g) calm e h m =
    let same = read_whole source spec told e m.1 (short told (h.names, tree) h.specification) in
    absurd (not_checked told g tree (subst (λ x. refusal_of check x ≡ Some g) same m.2.0) h)
check_meant source spec told names journal tree ReadFault calm e h m = absurd (calm m.0)
check_meant source spec told names journal tree OutOfMemory calm e h m = inr refl
check_meant source spec told names journal tree meant calm e h m = absurd m.2

-- ---- causes

-- a source failed where a read fault is meant, and nowhere else
source_cause : (words : List (List ℕ)) (log : Bool) (source : Outside) (spec : List ℕ) (names : List (List ℕ)) (journal : List Entry) (meant : End) (end : End) → Means words log source spec names journal meant → StandsFor end meant → IsCalm source ⊎ (IsFaulty source × StandsFor end ReadFault)
source_cause words log source spec names journal Usage end m s = inl m.calm
source_cause words log source spec names journal ReadFault end m s = inr (m.2.0, s)
source_cause words log source spec names journal meant end m s = inl m.2.0

-- a sink failed where the end is a write fault, and nowhere else
sink_cause : (names : List (List ℕ)) (journal : List Entry) (log : Bool) (meant : End) (sink : Outside) (end : End) → Wrote names journal log meant sink end → IsCalm sink ⊎ (IsFaulty sink × (end ≡ WriteFault))
sink_cause names journal log meant sink WriteFault w = inr (w.0, refl)
sink_cause names journal log meant sink end w = inl w.0

-- ---- the journal

-- a journal of what is meant: none, or a run behind the bytes that were read
entries_of : (call : Call) (spec : List ℕ) (names : List (List ℕ)) (meant : End) → Means call.words call.report.log call.source spec names call.report.journal meant → (call.report.journal ≡ []) ⊎ (WasRead call.source spec × RunsOf call spec)
entries_of call spec names (Ended slot) m = inr (m.2.1, runs_of call spec names m.0 m.1.words_are m.2.2.0)
entries_of call spec names (Failed fault exit thread place) m = inr (m.2.1, runs_of call spec names m.0 m.1.words_are m.2.2.0)
entries_of call spec names (Checked classes) m = inl m.2.2.1
entries_of call spec names (Refused fault) m = inl m.2.2.1
entries_of call spec names Usage m = inl m.empty
entries_of call spec names ReadFault m = inl m.2.1
entries_of call spec names OutOfMemory m = elim m.2.1 [ inl none ↦ inl none | inr r ↦ inr (r.0, runs_of call spec names m.0 m.1.words_are r.1) ]
entries_of call spec names meant m = absurd m.2.2

-- all clauses, from what is meant behind some bytes that were read, and what was written of it
module _ (call : Call) (spec : List ℕ) (names : List (List ℕ)) (meant : End)
    (m : Means call.words call.report.log call.source spec names call.report.journal meant)
    (w : Wrote names call.report.journal call.report.log meant call.sink call.report.end) where
  stands : StandsFor call.report.end meant
  stands = wrote_stands names call.report.journal call.report.log meant call.sink call.report.end w

  -- an end that stands for itself alone is meant
  is_meant : (end : End) → call.report.end ≡ end → StandsFor end meant
  is_meant end e = subst (λ x. StandsFor x meant) e stands

  means_end : (end : End) → end ≡ meant → Means call.words call.report.log call.source spec names call.report.journal end
  means_end end e = subst (Means call.words call.report.log call.source spec names call.report.journal) (sym e) m

  keeps_words : (IsNoCommand call.words → call.reads_after ≡ call.reads_before) → KeepsWords call
  keeps_words unread = record {
    usage = λ e. (means_end Usage (is_meant Usage e)).no_command;
    no_command = λ none.
        let u = means_usage call.words call.report.log call.source spec names call.report.journal meant none m in
        record { stands = subst (StandsFor call.report.end) u.0 stands; untouched = u.1.untouched; unread = unread none; calm = u.1.calm; no_log = u.1.no_log };
    asked = λ command c. means_asks call.words call.report.log call.source spec names call.report.journal meant command c m;
  }

  keeps_texts : KeepsTexts call
  keeps_texts = record {
    refused = λ told fault e is.
        let n = means_end (Refused fault) (is_meant (Refused fault) is) in
        let first = n.2.1 told e in
        (first.1, (n.0, n.1.words_are, subst (λ s. refusal_of n.0 s ≡ Some fault) first.0 n.2.2.0));
    refuses = λ told command fault e c calm f.
        let does = command_told call.source spec command told names call.report.journal meant e (means_command call.words call.report.log call.source spec names call.report.journal meant command c m) in
        elim (refusal_meant call.source (read_of told) command names call.report.journal fault meant calm f does) [
          | inl is ↦ subst (StandsFor call.report.end) is stands
          | inr is ↦ stands_again call.report.end (Refused fault) (subst (StandsFor call.report.end) is stands)
        ];
    finished = λ told e f.
        let is = finished_is call.report.end meant f stands in
        let g = subst (λ x. IsSome (finish_in x)) is f in
        let t = finished_by call.words call.report.log call.source spec names call.report.journal meant g m in
        let all = read_to_end call.source spec told e t.1.1.0 (run_short t.0 spec names call.report.journal t.1.1.1) in
        (all.0, subst (AcceptsTexts call.words) all.1 (accepts_by call.words t.0 spec names call.report.journal t.1.0 t.1.1.1));
    finishes = λ told text limits all tree expression e p calm h.
        elim (run_meant call.source spec text limits p.0 told all names call.report.journal tree expression meant calm e h (means_command call.words call.report.log call.source spec names call.report.journal meant (run text limits p.0) p.1 m)) [
          | inl f ↦ stands_for_finish call.report.end meant f stands
          | inr is ↦ stands_for_memory call.report.end (subst (StandsFor call.report.end) is stands)
        ];
    checked = λ told classes e is.
        let n = means_end (Checked classes) (is_meant (Checked classes) is) in
        let all = read_to_end call.source spec told e n.2.1 (count_short n.0 spec classes n.2.2.0) in
        (all.0, subst (λ s. ChecksSpec call.words s classes) all.1 (counts_by call.words n.0 spec classes n.1.words_are n.2.2.0));
    checks = λ told tree e c calm h.
        elim (check_meant call.source spec told names call.report.journal tree meant calm e h (means_command call.words call.report.log call.source spec names call.report.journal meant check c m)) [
          | inl is ↦ subst (StandsFor call.report.end) is stands
          | inr is ↦ stands_again call.report.end (Checked (length tree.classes)) (subst (StandsFor call.report.end) is stands)
        ];
  }

  keeps_journal : KeepsJournal call
  keeps_journal =
      let entries = entries_of call spec names meant m in
      record {
        told = λ told e.
            elim entries [
              | inl none ↦ inl none
              | inr r ↦ let all = read_to_end call.source spec told e r.0 (short spec (r.1.runs.accepted.first, r.1.runs.tree) r.1.runs.accepted.specification) in inr (all.0, subst (RunsOf call) all.1 r.1)
            ];
        silent = λ e. elim entries [ inl none ↦ inl none | inr r ↦ inr (spec, r.1) ];
      }

  keeps_output : KeepsOutput call
  keeps_output = record {
    told = λ told e. record { names = names; meant = meant; means = means_told call.words call.report.log call.source spec names call.report.journal meant told e m; wrote = w };
    silent = λ e. (spec, record { names = names; meant = meant; means = m; wrote = w });
  }

  keeps_causes : KeepsCauses call
  keeps_causes = record {
    read_fault = λ e. (means_end ReadFault (is_meant ReadFault e)).2.0;
    write_fault = λ e. (subst (Wrote names call.report.journal call.report.log meant call.sink) e w).0;
    of_source = source_cause call.words call.report.log call.source spec names call.report.journal meant call.report.end m stands;
    of_sink = sink_cause names call.report.journal call.report.log meant call.sink call.report.end w;
  }

  pub keeps : KeepsStatus call → KeepsReading call → (IsNoCommand call.words → call.reads_after ≡ call.reads_before) → Keeps call
  keeps status reading unread = record {
    status = status;
    words = keeps_words unread;
    reading = reading;
    texts = keeps_texts;
    journal = keeps_journal;
    output = keeps_output;
    causes = keeps_causes;
  }
