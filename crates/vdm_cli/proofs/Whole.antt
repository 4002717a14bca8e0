-- A whole call: of a command, and of faulty words.
use Rattle.std.specs.Prelude.{◌≡◌, ℕ, ◌+◌, ◌≤◌, Bool, false, List, [], ◌++◌, Option, Some, None}
use Rattle.std.specs.Io.KnownBytes.{Consumes}
use Rattle.std.proofs.Common.{refl, sym, subst, arith, inl}
use Rattle.run_journal.specs.declared.entry.Entry.{Entry}
use Rattle.text_phases.specs.Phases.{spec_limit}
use Rattle.vdm_outside.specs.Reading.{TakesAtMost}
use Rattle.report_texts.specs.Words.{Command, IsCommand, IsNoCommand, asks_log}
use Rattle.vdm_report.specs.declared.end.End.{End}
use Rattle.vdm_report.specs.declared.end.End.TheVariants.{Usage, OutOfMemory}
use Rattle.vdm_report.specs.declared.report.Report.{Report}
use Rattle.vdm_report.specs.Outside.{Outside, IsCalm, IsUntouched}
use Rattle.vdm_report.specs.Written.{Wrote}
use Rattle.vdm_cli.specs.Meant.{ReadsSpec, Asks, MeansCommand, Means, DoesCommand}
use Rattle.vdm_cli.specs.Headline.{Call, KeepsStatus, KeepsReading, Keeps}
use Rattle.vdm_cli.proofs.Keeping.{keeps}

-- what was taken of bytes that are told, and what is left
consumed : (before after : Option (List ℕ)) (bytes told : List ℕ) → before ≡ Some told → Consumes before after bytes → (rest : List ℕ) × (told ≡ bytes ++ rest) × (after ≡ Some rest)
consumed None after bytes told e c = absurd (cc)
consumed (Some xs) None bytes told e c = absurd c
consumed (Some xs) (Some ys) bytes told e c = (ys, cc, refl)

pub keeps_reading : (call : Call) → TakesAtMost (spec_limit + 1) call.source.before call.source.after call.reads_before call.reads_after → call.reads_after ≤ call.reads_before + spec_limit + 1 → KeepsReading call
keeps_reading call t turns = record {
  told = λ told e.
      let rest = consumed call.source.before call.source.after t.bytes told e t.front in
      record { taken = t.bytes; rest = rest.0; front = rest.1; left = rest.2; few = t.few; turns = t.turns };
  turns = turns;
}

-- a source that was not called
consumes_none : (told : Option (List ℕ)) → Consumes told told []
consumes_none None = tt
consumes_none (Some xs) = refl

pub reads_nothing : {S : Type 0} (left : S → Option (List ℕ)) (reads : S → ℕ) (source : S) → ReadsSpec left reads source source
reads_nothing left reads source = record {
  taken = record { bytes = []; few = omega arith; front = consumes_none (left source); turns = omega arith };
  turns = omega arith;
}

-- a command for which memory was wanting from the beginning
pub does_without_memory : (command : Command) (source sink : Outside) (report : Report) → IsCalm source → IsCalm sink → IsUntouched sink → report.end ≡ OutOfMemory → report.journal ≡ [] → DoesCommand command source sink report
does_without_memory command source sink report calm quiet untouched is none = record {
  spec = [];
  names = [];
  meant = OutOfMemory;
  means = (calm, inl none);
  wrote = subst (Wrote [] report.journal report.log OutOfMemory sink) (sym is) (quiet, untouched);
}

-- a command whose report was written
pub does_written : (command : Command) (source sink : Outside) (report meant : Report) (names given : List (List ℕ)) → given ≡ names → report.journal ≡ meant.journal → report.log ≡ meant.log → ((spec : List ℕ) × MeansCommand source spec command names meant.journal meant.end) → Wrote given meant.journal meant.log meant.end sink report.end → DoesCommand command source sink report
does_written command source sink report meant names given same journal log m w = record {
  spec = m.0;
  names = names;
  meant = meant.end;
  means = subst (λ j. MeansCommand source m.0 command names j meant.end) (sym journal) m.1;
  wrote = subst (λ l. Wrote names report.journal l meant.end sink report.end) (sym log)
      (subst (λ j. Wrote names j meant.log meant.end sink report.end) (sym journal)
      (subst (λ n. Wrote n meant.journal meant.log meant.end sink report.end) same w));
}

-- what a command means is what the words mean
means_words : (words : List (List ℕ)) (log : Bool) (source : Outside) (spec : List ℕ) (command : Command) (names : List (List ℕ)) (journal : List Entry) (meant : End) → Asks words log command → MeansCommand source spec command names journal meant → Means words log source spec names journal meant
means_words words log source spec command names journal Usage c m = absurd m.2
means_words words log source spec command names journal meant c m = (command, c, m)

pub keeps_command : (call : Call) (command : Command) → IsCommand call.words command → call.report.log ≡ asks_log command → KeepsStatus call → KeepsReading call → DoesCommand command call.source call.sink call.report → Keeps call
keeps_command call command c log status reading r =
    keeps call r.spec r.names r.meant
    (means_words call.words call.report.log call.source r.spec command r.names call.report.journal r.meant (record { words_are = c; log_is = log }) r.means)
    r.wrote status reading (λ none. absurd (none command c))

pub keeps_usage : (call : Call) (names : List (List ℕ)) (journal : List Entry) (log : Bool) (meant : End) → IsNoCommand call.words → call.report.log ≡ log → log ≡ false → call.report.journal ≡ journal → journal ≡ [] → meant ≡ Usage → IsUntouched call.source → IsCalm call.source → call.reads_after ≡ call.reads_before → KeepsStatus call → KeepsReading call → Wrote names journal log meant call.sink call.report.end → Keeps call
keeps_usage call names journal log meant none same_log no_log same_journal empty is untouched calm unread status reading w =
    keeps call [] names Usage
    (record { no_command = none; no_log = cc; untouched = untouched; calm = calm; empty = cc })
    (subst (λ l. Wrote names call.report.journal l Usage call.sink call.report.end) (sym same_log)
    (subst (λ j. Wrote names j log Usage call.sink call.report.end) (sym same_journal)
    (subst (λ e. Wrote names journal log e call.sink call.report.end) is w)))
    status reading (λ _. unread)
