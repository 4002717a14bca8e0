-- Which question of a thread may be answered behind a list of entries.
use Rattle.std.specs.Prelude.{◌≢◌, List, []}
use Rattle.abstract_syntax.specs.Classes.{SpecTree}
use Rattle.run_journal.specs.declared.entry.Entry.{Entry}
use Rattle.run_journal.specs.declared.question.Question.{Question}
use Rattle.run_journal.specs.declared.question.Question.TheVariants.{End, Fail}
use Rattle.run_journal.specs.declared.thread.Thread.{Thread}
use Rattle.run_journal.specs.Parts.{object_part}
use Rattle.run_journal.specs.Threads.{own_object}
use Rattle.vdm_legal.specs.Ready.{IsReady}

-- One that the meaning lets main ask there; but what ends the thread stands on the thread's own object, which is there.
abbrev pub IsReadyFor : SpecTree → Thread → List Entry → Question → Type 0
IsReadyFor spec thread before (End slot) = object_part (own_object thread) before ≢ []
IsReadyFor spec thread before (Fail fault exit place) = object_part (own_object thread) before ≢ []
IsReadyFor spec thread before question = IsReady spec before question
