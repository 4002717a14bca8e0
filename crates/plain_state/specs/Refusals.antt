-- What is answered to a write.
use Rattle.std.specs.Prelude.{Bool, if◌then◌else◌}
use Rattle.run_journal.specs.declared.answer.Answer.{Answer}
use Rattle.run_journal.specs.declared.answer.Answer.TheVariants.{Done, Refused}

-- by whether the invariants of its object hold behind it
abbrev pub write_answer : Bool → Answer
write_answer kept = if kept then Done else Refused
