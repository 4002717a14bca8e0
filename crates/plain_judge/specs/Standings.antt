-- Where the program says that a thread stands, in the words of the meaning.
use Rattle.std.specs.Prelude.{◌≡◌, List, ◌++◌}
use Rattle.run_journal.specs.declared.answer.Answer.{Answer}
use Rattle.vdm_meaning.specs.Main.{Standing as Meant, asks, over}
use Rattle.plain_judge.specs.declared.standing.Standing.{Standing}
use Rattle.plain_judge.specs.declared.standing.Standing.TheVariants.{Asks, Over}

abbrev pub stands : Standing → Meant
stands (Asks question) = asks question
stands Over = over

-- a thread that is over is so behind further answers
abbrev pub StaysOver : (List Answer → Meant) → Type 0
StaysOver standing = (taken more : List Answer) → standing taken ≡ over → standing (taken ++ more) ≡ over
