use Rattle.std.proofs.Common.{◌≡◌, ◌||◌, length, List, Bool}
use Rattle.grammar_words.specs.declared.word.Word.{Word}
use Rattle.grammar_fronts.specs.declared.wanted.Wanted.{Wanted}
use Rattle.grammar_fronts.specs.Fronts.{is_left_out}
use Rattle.grammar_fronts.specs.Viable.{meets, needed}
use Rattle.front_reader.proofs.wanted_stack.WantedStack.meet.Given as goal

-- what was passed may be left out
pub record Passed (word : Word) (old new : List Wanted) (left_out : Bool) : Type 0 where
  pub met : meets word new ≡ meets word old
  pub needs : needed new ≡ needed old
  pub form : (left_out || is_left_out word new) ≡ is_left_out word old

abbrev pub invariant-loop-next : goal.invariant-loop-next
invariant-loop-next l = Passed l.fn.word l.initial.self l.self l.left_out

abbrev pub decreases-loop-next : goal.decreases-loop-next
decreases-loop-next l = length l.self
