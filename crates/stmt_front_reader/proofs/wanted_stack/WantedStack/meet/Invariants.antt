use Rattle.std.proofs.Common.{◌≡◌, ◌||◌, length, List, Bool, Option}
use Rattle.vdm_kinds.specs.declared.name.Name.{Name}
use Rattle.grammar_words.specs.declared.word.Word.{Word}
use Rattle.stmt_fronts.specs.declared.expected.Expected.{Expected}
use Rattle.stmt_fronts.specs.Fronts.{needed, is_left_out}
use Rattle.stmt_fronts.specs.Viable.{Names, ways_from}
use Rattle.stmt_front_reader.specs.Views.{names_view}
use Rattle.stmt_front_reader.proofs.wanted_stack.WantedStack.meet.Given as goal

-- what was passed may be left out
pub record Passed (names : Names) (word : Word) (name : Option Name) (old new : List Expected) (left_out : Bool) : Type 0 where
  pub met : ways_from names word name new ≡ ways_from names word name old
  pub needs : needed new ≡ needed old
  pub form : (left_out || is_left_out word new) ≡ is_left_out word old

abbrev pub invariant-loop-next : goal.invariant-loop-next
invariant-loop-next l = Passed (names_view l.fn.names) l.fn.item.word l.fn.item.name l.initial.self l.self l.left_out

abbrev pub decreases-loop-next : goal.decreases-loop-next
decreases-loop-next l = length l.self
