-- What the reader's parts say of what is wanted and of the nodes that are open.
use Rattle.std.specs.Prelude.{◌≡◌, ℕ, ◌+◌, nat_lt, Bool, true, false, List, ◌∷◌, length, Option, Some, None}
use Rattle.vdm_kinds.specs.declared.place.Place.{Place}
use Rattle.grammar_words.specs.declared.word.PlacedWord.{PlacedWord}
use Rattle.grammar_words.specs.declared.word.Word.{Word}
use Rattle.grammar_words.specs.Pulls.{closed}
use Rattle.grammar_fronts.specs.declared.front.Front.{Front}
use Rattle.grammar_fronts.specs.declared.front.Front.TheVariants as front
use Rattle.grammar_fronts.specs.declared.open_node.OpenNode.{OpenNode}
use Rattle.grammar_fronts.specs.declared.wanted.Wanted.{Wanted}
use Rattle.grammar_fronts.specs.Depth.{Nest, ended, nesting_limit, too_deep}
use Rattle.grammar_fronts.specs.Fronts.{front_from, is_left_out, is_whole, unless_deep}
use Rattle.grammar_fronts.specs.Viable.{takes, refuses, needed, meets}
use Rattle.front_tables.specs.View.{turn_view}
use Rattle.front_reader.specs.declared.wanted_stack.Met.{Met}
use Rattle.front_reader.specs.declared.wanted_stack.Met.TheVariants.{Takes, Refuses}
use Rattle.front_reader.specs.declared.reading.Step.{Step}
use Rattle.front_reader.specs.declared.reading.Step.TheVariants.{Taken, Found}

-- what nothing takes
pub record IsRefused (word : Word) (old : List Wanted) (left : ℕ) (left_out : Bool) : Type 0 where
  pub met : meets word old ≡ refuses (needed old)
  pub needs : left ≡ length (needed old)
  pub form : left_out ≡ is_left_out word old

-- what a word meets, and what is wanted behind it
abbrev pub IsMet : Word → List Wanted → List Wanted → Met → Type 0
IsMet word old new (Takes turn) = meets word old ≡ takes (turn_view turn) new
IsMet word old new (Refuses left left_out) = IsRefused word old left left_out

-- the nodes that are over have ended: to a depth that is allowed, or not
pub record IsRead (old : Nest) (nodes : List OpenNode) (depth : ℕ) : Type 0 where
  pub ended : old ≡ record { nodes = nodes; read = depth }
  pub allowed : nat_lt nesting_limit depth ≡ false

abbrev pub IsEnded : Nest → List OpenNode → Option ℕ → Type 0
IsEnded old nodes (Some depth) = IsRead old nodes depth
IsEnded old nodes None = nat_lt nesting_limit old.read ≡ true

-- what is found where the word that comes next is refused
abbrev pub refused_at : ℕ → Place → Word → List Wanted → List OpenNode → Front
refused_at count last word wanted nodes =
    unless_deep (too_deep last (ended (length (needed wanted)) closed nodes) None)
    (front.Reaches (record { words = count; whole = is_whole wanted; left_out = is_left_out word wanted }))

-- what is found where a step comes to this, with further words to come
abbrev pub found : Step → ℕ → Place → List PlacedWord → List Wanted → List OpenNode → Front
found Taken count place words wanted nodes = front_from (count + 1) place words wanted nodes
found (Found front) count place words wanted nodes = front

-- a step behind so many words, whatever comes behind its own
abbrev pub IsStep : ℕ → Place → PlacedWord → List Wanted → List OpenNode → Step → List Wanted → List OpenNode → Type 0
IsStep count last word wanted nodes step more others =
    (words : List PlacedWord) → front_from count last (word ∷ words) wanted nodes ≡ found step count word.place words more others
