-- The longest front of words that is viable.
use Rattle.std.specs.Prelude.{◌≡◌, ℕ, ◌+◌, ◌==◌, ◌≤◌, Bool, false, ◌&&◌, ◌||◌, List, [], ◌∷◌, ◌++◌, length, map, Option, Some, None}
use Rattle.vdm_kinds.specs.declared.place.Place.{Place}
use Rattle.grammar_words.specs.declared.word.PlacedWord.{PlacedWord}
use Rattle.grammar_words.specs.declared.word.Word.{Word}
use Rattle.grammar_words.specs.declared.word.Word.TheVariants.{TextEnd}
use Rattle.grammar_fronts.specs.declared.front.Front.{Front}
use Rattle.grammar_fronts.specs.declared.front.Front.TheVariants.{TooDeep, Reaches}
use Rattle.grammar_fronts.specs.declared.kind.Kind.{Kind}
use Rattle.grammar_fronts.specs.declared.wanted.Wanted.{Wanted}
use Rattle.grammar_fronts.specs.Table.{is_optional, is_left_out_at}
use Rattle.grammar_fronts.specs.declared.open_node.OpenNode.{OpenNode}
use Rattle.grammar_fronts.specs.Viable.{after, start, needed, IsViable}
use Rattle.grammar_fronts.specs.Depth.{first_deep}

-- a front of the words is viable, and no longer one is
pub record IsLongestViable (kind : Kind) (words front : List Word) : Type 0 where
  pub rest : List Word
  pub begins : words ≡ front ++ rest
  pub viable : IsViable kind front
  pub longest : (longer others : List Word) → words ≡ longer ++ others → IsViable kind longer → length longer ≤ length front

-- the words that are taken, what is wanted behind them, and the word that stands there: the end of the text where none does
pub record Taken : Type 0 where
  pub front : List Word
  pub wanted : List Wanted
  pub next : Word

abbrev pub also : Word → Taken → Taken
also word taken = record taken { front = word ∷ taken.front }

-- behind a word, with what further words do from what is wanted then
abbrev pub on : Word → (List Wanted → Taken) → List Wanted → Option (List Wanted) → Taken
on word further wanted (Some more) = also word (further more)
on word further wanted None = record { front = []; wanted = wanted; next = word }

abbrev pub fronts : List Word → List Wanted → Taken
fronts [] wanted = record { front = []; wanted = wanted; next = TextEnd }
fronts (word ∷ words) wanted = on word (fronts words) wanted (after word wanted)

-- nothing more has to come
abbrev pub is_whole : List Wanted → Bool
is_whole wanted = length (needed wanted) == 0

-- a word is of a form that is left out where it stands
abbrev pub is_left_out : Word → List Wanted → Bool
is_left_out word [] = false
is_left_out word (next ∷ behind) = is_left_out_at next word || (is_optional next && is_left_out word behind)

-- what is found behind so many words, of which no one is too deep
abbrev pub reaching : ℕ → Taken → Front
reaching count taken = Reaches (record {
  words = count + length taken.front;
  whole = is_whole taken.wanted;
  left_out = is_left_out taken.next taken.wanted;
})

abbrev pub unless_deep : Option Place → Front → Front
unless_deep (Some place) front = TooDeep place
unless_deep None front = front

abbrev pub words_of : List PlacedWord → List Word
words_of words = map (λ (w : PlacedWord). w.word) words

-- what is found of further words behind so many, of which the last is at the place, from what is wanted and the nodes that are open
abbrev pub front_from : ℕ → Place → List PlacedWord → List Wanted → List OpenNode → Front
front_from count last words wanted nodes =
    unless_deep (first_deep last words wanted nodes) (reaching count (fronts (words_of words) wanted))

-- what is found of words that are to be read as something
abbrev pub front_of : Kind → List PlacedWord → Front
front_of kind [] = reaching 0 (fronts [] (start kind))
front_of kind (word ∷ words) = front_from 0 word.place (word ∷ words) (start kind) []
