-- The longest front of tokens that is viable, and the first place in it that is too deep.
use Rattle.std.specs.Prelude.{◌≡◌, ℕ, ◌+◌, ◌==◌, ◌≤◌, Bool, false, ◌&&◌, ◌||◌, if◌then◌else◌, List, [], ◌∷◌, ◌++◌, length, map, filter, flat_map, Option, Some, None, is_some}
use Rattle.std.specs.List.{list_any, list_all}
use Rattle.vdm_kinds.specs.declared.part.Part.TheVariants.{Spec}
use Rattle.vdm_kinds.specs.declared.name.Name.{Name}
use Rattle.vdm_kinds.specs.declared.place.Place.{Place}
use Rattle.grammar_words.specs.declared.word.PlacedWord.{PlacedWord}
use Rattle.grammar_words.specs.declared.word.Word.{Word}
use Rattle.grammar_words.specs.Pulls.{closed}
use Rattle.grammar_words.specs.Tokens.{Token, plain, word_of, token_place}
use Rattle.grammar_fronts.specs.declared.front.Front.{Front}
use Rattle.grammar_fronts.specs.declared.front.Front.TheVariants.{TooDeep, Reaches}
use Rattle.stmt_fronts.specs.declared.ending.Ending.{Ending}
use Rattle.stmt_fronts.specs.declared.expected.Expected.{Expected}
use Rattle.stmt_fronts.specs.declared.kind.Kind.{Kind}
use Rattle.stmt_fronts.specs.declared.kind.Kind.TheVariants.{Stmt}
use Rattle.stmt_fronts.specs.declared.open_node.OpenNode.{OpenNode}
use Rattle.stmt_fronts.specs.Table.{is_optional, is_left_out_at}
use Rattle.stmt_fronts.specs.Turns.{Turn}
use Rattle.stmt_fronts.specs.Viable.{State, Way, name_of, way_on, ways_from, leads, start, IsViable}
use Rattle.stmt_fronts.specs.Depth.{ended, pull_of, with_turn, is_too_deep, are_too_many}

-- a front of the tokens is viable, and no longer one is
pub record IsLongestViable (kind : Kind) (tokens front : List Token) : Type 0 where
  pub rest : List Token
  pub begins : tokens ≡ front ++ rest
  pub viable : IsViable kind front
  pub longest : (longer others : List Token) → tokens ≡ longer ++ others → IsViable kind longer → length longer ≤ length front

-- there is such a front
pub record HasLongest (kind : Kind) (tokens : List Token) : Type 0 where
  pub front : List Token
  pub is : IsLongestViable kind tokens front

-- one of the tokens stands at the place
pub record StandsAt (tokens : List Token) (place : Place) : Type 0 where
  pub before : List Token
  pub token : Token
  pub after : List Token
  pub among : tokens ≡ before ++ token ∷ after
  pub at : token_place token ≡ place

-- what has to come: all that is wanted but what may be left out at its beginning
abbrev pub needed : List Expected → List Expected
needed [] = []
needed (next ∷ behind) = if is_optional next then needed behind else next ∷ behind

-- nothing more has to come
abbrev pub is_whole : List Expected → Bool
is_whole wanted = length (needed wanted) == 0

-- the tokens are taken in one of the ways, and nothing more has to come then
abbrev pub can_end : Kind → List Token → Bool
can_end kind tokens = leads (λ (state : State). is_whole state.wanted) tokens (start kind)

-- a word is of a form that is left out where it stands
abbrev pub is_left_out : Word → List Expected → Bool
is_left_out word [] = false
is_left_out word (next ∷ behind) = is_left_out_at next word || (is_optional next && is_left_out word behind)

-- ---- one way to read tokens

-- the nodes that are open, until one is too deep: then the place where it is
pub data Nesting : Type 0 where
  nested : List OpenNode → Nesting
  deep_at : Place → Nesting

-- what is wanted, what is open, and where the token before stands
pub record Reading : Type 0 where
  pub state : State
  pub nesting : Nesting
  pub last : Place

-- behind a token at a place: what ended before it may be too deep, and what begins with it may be one too many
abbrev pub nesting_on : Place → Place → Turn → List Expected → Nesting → Nesting
nesting_on last place turn behind (deep_at deep) = deep_at deep
nesting_on last place turn behind (nested nodes) =
    let nest = ended (length behind + 1) (pull_of turn) nodes in
    let more = with_turn turn behind nest in
    if is_too_deep nest then deep_at last else if are_too_many more then deep_at place else nested more

-- a token at a place is taken
abbrev pub read_on : Place → Reading → Way → Reading
read_on place reading way =
    record { state = way_on way; nesting = nesting_on reading.last place way.turn way.behind reading.nesting; last = place }

abbrev pub deep_of : Nesting → Option Place
deep_of (nested nodes) = None
deep_of (deep_at place) = Some place

-- once nothing more is taken, what needs no more ends
abbrev pub nesting_at_end : List Expected → Place → Nesting → Nesting
nesting_at_end wanted last (deep_at place) = deep_at place
nesting_at_end wanted last (nested nodes) =
    if is_too_deep (ended (length (needed wanted)) closed nodes) then deep_at last else nested nodes

abbrev pub ending : Bool → Reading → Ending
ending left_out reading =
    let wanted = reading.state.wanted in
    record { whole = is_whole wanted; left_out = left_out; deep = deep_of (nesting_at_end wanted reading.last reading.nesting) }

-- with the word that stands there
abbrev pub ending_at : Word → Reading → Ending
ending_at word reading = ending (is_left_out word reading.state.wanted) reading

-- ---- all ways at once

-- each reading goes on in each of its ways, and ends where it has none
abbrev pub read_each : Word → Option Name → Place → List Reading → List Reading
read_each word name place readings =
    flat_map (λ (reading : Reading). map (read_on place reading) (ways_from reading.state.names word name reading.state.wanted)) readings

abbrev pub read_all : Token → List Reading → List Reading
read_all token readings = read_each (word_of token) (name_of token) (token_place token) readings

-- the first of the places, where each reading is too deep
abbrev pub deep_in_all : List (Option Place) → Option Place
deep_in_all [] = None
deep_in_all (None ∷ others) = None
deep_in_all (Some place ∷ others) = if list_all is_some others then Some place else None

abbrev pub deep_now : List Reading → Option Place
deep_now readings = deep_in_all (map (λ (reading : Reading). deep_of reading.nesting) readings)

abbrev pub one_is_whole : List Ending → Bool
one_is_whole endings = list_any (λ (end : Ending). end.whole) endings

-- the endings that count: those that are whole, or all
abbrev pub best : List Ending → List Ending
best endings = if one_is_whole endings then filter (λ (end : Ending). end.whole) endings else endings

abbrev pub unless_deep : Option Place → Front → Front
unless_deep (Some place) front = TooDeep place
unless_deep None front = front

-- what is found where no reading takes more than so many tokens
abbrev pub stopped : ℕ → List Ending → Front
stopped count endings =
    unless_deep (deep_in_all (map (λ (end : Ending). end.deep) (best endings)))
    (Reaches (record { words = count; whole = one_is_whole endings; left_out = list_any (λ (end : Ending). end.left_out) endings }))

-- what comes of the readings that are left, or of none
abbrev pub on_some : List Reading → (List Reading → Front) → Front → Front
on_some [] further none = none
on_some (reading ∷ others) further none = further (reading ∷ others)

-- what is found of tokens behind so many others that were read in these ways
abbrev pub front_from : ℕ → List Token → List Reading → Front
front_from count [] readings = unless_deep (deep_now readings) (stopped count (map (ending false) readings))
front_from count (token ∷ tokens) readings =
    unless_deep (deep_now readings)
    (on_some (read_all token readings) (front_from (count + 1) tokens) (stopped count (map (ending_at (word_of token)) readings)))

-- ---- from the beginning

abbrev pub place_of : List Token → Place
place_of [] = record { part = Spec; line = 1; column = 1 }
place_of (token ∷ tokens) = token_place token

abbrev pub first_reading : Kind → Place → Reading
first_reading kind place = record { state = start kind; nesting = nested []; last = place }

-- what is found of tokens that are to be read as something
abbrev pub front_of : Kind → List Token → Front
front_of kind tokens = front_from 0 tokens (first_reading kind (place_of tokens) ∷ [])

-- what is found of words, of a statement where no names are compared
abbrev pub bare : PlacedWord → Token
bare w = plain w.word w.place

abbrev pub front_of_words : List PlacedWord → Front
front_of_words words = front_of Stmt (map bare words)
