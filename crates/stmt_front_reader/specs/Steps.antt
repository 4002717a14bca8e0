-- What the reader's parts say of one step.
use Rattle.std.specs.Prelude.{◌≡◌, ℕ, ◌+◌, nat_lt, Bool, true, false, List, [], ◌∷◌, ◌++◌, length, map, flat_map, Option, Some, None}
use Rattle.vdm_kinds.specs.declared.name.Name.{Name}
use Rattle.vdm_kinds.specs.declared.place.Place.{Place}
use Rattle.grammar_words.specs.declared.word.Word.{Word}
use Rattle.grammar_fronts.specs.declared.front.Front.{Front}
use Rattle.stmt_fronts.specs.declared.ending.Ending.{Ending}
use Rattle.stmt_fronts.specs.declared.expected.Expected.{Expected}
use Rattle.stmt_fronts.specs.declared.open_node.OpenNode.{OpenNode}
use Rattle.stmt_fronts.specs.Depth.{Nest, ended, pull_of, is_too_deep, nesting_limit}
use Rattle.stmt_fronts.specs.Turns.{Turn, wanted_by}
use Rattle.stmt_fronts.specs.Viable.{Names, Way, ways_from, named_by}
use Rattle.stmt_fronts.specs.Fronts.{Reading, needed, is_whole, is_left_out, Nesting, nesting_on, nesting_at_end, deep_of, read_on, read_each, ending_at, deep_now, unless_deep, stopped, on_some}
use Rattle.stmt_tables.specs.View.{turn_view, way_view}
use Rattle.stmt_front_reader.specs.declared.readings.Next.{Next}
use Rattle.stmt_front_reader.specs.declared.readings.Next.TheVariants.{GoesOn, Found}
use Rattle.stmt_front_reader.specs.declared.item.Item.{Item}
use Rattle.stmt_front_reader.specs.declared.reading.Reading.{Reading as RealReading}
use Rattle.stmt_front_reader.specs.declared.reading.Step.{Step}
use Rattle.stmt_front_reader.specs.declared.reading.Step.TheVariants.{Ended, Taken, Forked}
use Rattle.stmt_front_reader.specs.declared.wanted_stack.Taker.{Taker}
use Rattle.stmt_front_reader.specs.declared.wanted_stack.Met.{Met}
use Rattle.stmt_front_reader.specs.declared.wanted_stack.Met.TheVariants.{Takes, Refuses}
use Rattle.stmt_front_reader.specs.Views.{reading_view}

-- ---- what is wanted

-- the ways of turns, with what is wanted behind them
abbrev pub ways_by : Names → List Expected → List Turn → List Way
ways_by names behind turns = map (λ (turn : Turn). record { turn = turn; behind = behind; names = names }) turns

-- the ways of what takes a word
abbrev pub ways_taken : Names → Option Name → List Expected → Taker → List Way
ways_taken names name behind taker =
    ways_by (named_by names taker.expected name) behind (turn_view taker.turn ∷ way_view taker.other)

-- nothing takes it
pub record IsRefused (names : Names) (word : Word) (name : Option Name) (old : List Expected) (left : ℕ) (left_out : Bool) : Type 0 where
  pub ways : ways_from names word name old ≡ []
  pub needs : left ≡ length (needed old)
  pub form : left_out ≡ is_left_out word old

-- what a word meets, and what is wanted behind it
abbrev pub IsMet : Names → Word → Option Name → List Expected → List Expected → Met → Type 0
IsMet names word name old new (Takes taker) = ways_from names word name old ≡ ways_taken names name new taker
IsMet names word name old new (Refuses left left_out) = IsRefused names word name old left left_out

-- ---- nodes

-- the nodes that are over have ended: to a depth that is allowed, or not
pub record IsRead (old : Nest) (nodes : List OpenNode) (depth : ℕ) : Type 0 where
  pub ended : old ≡ record { nodes = nodes; read = depth }
  pub allowed : nat_lt nesting_limit depth ≡ false

abbrev pub IsEnded : Nest → List OpenNode → Option ℕ → Type 0
IsEnded old nodes (Some depth) = IsRead old nodes depth
IsEnded old nodes None = nat_lt nesting_limit old.read ≡ true

-- the first place
abbrev pub first_of : Option Place → Bool → Place → Option Place
first_of (Some place) deep other = Some place
first_of None true other = Some other
first_of None false other = None

-- ---- readings

-- a reading goes on by a turn, with the names that it has already
abbrev pub gone_on : Place → Reading → Turn → Reading
gone_on place reading turn =
    let wanted = reading.state.wanted in
    record {
      state = record { wanted = wanted_by turn ++ wanted; names = reading.state.names };
      nesting = nesting_on reading.last place turn wanted reading.nesting;
      last = place;
    }

abbrev pub ending_of : Bool → List Expected → Place → Nesting → Ending
ending_of left_out wanted last nesting =
    record { whole = is_whole wanted; left_out = left_out; deep = deep_of (nesting_at_end wanted last nesting) }

-- what is over before a token has ended
pub record IsEndedBefore (turn : Turn) (old new : RealReading) (read : ℕ) : Type 0 where
  pub deep : new.deep ≡ first_of old.deep (is_too_deep (ended (length old.parts.wanted + 1) (pull_of turn) old.parts.nodes)) old.last
  pub nodes : new.deep ≡ None → ended (length old.parts.wanted + 1) (pull_of turn) old.parts.nodes ≡ record { nodes = new.parts.nodes; read = read }
  pub wanted : new.parts.wanted ≡ old.parts.wanted
  pub names : new.names ≡ old.names
  pub last : new.last ≡ old.last

-- a reading goes on by one turn or by two
abbrev pub IsForked : Place → List Turn → Reading → Step → Reading → Type 0
IsForked place turns old (Ended ending) new = ⊥
IsForked place turns old Taken new = map (gone_on place old) turns ≡ new ∷ []
IsForked place turns old (Forked other) new = map (gone_on place old) turns ≡ new ∷ reading_view other ∷ []

-- all that a reading goes on in
abbrev pub went_on : Item → Reading → List Reading
went_on item reading =
    map (read_on item.place reading) (ways_from reading.state.names item.word item.name reading.state.wanted)

-- how a reading goes on, or ends
abbrev pub IsStep : Item → Reading → Step → Reading → Type 0
IsStep item old (Ended ending) new = (went_on item old ≡ []) × (ending ≡ ending_at item.word old)
IsStep item old Taken new = went_on item old ≡ new ∷ []
IsStep item old (Forked other) new = went_on item old ≡ new ∷ reading_view other ∷ []

-- ---- all readings

-- the ending of a reading that goes on in no way
abbrev pub ending_if : List Reading → Ending → List Ending
ending_if [] ending = ending ∷ []
ending_if (reading ∷ others) ending = []

abbrev pub ended_each : Item → List Reading → List Ending
ended_each item readings =
    flat_map (λ (reading : Reading). ending_if (went_on item reading) (ending_at item.word reading)) readings

-- what is found where a word comes next
abbrev pub front_at : ℕ → Item → List Reading → (List Reading → Front) → Front
front_at count item readings further =
    unless_deep (deep_now readings)
    (on_some (read_each item.word item.name item.place readings) further (stopped count (map (ending_at item.word) readings)))

abbrev pub found : Next → List Reading → (List Reading → Front) → Front
found GoesOn readings further = further readings
found (Found front) readings further = front
