-- Types read from left to right, token by token: a device, by which tokens are at most one type. A frame is what was read of a type
-- whose next part is being read; the innermost is first.
use Rattle.std.specs.Prelude.{List, [], ◌∷◌, ◌++◌, Option, Some, None}
use Rattle.vdm_kinds.specs.declared.name.Name.{Name}
use Rattle.vdm_kinds.specs.declared.place.Place.{Place}
use Rattle.vdm_kinds.specs.declared.sign.Sign.TheVariants.{Times}
use Rattle.abstract_syntax.specs.Types.{
  TypeTree,
  TypeTrees,
  basic_type,
  quote_type,
  set_type,
  seq_type,
  seq1_type,
  map_type,
  inmap_type,
  optional_type,
  bracketed_type,
  named_type,
  product_type,
  union_type,
  no_types,
  one_type,
  type_place,
}
use Rattle.grammar_words.specs.declared.word.Word.TheVariants.{
  Backquote,
  Bar,
  Basic,
  CloseRound,
  CloseSquare,
  InMap,
  Map,
  Of,
  OpenRound,
  OpenSquare,
  Operator,
  Seq,
  Seq1,
  Set,
  To,
}
use Rattle.grammar_words.specs.Tokens.{Token, identifier, quote, plain}

-- ---- nodes

-- what an element is read for
pub data Collection : Type 0 where
  a_set : Collection
  a_sequence : Collection
  a_filled_sequence : Collection

abbrev pub collection_type : Collection → TypeTree → Place → TypeTree
collection_type a_set element place = set_type element place
collection_type a_sequence element place = seq_type element place
collection_type a_filled_sequence element place = seq1_type element place

-- what a key and a value are read for
pub data Mapping : Type 0 where
  any_map : Mapping
  injective_map : Mapping

abbrev pub mapping_type : Mapping → TypeTree → TypeTree → Place → TypeTree
mapping_type any_map key value place = map_type key value place
mapping_type injective_map key value place = inmap_type key value place

pub data Bracket : Type 0 where
  round : Bracket
  square : Bracket

abbrev pub enclosed_type : Bracket → TypeTree → Place → TypeTree
enclosed_type round inner place = bracketed_type inner place
enclosed_type square inner place = optional_type inner place

-- a name alone, and behind that of its class
abbrev pub name_alone : Name → Place → TypeTree
name_alone name place = named_type (record { class = None; name = name; name_place = place }) place

abbrev pub name_of_class : Name → Place → Name → Place → TypeTree
name_of_class class place name name_place = named_type (record { class = Some class; name = name; name_place = name_place }) place

-- types behind others
abbrev pub types_behind : List TypeTree → TypeTrees → TypeTrees
types_behind [] types = types
types_behind (first ∷ others) types = one_type first (types_behind others types)

-- where types begin, of which the last is this one
abbrev pub first_place : List TypeTree → TypeTree → Place
first_place [] last = type_place last
first_place (first ∷ others) last = type_place first

abbrev pub product_of : List TypeTree → TypeTree → TypeTree
product_of factors last = product_type (types_behind factors (one_type last no_types)) (first_place factors last)

abbrev pub union_of : List TypeTree → TypeTree → TypeTree
union_of alternatives last = union_type (types_behind alternatives (one_type last no_types)) (first_place alternatives last)

-- ---- what is open, and what comes next

pub data Frame : Type 0 where
  -- `set of` and its kin
  element : Collection → Place → Frame
  -- `map`, and `map K to`
  key_of : Mapping → Place → Frame
  value_of : Mapping → TypeTree → Place → Frame
  -- an opening bracket
  enclosed : Bracket → Place → Frame
  -- the factors before a `*`, and the alternatives before a `|`
  factors : List TypeTree → Frame
  alternatives : List TypeTree → Frame

pub data Mode : Type 0 where
  -- a single type is wanted, or was read
  wants : Mode
  has : TypeTree → Mode
  -- `set` and its kin were read
  wants_of : Collection → Place → Mode
  -- a name was read, or a name and a backquote
  named : Name → Place → Mode
  qualified : Name → Place → Mode
  refused : Mode

pub record State : Type 0 where
  pub mode : Mode
  pub frames : List Frame

abbrev pub state : Mode → List Frame → State
state mode frames = record { mode = mode; frames = frames }

abbrev pub refusal : State
refusal = state refused []

-- a type that was read, and what is open round it
pub record Closed : Type 0 where
  pub tree : TypeTree
  pub frames : List Frame

abbrev pub closed : TypeTree → List Frame → Closed
closed tree frames = record { tree = tree; frames = frames }

-- ---- a type ends

-- a single type goes into the collections and maps that it ends
abbrev pub settled : TypeTree → List Frame → Closed
settled tree [] = closed tree []
settled tree (element collection place ∷ frames) = settled (collection_type collection tree place) frames
settled tree (value_of mapping key place ∷ frames) = settled (mapping_type mapping key tree place) frames
settled tree (frame ∷ frames) = closed tree (frame ∷ frames)

abbrev pub has_settled : Closed → State
has_settled c = state (has c.tree) c.frames

-- it is the last factor, if there are others; and the product is the last alternative
abbrev pub product_closed : TypeTree → List Frame → Closed
product_closed tree (factors trees ∷ frames) = closed (product_of trees tree) frames
product_closed tree frames = closed tree frames

abbrev pub union_closed : TypeTree → List Frame → Closed
union_closed tree (alternatives trees ∷ frames) = closed (union_of trees tree) frames
union_closed tree frames = closed tree frames

abbrev pub all_closed : TypeTree → List Frame → Closed
all_closed tree frames = union_closed (product_closed tree frames).tree (product_closed tree frames).frames

-- ---- one token

abbrev pub wanted : List Frame → Token → State
wanted frames (plain (Basic basic) place) = has_settled (settled (basic_type basic place) frames)
wanted frames (quote name place) = has_settled (settled (quote_type name place) frames)
wanted frames (identifier name place) = state (named name place) frames
wanted frames (plain Set place) = state (wants_of a_set place) frames
wanted frames (plain Seq place) = state (wants_of a_sequence place) frames
wanted frames (plain Seq1 place) = state (wants_of a_filled_sequence place) frames
wanted frames (plain Map place) = state wants (key_of any_map place ∷ frames)
wanted frames (plain InMap place) = state wants (key_of injective_map place ∷ frames)
wanted frames (plain OpenRound place) = state wants (enclosed round place ∷ frames)
wanted frames (plain OpenSquare place) = state wants (enclosed square place ∷ frames)
wanted frames _ = refusal

-- a further factor, or alternative, is wanted
abbrev pub next_factor : TypeTree → List Frame → State
next_factor tree (factors trees ∷ frames) = state wants (factors (trees ++ tree ∷ []) ∷ frames)
next_factor tree frames = state wants (factors (tree ∷ []) ∷ frames)

abbrev pub next_alternative : TypeTree → List Frame → State
next_alternative tree (alternatives trees ∷ frames) = state wants (alternatives (trees ++ tree ∷ []) ∷ frames)
next_alternative tree frames = state wants (alternatives (tree ∷ []) ∷ frames)

-- a bracket closes what is open
abbrev pub close_round : TypeTree → List Frame → State
close_round tree (enclosed round place ∷ frames) = has_settled (settled (bracketed_type tree place) frames)
close_round tree frames = refusal

abbrev pub close_square : TypeTree → List Frame → State
close_square tree (enclosed square place ∷ frames) = has_settled (settled (optional_type tree place) frames)
close_square tree frames = refusal

-- the key ends
abbrev pub value_next : TypeTree → List Frame → State
value_next tree (key_of mapping place ∷ frames) = state wants (value_of mapping tree place ∷ frames)
value_next tree frames = refusal

-- what comes behind a single type
abbrev pub behind : TypeTree → List Frame → Token → State
behind tree frames (plain (Operator Times) place) = next_factor tree frames
behind tree frames (plain Bar place) = next_alternative (product_closed tree frames).tree (product_closed tree frames).frames
behind tree frames (plain CloseRound place) = close_round (all_closed tree frames).tree (all_closed tree frames).frames
behind tree frames (plain CloseSquare place) = close_square (all_closed tree frames).tree (all_closed tree frames).frames
behind tree frames (plain To place) = value_next (all_closed tree frames).tree (all_closed tree frames).frames
behind tree frames _ = refusal

abbrev pub of_wanted : Collection → Place → List Frame → Token → State
of_wanted collection place frames (plain Of _) = state wants (element collection place ∷ frames)
of_wanted collection place frames _ = refusal

-- a backquote goes on with a name; before anything else the name is a type
abbrev pub behind_name : Name → Place → List Frame → Token → State
behind_name name place frames (plain Backquote _) = state (qualified name place) frames
behind_name name place frames token = behind (settled (name_alone name place) frames).tree (settled (name_alone name place) frames).frames token

abbrev pub behind_backquote : Name → Place → List Frame → Token → State
behind_backquote class place frames (identifier name name_place) = has_settled (settled (name_of_class class place name name_place) frames)
behind_backquote class place frames _ = refusal

abbrev pub step : State → Token → State
step s token = step_of s.mode s.frames token
  where
    step_of : Mode → List Frame → Token → State
    step_of wants frames token = wanted frames token
    step_of (has tree) frames token = behind tree frames token
    step_of (wants_of collection place) frames token = of_wanted collection place frames token
    step_of (named name place) frames token = behind_name name place frames token
    step_of (qualified class place) frames token = behind_backquote class place frames token
    step_of refused frames token = refusal

-- ---- all tokens

-- a type round which nothing is open
abbrev pub whole : TypeTree → List Frame → Option TypeTree
whole tree [] = Some tree
whole tree (frame ∷ frames) = None

abbrev pub finished : Mode → List Frame → Option TypeTree
finished (has tree) frames = whole (all_closed tree frames).tree (all_closed tree frames).frames
finished (named name place) frames =
    finished_closed (settled (name_alone name place) frames)
  where
    finished_closed : Closed → Option TypeTree
    finished_closed c = whole (all_closed c.tree c.frames).tree (all_closed c.tree c.frames).frames
finished _ frames = None

-- what tokens come to, from a state on
abbrev pub outcome : State → List Token → Option TypeTree
outcome s [] = finished s.mode s.frames
outcome s (token ∷ tokens) = outcome (step s token) tokens

-- the type that tokens are
abbrev pub type_of : List Token → Option TypeTree
type_of tokens = outcome (state wants []) tokens
