-- How many nodes are open, and how deep those are that end: types, patterns and expressions.
use Rattle.std.specs.Prelude.{ℕ, Bool, ◌+◌, nat_lt, nat_le, ◌==◌, ◌||◌, if◌then◌else◌, max, List, [], ◌∷◌, ◌++◌, length, Option, Some, None}
use Rattle.vdm_kinds.specs.declared.place.Place.{Place}
use Rattle.grammar_words.specs.declared.word.PlacedWord.{PlacedWord}
use Rattle.grammar_words.specs.Pulls.{closed}
use Rattle.grammar_fronts.specs.declared.open_node.OpenNode.{OpenNode}
use Rattle.grammar_fronts.specs.declared.wanted.Wanted.{Wanted}
use Rattle.grammar_fronts.specs.Turns.{Turn, goes_on, begins, joins, adds, wanted_by}
use Rattle.grammar_fronts.specs.Viable.{Met, takes, refuses, meets, needed}

-- the nodes that are open, the innermost first, and the depth of the one that ended last, 0 where none did
pub record Nest : Type 0 where
  pub nodes : List OpenNode
  pub read : ℕ

abbrev pub nest : List OpenNode → ℕ → Nest
nest nodes read = record { nodes = nodes; read = read }

-- a node has a part of this depth
abbrev pub with_part : ℕ → OpenNode → OpenNode
with_part depth node = record node { deepest = max node.deepest depth }

-- a node is over where nothing of it is wanted any more, and where an operator that pulls less takes it as its left operand
abbrev pub is_over : ℕ → ℕ → OpenNode → Bool
is_over wanted pull node = nat_le wanted node.below || nat_lt pull node.pull

-- the innermost nodes end while they are over, each as a part of the next
abbrev pub end_over : ℕ → ℕ → ℕ → List OpenNode → Nest
end_over wanted pull depth [] = nest [] depth
end_over wanted pull depth (node ∷ nodes) =
    let now = with_part depth node in
    if is_over wanted pull now then end_over wanted pull (now.deepest + 1) nodes else nest (now ∷ nodes) depth

abbrev pub ended : ℕ → ℕ → List OpenNode → Nest
ended wanted pull nodes = end_over wanted pull 0 nodes

-- how strongly what a word begins pulls at what stands before it; what begins with no operand before it leaves all open
abbrev pub pull_of : Turn → ℕ
pull_of (goes_on parts) = closed
pull_of (begins pull parts rest) = closed
pull_of (joins left right parts rest) = left
pull_of (adds pull parts) = pull

abbrev pub new_node : ℕ → ℕ → List Wanted → OpenNode
new_node pull deepest behind = record { pull = pull; deepest = deepest; below = length behind }

-- one more part of the node that pulls as much, or the first of a new one
abbrev pub added : ℕ → OpenNode → List OpenNode → List OpenNode
added pull new [] = new ∷ []
added pull new (node ∷ nodes) = if node.pull == pull then node ∷ nodes else new ∷ node ∷ nodes

-- the nodes that are open behind a word
abbrev pub with_turn : Turn → List Wanted → Nest → List OpenNode
with_turn (goes_on parts) behind nest = nest.nodes
with_turn (begins pull parts rest) behind nest = new_node pull 0 (rest ++ behind) ∷ nest.nodes
with_turn (joins left right parts rest) behind nest = new_node right nest.read (rest ++ behind) ∷ nest.nodes
with_turn (adds pull parts) behind nest = added pull (new_node pull nest.read behind) nest.nodes

-- so many nodes may be open round a word, and so deep may a node be
abbrev pub nesting_limit : ℕ
nesting_limit = 200

-- Where the words are too deep: at the first word with which a node begins that is one too many, or with which a node ended that
-- is too deep. What ended with a word shows at the next one.
abbrev pub too_many : Place → (List Wanted → List OpenNode → Option Place) → List Wanted → List OpenNode → Option Place
too_many place next wanted nodes = if nat_lt nesting_limit (length nodes) then Some place else next wanted nodes

abbrev pub too_deep : Place → Nest → Option Place → Option Place
too_deep last nest others = if nat_lt nesting_limit nest.read then Some last else others

abbrev pub deep_at : Place → Place → (List Wanted → List OpenNode → Option Place) → List OpenNode → Met → Option Place
deep_at last place next nodes (refuses wanted) = too_deep last (ended (length wanted) closed nodes) None
deep_at last place next nodes (takes done behind) =
    let nest = ended (length behind + 1) (pull_of done) nodes in
    too_deep last nest (too_many place next (wanted_by done ++ behind) (with_turn done behind nest))

-- the first place where words are too deep: behind the place of the word before, from what is wanted and the nodes that are open
abbrev pub first_deep : Place → List PlacedWord → List Wanted → List OpenNode → Option Place
first_deep last [] wanted nodes = too_deep last (ended (length (needed wanted)) closed nodes) None
first_deep last (word ∷ words) wanted nodes = deep_at last word.place (first_deep word.place words) nodes (meets word.word wanted)
