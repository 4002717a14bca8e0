-- How many nodes are open, and how deep those are that end: statements, types, patterns and expressions.
use Rattle.std.specs.Prelude.{ℕ, Bool, true, false, ◌+◌, nat_lt, nat_le, ◌==◌, ◌||◌, if◌then◌else◌, max, List, [], ◌∷◌, ◌++◌, length, filter}
use Rattle.grammar_words.specs.Pulls.{closed}
use Rattle.stmt_fronts.specs.declared.expected.Expected.{Expected}
use Rattle.stmt_fronts.specs.declared.open_node.OpenNode.{OpenNode}
use Rattle.stmt_fronts.specs.Turns.{Turn, goes_on, begins, joins, adds, calls}

-- the nodes that are open, the innermost first, and the depth of the one that ended last, 0 where none did
pub record Nest : Type 0 where
  pub nodes : List OpenNode
  pub read : ℕ

abbrev pub nest : List OpenNode → ℕ → Nest
nest nodes read = record { nodes = nodes; read = read }

-- a node has a part of this depth
abbrev pub with_part : ℕ → OpenNode → OpenNode
with_part depth node = record node { deepest = max node.deepest depth }

-- a node is over where nothing of it is wanted any more, and where an operator that pulls less takes it as its left operand
abbrev pub is_over : ℕ → ℕ → OpenNode → Bool
is_over wanted pull node = nat_le wanted node.below || nat_lt pull node.pull

-- the innermost nodes end while they are over, each as a part of the next
abbrev pub end_over : ℕ → ℕ → ℕ → List OpenNode → Nest
end_over wanted pull depth [] = nest [] depth
end_over wanted pull depth (node ∷ nodes) =
    let now = with_part depth node in
    if is_over wanted pull now then end_over wanted pull (now.deepest + 1) nodes else nest (now ∷ nodes) depth

abbrev pub ended : ℕ → ℕ → List OpenNode → Nest
ended wanted pull nodes = end_over wanted pull 0 nodes

-- how strongly what a word begins pulls at what stands before it; what begins with no operand before it leaves all open
abbrev pub pull_of : Turn → ℕ
pull_of (goes_on parts) = closed
pull_of (begins pull parts rest) = closed
pull_of (joins left right parts rest) = left
pull_of (adds pull parts) = pull
pull_of (calls pull parts rest) = closed

abbrev pub new_node : Bool → ℕ → ℕ → List Expected → OpenNode
new_node counts pull deepest behind = record { pull = pull; deepest = deepest; below = length behind; counts = counts }

-- one more part of the node that pulls as much, or the first of a new one
abbrev pub added : ℕ → OpenNode → List OpenNode → List OpenNode
added pull new [] = new ∷ []
added pull new (node ∷ nodes) = if node.pull == pull then node ∷ nodes else new ∷ node ∷ nodes

-- the nodes that are open behind a word; a primary's node is wanted by the call round it
abbrev pub with_turn : Turn → List Expected → Nest → List OpenNode
with_turn (goes_on parts) behind nest = nest.nodes
with_turn (begins pull parts rest) behind nest = new_node true pull 0 (rest ++ behind) ∷ nest.nodes
with_turn (joins left right parts rest) behind nest = new_node true right nest.read (rest ++ behind) ∷ nest.nodes
with_turn (adds pull parts) behind nest = added pull (new_node true pull nest.read behind) nest.nodes
with_turn (calls pull parts rest) behind nest =
    let call = new_node false 0 0 (rest ++ behind) in
    record call { pull = pull; below = call.below + 1; counts = true } ∷ call ∷ nest.nodes

-- so many nodes may be open round a word, and so deep may a node be
abbrev pub nesting_limit : ℕ
nesting_limit = 200

abbrev pub is_too_deep : Nest → Bool
is_too_deep nest = nat_lt nesting_limit nest.read

abbrev pub are_too_many : List OpenNode → Bool
are_too_many nodes = nat_lt nesting_limit (length (filter (λ (node : OpenNode). node.counts) nodes))
