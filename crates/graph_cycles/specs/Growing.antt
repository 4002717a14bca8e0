-- Lists of nodes that grow, each node once.
use Rattle.std.specs.Prelude.{ℕ, Bool, List, [], ◌∷◌, ◌++◌, if◌then◌else◌, length, fold}
use Rattle.std.specs.List.{list_all, range_with_len}
use Rattle.graph_cycles.specs.Graphs.{Graph, successors, is_in}

-- the nodes with one more, which goes last where it is new
abbrev pub with_node : List ℕ → ℕ → List ℕ
with_node nodes a = if is_in nodes a then nodes else nodes ++ a ∷ []

-- the nodes with all of these
abbrev pub with_nodes : List ℕ → List ℕ → List ℕ
with_nodes nodes more = fold with_node nodes more

-- all that the node leads to are among the nodes
abbrev pub is_ready : Graph → List ℕ → ℕ → Bool
is_ready g nodes a = list_all (is_in nodes) (successors g a)

-- the nodes with this one, where all that it leads to are among them
abbrev pub with_ready : Graph → List ℕ → ℕ → List ℕ
with_ready g nodes a = if is_ready g nodes a then with_node nodes a else nodes

-- the nodes with each node of the graph in turn, where it is ready
abbrev pub with_all_ready : Graph → List ℕ → List ℕ
with_all_ready g nodes = fold (with_ready g) nodes (range_with_len 0 (length g))
