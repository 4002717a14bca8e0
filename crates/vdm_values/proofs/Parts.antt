-- Nodes and depth of a list, by its parts.
use Rattle.std.proofs.Common.{◌≡◌, ℕ, zero, suc, ◌+◌, ◌<◌, ◌≤◌, List, [], ◌∷◌, length, get_or, take, max, ap, add-one, arith}
use Rattle.abstract_syntax.specs.Values.{ValueTree, nodes_of, nodes_of_values, nodes_of_pairs, depth_of, depth_of_values, depth_of_pairs, value_trees, pair_trees}

pub nodes_of-item : (vs : List ValueTree) (i : ℕ) (v : ValueTree) → v ≡ get_or vs i v → i < length vs → nodes_of v ≤ nodes_of_values (value_trees vs)
nodes_of-item [] i v e h = absurd (omega arith)
nodes_of-item (w ∷ ws) zero v e h = omega (arith, ap nodes_of e)
nodes_of-item (w ∷ ws) (suc i) v e h = let ih : nodes_of v ≤ nodes_of_values (value_trees ws) = nodes_of-item ws i v e (omega arith) in omega arith

pub nodes_of-pair : (ps : List (ValueTree × ValueTree)) (i : ℕ) (p : ValueTree × ValueTree) → p ≡ get_or ps i p → i < length ps → nodes_of p.0 + nodes_of p.1 ≤ nodes_of_pairs (pair_trees ps)
nodes_of-pair [] i p e h = absurd (omega arith)
nodes_of-pair (q ∷ qs) zero p e h = omega (arith, ap (λ r. nodes_of r.0 + nodes_of r.1) e)
nodes_of-pair (q ∷ qs) (suc i) p e h =
    let ih : nodes_of p.0 + nodes_of p.1 ≤ nodes_of_pairs (pair_trees qs) = nodes_of-pair qs i p e (omega arith) in omega arith

-- one part more
nodes_of-next : (vs : List ValueTree) (i : ℕ) (v : ValueTree) → v ≡ get_or vs i v → i < length vs → nodes_of_values (value_trees (take (suc i) vs)) ≡ nodes_of_values (value_trees (take i vs)) + nodes_of v
nodes_of-next [] i v e h = absurd (omega arith)
nodes_of-next (w ∷ ws) zero v e h = omega (arith, ap nodes_of e)
nodes_of-next (w ∷ ws) (suc i) v e h = omega (arith, nodes_of-next ws i v e (omega arith))

pub nodes_of-more : (vs : List ValueTree) (i : ℕ) (v : ValueTree) → v ≡ get_or vs i v → i < length vs → nodes_of_values (value_trees (take (i + 1) vs)) ≡ nodes_of_values (value_trees (take i vs)) + nodes_of v
nodes_of-more vs i v e h = rw add-one (nodes_of-next vs i v e h)

nodes_of-pair_next : (ps : List (ValueTree × ValueTree)) (i : ℕ) (p : ValueTree × ValueTree) → p ≡ get_or ps i p → i < length ps → nodes_of_pairs (pair_trees (take (suc i) ps)) ≡ nodes_of_pairs (pair_trees (take i ps)) + nodes_of p.0 + nodes_of p.1
nodes_of-pair_next [] i p e h = absurd (omega arith)
nodes_of-pair_next (q ∷ qs) zero p e h = omega (arith, ap (λ r. nodes_of r.0 + nodes_of r.1) e)
nodes_of-pair_next (q ∷ qs) (suc i) p e h = omega (arith, nodes_of-pair_next qs i p e (omega arith))

pub nodes_of-pair_more : (ps : List (ValueTree × ValueTree)) (i : ℕ) (p : ValueTree × ValueTree) → p ≡ get_or ps i p → i < length ps → nodes_of_pairs (pair_trees (take (i + 1) ps)) ≡ nodes_of_pairs (pair_trees (take i ps)) + nodes_of p.0 + nodes_of p.1
nodes_of-pair_more vs i v e h = rw add-one (nodes_of-pair_next vs i v e h)

depth_of-next : (vs : List ValueTree) (i : ℕ) (v : ValueTree) → v ≡ get_or vs i v → i < length vs → depth_of_values (value_trees (take (suc i) vs)) ≡ max (depth_of_values (value_trees (take i vs))) (depth_of v)
depth_of-next [] i v e h = absurd (omega arith)
depth_of-next (w ∷ ws) zero v e h = omega (arith, ap depth_of e)
depth_of-next (w ∷ ws) (suc i) v e h = omega (arith, depth_of-next ws i v e (omega arith))

pub depth_of-more : (vs : List ValueTree) (i : ℕ) (v : ValueTree) → v ≡ get_or vs i v → i < length vs → depth_of_values (value_trees (take (i + 1) vs)) ≡ max (depth_of_values (value_trees (take i vs))) (depth_of v)
depth_of-more vs i v e h = rw add-one (depth_of-next vs i v e h)

depth_of-pair_next : (ps : List (ValueTree × ValueTree)) (i : ℕ) (p : ValueTree × ValueTree) → p ≡ get_or ps i p → i < length ps → depth_of_pairs (pair_trees (take (suc i) ps)) ≡ max (max (depth_of_pairs (pair_trees (take i ps))) (depth_of p.0)) (depth_of p.1)
depth_of-pair_next [] i p e h = absurd (omega arith)
depth_of-pair_next (q ∷ qs) zero p e h = omega (arith, ap (λ r. max (depth_of r.0) (depth_of r.1)) e)
depth_of-pair_next (q ∷ qs) (suc i) p e h = omega (arith, depth_of-pair_next qs i p e (omega arith))

pub depth_of-pair_more : (ps : List (ValueTree × ValueTree)) (i : ℕ) (p : ValueTree × ValueTree) → p ≡ get_or ps i p → i < length ps → depth_of_pairs (pair_trees (take (i + 1) ps)) ≡ max (max (depth_of_pairs (pair_trees (take i ps))) (depth_of p.0)) (depth_of p.1)
depth_of-pair_more vs i v e h = rw add-one (depth_of-pair_next vs i v e h)
