-- Nodes that are added to others: each number once, where it stands first.
use Rattle.std.proofs.Common.{◌≡◌, ℕ, Bool, true, false, not, List, [], ◌∷◌, ◌++◌, length, if◌then◌else◌, cond, refl, ap, sym, ◌∙◌}
use Rattle.std.specs.List.{filter, flat_map}
use Rattle.std.proofs.lemmas.List.{append-nil, append_assoc}
use Rattle.graph_cycles.specs.Graphs.{Graph, successors, is_in, settles}
use Rattle.graph_cycles.specs.Growing.{with_node, with_nodes}
use Rattle.class_meaning.specs.Ancestors.{firsts, ancestors_in}
use Rattle.class_meaning.proofs.Firsts.{firsts_again, firsts_append, firsts_before}
use Rattle.class_meaning.proofs.Numbers.{flat_map_same}
use Rattle.class_meaning.proofs.Walks.{ancestors_equation}

with_node-firsts : (nodes : List ℕ) (a : ℕ) → firsts nodes ≡ nodes → with_node nodes a ≡ firsts (nodes ++ a ∷ [])
with_node-firsts nodes a once = by (is_in nodes a) ∙ sym (firsts_append nodes (a ∷ []) ∙ ap (λ (ns : List ℕ). ns ++ filter (λ (y : ℕ). not (is_in nodes y)) (a ∷ [])) once)
  where
    by : (i : Bool) → (if i then nodes else nodes ++ a ∷ []) ≡ nodes ++ cond (not i) (a ∷ []) []
    by true = sym (append-nil nodes)
    by false = refl

pub with_nodes-firsts : (nodes more : List ℕ) → firsts nodes ≡ nodes → with_nodes nodes more ≡ firsts (nodes ++ more)
with_nodes-firsts nodes [] once = sym (ap firsts (append-nil nodes) ∙ once)
with_nodes-firsts nodes (a ∷ more) once =
    let first : with_node nodes a ≡ firsts (nodes ++ a ∷ []) = with_node-firsts nodes a once in
    with_nodes-firsts (with_node nodes a) more (ap firsts first ∙ firsts_again (nodes ++ a ∷ []) ∙ sym first)
    ∙ ap (λ (ns : List ℕ). firsts (ns ++ more)) first
    ∙ firsts_before (nodes ++ a ∷ []) more
    ∙ ap firsts (append_assoc nodes (a ∷ []) more)

-- the ancestors of a node, by lists of all that it leads to
pub line_is : (g : Graph) (lines : List (List ℕ)) (a : ℕ) → settles (length g) g a ≡ true
    → ((b : ℕ) → is_in (successors g a) b ≡ true → successors lines b ≡ ancestors_in g b)
    → with_nodes (a ∷ []) (flat_map (successors lines) (successors g a)) ≡ ancestors_in g a
line_is g lines a settled each =
    with_nodes-firsts (a ∷ []) (flat_map (successors lines) (successors g a)) refl
    ∙ ap (λ (ns : List ℕ). firsts (a ∷ ns)) (flat_map_same (successors lines) (ancestors_in g) (successors g a) each)
    ∙ sym (ancestors_equation g a settled)
