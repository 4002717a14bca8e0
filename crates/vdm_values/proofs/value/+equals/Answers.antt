use Rattle.std.proofs.Common.{arith, IsTrue, ◌↔◌, ◌≡◌}
use Rattle.std.proofs.lemmas.Grind.{common_steps}
use Rattle.abstract_syntax.specs.Values.{value_trees, pair_trees}
use Rattle.vdm_values.proofs.Lists.{same_values, same_pairs}
use Rattle.vdm_values.proofs.value.+equals.Goals as goal

pub Node::equals-returns-in_default-matches-6 : goal.Node::equals-returns-in_default-matches-6
Node::equals-returns-in_default-matches-6 t c =
    let same : IsTrue c.are_equal.result ↔ value_trees c.in-Tuple.a.items ≡ value_trees c.in-Tuple-matches.b.items =
    same_values _ _ _ _ _ c.as_slice.ensures.value c.as_slice-in-Tuple.ensures.value c.are_equal.ensures in
    grind (arith, common_steps)

pub Node::equals-returns-then-eq-2 : goal.Node::equals-returns-then-eq-2
Node::equals-returns-then-eq-2 t c =
    let same : IsTrue c.are_equal-then-eq-2.result ↔ value_trees c.in-Rec.a.items ≡ value_trees c.in-Rec-other.b.items =
    same_values _ _ _ _ _ c.as_slice-then-eq-2.ensures.value c.as_slice-then-eq-2-2.ensures.value c.are_equal-then-eq-2.ensures in
    grind (arith, common_steps)

pub Node::equals-returns-in_default-matches-7 : goal.Node::equals-returns-in_default-matches-7
Node::equals-returns-in_default-matches-7 t c =
    let same : IsTrue c.are_equal-in-Seq.result ↔ value_trees c.in-Seq.a.items ≡ value_trees c.in-Seq-matches.b.items =
    same_values _ _ _ _ _ c.as_slice-in-Seq.ensures.value c.as_slice-in-Seq-2.ensures.value c.are_equal-in-Seq.ensures in
    grind (arith, common_steps)

pub Node::equals-returns-in_default-matches-8 : goal.Node::equals-returns-in_default-matches-8
Node::equals-returns-in_default-matches-8 t c =
    let same : IsTrue c.are_equal-in-Set.result ↔ value_trees c.in-Set.a.items ≡ value_trees c.in-Set-matches.b.items =
    same_values _ _ _ _ _ c.as_slice-in-Set.ensures.value c.as_slice-in-Set-2.ensures.value c.are_equal-in-Set.ensures in
    grind (arith, common_steps)

pub Node::equals-returns-in_default-matches-9 : goal.Node::equals-returns-in_default-matches-9
Node::equals-returns-in_default-matches-9 t c =
    let same : IsTrue c.are_equal_pairs.result ↔ pair_trees c.in-Map.a.items ≡ pair_trees c.in-Map-matches.b.items =
    same_pairs _ _ _ _ _ c.as_slice-in-Map.ensures.value c.as_slice-in-Map-2.ensures.value c.are_equal_pairs.ensures in
    grind (arith, common_steps)
