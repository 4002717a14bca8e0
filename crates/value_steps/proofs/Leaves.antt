-- Values of one node are within the limits of size.
use Rattle.std.proofs.Common.{◌≡◌, ap, sym, ◌∙◌, Ok, arith}
use Rattle.abstract_syntax.specs.Values.{ValueTree, nodes_of, depth_of}
use Rattle.pattern_meaning.specs.Ways.{literal_value}
use Rattle.type_tree.specs.declared.literal.Literal.{Literal}
use Rattle.type_tree.specs.LiteralView.{literal_view}
use Rattle.value_operators.specs.Outcomes.{sized}
use Rattle.value_results.proofs.Limits.{sized_within}

pub leaf_is : (l known : Literal) (v w : ValueTree) → l ≡ known → literal_value (literal_view known) ≡ v → w ≡ v → nodes_of v ≡ 1 → depth_of v ≡ 1
    → sized (literal_value (literal_view l)) ≡ Ok w
leaf_is l known v w e h made n d =
    ap (λ x. sized (literal_value (literal_view x))) e ∙ ap sized h ∙ sized_within v (omega (arith, n), omega (arith, d)) ∙ ap Ok (sym made)
