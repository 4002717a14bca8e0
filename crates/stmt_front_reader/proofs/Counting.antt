-- How many nodes count.
use Rattle.std.proofs.Common.{◌≡◌, ℕ, ◌+◌, ◌≤◌, Bool, true, false, if◌then◌else◌, nat_lt, List, [], ◌∷◌, ◌++◌, length, refl, ap, sym, ◌∙◌, arith}
use Rattle.std.proofs.lemmas.Bool.Decides.{nat_tests}
use Rattle.std.proofs.lemmas.List.{length-append}
use Rattle.std.proofs.lemmas.List.Elements.{filter-append}
use Rattle.std.specs.Prelude.{filter, reverse}
use mathlib.Core.List.{reverse-cons}
use Rattle.stmt_fronts.specs.declared.open_node.OpenNode.{OpenNode}
use Rattle.stmt_fronts.specs.Depth.{are_too_many}

abbrev counting : List OpenNode → ℕ
counting nodes = length (filter (λ (node : OpenNode). node.counts) nodes)

counted_append : (a b : List OpenNode) → counting (a ++ b) ≡ counting a + counting b
counted_append a b =
    ap length (filter-append (λ (node : OpenNode). node.counts) a b)
    ∙ length-append (filter (λ (node : OpenNode). node.counts) a) (filter (λ (node : OpenNode). node.counts) b)

pub counted_reversed : (nodes : List OpenNode) → length (filter (λ (node : OpenNode). node.counts) (reverse nodes))
    ≡ length (filter (λ (node : OpenNode). node.counts) nodes)
counted_reversed [] = refl
counted_reversed (node ∷ nodes) =
    let others : counting (reverse nodes) ≡ counting nodes = counted_reversed nodes in
    let turned : counting (reverse (node ∷ nodes)) ≡ counting (reverse nodes ++ node ∷ []) = ap counting (reverse-cons node nodes) in
    let split : counting (reverse nodes ++ node ∷ []) ≡ counting (reverse nodes) + counting (node ∷ []) = counted_append (reverse nodes) (node ∷ []) in
    let first : counting ((node ∷ []) ++ nodes) ≡ counting (node ∷ []) + counting nodes = counted_append (node ∷ []) nodes in
    omega arith

counted_most : (nodes : List OpenNode) → counting nodes ≤ length nodes
counted_most [] = omega arith
counted_most (node ∷ nodes) = by node.counts (counted_most nodes)
  where
    by : (counts : Bool) → counting nodes ≤ length nodes → length (if counts then node ∷ filter (λ (n : OpenNode). n.counts) nodes else filter (λ (n : OpenNode). n.counts) nodes) ≤ length (node ∷ nodes)
    by true most = omega arith
    by false most = omega arith

-- where there are few nodes at all, there are not too many
pub few : (nodes : List OpenNode) (n : ℕ) → n ≡ length nodes → n ≤ 200 → nat_lt 200 n ≡ are_too_many nodes
few nodes n is e =
    let most : counting nodes ≤ length nodes = counted_most nodes in
    let no : nat_lt 200 (counting nodes) ≡ false = grind (arith, nat_tests) in
    let none : nat_lt 200 n ≡ false = grind (arith, nat_tests) in
    none ∙ sym no
