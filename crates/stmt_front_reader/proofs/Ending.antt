-- Nodes that end do so to a depth that only rises.
use Rattle.std.proofs.Common.{◌≡◌, ℕ, ◌+◌, ◌≤◌, Bool, true, false, nat_lt, if◌then◌else◌, List, [], ◌∷◌, ap, ◌∙◌, arith}
use Rattle.std.proofs.lemmas.Bool.Decides.{nat_tests}
use Rattle.stmt_fronts.specs.declared.open_node.OpenNode.{OpenNode}
use Rattle.stmt_fronts.specs.Depth.{Nest, nest, with_part, is_over, end_over}

-- whether the node ends or not
either_way : (over : Bool) (depth : ℕ) (now : OpenNode) (nodes : List OpenNode) (others : Nest) → depth ≤ now.deepest
    → now.deepest + 1 ≤ others.read → depth ≤ (if over then others else nest (now ∷ nodes) depth).read
either_way true depth now nodes others part more = omega arith
either_way false depth now nodes others part more = omega arith

pub depth_rises : (wanted pull depth : ℕ) (nodes : List OpenNode) → depth ≤ (end_over wanted pull depth nodes).read
depth_rises wanted pull depth [] = omega arith
depth_rises wanted pull depth (node ∷ nodes) =
    let now = with_part depth node in
    either_way (is_over wanted pull now) depth now nodes (end_over wanted pull (now.deepest + 1) nodes) (omega arith)
    (depth_rises wanted pull (now.deepest + 1) nodes)

-- a node that is over and has a part that is as deep as a node may be is deeper
pub too_deep_end : (wanted pull depth : ℕ) (node : OpenNode) (nodes : List OpenNode) → is_over wanted pull (with_part depth node) ≡ true
    → 200 ≤ (with_part depth node).deepest → nat_lt 200 (end_over wanted pull depth (node ∷ nodes)).read ≡ true
too_deep_end wanted pull depth node nodes over part =
    let now = with_part depth node in
    let others = end_over wanted pull (now.deepest + 1) nodes in
    let rises : now.deepest + 1 ≤ others.read = depth_rises wanted pull (now.deepest + 1) nodes in
    let deep : nat_lt 200 others.read ≡ true = grind (arith, nat_tests) in
    ap (λ b. nat_lt 200 (if b then others else nest (now ∷ nodes) depth).read) over ∙ deep
