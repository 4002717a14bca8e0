-- Items replaced, one more; and a position of a sequence.
use Rattle.std.proofs.Common.{◌≡◌, ℕ, zero, suc, ◌+◌, ◌<◌, ℤ, pos, ◌+ℤ◌, List, [], ◌∷◌, ◌++◌, length, get_or, take, ap, sym, ◌∙◌, arith, add-one}
use Rattle.std.specs.Option.{unwrap_or}
use lib.IntN.{+ℤ_idr, +ℤ_assoc}
use Rattle.vdm_values.specs.declared.value.Node.{Node}
use Rattle.vdm_values.specs.declared.value.Node.TheVariants.{Seq, Int}
use Rattle.vdm_values.specs.Tree.{tree_of}
use Rattle.abstract_syntax.specs.Values.{ValueTree, number, value_list-value_trees}
use Rattle.abstract_syntax.specs.ValueSets.{Entry}
use Rattle.value_operators.specs.Members.{found}
use Rattle.value_operators.specs.Sequences.{replaced, look_up, there, at_position}

replaced_next : (ps : List Entry) (m : ℤ) (vs : List ValueTree) (i : ℕ) (v : ValueTree) → i < length vs
    → replaced ps m (take (suc i) vs) ≡ replaced ps m (take i vs) ++ unwrap_or (found ps (number (m +ℤ pos i))) (get_or vs i v) ∷ []
replaced_next ps m [] i v h = absurd (omega arith)
replaced_next ps m (w ∷ ws) zero v h = ap (λ z. unwrap_or (found ps (number z)) w ∷ []) (sym (+ℤ_idr m))
replaced_next ps m (w ∷ ws) (suc i) v h =
    let one : 1 + i ≡ suc i = omega arith in
    ap (λ us. unwrap_or (found ps (number m)) w ∷ us) (replaced_next ps (m +ℤ pos 1) ws i v (omega arith)
    ∙ ap (λ z. replaced ps (m +ℤ pos 1) (take i ws) ++ unwrap_or (found ps (number z)) (get_or ws i v) ∷ []) (+ℤ_assoc m (pos 1) (pos i) ∙ ap (λ j. m +ℤ pos j) one))

pub replaced_more : (ps : List Entry) (m : ℤ) (vs : List ValueTree) (i : ℕ) (v : ValueTree) → i < length vs → v ≡ get_or vs i v
    → replaced ps m (take (i + 1) vs) ≡ replaced ps m (take i vs) ++ unwrap_or (found ps (number (m +ℤ pos i))) v ∷ []
replaced_more ps m vs i v h e =
    ap (λ j. replaced ps m (take j vs)) (add-one i) ∙ replaced_next ps m vs i v h
    ∙ ap (λ w. replaced ps m (take i vs) ++ unwrap_or (found ps (number (m +ℤ pos i))) w ∷ []) (sym e)

pub look_up_is : (v w : ValueTree) (m n : Node) (vs : _) (z : ℤ) → v ≡ tree_of m → m ≡ Seq vs → w ≡ tree_of n → n ≡ Int z → look_up v w ≡ there (at_position vs.items z)
look_up_is v w m n vs z e h i k =
    (λ j. look_up ((e ∙ ap tree_of h) j) ((i ∙ ap tree_of k) j))
    ∙ ap (λ us. there (at_position us z)) (value_list-value_trees vs.items)
