-- What stands at the positions of a sequence whose items are replaced.
use Rattle.std.proofs.Common.{◌≡◌, ◌+◌, ℕ, zero, suc, ℤ, pos, ◌+ℤ◌, List, [], ◌∷◌, length, refl, ap, sym, ◌∙◌, arith, Some}
use Rattle.std.specs.Prelude.{slice_get}
use Rattle.std.specs.Option.{option_map, unwrap_or}
use lib.IntN.{+ℤ_idr}
use Rattle.abstract_syntax.specs.Values.{ValueTree, number}
use Rattle.abstract_syntax.specs.ValueSets.{Entry}
use Rattle.value_operators.specs.Members.{found}
use Rattle.value_operators.specs.Sequences.{replaced}
use Rattle.operator_laws.proofs.SetMembers.{next}

pub replaced_length : (ps : List Entry) (m : ℤ) (vs : List ValueTree) → length (replaced ps m vs) ≡ length vs
replaced_length ps m [] = refl
replaced_length ps m (v ∷ vs) = ap suc (replaced_length ps (m +ℤ pos 1) vs)

replaced_from : (ps : List Entry) (m : ℤ) (vs : List ValueTree) (k : ℕ) → slice_get (replaced ps m vs) k ≡ option_map (unwrap_or (found ps (number (m +ℤ pos k)))) (slice_get vs k)
replaced_from ps m [] k = refl
replaced_from ps m (v ∷ vs) zero = ap (λ z. Some (unwrap_or (found ps (number z)) v)) (sym (+ℤ_idr m))
replaced_from ps m (v ∷ vs) (suc k) = replaced_from ps (m +ℤ pos 1) vs k ∙ ap (λ z. option_map (unwrap_or (found ps (number z))) (slice_get vs k)) (next m k)

pub replaced_item : (ps : List Entry) (vs : List ValueTree) (k : ℕ) → slice_get (replaced ps (pos 1) vs) k ≡ option_map (unwrap_or (found ps (number (pos (suc k))))) (slice_get vs k)
replaced_item ps vs k =
    let one : 1 + k ≡ suc k = omega arith in
    replaced_from ps (pos 1) vs k ∙ ap (λ j. option_map (unwrap_or (found ps (number (pos j)))) (slice_get vs k)) one
