-- Maps are turned where no value has two keys.
use Rattle.std.proofs.Common.{◌≡◌, ◌≢◌, Bool, true, false, not, Result, Ok, Err, if◌then◌else◌, refl, ap, sym, ◌∙◌}
use Rattle.vdm_kinds.specs.declared.halt.Halt.{Halt}
use Rattle.vdm_kinds.specs.declared.halt.Halt.TheVariants.{Of, OutOfMemory}
use Rattle.vdm_kinds.specs.declared.operator.Operator.TheVariants.{Inverse}
use Rattle.vdm_kinds.specs.declared.run_fault.RunFault.{RunFault}
use Rattle.vdm_kinds.specs.declared.run_fault.RunFault.TheVariants.{MapConflict, SizeLimit}
use Rattle.abstract_syntax.specs.Values.{ValueTree, nil, boolean, number, character, quote, token, tuple, record_of, sequence, set_of, map_of, object, pair_list}
use Rattle.abstract_syntax.specs.ValueSets.{map_value}
use Rattle.value_operators.specs.Maps.{maps_one, turned, is_in_conflict}
use Rattle.value_operators.specs.Outcomes.{Outcome, Gives, is_within_limits, sized}
use Rattle.conform.specs.Turned.{can_be_turned}

of_one : (x y : RunFault) → Of x ≡ Of y → x ≡ y
of_one x y same = cc

by_ok : (b : Bool) (o : Outcome) (w : ValueTree) → (if b then Err MapConflict else o) ≡ Ok w → true ≡ not b
by_ok true o w e = cc
by_ok false o w e = refl

no_conflict : (v : ValueTree) → (sized v ≡ Err MapConflict) → ⊥
unfolding sized
no_conflict v e = by (is_within_limits v) e
  where
    by : (b : Bool) → (if b then Ok v else Err SizeLimit) ≡ Err MapConflict → ⊥
    by true e = cc
    by false e = cc

by_fault : (b : Bool) (v : ValueTree) → (if b then Err MapConflict else sized v) ≡ Err MapConflict → false ≡ not b
by_fault true v e = refl
by_fault false v e = absurd (no_conflict v e)

by_other : (b : Bool) (o : Outcome) (kind : RunFault) → (if b then Err MapConflict else o) ≡ Err kind → (kind ≡ MapConflict → ⊥) → true ≡ not b
by_other true o kind e other = absurd (other cc)
by_other false o kind e other = refl

pub turns : (v w : ValueTree) → maps_one Inverse v ≡ Ok w → true ≡ can_be_turned v
turns (map_of ps) w e = by_ok (is_in_conflict (turned (pair_list ps))) (sized (map_value (turned (pair_list ps)))) w e
turns nil w e = refl
turns (boolean b) w e = refl
turns (number n) w e = refl
turns (character c) w e = refl
turns (quote q) w e = refl
turns (token u) w e = refl
turns (tuple vs) w e = refl
turns (record_of c n vs) w e = refl
turns (sequence vs) w e = refl
turns (set_of vs) w e = refl
turns (object n c) w e = refl

pub turns_not : (v : ValueTree) → maps_one Inverse v ≡ Err MapConflict → false ≡ can_be_turned v
turns_not (map_of ps) e = by_fault (is_in_conflict (turned (pair_list ps))) (map_value (turned (pair_list ps))) e
turns_not nil e = cc
turns_not (boolean b) e = cc
turns_not (number n) e = cc
turns_not (character c) e = cc
turns_not (quote q) e = cc
turns_not (token u) e = cc
turns_not (tuple vs) e = cc
turns_not (record_of c n vs) e = cc
turns_not (sequence vs) e = cc
turns_not (set_of vs) e = cc
turns_not (object n c) e = cc

pub turns_all_the_same : (v : ValueTree) (kind : RunFault) → maps_one Inverse v ≡ Err kind → (kind ≡ MapConflict → ⊥) → true ≡ can_be_turned v
turns_all_the_same (map_of ps) kind e other = by_other (is_in_conflict (turned (pair_list ps))) (sized (map_value (turned (pair_list ps)))) kind e other
turns_all_the_same nil kind e other = refl
turns_all_the_same (boolean b) kind e other = refl
turns_all_the_same (number n) kind e other = refl
turns_all_the_same (character c) kind e other = refl
turns_all_the_same (quote q) kind e other = refl
turns_all_the_same (token u) kind e other = refl
turns_all_the_same (tuple vs) kind e other = refl
turns_all_the_same (record_of c n vs) kind e other = refl
turns_all_the_same (sequence vs) kind e other = refl
turns_all_the_same (set_of vs) kind e other = refl
turns_all_the_same (object n c) kind e other = refl

pub gives_conflict : (v : ValueTree) (h : Halt RunFault) → h ≡ Of MapConflict → Gives (Err h) (maps_one Inverse v) → false ≡ can_be_turned v
gives_conflict v (Of kind) e given = turns_not v (given ∙ ap Err (of_one kind MapConflict e))
gives_conflict v OutOfMemory e given = cc
