use Rattle.std.proofs.Common.{◌≡◌, ◌⊎◌, true, take, Some}
use Rattle.std.specs.Option.{is_some}
use Rattle.std.specs.HashMap.{get}
use Rattle.vdm_kinds.specs.declared.member.VarRef.{VarRef}
use Rattle.vdm_legal.specs.State.{written_in}
use Rattle.plain_state.specs.Found.{Place, place_of, same_place}
use Rattle.plain_state.proofs.places.note_pairs.Given as goal

-- the variables of the pairs so far have the number, and all others what they had
abbrev pub invariant-loop-pair : goal.invariant-loop-pair
invariant-loop-pair l = record {
  noted : (var : VarRef) → is_some (written_in var (take l.pair-index l.pairs)) ≡ true → get same_place l.writes (place_of l.object var) ≡ Some l.number;
  others : (place : Place) → (get same_place l.writes place ≡ get same_place l.fn.writes place) ⊎ (get same_place l.writes place ≡ Some l.number);
}
