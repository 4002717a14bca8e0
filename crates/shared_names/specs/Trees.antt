-- What a tree of names holds.
use Rattle.std.specs.Prelude.{ℕ, ◌%◌, Bool, Some, None, nat_eq, if◌then◌else◌}
use Rattle.std.specs.Int.{bit_at}
use Rattle.vdm_kinds.specs.declared.name.Name.{Name}
use Rattle.shared_names.specs.declared.tree.Tree.{Tree, Leaf, Branch'}
use Rattle.shared_names.specs.Held.{Held, is_same}

-- whether the bit of a name at a place is 1: places are counted around, so that each is below 32
abbrev pub has_bit : ℕ → Name → Bool
has_bit place name = nat_eq (bit_at name.0 (place % 32)) 1

-- what two parts hold that names belong to by their bits at a place
abbrev pub either : {V : Type 0} → ℕ → Held V → Held V → Held V
either place low high name = if has_bit place name then high name else low name

abbrev pub held_in : {V : Type 0} → Tree V → Held V
held_in (Leaf found value) name = if is_same found name then Some value else None
held_in (Branch' place p low q high) name = either place (held_in low) (held_in high) name
