-- Where fields stand, and their values.
use Rattle.std.specs.Prelude.{ℕ, zero, suc, ◌+◌, List, [], ◌∷◌, Option, Some, None, option_map, Ok, Err, if◌then◌else◌}
use Rattle.vdm_kinds.specs.declared.name.Name.{Name}
use Rattle.vdm_kinds.specs.declared.run_fault.RunFault.TheVariants.{TypeFault}
use Rattle.abstract_syntax.specs.Classes.{FieldTree, is_same_name}
use Rattle.abstract_syntax.specs.Values.{ValueTree}
use Rattle.value_operators.specs.Outcomes.{Outcome}

-- the number of the first field of the name, where the first one of these has this number
abbrev pub place_from : Name → ℕ → List FieldTree → Option ℕ
place_from name n [] = None
place_from name n (field ∷ fields) = if is_same_name name field.name then Some n else place_from name (n + 1) fields

-- the value at a place; what has no such place is of another type
abbrev pub value_at : Option ℕ → List ValueTree → Outcome
value_at None vs = Err TypeFault
value_at (Some place) [] = Err TypeFault
value_at (Some zero) (v ∷ vs) = Ok v
value_at (Some (suc place)) (v ∷ vs) = value_at (Some place) vs

-- the values with another one at a place, where there is one
abbrev pub with_value : ValueTree → Option ℕ → List ValueTree → Option (List ValueTree)
with_value v None ws = None
with_value v (Some place) [] = None
with_value v (Some zero) (w ∷ ws) = Some (v ∷ ws)
with_value v (Some (suc place)) (w ∷ ws) = option_map (λ (vs : List ValueTree). w ∷ vs) (with_value v (Some place) ws)
