-- What a map holds: under each name at most one value.
use Rattle.std.specs.Prelude.{Bool, Option, Some, None, nat_eq, if◌then◌else◌}
use Rattle.vdm_kinds.specs.declared.name.Name.{Name}

-- which value stands under each name
abbrev pub Held : Type 0 → Type 0
Held V = Name → Option V

-- nothing under any name
abbrev pub nothing : {V : Type 0} → Held V
nothing name = None

abbrev pub is_same : Name → Name → Bool
is_same a b = nat_eq a.0 b.0

-- a value more, in the place of the one that stood under its name
abbrev pub with_name : {V : Type 0} → Name → V → Held V → Held V
with_name name value held other = if is_same name other then Some value else held other
