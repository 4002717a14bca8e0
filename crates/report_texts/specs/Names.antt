-- The texts of names, and of what they name.
use Rattle.std.specs.Prelude.{ℕ, List, [], ◌++◌, codes, get_or}
use Rattle.std.specs.Fmt.{decimal}
use Rattle.vdm_kinds.specs.declared.member.OpRef.{OpRef}
use Rattle.vdm_kinds.specs.declared.member.VarRef.{VarRef}
use Rattle.vdm_kinds.specs.declared.name.Name.{Name}

-- the text of a name, by its number; a number past the list has the empty text
abbrev pub name_text : List (List ℕ) → Name → List ℕ
name_text names name = get_or names name.0 []

-- as ``C`op/1``
abbrev pub operation_text : List (List ℕ) → OpRef → List ℕ
operation_text names op = name_text names op.class ++ codes "`" ++ name_text names op.name ++ codes "/" ++ decimal op.arity

-- as ``C`x``
abbrev pub variable_text : List (List ℕ) → VarRef → List ℕ
variable_text names var = name_text names var.class ++ codes "`" ++ name_text names var.name
