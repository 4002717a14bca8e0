-- The literals of expressions and patterns.
use Rattle.std.specs.Prelude.{ℕ, ℤ, Bool, List}
use Rattle.vdm_kinds.specs.declared.name.Name.{Name}

pub data LiteralTree : Type 0 where
  whole_literal : ℤ → LiteralTree
  character_literal : ℕ → LiteralTree
  -- a string, by its characters
  text_literal : List ℕ → LiteralTree
  -- `<Red>`, by the name between its signs
  quote_literal : Name → LiteralTree
  -- `true` or `false`
  boolean_literal : Bool → LiteralTree
  nil_literal : LiteralTree
