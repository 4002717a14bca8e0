-- The pure trees that literals of the program are.
use Rattle.abstract_syntax.specs.Literals.{
  LiteralTree,
  whole_literal,
  character_literal,
  text_literal,
  quote_literal,
  boolean_literal,
  nil_literal,
}
use Rattle.type_tree.specs.declared.literal.Literal.{Literal}
use Rattle.type_tree.specs.declared.literal.Literal.TheVariants.{Whole, Character, Text, Quote, Bool, Nil}

abbrev pub literal_view : Literal → LiteralTree
literal_view (Whole n) = whole_literal n
literal_view (Character c) = character_literal c
literal_view (Text characters) = text_literal characters.items
literal_view (Quote name) = quote_literal name
literal_view (Bool b) = boolean_literal b
literal_view Nil = nil_literal
