-- The tokens that types, literals and names of types are written with, and which trees of types the grammar has.
use Rattle.std.specs.Prelude.{◌≡◌, true, false, List, [], ◌∷◌, Option, Some, None}
use Rattle.vdm_kinds.specs.declared.name.Name.{Name}
use Rattle.vdm_kinds.specs.declared.name_at.TypeName.{TypeName}
use Rattle.vdm_kinds.specs.declared.place.Place.{Place}
use Rattle.vdm_kinds.specs.declared.sign.Sign.TheVariants.{Times}
use Rattle.abstract_syntax.specs.Literals.{
  LiteralTree,
  whole_literal,
  character_literal,
  text_literal,
  quote_literal,
  boolean_literal,
  nil_literal,
}
use Rattle.abstract_syntax.specs.Types.{
  TypeTree,
  TypeTrees,
  basic_type,
  quote_type,
  set_type,
  seq_type,
  seq1_type,
  map_type,
  inmap_type,
  optional_type,
  bracketed_type,
  named_type,
  product_type,
  union_type,
  no_types,
  one_type,
  type_place,
}
use Rattle.grammar_words.specs.declared.word.Word.{Word}
use Rattle.grammar_words.specs.declared.word.Word.TheVariants.{
  Backquote,
  Bar,
  Basic,
  CloseRound,
  CloseSquare,
  False,
  InMap,
  Map,
  Nil,
  Of,
  OpenRound,
  OpenSquare,
  Operator,
  Seq,
  Seq1,
  Set,
  To,
  True,
}
use Rattle.grammar_words.specs.Tokens.{Token, identifier, quote, whole, character, text, plain}
use Rattle.grammar_words.specs.Written.{Written, AreTokens, at, word, ◌⌢◌, at_word}

-- the token of a literal
abbrev pub literal_token : LiteralTree → Place → Token
literal_token (whole_literal n) place = whole n place
literal_token (character_literal c) place = character c place
literal_token (text_literal characters) place = text characters place
literal_token (quote_literal name) place = quote name place
literal_token (boolean_literal true) place = plain True place
literal_token (boolean_literal false) place = plain False place
literal_token nil_literal place = plain Nil place

-- a name of a type whose first name is written as a token of this kind: alone, or with the type's own name behind the class's
abbrev pub class_and_name : (Name → Place → Token) → Option Name → Name → Place → Place → List Written
class_and_name token None name name_place place = at (token name place) ∷ []
class_and_name token (Some class) name name_place place = at (token class place) ∷ word Backquote ∷ at (identifier name name_place) ∷ []

abbrev pub type_name_spelling : (Name → Place → Token) → TypeName → Place → List Written
type_name_spelling token t place = class_and_name token t.class t.name t.name_place place

-- a name of a type that stands alone is where its node is
abbrev pub alone_at : Option Name → Place → Place → Type 0
alone_at None name_place place = name_place ≡ place
alone_at (Some class) name_place place = Unit {0}

abbrev pub IsTypeNameAt : TypeName → Place → Type 0
IsTypeNameAt t place = alone_at t.class t.name_place place

abbrev mutual
  pub type_spelling : TypeTree → List Written
  type_spelling (basic_type basic place) = at_word (Basic basic) place ∷ []
  type_spelling (quote_type name place) = at (quote name place) ∷ []
  type_spelling (set_type element place) = at_word Set place ∷ word Of ∷ type_spelling element
  type_spelling (seq_type element place) = at_word Seq place ∷ word Of ∷ type_spelling element
  type_spelling (seq1_type element place) = at_word Seq1 place ∷ word Of ∷ type_spelling element
  type_spelling (map_type key value place) = at_word Map place ∷ type_spelling key ⌢ word To ∷ type_spelling value
  type_spelling (inmap_type key value place) = at_word InMap place ∷ type_spelling key ⌢ word To ∷ type_spelling value
  type_spelling (optional_type inner place) = at_word OpenSquare place ∷ type_spelling inner ⌢ word CloseSquare ∷ []
  type_spelling (bracketed_type inner place) = at_word OpenRound place ∷ type_spelling inner ⌢ word CloseRound ∷ []
  type_spelling (named_type name place) = type_name_spelling identifier name place
  type_spelling (product_type factors place) = types_spelling (Operator Times) factors
  type_spelling (union_type alternatives place) = types_spelling Bar alternatives

  -- types with the word between each two
  pub types_spelling : Word → TypeTrees → List Written
  types_spelling between no_types = []
  types_spelling between (one_type first types) = type_spelling first ⌢ further_types between types

  pub further_types : Word → TypeTrees → List Written
  further_types between no_types = []
  further_types between (one_type next types) = word between ∷ type_spelling next ⌢ further_types between types

-- where the first of the types stands: that is where they begin
abbrev pub begin_at : TypeTrees → Place → Type 0
begin_at no_types place = ⊥
begin_at (one_type first types) place = place ≡ type_place first

abbrev pub AreTwoTypes : TypeTrees → Type 0
AreTwoTypes no_types = ⊥
AreTwoTypes (one_type first no_types) = ⊥
AreTwoTypes (one_type first (one_type second types)) = Unit {0}

-- what may stand where a union, a product or a single type may
pub data Width : Type 0 where
  union : Width
  product : Width
  single : Width

abbrev IsUnionAllowed : Width → Type 0
IsUnionAllowed union = Unit {0}
IsUnionAllowed product = ⊥
IsUnionAllowed single = ⊥

abbrev IsProductAllowed : Width → Type 0
IsProductAllowed union = Unit {0}
IsProductAllowed product = Unit {0}
IsProductAllowed single = ⊥

-- the grammar has the tree, where types of this width may stand
abbrev mutual
  pub IsType : TypeTree → Width → Type 0
  IsType (set_type element place) width = IsType element single
  IsType (seq_type element place) width = IsType element single
  IsType (seq1_type element place) width = IsType element single
  IsType (map_type key value place) width = IsType key union × IsType value single
  IsType (inmap_type key value place) width = IsType key union × IsType value single
  IsType (optional_type inner place) width = IsType inner union
  IsType (bracketed_type inner place) width = IsType inner union
  IsType (named_type name place) width = IsTypeNameAt name place
  IsType (product_type factors place) width =
      IsProductAllowed width × AreTwoTypes factors × begin_at factors place × AreTypes factors single
  IsType (union_type alternatives place) width =
      IsUnionAllowed width × AreTwoTypes alternatives × begin_at alternatives place × AreTypes alternatives product
  -- basic types and quotes
  IsType _ width = Unit {0}

  pub AreTypes : TypeTrees → Width → Type 0
  AreTypes no_types width = Unit {0}
  AreTypes (one_type first types) width = IsType first width × AreTypes types width

-- the tokens are those of the type, which the grammar has
pub record IsTypeOf (tokens : List Token) (tree : TypeTree) : Type 0 where
  pub spelled : AreTokens tokens (type_spelling tree)
  pub grammatical : IsType tree union
