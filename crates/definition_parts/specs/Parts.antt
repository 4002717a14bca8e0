-- The parts of definitions that the program keeps on the way, and what they are.
use Rattle.std.specs.Prelude.{List, [], ◌∷◌, ◌++◌, map, Option, Some, None, Vec}
use Rattle.vdm_kinds.specs.declared.access.Level.{Level}
use Rattle.vdm_kinds.specs.declared.name_at.NameAt.{NameAt}
use Rattle.abstract_syntax.specs.Types.{TypeTree}
use Rattle.abstract_syntax.specs.Classes.{FieldTree, Body, not_yet_specified, subclass_responsibility}
use Rattle.abstract_syntax.specs.Expressions.{PatternTree}
use Rattle.expr_tree.specs.declared.pattern.Pattern.{Pattern}
use Rattle.expr_tree.specs.View.{pattern_views}
use Rattle.expr_tree.specs.declared.type_def.Field.{Field}
use Rattle.expr_tree.specs.TypeDefView.{field_view}
use Rattle.type_tree.specs.declared.type_expr.TypeExpr.{TypeExpr}
use Rattle.type_tree.specs.TypeView.{type_views}
use Rattle.grammar_words.specs.Tokens.{Token, identifier, plain, word_of}
use Rattle.stmt_reading.specs.Leaves.{Read, onto}
use Rattle.stmt_reading.specs.Definitions.{Head as HeadRead, level_of}
use Rattle.definition_parts.specs.declared.bodies.Unwritten.{Unwritten}
use Rattle.definition_parts.specs.declared.bodies.Unwritten.TheVariants.{NotYetSpecified, SubclassResponsibility}
use Rattle.definition_parts.specs.declared.heads.Begun.{Begun}
use Rattle.definition_parts.specs.declared.heads.Begun.TheVariants.{Named, Marked}
use Rattle.definition_parts.specs.declared.heads.Head.{Head}

abbrev pub begun_view : Begun → Token
begun_view (Named name place) = identifier name place
begun_view (Marked word place) = plain word place

-- the level that the next word gives
abbrev pub next_level : List Token → Option Level
next_level [] = None
next_level (token ∷ tokens) = level_of (word_of token)

abbrev pub head_view : Head → HeadRead
head_view h = record { access = h.access; name = h.name; name_place = h.name_place; place = h.place }

abbrev pub unwritten_view : {A : Type 0} → Unwritten → Body A
unwritten_view NotYetSpecified = not_yet_specified
unwritten_view SubclassResponsibility = subclass_responsibility

abbrev pub types_view : {A : Type 0} → Vec TypeExpr A → List TypeTree
types_view types = type_views types.items

abbrev pub fields_view : {A : Type 0} → Vec Field A → List FieldTree
fields_view fields = map field_view fields.items

abbrev pub names_view : {A : Type 0} → Vec NameAt A → List NameAt
names_view names = names.items

abbrev pub items_view : {A B S : Type 0} → (A → B) → Vec A S → List B
items_view view items = map view items.items

-- what stands before what is read
abbrev pub put_all : {A : Type 0} → List A → Read (List A) → Read (List A)
put_all made read = onto read (λ others rest. Some (made ++ others, rest))

abbrev pub patterns_view : {A : Type 0} → Vec Pattern A → List PatternTree
patterns_view patterns = pattern_views patterns.items
