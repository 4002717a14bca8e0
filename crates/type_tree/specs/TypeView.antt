-- The pure trees that types of the program are.
use Rattle.std.specs.Prelude.{List, [], ◌∷◌, map}
use Rattle.abstract_syntax.specs.Types.{
  TypeTree,
  TypeTrees,
  basic_type,
  quote_type,
  set_type,
  seq_type,
  seq1_type,
  map_type,
  inmap_type,
  optional_type,
  bracketed_type,
  named_type,
  product_type,
  union_type,
  no_types,
  one_type,
}
use Rattle.type_tree.specs.declared.type_expr.TypeExpr.{TypeExpr, fold-TypeExpr}
use Rattle.type_tree.specs.declared.type_expr.TypeExpr.TheOpen.{
  TypeExpr-F,
  Basic,
  Quote as QuoteType,
  Set,
  Seq,
  Seq1,
  Map,
  InMap,
  Optional,
  Bracketed,
  Named,
  Product,
  Union,
}

-- a list of types as a part of a tree
abbrev pub type_trees : List TypeTree → TypeTrees
type_trees [] = no_types
type_trees (t ∷ ts) = one_type t (type_trees ts)

-- one level, whose types are pure trees
abbrev pub type_step : TypeExpr-F TypeTree → TypeTree
type_step (Basic basic place) = basic_type basic place
type_step (QuoteType name place) = quote_type name place
type_step (Set element place) = set_type element.value place
type_step (Seq element place) = seq_type element.value place
type_step (Seq1 element place) = seq1_type element.value place
type_step (Map key value place) = map_type key.value value.value place
type_step (InMap key value place) = inmap_type key.value value.value place
type_step (Optional inner place) = optional_type inner.value place
type_step (Bracketed inner place) = bracketed_type inner.value place
type_step (Named name place) = named_type name place
type_step (Product factors place) = product_type (type_trees factors.items) place
type_step (Union alternatives place) = union_type (type_trees alternatives.items) place

abbrev pub type_view : TypeExpr → TypeTree
type_view = fold-TypeExpr TypeTree type_step

abbrev pub type_views : List TypeExpr → List TypeTree
type_views = map type_view
