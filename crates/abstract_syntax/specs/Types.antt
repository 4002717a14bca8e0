-- The pure trees of types. A node's place is that of its first token.
use Rattle.vdm_kinds.specs.declared.basic_type.BasicType.{BasicType}
use Rattle.vdm_kinds.specs.declared.name.Name.{Name}
use Rattle.vdm_kinds.specs.declared.name_at.TypeName.{TypeName}
use Rattle.vdm_kinds.specs.declared.place.Place.{Place}

mutual
  pub data TypeTree : Type 0 where
    -- `bool`, `nat`, `nat1`, `int`, `char` or `token`
    basic_type : BasicType → Place → TypeTree
    -- `<Red>`
    quote_type : Name → Place → TypeTree
    -- `set of T`
    set_type : TypeTree → Place → TypeTree
    -- `seq of T`
    seq_type : TypeTree → Place → TypeTree
    -- `seq1 of T`
    seq1_type : TypeTree → Place → TypeTree
    -- `map K to T`
    map_type : TypeTree → TypeTree → Place → TypeTree
    -- `inmap K to T`
    inmap_type : TypeTree → TypeTree → Place → TypeTree
    -- `[T]`
    optional_type : TypeTree → Place → TypeTree
    -- `(T)`
    bracketed_type : TypeTree → Place → TypeTree
    -- ``T`` or ``C`T``
    named_type : TypeName → Place → TypeTree
    -- `S * T * ..`, two factors or more
    product_type : TypeTrees → Place → TypeTree
    -- `S | T | ..`, two alternatives or more
    union_type : TypeTrees → Place → TypeTree

  -- a list of types
  pub data TypeTrees : Type 0 where
    no_types : TypeTrees
    one_type : TypeTree → TypeTrees → TypeTrees

-- the place of a node
abbrev pub type_place : TypeTree → Place
type_place (basic_type basic place) = place
type_place (quote_type name place) = place
type_place (set_type element place) = place
type_place (seq_type element place) = place
type_place (seq1_type element place) = place
type_place (map_type key value place) = place
type_place (inmap_type key value place) = place
type_place (optional_type inner place) = place
type_place (bracketed_type inner place) = place
type_place (named_type name place) = place
type_place (product_type factors place) = place
type_place (union_type alternatives place) = place
