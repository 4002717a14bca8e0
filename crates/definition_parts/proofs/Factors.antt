-- The factors of a product.
use Rattle.std.proofs.Common.{◌≡◌, List, [], ◌∷◌, refl, ap, sym, ◌∙◌, rules, Vec, Global}
use Rattle.vdm_kinds.specs.declared.place.Place.{Place}
use Rattle.abstract_syntax.specs.Types.{TypeTree, product_type}
use Rattle.type_tree.specs.declared.type_expr.TypeExpr.{TypeExpr, the_lemmas}
use Rattle.type_tree.specs.declared.type_expr.TypeExpr.TheVariants.{Product, rolls-Product}
use Rattle.type_tree.specs.TypeView.{type_trees, type_view, type_views}
use Rattle.stmt_reading.specs.Definitions.{factors_of, types_of}

-- a list of types is what it was before it was a part of a tree
types_kept : (types : List TypeTree) → types_of (type_trees types) ≡ types
types_kept [] = refl
types_kept (t ∷ ts) = ap (λ (others : List TypeTree). t ∷ others) (types_kept ts)

product-view : (factors : Vec TypeExpr Global) (place : Place) → type_view (Product factors place) ≡ product_type (type_trees (type_views factors.items)) place
product-view factors place = ap type_view (sym (rolls-Product factors place)) ∙ search (rules, the_lemmas)

-- what a product had
pub factors-taken : (declared : TypeExpr) (factors taken : Vec TypeExpr Global) (place : Place) → declared ≡ Product factors place → taken ≡ factors → type_views taken.items ≡ factors_of (type_view declared)
factors-taken declared factors taken place is same =
    ap (λ (v : Vec TypeExpr Global). type_views v.items) same
    ∙ sym (types_kept (type_views factors.items))
    ∙ sym (ap factors_of (ap type_view is ∙ product-view factors place))
