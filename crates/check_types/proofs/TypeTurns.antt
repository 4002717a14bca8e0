-- What is refused of the types in a type, one behind the other.
use Rattle.std.proofs.Common.{◌≡◌, ℕ, ◌+◌, ◌<◌, ◌≤◌, List, ◌++◌, Option, length, get_or, drop, ap, sym, ◌∙◌, rules, Vec, Box, Global}
use Rattle.std.proofs.lemmas.List.{drop_more, drop_all}
use Rattle.vdm_kinds.specs.declared.name.Name.{Name}
use Rattle.vdm_kinds.specs.declared.place.Place.{Place}
use Rattle.vdm_kinds.specs.declared.spec_fault.SpecFault.{SpecFault}
use Rattle.abstract_syntax.specs.Classes.{SpecTree}
use Rattle.abstract_syntax.specs.Types.{TypeTree, TypeTrees, no_types, one_type, map_type, inmap_type, product_type, union_type}
use Rattle.type_tree.specs.declared.type_expr.TypeExpr.{TypeExpr, the_lemmas}
use Rattle.type_tree.specs.declared.type_expr.TypeExpr.TheVariants.{Map, InMap, Product, Union, rolls-Map, rolls-InMap, rolls-Product, rolls-Union}
use Rattle.type_tree.specs.TypeView.{type_trees, type_view, type_views}
use Rattle.class_checks.specs.Results.{first_among}
use Rattle.class_checks.specs.TypeNames.{type_faults, types_faults}
use Rattle.check_scopes.specs.Told.{first_among-++}

view-Map : (k e : Box TypeExpr Global) (place : Place) → type_view (Map k e place) ≡ map_type (type_view k.value) (type_view e.value) place
view-Map k e place = ap type_view (sym (rolls-Map k e place)) ∙ search (rules, the_lemmas)

view-InMap : (k e : Box TypeExpr Global) (place : Place) → type_view (InMap k e place) ≡ inmap_type (type_view k.value) (type_view e.value) place
view-InMap k e place = ap type_view (sym (rolls-InMap k e place)) ∙ search (rules, the_lemmas)

view-Product : (factors : Vec TypeExpr Global) (place : Place) → type_view (Product factors place) ≡ product_type (type_trees (type_views factors.items)) place
view-Product factors place = ap type_view (sym (rolls-Product factors place)) ∙ search (rules, the_lemmas)

view-Union : (types : Vec TypeExpr Global) (place : Place) → type_view (Union types place) ≡ union_type (type_trees (type_views types.items)) place
view-Union types place = ap type_view (sym (rolls-Union types place)) ∙ search (rules, the_lemmas)

-- a loop over types, at an item and behind the last
next_types : (xs : List TypeExpr) (i : ℕ) (x : TypeExpr) → x ≡ get_or xs i x → i < length xs
    → type_trees (type_views (drop i xs)) ≡ one_type (type_view x) (type_trees (type_views (drop (i + 1) xs)))
next_types xs i x is below =
    ap (λ (ys : List TypeExpr). type_trees (type_views ys)) (drop_more xs i x below)
    ∙ ap (λ (y : TypeExpr). one_type (type_view y) (type_trees (type_views (drop (i + 1) xs)))) (sym is)

no_more_types : (xs : List TypeExpr) (i : ℕ) → length xs ≤ i → type_trees (type_views (drop i xs)) ≡ no_types
no_more_types xs i past = ap (λ (ys : List TypeExpr). type_trees (type_views ys)) (drop_all i xs past)

module _ (spec : SpecTree) (scope : Name) where
  pub type_step : (xs : List TypeExpr) (i : ℕ) (x : TypeExpr) (before after whole : Option SpecFault) → x ≡ get_or xs i x → i < length xs
      → after ≡ first_among before (type_faults spec scope (type_view x))
      → first_among before (types_faults spec scope (type_trees (type_views (drop i xs)))) ≡ whole
      → first_among after (types_faults spec scope (type_trees (type_views (drop (i + 1) xs)))) ≡ whole
  type_step xs i x before after whole is below told so_far =
      ap (λ (f : Option SpecFault). first_among f (types_faults spec scope (type_trees (type_views (drop (i + 1) xs))))) told
      ∙ sym (first_among-++ before (type_faults spec scope (type_view x)) (types_faults spec scope (type_trees (type_views (drop (i + 1) xs)))))
      ∙ ap (λ (ys : TypeTrees). first_among before (types_faults spec scope ys)) (sym (next_types xs i x is below))
      ∙ so_far

  pub type_end : (xs : List TypeExpr) (i : ℕ) (now whole : Option SpecFault) → length xs ≤ i
      → first_among now (types_faults spec scope (type_trees (type_views (drop i xs)))) ≡ whole → now ≡ whole
  type_end xs i now whole past so_far =
      ap (λ (ys : TypeTrees). first_among now (types_faults spec scope ys)) (sym (no_more_types xs i past)) ∙ so_far

  module _ (t : TypeExpr) (old now : Option SpecFault) where
    -- a key and a value
    pair_told : (k e key value : TypeExpr) (mid : Option SpecFault) → key ≡ k → value ≡ e
        → mid ≡ first_among old (type_faults spec scope (type_view key)) → now ≡ first_among mid (type_faults spec scope (type_view value))
        → now ≡ first_among old (type_faults spec scope (type_view k) ++ type_faults spec scope (type_view e))
    pair_told k e key value mid keys values first second =
        second
        ∙ (λ i. first_among (first i) (type_faults spec scope (type_view (values i))))
        ∙ ap (λ (y : TypeExpr). first_among (first_among old (type_faults spec scope (type_view y))) (type_faults spec scope (type_view e))) keys
        ∙ sym (first_among-++ old (type_faults spec scope (type_view k)) (type_faults spec scope (type_view e)))

    pub map_told : (k e : Box TypeExpr Global) (place : Place) (key value : TypeExpr) (mid : Option SpecFault) → t ≡ Map k e place
        → key ≡ k.value → value ≡ e.value
        → mid ≡ first_among old (type_faults spec scope (type_view key)) → now ≡ first_among mid (type_faults spec scope (type_view value))
        → now ≡ first_among old (type_faults spec scope (type_view t))
    map_told k e place key value mid shape keys values first second =
        pair_told k.value e.value key value mid keys values first second
        ∙ ap (λ (y : TypeTree). first_among old (type_faults spec scope y)) (sym (ap type_view shape ∙ view-Map k e place))

    pub inmap_told : (k e : Box TypeExpr Global) (place : Place) (key value : TypeExpr) (mid : Option SpecFault) → t ≡ InMap k e place
        → key ≡ k.value → value ≡ e.value
        → mid ≡ first_among old (type_faults spec scope (type_view key)) → now ≡ first_among mid (type_faults spec scope (type_view value))
        → now ≡ first_among old (type_faults spec scope (type_view t))
    inmap_told k e place key value mid shape keys values first second =
        pair_told k.value e.value key value mid keys values first second
        ∙ ap (λ (y : TypeTree). first_among old (type_faults spec scope y)) (sym (ap type_view shape ∙ view-InMap k e place))

    pub product_told : (types : Vec TypeExpr Global) (place : Place) (items : List TypeExpr) → t ≡ Product types place → items ≡ types.items
        → now ≡ first_among old (types_faults spec scope (type_trees (type_views items)))
        → now ≡ first_among old (type_faults spec scope (type_view t))
    product_told types place items shape same told =
        told
        ∙ ap (λ (ts : List TypeExpr). first_among old (types_faults spec scope (type_trees (type_views ts)))) same
        ∙ ap (λ (y : TypeTree). first_among old (type_faults spec scope y)) (sym (ap type_view shape ∙ view-Product types place))

    pub union_told : (types : Vec TypeExpr Global) (place : Place) (items : List TypeExpr) → t ≡ Union types place → items ≡ types.items
        → now ≡ first_among old (types_faults spec scope (type_trees (type_views items)))
        → now ≡ first_among old (type_faults spec scope (type_view t))
    union_told types place items shape same told =
        told
        ∙ ap (λ (ts : List TypeExpr). first_among old (types_faults spec scope (type_trees (type_views ts)))) same
        ∙ ap (λ (y : TypeTree). first_among old (type_faults spec scope y)) (sym (ap type_view shape ∙ view-Union types place))
