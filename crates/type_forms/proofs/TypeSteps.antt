-- What each kind of type is, and the steps of its form.
use Rattle.std.proofs.Common.{◌≡◌, ℕ, ◌+◌, ◌<◌, ◌≤◌, Bool, List, [], ◌∷◌, ◌++◌, length, get_or, drop, Result, Ok, Err, IfOk, ap, sym, ◌∙◌, ◌⊎◌, inl, inr, rules, Vec, Box, Global}
use Rattle.std.proofs.lemmas.List.{drop_more, drop_all}
use Rattle.vdm_kinds.specs.declared.name.Name.{Name}
use Rattle.vdm_kinds.specs.declared.place.Place.{Place}
use Rattle.abstract_syntax.specs.Types.{TypeTree, TypeTrees, no_types, one_type, set_type, seq_type, seq1_type, map_type, inmap_type, optional_type, product_type, union_type}
use Rattle.type_tree.specs.declared.type_expr.TypeExpr.{TypeExpr, the_lemmas}
use Rattle.type_tree.specs.declared.type_expr.TypeExpr.TheVariants.{Set, Seq, Seq1, Map, InMap, Optional, Product, Union, rolls-Set, rolls-Seq, rolls-Seq1, rolls-Map, rolls-InMap, rolls-Optional, rolls-Product, rolls-Union}
use Rattle.type_tree.specs.TypeView.{type_trees, type_view, type_views}
use Rattle.expr_tree.specs.Alternatives.{Finder}
use Rattle.form_meaning.specs.Forms.{FormTree, FormTrees, no_form, one_form, nil_alt, tuple_alt, sequence_alt, set_alt, map_alt, only, joined}
use Rattle.form_meaning.specs.Types.{with_type, with_types, factor_forms}
use Rattle.type_forms.specs.Tree.{form_trees}
use Rattle.type_forms.proofs.Lists.{forms_then, form_pushed, forms_whole}

pub view-Set : (e : Box TypeExpr Global) (place : Place) → type_view (Set e place) ≡ set_type (type_view e.value) place
view-Set e place = ap type_view (sym (rolls-Set e place)) ∙ search (rules, the_lemmas)

pub view-Seq : (e : Box TypeExpr Global) (place : Place) → type_view (Seq e place) ≡ seq_type (type_view e.value) place
view-Seq e place = ap type_view (sym (rolls-Seq e place)) ∙ search (rules, the_lemmas)

pub view-Seq1 : (e : Box TypeExpr Global) (place : Place) → type_view (Seq1 e place) ≡ seq1_type (type_view e.value) place
view-Seq1 e place = ap type_view (sym (rolls-Seq1 e place)) ∙ search (rules, the_lemmas)

pub view-Map : (k e : Box TypeExpr Global) (place : Place) → type_view (Map k e place) ≡ map_type (type_view k.value) (type_view e.value) place
view-Map k e place = ap type_view (sym (rolls-Map k e place)) ∙ search (rules, the_lemmas)

pub view-InMap : (k e : Box TypeExpr Global) (place : Place) → type_view (InMap k e place) ≡ inmap_type (type_view k.value) (type_view e.value) place
view-InMap k e place = ap type_view (sym (rolls-InMap k e place)) ∙ search (rules, the_lemmas)

pub view-Optional : (e : Box TypeExpr Global) (place : Place) → type_view (Optional e place) ≡ optional_type (type_view e.value) place
view-Optional e place = ap type_view (sym (rolls-Optional e place)) ∙ search (rules, the_lemmas)

pub view-Product : (factors : Vec TypeExpr Global) (place : Place) → type_view (Product factors place) ≡ product_type (type_trees (type_views factors.items)) place
view-Product factors place = ap type_view (sym (rolls-Product factors place)) ∙ search (rules, the_lemmas)

pub view-Union : (types : Vec TypeExpr Global) (place : Place) → type_view (Union types place) ≡ union_type (type_trees (type_views types.items)) place
view-Union types place = ap type_view (sym (rolls-Union types place)) ∙ search (rules, the_lemmas)

pub if_same : {A E : Type 0} (r : Result A E) (x y : A) → x ≡ y → IfOk r (λ f. f ≡ x) → IfOk r (λ f. f ≡ y)
if_same (Ok f) x y same is = is ∙ same
if_same (Err e) x y same is = tt

-- a loop over types, at an item and behind the last
next_types : (xs : List TypeExpr) (i : ℕ) (x : TypeExpr) → x ≡ get_or xs i x → i < length xs
    → type_trees (type_views (drop i xs)) ≡ one_type (type_view x) (type_trees (type_views (drop (i + 1) xs)))
next_types xs i x is below =
    ap (λ (ys : List TypeExpr). type_trees (type_views ys)) (drop_more xs i x below)
    ∙ ap (λ (y : TypeExpr). one_type (type_view y) (type_trees (type_views (drop (i + 1) xs)))) (sym is)

no_more_types : (xs : List TypeExpr) (i : ℕ) → length xs ≤ i → type_trees (type_views (drop i xs)) ≡ no_types
no_more_types xs i past = ap (λ (ys : List TypeExpr). type_trees (type_views ys)) (drop_all i xs past)

module _ (find : Finder) (is_class : Name → Bool) (scope : Name) where
  pub factor_step : (xs : List TypeExpr) (i : ℕ) (x : TypeExpr) (made next : List FormTree) (a : FormTree) (whole : FormTrees)
      → x ≡ get_or xs i x → i < length xs → next ≡ made ++ a ∷ [] → a ≡ with_type find is_class scope no_form (type_view x)
      → forms_then (form_trees made) (factor_forms find is_class scope (type_trees (type_views (drop i xs)))) ≡ whole
      → forms_then (form_trees next) (factor_forms find is_class scope (type_trees (type_views (drop (i + 1) xs)))) ≡ whole
  factor_step xs i x made next a whole is below pushed same before =
      let later : FormTrees = factor_forms find is_class scope (type_trees (type_views (drop (i + 1) xs))) in
      ap (λ (m : List FormTree). forms_then (form_trees m) later) pushed
      ∙ form_pushed made a later
      ∙ ap (λ (b : FormTree). forms_then (form_trees made) (one_form b later)) same
      ∙ ap (λ (ys : TypeTrees). forms_then (form_trees made) (factor_forms find is_class scope ys)) (sym (next_types xs i x is below))
      ∙ before

  pub factor_end : (xs : List TypeExpr) (i : ℕ) (made : List FormTree) (whole : FormTrees) → length xs ≤ i
      → forms_then (form_trees made) (factor_forms find is_class scope (type_trees (type_views (drop i xs)))) ≡ whole → form_trees made ≡ whole
  factor_end xs i made whole past before =
      sym (forms_whole (form_trees made))
      ∙ ap (λ (ys : TypeTrees). forms_then (form_trees made) (factor_forms find is_class scope ys)) (sym (no_more_types xs i past))
      ∙ before

  pub union_end : (xs : List TypeExpr) (i : ℕ) (known whole : FormTree) → length xs ≤ i
      → with_types find is_class scope known (type_trees (type_views (drop i xs))) ≡ whole → known ≡ whole
  union_end xs i known whole past before =
      ap (λ (ys : TypeTrees). with_types find is_class scope known ys) (sym (no_more_types xs i past)) ∙ before

  -- ---- each kind, from its parts' forms

  pub inner_form : (start made : FormTree) (inner : TypeExpr) (e : Box TypeExpr Global) → start ≡ no_form → inner ≡ e.value
      → made ≡ with_type find is_class scope start (type_view inner) → made ≡ with_type find is_class scope no_form (type_view e.value)
  inner_form start made inner e nothing same is = is ∙ (λ i. with_type find is_class scope (nothing i) (type_view (same i)))

  module _ {E : Type 0} (t : TypeExpr) (known : FormTree) (r : Result FormTree E) where
    by_view : (tree : TypeTree) → type_view t ≡ tree → IfOk r (λ f. f ≡ with_type find is_class scope known tree)
        → IfOk r (λ f. f ≡ with_type find is_class scope known (type_view t))
    by_view tree shown is = if_same r _ _ (ap (with_type find is_class scope known) (sym shown)) is

    pub set_form : (e : Box TypeExpr Global) (place : Place) (start made : FormTree) (inner : TypeExpr) → t ≡ Set e place
        → start ≡ no_form → inner ≡ e.value → made ≡ with_type find is_class scope start (type_view inner)
        → IfOk r (λ f. f ≡ joined known (only (set_alt made))) → IfOk r (λ f. f ≡ with_type find is_class scope known (type_view t))
    set_form e place start made inner shape nothing same is ok =
        by_view _ (ap type_view shape ∙ view-Set e place)
        (if_same r _ _ (ap (λ (m : FormTree). joined known (only (set_alt m))) (inner_form start made inner e nothing same is)) ok)

    pub seq_form : (e : Box TypeExpr Global) (start made : FormTree) (inner : TypeExpr)
        → ((place : Place) × (t ≡ Seq e place)) ⊎ ((place : Place) × (t ≡ Seq1 e place))
        → start ≡ no_form → inner ≡ e.value → made ≡ with_type find is_class scope start (type_view inner)
        → IfOk r (λ f. f ≡ joined known (only (sequence_alt made))) → IfOk r (λ f. f ≡ with_type find is_class scope known (type_view t))
    seq_form e start made inner (inl shape) nothing same is ok =
        by_view _ (ap type_view shape.1 ∙ view-Seq e shape.0)
        (if_same r _ _ (ap (λ (m : FormTree). joined known (only (sequence_alt m))) (inner_form start made inner e nothing same is)) ok)
    seq_form e start made inner (inr shape) nothing same is ok =
        by_view _ (ap type_view shape.1 ∙ view-Seq1 e shape.0)
        (if_same r _ _ (ap (λ (m : FormTree). joined known (only (sequence_alt m))) (inner_form start made inner e nothing same is)) ok)

    pub map_form : (k e : Box TypeExpr Global) (key value : FormTree)
        → ((place : Place) × (t ≡ Map k e place)) ⊎ ((place : Place) × (t ≡ InMap k e place))
        → key ≡ with_type find is_class scope no_form (type_view k.value) → value ≡ with_type find is_class scope no_form (type_view e.value)
        → IfOk r (λ f. f ≡ joined known (only (map_alt key value))) → IfOk r (λ f. f ≡ with_type find is_class scope known (type_view t))
    map_form k e key value (inl shape) keys values ok =
        by_view _ (ap type_view shape.1 ∙ view-Map k e shape.0)
        (if_same r _ _ (λ i. joined known (only (map_alt (keys i) (values i)))) ok)
    map_form k e key value (inr shape) keys values ok =
        by_view _ (ap type_view shape.1 ∙ view-InMap k e shape.0)
        (if_same r _ _ (λ i. joined known (only (map_alt (keys i) (values i)))) ok)

    pub optional_form : (e : Box TypeExpr Global) (place : Place) (start : FormTree) (inner : TypeExpr) → t ≡ Optional e place
        → start ≡ joined known (only nil_alt) → inner ≡ e.value → IfOk r (λ f. f ≡ with_type find is_class scope start (type_view inner))
        → IfOk r (λ f. f ≡ with_type find is_class scope known (type_view t))
    optional_form e place start inner shape begun same ok =
        by_view _ (ap type_view shape ∙ view-Optional e place)
        (if_same r _ _ (λ i. with_type find is_class scope (begun i) (type_view (same i))) ok)

    pub product_form : (factors : Vec TypeExpr Global) (place : Place) (items : List TypeExpr) (made : FormTrees) → t ≡ Product factors place
        → items ≡ factors.items → made ≡ factor_forms find is_class scope (type_trees (type_views items))
        → IfOk r (λ f. f ≡ joined known (only (tuple_alt made))) → IfOk r (λ f. f ≡ with_type find is_class scope known (type_view t))
    product_form factors place items made shape same is ok =
        by_view _ (ap type_view shape ∙ view-Product factors place)
        (if_same r _ _
        (ap (λ (m : FormTrees). joined known (only (tuple_alt m)))
        (is ∙ ap (λ (ts : List TypeExpr). factor_forms find is_class scope (type_trees (type_views ts))) same))
        ok)

  pub union_form : (t : TypeExpr) (known made : FormTree) (types : Vec TypeExpr Global) (place : Place) (items : List TypeExpr) → t ≡ Union types place
      → items ≡ types.items → made ≡ with_types find is_class scope known (type_trees (type_views items))
      → made ≡ with_type find is_class scope known (type_view t)
  union_form t known made types place items shape same is =
      is
      ∙ ap (λ (ts : List TypeExpr). with_types find is_class scope known (type_trees (type_views ts))) same
      ∙ ap (with_type find is_class scope known) (sym (ap type_view shape ∙ view-Union types place))
