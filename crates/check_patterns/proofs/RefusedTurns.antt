-- What is refused in patterns, one behind the other.
use Rattle.std.proofs.Common.{◌≡◌, ℕ, ◌+◌, ◌<◌, ◌≤◌, List, ◌++◌, Option, map, length, get_or, drop, Result, Ok, Err, IfOk, Vec, Global, ap, sym, ◌∙◌}
use Rattle.std.proofs.lemmas.List.{drop_more, drop_all}
use Rattle.vdm_kinds.specs.declared.name.Name.{Name}
use Rattle.vdm_kinds.specs.declared.name_at.TypeName.{TypeName}
use Rattle.vdm_kinds.specs.declared.place.Place.{Place}
use Rattle.vdm_kinds.specs.declared.spec_fault.SpecFault.{SpecFault}
use Rattle.abstract_syntax.specs.Classes.{SpecTree}
use Rattle.abstract_syntax.specs.Expressions.{PatternTree}
use Rattle.expr_tree.specs.declared.pattern.Pattern as rust
use Rattle.expr_tree.specs.declared.pattern.Pattern.{Pattern}
use Rattle.expr_tree.specs.declared.pattern.MapletPattern.{MapletPattern}
use Rattle.expr_tree.specs.View.{pattern_view, pattern_views, pattern_trees, maplet_pattern_view, maplet_pattern_trees}
use Rattle.class_checks.specs.Patterns.{pattern_count, pattern_faults, patterns_faults, maplets_faults}
use Rattle.class_checks.specs.Results.{first_among}
use Rattle.class_checks.specs.TypeNames.{record_faults}
use Rattle.check_types.specs.Below.check_scopes.specs.Told.{first_in, first_among-++}
use Rattle.check_types.specs.Below.check_scopes.specs.declared.refusals.Refusals.{Refusals}
use Rattle.check_patterns.proofs.Shapes.{view-Record}

-- two lists of refusals, one behind the other
pub both_told : (old mid now : Option SpecFault) (xs ys : List SpecFault) → mid ≡ first_among old xs → now ≡ first_among mid ys → now ≡ first_among old (xs ++ ys)
both_told old mid now xs ys first second =
    second ∙ ap (λ (f : Option SpecFault). first_among f ys) first ∙ sym (first_among-++ old xs ys)

module _ (spec : SpecTree) (class : Name) where
  pub pattern_turn : (xs : List Pattern) (i : ℕ) (x : Pattern) (before after whole : Option SpecFault) → x ≡ get_or xs i x → i < length xs
      → after ≡ first_among before (pattern_faults spec class (pattern_view x))
      → first_among before (patterns_faults spec class (pattern_trees (pattern_views (drop i xs)))) ≡ whole
      → first_among after (patterns_faults spec class (pattern_trees (pattern_views (drop (i + 1) xs)))) ≡ whole
  pattern_turn xs i x before after whole is below told so_far =
      ap (λ (f : Option SpecFault). first_among f (patterns_faults spec class (pattern_trees (pattern_views (drop (i + 1) xs))))) told
      ∙ sym (first_among-++ before (pattern_faults spec class (pattern_view x)) (patterns_faults spec class (pattern_trees (pattern_views (drop (i + 1) xs)))))
      ∙ ap (λ (y : Pattern). first_among before (pattern_faults spec class (pattern_view y) ++ patterns_faults spec class (pattern_trees (pattern_views (drop (i + 1) xs))))) is
      ∙ ap (λ (ys : List Pattern). first_among before (patterns_faults spec class (pattern_trees (pattern_views ys)))) (sym (drop_more xs i x below))
      ∙ so_far

  pub patterns_end : (xs : List Pattern) (i : ℕ) (now whole : Option SpecFault) → length xs ≤ i
      → first_among now (patterns_faults spec class (pattern_trees (pattern_views (drop i xs)))) ≡ whole → now ≡ whole
  patterns_end xs i now whole past so_far =
      ap (λ (ys : List Pattern). first_among now (patterns_faults spec class (pattern_trees (pattern_views ys)))) (sym (drop_all i xs past)) ∙ so_far

  pub maplet_turn : (xs : List MapletPattern) (i : ℕ) (x : MapletPattern) (k v : PatternTree) (before mid after whole : Option SpecFault)
      → x ≡ get_or xs i x → i < length xs → k ≡ (maplet_pattern_view x).key → v ≡ (maplet_pattern_view x).value
      → mid ≡ first_among before (pattern_faults spec class k) → after ≡ first_among mid (pattern_faults spec class v)
      → first_among before (maplets_faults spec class (maplet_pattern_trees (map maplet_pattern_view (drop i xs)))) ≡ whole
      → first_among after (maplets_faults spec class (maplet_pattern_trees (map maplet_pattern_view (drop (i + 1) xs)))) ≡ whole
  maplet_turn xs i x k v before mid after whole is below keys values first second so_far =
      let later : List SpecFault = maplets_faults spec class (maplet_pattern_trees (map maplet_pattern_view (drop (i + 1) xs))) in
      ap (λ (f : Option SpecFault). first_among f later) second
      ∙ sym (first_among-++ mid (pattern_faults spec class v) later)
      ∙ ap (λ (f : Option SpecFault). first_among f (pattern_faults spec class v ++ later)) first
      ∙ sym (first_among-++ before (pattern_faults spec class k) (pattern_faults spec class v ++ later))
      ∙ (λ j. first_among before (pattern_faults spec class (keys j) ++ (pattern_faults spec class (values j) ++ later)))
      ∙ ap (λ (y : MapletPattern). first_among before (pattern_faults spec class (maplet_pattern_view y).key ++ (pattern_faults spec class (maplet_pattern_view y).value ++ later))) is
      ∙ ap (λ (ys : List MapletPattern). first_among before (maplets_faults spec class (maplet_pattern_trees (map maplet_pattern_view ys)))) (sym (drop_more xs i x below))
      ∙ so_far

  pub maplets_end : (xs : List MapletPattern) (i : ℕ) (now whole : Option SpecFault) → length xs ≤ i
      → first_among now (maplets_faults spec class (maplet_pattern_trees (map maplet_pattern_view (drop i xs)))) ≡ whole → now ≡ whole
  maplets_end xs i now whole past so_far =
      ap (λ (ys : List MapletPattern). first_among now (maplets_faults spec class (maplet_pattern_trees (map maplet_pattern_view ys)))) (sym (drop_all i xs past)) ∙ so_far

  -- the name of a record, and then its fields
  pub record_told : {E : Type 0} (r : Result Refusals E) (p : Pattern) (t : TypeName) (ps : Vec Pattern Global) (place : Place) (named fields : List Pattern)
      (before mid : Option SpecFault) → p ≡ rust.Record t ps place → named ≡ ps.items → fields ≡ ps.items
      → mid ≡ first_among before (record_faults spec class t (pattern_count (pattern_trees (pattern_views named))) place)
      → IfOk r (λ now. first_in now ≡ first_among mid (patterns_faults spec class (pattern_trees (pattern_views fields))))
      → IfOk r (λ now. first_in now ≡ first_among before (pattern_faults spec class (pattern_view p)))
  record_told (Ok now) p t ps place named fields before mid shape same_named same_fields name told =
      both_told before mid (first_in now) (record_faults spec class t (pattern_count (pattern_trees (pattern_views named))) place)
      (patterns_faults spec class (pattern_trees (pattern_views fields))) name told
      ∙ (λ i. first_among before (record_faults spec class t (pattern_count (pattern_trees (pattern_views (same_named i)))) place
      ++ patterns_faults spec class (pattern_trees (pattern_views (same_fields i)))))
      ∙ ap (λ (tree : PatternTree). first_among before (pattern_faults spec class tree)) (sym (ap pattern_view shape ∙ view-Record t ps place))
  record_told (Err error) p t ps place named fields before mid shape same_named same_fields name told = tt
