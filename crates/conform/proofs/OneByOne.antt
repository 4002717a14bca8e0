-- How parts are tested one after the other.
use Rattle.std.proofs.Common.{◌≡◌, ℕ, zero, suc, Bool, List, [], ◌∷◌, ◌++◌, map, length, Option, Some, None, refl, ap, sym, ◌∙◌}
use Rattle.std.specs.Borrow.{Bor}
use Rattle.vdm_kinds.specs.declared.name.Name.{Name}
use Rattle.abstract_syntax.specs.Classes.{TypeDefTree}
use Rattle.abstract_syntax.specs.Values.{ValueTree}
use Rattle.expr_tree.specs.Alternatives.{Finder}
use Rattle.expr_tree.specs.declared.type_def.Field.{Field}
use Rattle.expr_tree.specs.TypeDefView.{field_view}
use Rattle.type_tree.specs.declared.type_expr.TypeExpr.{TypeExpr}
use Rattle.type_tree.specs.TypeView.{type_view, type_views, type_trees}
use Rattle.type_meaning.specs.Tests.{Tests, no_tests, both}
use Rattle.type_meaning.specs.Shapes.{tests_of, each, each_entry, each_factor, each_field}
use Rattle.conform.specs.declared.test.Test.{Test}
use Rattle.conform.specs.declared.goal.Next.TheVariants.{Holds, Tests as TestsGoal}
use Rattle.conform.specs.declared.frame.Frame.{Frame}
use Rattle.conform.specs.declared.frame.Frame.TheVariants.{Values, Entries, Entry, Factors, Fields}
use Rattle.conform.specs.Frames.{both_tested, found_in, through, stands}
use Rattle.conform.proofs.Turns.{pushed, at_end, Found}

nothing : {A : Type 0} (xs : List A) → length xs ≡ 0 → [] ≡ xs
nothing [] e = refl
nothing (x ∷ xs) e = cc

module _ (find : Finder) (descends : Name → Name → Bool) (rank : TypeDefTree → ℕ) (found : List Test) where
  -- ---- values against one type

  pub a_value : (frames now : List Frame) (scope : Name) (t : Bor TypeExpr) (value : Bor ValueTree) (rest : Bor (List ValueTree)) (vs : List ValueTree)
      → now ≡ frames ++ Values scope t rest ∷ [] → vs ≡ value.now ∷ rest.now
      → stands find descends rank found now (TestsGoal (record { value = value; scope = scope; declared = t }))
      ≡ through find descends rank frames (both (Found find descends rank found) (each scope (type_view t.now) (map (tests_of find descends rank) vs)))
  a_value frames now scope t value rest vs is are =
      pushed find descends rank frames now (Values scope t rest) found (record { value = value; scope = scope; declared = t })
      (each scope (type_view t.now) (map (tests_of find descends rank) rest.now)) (each scope (type_view t.now) (map (tests_of find descends rank) vs))
      is (λ r. refl) (ap (λ ws. each scope (type_view t.now) (map (tests_of find descends rank) ws)) (sym are))

  pub no_value : (frames : List Frame) (scope : Name) (t : TypeExpr) (vs : List ValueTree) → length vs ≡ 0
      → stands find descends rank found frames Holds
      ≡ through find descends rank frames (both (Found find descends rank found) (each scope (type_view t) (map (tests_of find descends rank) vs)))
  no_value frames scope t vs e =
      at_end find descends rank frames found (each scope (type_view t) (map (tests_of find descends rank) vs))
      (ap (λ ws. each scope (type_view t) (map (tests_of find descends rank) ws)) (nothing vs e))

  -- ---- entries

  pub a_key : (frames now : List Frame) (scope : Name) (key held : Bor TypeExpr) (k v : Bor ValueTree) (p : ValueTree × ValueTree)
      (rest : Bor (List (ValueTree × ValueTree))) (ps : List (ValueTree × ValueTree))
      → now ≡ frames ++ Entry scope key held v rest ∷ [] → ps ≡ p ∷ rest.now → p.0 ≡ k.now → p.1 ≡ v.now
      → stands find descends rank found now (TestsGoal (record { value = k; scope = scope; declared = key }))
      ≡ through find descends rank frames
      (both (Found find descends rank found) (each_entry scope (type_view key.now) (type_view held.now) (map (both_tested find descends rank) ps)))
  a_key frames now scope key held k v p rest ps is are first second =
      pushed find descends rank frames now (Entry scope key held v rest) found (record { value = k; scope = scope; declared = key })
      (both (tests_of find descends rank v.now scope (type_view held.now))
      (each_entry scope (type_view key.now) (type_view held.now) (map (both_tested find descends rank) rest.now)))
      (each_entry scope (type_view key.now) (type_view held.now) (map (both_tested find descends rank) ps))
      is (λ r. refl)
      (ap (λ w. both (tests_of find descends rank w scope (type_view key.now)) (both (tests_of find descends rank v.now scope (type_view held.now))
      (each_entry scope (type_view key.now) (type_view held.now) (map (both_tested find descends rank) rest.now)))) (sym first)
      ∙ ap (λ w. both (tests_of find descends rank p.0 scope (type_view key.now)) (both (tests_of find descends rank w scope (type_view held.now))
      (each_entry scope (type_view key.now) (type_view held.now) (map (both_tested find descends rank) rest.now)))) (sym second)
      ∙ ap (λ qs. each_entry scope (type_view key.now) (type_view held.now) (map (both_tested find descends rank) qs)) (sym are))

  pub no_entry : (frames : List Frame) (scope : Name) (key held : TypeExpr) (ps : List (ValueTree × ValueTree)) → length ps ≡ 0
      → stands find descends rank found frames Holds
      ≡ through find descends rank frames
      (both (Found find descends rank found) (each_entry scope (type_view key) (type_view held) (map (both_tested find descends rank) ps)))
  no_entry frames scope key held ps e =
      at_end find descends rank frames found (each_entry scope (type_view key) (type_view held) (map (both_tested find descends rank) ps))
      (ap (λ qs. each_entry scope (type_view key) (type_view held) (map (both_tested find descends rank) qs)) (nothing ps e))

  pub its_value : (frames now : List Frame) (scope : Name) (key held : Bor TypeExpr) (v : Bor ValueTree) (rest : Bor (List (ValueTree × ValueTree)))
      → now ≡ frames ++ Entries scope key held rest ∷ []
      → stands find descends rank found now (TestsGoal (record { value = v; scope = scope; declared = held }))
      ≡ through find descends rank frames
      (both (Found find descends rank found) (both (tests_of find descends rank v.now scope (type_view held.now))
      (each_entry scope (type_view key.now) (type_view held.now) (map (both_tested find descends rank) rest.now))))
  its_value frames now scope key held v rest is =
      pushed find descends rank frames now (Entries scope key held rest) found (record { value = v; scope = scope; declared = held })
      (each_entry scope (type_view key.now) (type_view held.now) (map (both_tested find descends rank) rest.now))
      (both (tests_of find descends rank v.now scope (type_view held.now))
      (each_entry scope (type_view key.now) (type_view held.now) (map (both_tested find descends rank) rest.now)))
      is (λ r. refl) refl

  -- ---- factors and fields

  pub a_factor : (frames now : List Frame) (scope : Name) (t : Bor TypeExpr) (types : Bor (List TypeExpr)) (ts : List TypeExpr)
      (value : Bor ValueTree) (rest : Bor (List ValueTree)) (vs : List ValueTree)
      → now ≡ frames ++ Factors scope types rest ∷ [] → ts ≡ t.now ∷ types.now → vs ≡ value.now ∷ rest.now
      → stands find descends rank found now (TestsGoal (record { value = value; scope = scope; declared = t }))
      ≡ through find descends rank frames
      (both (Found find descends rank found) (each_factor scope (type_trees (type_views ts)) (map (tests_of find descends rank) vs)))
  a_factor frames now scope t types ts value rest vs is those are =
      pushed find descends rank frames now (Factors scope types rest) found (record { value = value; scope = scope; declared = t })
      (each_factor scope (type_trees (type_views types.now)) (map (tests_of find descends rank) rest.now))
      (each_factor scope (type_trees (type_views ts)) (map (tests_of find descends rank) vs))
      is (λ r. refl)
      (ap (λ us. each_factor scope (type_trees (type_views us)) (map (tests_of find descends rank) (value.now ∷ rest.now))) (sym those)
      ∙ ap (λ ws. each_factor scope (type_trees (type_views ts)) (map (tests_of find descends rank) ws)) (sym are))

  pub no_factor : (frames : List Frame) (scope : Name) (ts : List TypeExpr) (vs : List ValueTree) → length ts ≡ 0 → length vs ≡ 0
      → stands find descends rank found frames Holds
      ≡ through find descends rank frames
      (both (Found find descends rank found) (each_factor scope (type_trees (type_views ts)) (map (tests_of find descends rank) vs)))
  no_factor frames scope ts vs none e =
      at_end find descends rank frames found (each_factor scope (type_trees (type_views ts)) (map (tests_of find descends rank) vs))
      (ap (λ us. each_factor scope (type_trees (type_views us)) (map (tests_of find descends rank) [])) (nothing ts none)
      ∙ ap (λ ws. each_factor scope (type_trees (type_views ts)) (map (tests_of find descends rank) ws)) (nothing vs e))

  pub a_field : (frames now : List Frame) (scope : Name) (f : Field) (t : Bor TypeExpr) (fields : Bor (List Field)) (fs : List Field)
      (value : Bor ValueTree) (rest : Bor (List ValueTree)) (vs : List ValueTree)
      → now ≡ frames ++ Fields scope fields rest ∷ [] → fs ≡ f ∷ fields.now → f.declared ≡ t.now → vs ≡ value.now ∷ rest.now
      → stands find descends rank found now (TestsGoal (record { value = value; scope = scope; declared = t }))
      ≡ through find descends rank frames
      (both (Found find descends rank found) (each_field scope (map field_view fs) (map (tests_of find descends rank) vs)))
  a_field frames now scope f t fields fs value rest vs is those its are =
      pushed find descends rank frames now (Fields scope fields rest) found (record { value = value; scope = scope; declared = t })
      (each_field scope (map field_view fields.now) (map (tests_of find descends rank) rest.now))
      (each_field scope (map field_view fs) (map (tests_of find descends rank) vs))
      is (λ r. refl)
      (ap (λ u. both (tests_of find descends rank value.now scope (type_view u))
      (each_field scope (map field_view fields.now) (map (tests_of find descends rank) rest.now))) (sym its)
      ∙ ap (λ us. each_field scope (map field_view us) (map (tests_of find descends rank) (value.now ∷ rest.now))) (sym those)
      ∙ ap (λ ws. each_field scope (map field_view fs) (map (tests_of find descends rank) ws)) (sym are))

  pub no_field : (frames : List Frame) (scope : Name) (fs : List Field) (vs : List ValueTree) → length fs ≡ 0 → length vs ≡ 0
      → stands find descends rank found frames Holds
      ≡ through find descends rank frames
      (both (Found find descends rank found) (each_field scope (map field_view fs) (map (tests_of find descends rank) vs)))
  no_field frames scope fs vs none e =
      at_end find descends rank frames found (each_field scope (map field_view fs) (map (tests_of find descends rank) vs))
      (ap (λ us. each_field scope (map field_view us) (map (tests_of find descends rank) [])) (nothing fs none)
      ∙ ap (λ ws. each_field scope (map field_view fs) (map (tests_of find descends rank) ws)) (nothing vs e))
