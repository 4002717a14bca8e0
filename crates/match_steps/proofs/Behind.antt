-- The patterns that are left behind one, and how many there are.
use Rattle.std.proofs.Common.{◌≡◌, ℕ, suc, ◌+◌, ◌<◌, List, [], ◌∷◌, length, map, ap, ◌∙◌, refl, rules, arith}
use Rattle.vdm_kinds.specs.declared.place.Place.{Place}
use Rattle.abstract_syntax.specs.Classes.{SpecTree}
use Rattle.abstract_syntax.specs.Expressions.{ExprTree, MaybeExpr}
use Rattle.abstract_syntax.specs.Values.{ValueTree}
use Rattle.expr_tree.specs.View.{CaseView, case_view, case_trees, pattern_views, pattern_trees, view_of, boxed_view, maybe_view}
use Rattle.expr_tree.specs.declared.parts.Case.{Case, the_lemmas}
use Rattle.expr_tree.specs.declared.pattern.Pattern.{Pattern}
use Rattle.node_meaning.specs.Envs.{Locals, Here as MeantHere}
use Rattle.node_meaning.specs.Expressions.{cases_met, patterns_met}
use Rattle.node_meaning.specs.Tasks.{Code}
use Rattle.eval_data.specs.declared.here.Here.{Here}
use Rattle.eval_data.specs.declared.matching.Met.TheVariants.{Case as Alternative}
use Rattle.eval_data.specs.declared.matching.MetCase.{MetCase}
use Rattle.eval_data.specs.Parts.{here_of}
use Rattle.eval_data.specs.Steps.{cases_behind, meets_with}
use Rattle.match_steps.specs.Trials.{pattern_count, case_count, further_count}

-- the tree of an alternative, by its parts
case_parts : (c : Case) → case_view c ≡ record { patterns = pattern_views c.patterns.items; value = view_of c.value.value }
case_parts c = search (rules, the_lemmas)

-- ---- alternatives

module _ (spec : SpecTree) (here : MeantHere) (place : Place) (v : ValueTree) (others : MaybeExpr) (count : ℕ) (locals : Locals) where
  -- the first of them by its parts
  cases_begun : (cs more : List Case) (c : Case) → cs ≡ c ∷ more
      → cases_met spec here place (case_trees (map case_view cs)) others count v locals
      ≡ patterns_met spec here place v (pattern_trees (pattern_views c.patterns.items)) count (view_of c.value.value)
      (cases_met spec here place (case_trees (map case_view more)) others count v) locals
  cases_begun cs more c is =
      ap (λ (xs : List Case). cases_met spec here place (case_trees (map case_view xs)) others count v locals) is
      ∙ ap (λ (w : CaseView). cases_met spec here place (case_trees (w ∷ map case_view more)) others count v locals) (case_parts c)

  no_pattern : (ps : List Pattern) (body : ExprTree) (more : Locals → Code) → length ps ≡ 0
      → patterns_met spec here place v (pattern_trees (pattern_views ps)) count body more locals ≡ more locals
  no_pattern [] body more none = refl
  no_pattern (p ∷ ps) body more none = absurd (omega (arith, none))

  -- one without patterns is passed over
  pub cases_passed : (cs more : List Case) (c : Case) → cs ≡ c ∷ more → length c.patterns.items ≡ 0
      → cases_met spec here place (case_trees (map case_view cs)) others count v locals
      ≡ cases_met spec here place (case_trees (map case_view more)) others count v locals
  cases_passed cs more c is none =
      cases_begun cs more c is
      ∙ no_pattern c.patterns.items (view_of c.value.value) (cases_met spec here place (case_trees (map case_view more)) others count v) none

module _ (spec : SpecTree) (here : Here) (place : Place) (v : ValueTree) (locals : Locals) where
  -- the first pattern of the first alternative
  pub cases_first : (cs : List Case) (c : Case) (m : MetCase) → cs ≡ c ∷ m.more.now → c.patterns.items ≡ m.pattern.now ∷ m.patterns.now
      → view_of c.value.value ≡ boxed_view m.body.now
      → cases_met spec (here_of here) place (case_trees (map case_view cs)) (maybe_view m.others.now) m.count v locals
      ≡ meets_with spec (Alternative here m) place v locals
  cases_first cs c m is patterns body =
      cases_begun spec (here_of here) place v (maybe_view m.others.now) m.count locals cs m.more.now c is
      ∙ ap (λ (ps : List Pattern). patterns_met spec (here_of here) place v (pattern_trees (pattern_views ps)) m.count (view_of c.value.value) (cases_behind spec (here_of here) m place v) locals) patterns
      ∙ ap (λ (e : ExprTree). patterns_met spec (here_of here) place v (pattern_trees (pattern_views (m.pattern.now ∷ m.patterns.now))) m.count e (cases_behind spec (here_of here) m place v) locals) body

-- ---- how many are left

count_begun : (cs more : List Case) (c : Case) → cs ≡ c ∷ more
    → case_count (case_trees (map case_view cs)) ≡ pattern_count (pattern_trees (pattern_views c.patterns.items)) + case_count (case_trees (map case_view more))
count_begun cs more c is =
    ap (λ (xs : List Case). case_count (case_trees (map case_view xs))) is
    ∙ ap (λ (w : CaseView). case_count (case_trees (w ∷ map case_view more))) (case_parts c)

count_none : (ps : List Pattern) → length ps ≡ 0 → pattern_count (pattern_trees (pattern_views ps)) ≡ 0
count_none [] none = refl
count_none (p ∷ ps) none = absurd (omega (arith, none))

pub count_passed : (cs more : List Case) (c : Case) → cs ≡ c ∷ more → length c.patterns.items ≡ 0
    → case_count (case_trees (map case_view cs)) ≡ case_count (case_trees (map case_view more))
count_passed cs more c is none =
    let all = count_begun cs more c is in
    let nothing = count_none c.patterns.items none in
    omega (arith, all, nothing)

pub count_first : (here : Here) (cs : List Case) (c : Case) (m : MetCase) → cs ≡ c ∷ m.more.now → c.patterns.items ≡ m.pattern.now ∷ m.patterns.now
    → further_count (Alternative here m) < case_count (case_trees (map case_view cs))
count_first here cs c m is patterns =
    let all = count_begun cs m.more.now c is in
    let some : pattern_count (pattern_trees (pattern_views c.patterns.items)) ≡ suc (pattern_count (pattern_trees (pattern_views m.patterns.now))) =
    ap (λ (ps : List Pattern). pattern_count (pattern_trees (pattern_views ps))) patterns in
    omega (arith, all, some)
