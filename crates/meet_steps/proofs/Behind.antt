-- The patterns that are left behind one, and how many there are.
use Rattle.std.proofs.Common.{◌≡◌, ℕ, ◌+◌, List, [], ◌∷◌, length, map, ap, sym, ◌∙◌, refl, rules, arith}
use Rattle.vdm_kinds.specs.declared.place.Place.{Place}
use Rattle.abstract_syntax.specs.Classes.{SpecTree}
use Rattle.abstract_syntax.specs.Statements.{StmtTree, MaybeStmt}
use Rattle.abstract_syntax.specs.Values.{ValueTree}
use Rattle.expr_tree.specs.View.{pattern_view, pattern_views, pattern_trees}
use Rattle.expr_tree.specs.declared.pattern.Pattern.{Pattern}
use Rattle.vdm_tree.specs.StmtView.{StmtCaseView, boxed_stmt, stmt_case_view, stmt_case_trees, stmt_view}
use Rattle.vdm_tree.specs.declared.stmt.StmtCase.{StmtCase, the_lemmas}
use Rattle.node_meaning.specs.Envs.{Locals, Here}
use Rattle.node_meaning.specs.Matching.{meets}
use Rattle.node_meaning.specs.Tasks.{Code}
use Rattle.stmt_meaning.specs.Blocks.{alternatives, one_met}
use Rattle.stmt_meaning.specs.Flows.{stmt_within}
use Rattle.step_data.specs.Meetings.{cases_left}
use Rattle.meet_steps.specs.Onwards.{case_count, pattern_count}

-- the tree of an alternative, by its parts
case_parts : (c : StmtCase) → stmt_case_view c ≡ record { patterns = pattern_views c.patterns.items; body = stmt_view c.body.value }
case_parts c = search (rules, the_lemmas)

-- ---- alternatives

module _ (spec : SpecTree) (here : Here) (place : Place) (v : ValueTree) (others : MaybeStmt) (count : ℕ) (locals : Locals) where
  -- the first of them by its parts
  cases_begun : (cs more : List StmtCase) (c : StmtCase) → cs ≡ c ∷ more
      → alternatives spec here place count (cases_left cs) others v locals
      ≡ one_met spec here place v (pattern_trees (pattern_views c.patterns.items)) (stmt_within here count (boxed_stmt c.body))
      (alternatives spec here place count (cases_left more) others v) locals
  cases_begun cs more c is =
      ap (λ (xs : List StmtCase). alternatives spec here place count (cases_left xs) others v locals) is
      ∙ ap (λ (w : StmtCaseView). alternatives spec here place count (stmt_case_trees (w ∷ map stmt_case_view more)) others v locals) (case_parts c)

  no_pattern : (ps : List Pattern) (matched more : Locals → Code) → length ps ≡ 0
      → one_met spec here place v (pattern_trees (pattern_views ps)) matched more locals ≡ more locals
  no_pattern [] matched more none = refl
  no_pattern (p ∷ ps) matched more none = absurd (omega (arith, none))

  -- one without patterns is passed over
  pub cases_passed : (cs more : List StmtCase) (c : StmtCase) → cs ≡ c ∷ more → length c.patterns.items ≡ 0
      → alternatives spec here place count (cases_left cs) others v locals ≡ alternatives spec here place count (cases_left more) others v locals
  cases_passed cs more c is none =
      cases_begun cs more c is
      ∙ no_pattern c.patterns.items (stmt_within here count (boxed_stmt c.body)) (alternatives spec here place count (cases_left more) others v) none

  -- the first pattern of the first alternative
  pub cases_first : (cs more : List StmtCase) (c : StmtCase) (p : Pattern) (ps : List Pattern) (body : StmtTree) → cs ≡ c ∷ more
      → c.patterns.items ≡ p ∷ ps → body ≡ boxed_stmt c.body
      → alternatives spec here place count (cases_left cs) others v locals
      ≡ meets spec here place (pattern_view p) (stmt_within here count body)
      (one_met spec here place v (pattern_trees (pattern_views ps)) (stmt_within here count body) (alternatives spec here place count (cases_left more) others v)) v locals
  cases_first cs more c p ps body is patterns same =
      cases_begun cs more c is
      ∙ ap (λ (xs : List Pattern). one_met spec here place v (pattern_trees (pattern_views xs)) (stmt_within here count (boxed_stmt c.body)) (alternatives spec here place count (cases_left more) others v) locals) patterns
      ∙ ap (λ (s : StmtTree). one_met spec here place v (pattern_trees (pattern_views (p ∷ ps))) (stmt_within here count s) (alternatives spec here place count (cases_left more) others v) locals) (sym same)

-- ---- how many are left

count_begun : (cs more : List StmtCase) (c : StmtCase) → cs ≡ c ∷ more
    → case_count (cases_left cs) ≡ pattern_count (pattern_trees (pattern_views c.patterns.items)) + case_count (cases_left more)
count_begun cs more c is =
    ap (λ (xs : List StmtCase). case_count (cases_left xs)) is
    ∙ ap (λ (w : StmtCaseView). case_count (stmt_case_trees (w ∷ map stmt_case_view more))) (case_parts c)

count_none : (ps : List Pattern) → length ps ≡ 0 → pattern_count (pattern_trees (pattern_views ps)) ≡ 0
count_none [] none = refl
count_none (p ∷ ps) none = absurd (omega (arith, none))

pub count_passed : (cs more : List StmtCase) (c : StmtCase) → cs ≡ c ∷ more → length c.patterns.items ≡ 0
    → case_count (cases_left cs) ≡ case_count (cases_left more)
count_passed cs more c is none =
    let all = count_begun cs more c is in
    let nothing = count_none c.patterns.items none in
    omega (arith, all, nothing)
