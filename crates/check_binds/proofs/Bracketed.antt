-- What comes behind patterns, by the expressions in brackets in them.
use Rattle.std.specs.Prelude.{◌≡◌, List, []}
use Rattle.std.proofs.Common.{ap, ◌∙◌}
use Rattle.abstract_syntax.specs.Expressions.{BindTrees, ExprTree, PatternTree, PatternTrees, given_expr}
use Rattle.form_meaning.specs.Forms.{FormTree}
use Rattle.class_checks.specs.Expressions.{bound_by, bound_in, where_true}
use Rattle.class_checks.specs.Patterns.{binds, elements_of}
use Rattle.class_checks.specs.Results.{gives}
use Rattle.class_checks.specs.Scopes.{LocalForm, Locals, ScopeTree, all_bound, inside, type_scope}
use Rattle.check_steps.specs.Below.check_scopes.specs.Told.{scope_at, spec_in}
use Rattle.check_steps.specs.Below.check_scopes.specs.declared.setting.Setting.{Setting}
use Rattle.check_steps.specs.Below.check_patterns.specs.Givens.{given_in, given_in_each}
use Rattle.check_steps.specs.Below.check_frames.specs.Meant.{after_check, bound_behind, givens_check, goal_check, inside_of, iota_bound}
use Rattle.check_steps.specs.Below.check_frames.specs.declared.after.After.{After}
use Rattle.check_steps.specs.Below.check_frames.specs.declared.after.Goal.{Goal}
use Rattle.check_steps.specs.Below.check_frames.specs.declared.inside.Inside.{Inside}
use Rattle.check_steps.specs.Scoped.{givens_first}
use Rattle.check_binds.specs.Behind.{pattern_then}

module _ (setting : Setting) (locals : Locals) where
  -- further binds
  pub bound_first : (patterns : PatternTrees) (found all : List LocalForm) (more : BindTrees) (within : Inside) (form : FormTree) (names : Locals)
      (es : List ExprTree) (behind : After) → es ≡ given_in_each patterns
      → all ≡ bound_in (spec_in setting) (scope_at setting locals) found patterns form → names ≡ locals
      → after_check setting behind ≡ bound_by (spec_in setting) (scope_at setting names) all more (inside_of setting (scope_at setting names) within)
      → bound_behind setting (scope_at setting locals) found patterns more within form ≡ givens_check setting (scope_at setting locals) es behind
  unfolding bound_behind
  bound_first patterns found all more within form names es behind e known same is =
      givens_first setting (scope_at setting locals) (given_in_each patterns) es _ behind e
      (is ∙ (λ i. bound_by (spec_in setting) (scope_at setting (same i)) (known i) more (inside_of setting (scope_at setting (same i)) within)))

  -- the condition of an `iota`
  pub iota_first : (patterns : PatternTrees) (found : List LocalForm) (condition : ExprTree) (form elements : FormTree) (names : Locals)
      (es : List ExprTree) (behind : After) → es ≡ given_in_each patterns → elements ≡ elements_of (spec_in setting) form
      → found ≡ bound_in (spec_in setting) (scope_at setting locals) [] patterns form → names ≡ all_bound found locals
      → after_check setting behind ≡ where_true (spec_in setting) (scope_at setting names) (given_expr condition) (gives elements)
      → iota_bound setting (scope_at setting locals) patterns condition form ≡ givens_check setting (scope_at setting locals) es behind
  unfolding iota_bound
  iota_first patterns found condition form elements names es behind e parts known bound is =
      givens_first setting (scope_at setting locals) (given_in_each patterns) es _ behind e
      (is
      ∙ (λ i. where_true (spec_in setting) (scope_at setting (bound i)) (given_expr condition) (gives (parts i)))
      ∙ (λ i. where_true (spec_in setting) (scope_at setting (all_bound (known i) locals)) (given_expr condition) (gives (elements_of (spec_in setting) form))))

  -- one pattern
  pub pattern_first : (pattern : PatternTree) (form : FormTree) (rest : Goal) (within : ScopeTree) (es : List ExprTree) (behind : After)
      → es ≡ given_in pattern
      → within ≡ inside (scope_at setting locals) (binds (spec_in setting) (type_scope (scope_at setting locals)) form pattern)
      → after_check setting behind ≡ goal_check setting within rest
      → pattern_then setting (scope_at setting locals) pattern form rest ≡ givens_check setting (scope_at setting locals) es behind
  unfolding pattern_then
  pattern_first pattern form rest within es behind e known is =
      givens_first setting (scope_at setting locals) (given_in pattern) es _ behind e (is ∙ ap (λ (w : ScopeTree). goal_check setting w rest) known)
