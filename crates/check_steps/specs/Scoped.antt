-- What is checked where names are bound, by the locals that hold them; and behind patterns, by the expressions in brackets in them.
use Rattle.std.specs.Prelude.{◌≡◌, List}
use Rattle.std.proofs.Common.{ap, sym, ◌∙◌}
use Rattle.abstract_syntax.specs.Expressions.{ExprTree}
use Rattle.expr_tree.specs.View.{CaseView, pattern_trees}
use Rattle.form_meaning.specs.Forms.{FormTree}
use Rattle.class_checks.specs.Patterns.{bindings_of, scopes_behind}
use Rattle.class_checks.specs.Results.{Checked}
use Rattle.class_checks.specs.Scopes.{LocalForm, Locals, ScopeTree, all_bound, type_scope}
use Rattle.check_calls.specs.Below.check_scopes.specs.Told.{scope_at, spec_in}
use Rattle.check_calls.specs.Below.check_scopes.specs.declared.setting.Setting.{Setting}
use Rattle.check_frames.specs.Below.check_patterns.specs.Givens.{given_in_each, givens_list}
use Rattle.check_frames.specs.Meant.{after_check, case_behind, givens_check, inside_check, inside_of, values_in}
use Rattle.check_frames.specs.declared.after.After.{After}
use Rattle.check_frames.specs.declared.cases.Cases.{Cases}
use Rattle.check_frames.specs.declared.inside.Inside.{Inside}

pub inside_found : (setting : Setting) (within : Inside) (found : List LocalForm) (locals all : Locals) → all ≡ all_bound found locals
    → inside_of setting (scope_at setting locals) within found ≡ inside_check setting (scope_at setting all) within
unfolding inside_of
inside_found setting within found locals all is = ap (λ (names : Locals). inside_check setting (scope_at setting names) within) (sym is)

-- what stands in brackets comes first, and then the rest
pub givens_first : (setting : Setting) (scope : ScopeTree) (given es : List ExprTree) (rest : Checked) (behind : After) → es ≡ given
    → after_check setting behind ≡ rest
    → givens_list (spec_in setting) scope given rest ≡ givens_check setting scope es behind
unfolding givens_check
givens_first setting scope given es rest behind e is = λ i. givens_list (spec_in setting) scope (sym e i) (sym is i)

-- the patterns of an alternative, whose scopes are these
pub case_first : (setting : Setting) (locals names : Locals) (known : FormTree) (case : CaseView) (all : Cases) (scopes : List ScopeTree)
    (es : List ExprTree) (behind : After) → es ≡ given_in_each (pattern_trees case.patterns)
    → scopes ≡ scopes_behind (scope_at setting locals)
    (bindings_of (spec_in setting) (type_scope (scope_at setting locals)) all.form (pattern_trees case.patterns))
    → names ≡ locals
    → after_check setting behind ≡ values_in setting (scope_at setting names) known case.value scopes all
    → case_behind setting (scope_at setting locals) known case all ≡ givens_check setting (scope_at setting locals) es behind
unfolding case_behind
case_first setting locals names known case all scopes es behind e found same is =
    givens_first setting (scope_at setting locals) (given_in_each (pattern_trees case.patterns)) es _ behind e
    (is ∙ (λ i. values_in setting (scope_at setting (same i)) known case.value (found i) all))
