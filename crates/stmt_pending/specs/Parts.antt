-- A part of a statement is refused first, and then the rest.
use Rattle.std.specs.Prelude.{◌≡◌, List, ◌++◌, Option}
use Rattle.std.proofs.Common.{ap, sym, ◌∙◌, append_assoc}
use Rattle.vdm_kinds.specs.declared.spec_fault.SpecFault.{SpecFault}
use Rattle.abstract_syntax.specs.Classes.{SpecTree}
use Rattle.abstract_syntax.specs.Expressions.{ExprTree, PatternTree}
use Rattle.expr_tree.specs.View.{view_of}
use Rattle.expr_tree.specs.declared.expr.Expr.{Expr}
use Rattle.form_meaning.specs.Forms.{FormTree}
use Rattle.class_checks.specs.Expressions.{check, givens}
use Rattle.class_checks.specs.Patterns.{pattern_faults}
use Rattle.class_checks.specs.Results.{Checked, gives, refusing, after, first_among}
use Rattle.class_checks.specs.Scopes.{ScopeTree, type_scope}
use Rattle.spec_checks.specs.Statements.{done, wanting}
use Rattle.spec_checks.specs.Targets.{StmtScope}
use Rattle.stmt_scopes.specs.Below.check_scopes.specs.Told.{told}
use Rattle.stmt_scopes.specs.Before.{before-givens, before-refusing, before-wanting, refused_before}
use Rattle.stmt_scopes.specs.Refused.{refused, refused_after, refused_refusing}

module _ (spec : SpecTree) where
  -- an expression in a box, whose form is known then
  pub refused_form : (scope : ScopeTree) (whole part : Expr) (form : FormTree) (first later : Option SpecFault) (next : FormTree → Checked)
      → part ≡ whole → told first (check spec scope (view_of part)) ≡ told later (gives form)
      → refused first (after (check spec scope (view_of whole)) next) ≡ refused later (next form)
  refused_form scope whole part form first later next same so =
      refused_after first later (check spec scope (view_of whole)) form next
      (ap (λ (e : Expr). told first (check spec scope (view_of e))) (sym same) ∙ so)

  -- an expression that has to meet a form
  pub refused_wanting : (scope : StmtScope) (wanted : FormTree) (e : ExprTree) (first later : Option SpecFault) (rest : Checked)
      → later ≡ first_among first (wanting spec scope wanted e done).refusals
      → refused first (wanting spec scope wanted e rest) ≡ refused later rest
  refused_wanting scope wanted e first later rest is =
      refused_before (wanting spec scope wanted e) (before-wanting spec scope wanted e) first later rest is

  -- a pattern: the names of its records, and then the expressions in brackets
  pub refused_pattern : (scope : ScopeTree) (p : PatternTree) (first later : Option SpecFault) (rest : Checked)
      → later ≡ first_among first (refusing (pattern_faults spec (type_scope scope) p) (givens spec scope p done)).refusals
      → refused first (refusing (pattern_faults spec (type_scope scope) p) (givens spec scope p rest)) ≡ refused later rest
  refused_pattern scope p first later rest is =
      refused_before (λ (r : Checked). refusing (pattern_faults spec (type_scope scope) p) (givens spec scope p r))
      (before-refusing (pattern_faults spec (type_scope scope) p) (givens spec scope p) (before-givens spec scope p)) first later rest is

-- two lists of refusals, one behind the other
pub refused_both : (first middle : Option SpecFault) (xs ys : List SpecFault) (rest : Checked) → middle ≡ first_among first xs
    → refused first (refusing (xs ++ ys) rest) ≡ refused middle (refusing ys rest)
refused_both first middle xs ys rest is =
    ap (first_among first) (append_assoc xs ys rest.refusals) ∙ refused_refusing first middle xs (refusing ys rest) is
