-- What is told of an expression that has to meet a form.
use Rattle.std.specs.Prelude.{◌≡◌, [], Option}
use Rattle.std.proofs.Common.{refl, ap, sym, ◌∙◌}
use Rattle.vdm_kinds.specs.declared.place.Place.{Place}
use Rattle.vdm_kinds.specs.declared.spec_fault.SpecFault.{SpecFault}
use Rattle.abstract_syntax.specs.Classes.{SpecTree}
use Rattle.abstract_syntax.specs.Expressions.{ExprTree, left_out, given_expr, expr_place}
use Rattle.form_meaning.specs.Forms.{FormTree}
use Rattle.class_checks.specs.Expressions.{check, want_faults, where_true}
use Rattle.class_checks.specs.Operators.{truth}
use Rattle.class_checks.specs.Results.{Checked, after, first_among, gives, refusing}
use Rattle.class_checks.specs.Scopes.{ScopeTree}
use Rattle.spec_checks.specs.Statements.{done}
use Rattle.stmt_scopes.specs.Below.check_scopes.specs.Told.{told, first_among-++}
use Rattle.stmt_scopes.specs.Refused.{refused, refused_after}

module _ (spec : SpecTree) (scope : ScopeTree) where
  -- the expression, and then what its form has to meet
  abbrev pub wanted_in : FormTree → ExprTree → Checked
  wanted_in wanted e = after (check spec scope e) (λ (form : FormTree). refusing (want_faults spec wanted (expr_place e) form) done)

  pub wanted_told : (wanted : FormTree) (e : ExprTree) (place : Place) (form : FormTree) (first middle later : Option SpecFault)
      → told first (check spec scope e) ≡ told middle (gives form) → place ≡ expr_place e
      → later ≡ first_among middle (want_faults spec wanted place form) → later ≡ refused first (wanted_in wanted e)
  wanted_told wanted e place form first middle later so at noted =
      noted
      ∙ ap (λ (p : Place). first_among middle (want_faults spec wanted p form)) at
      ∙ sym (first_among-++ middle (want_faults spec wanted (expr_place e) form) [])
      ∙ sym (refused_after first middle (check spec scope e) form (λ (f : FormTree). refusing (want_faults spec wanted (expr_place e) f) done) so)

  -- ---- conditions

  pub no_condition : (rest : Checked) → where_true spec scope left_out rest ≡ rest
  unfolding check
  no_condition rest = refl

  pub condition_wanted : (e : ExprTree) → where_true spec scope (given_expr e) done ≡ wanted_in truth e
  unfolding check
  condition_wanted e = refl
