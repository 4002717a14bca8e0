-- What is refused of an expression that has to meet a form.
use Rattle.std.specs.Prelude.{◌≡◌, Option}
use Rattle.std.proofs.Common.{ap, sym, ◌∙◌}
use Rattle.vdm_kinds.specs.declared.place.Place.{Place}
use Rattle.vdm_kinds.specs.declared.spec_fault.SpecFault.{SpecFault}
use Rattle.abstract_syntax.specs.Classes.{SpecTree}
use Rattle.abstract_syntax.specs.Expressions.{expr_place}
use Rattle.expr_tree.specs.View.{view_of}
use Rattle.expr_tree.specs.declared.expr.Expr.{Expr}
use Rattle.form_meaning.specs.Forms.{FormTree}
use Rattle.class_checks.specs.Expressions.{check, want_faults}
use Rattle.class_checks.specs.Results.{first_among, gives}
use Rattle.class_checks.specs.Scopes.{ScopeTree}
use Rattle.definition_scopes.specs.Below.check_scopes.specs.Told.{Told, told, first_among-++}
use Rattle.part_checks.specs.Wanting.{wanted_in}

-- the expression is checked first, and its form is what has to meet the other
pub wanted_told : (spec : SpecTree) (scope : ScopeTree) (wanted : FormTree) (whole part other : Expr) (place : Place) (form : FormTree)
    (old middle later : Option SpecFault) → part ≡ whole → other ≡ whole
    → told old (check spec scope (view_of part)) ≡ told middle (gives form) → place ≡ expr_place (view_of other)
    → later ≡ first_among middle (want_faults spec wanted place form)
    → later ≡ first_among old (wanted_in spec scope wanted (view_of whole))
wanted_told spec scope wanted whole part other place form old middle later same same_too so at noted =
    let form_is : form ≡ (check spec scope (view_of whole)).form = sym (ap (λ (t : Told). t.form) so) ∙ ap (λ (e : Expr). (check spec scope (view_of e)).form) same in
    let first_is : middle ≡ first_among old (check spec scope (view_of whole)).refusals =
    sym (ap (λ (t : Told). t.first) so) ∙ ap (λ (e : Expr). first_among old (check spec scope (view_of e)).refusals) same in
    let place_is : place ≡ expr_place (view_of whole) = at ∙ ap (λ (e : Expr). expr_place (view_of e)) same_too in
    noted
    ∙ (λ i. first_among (first_is i) (want_faults spec wanted (place_is i) (form_is i)))
    ∙ sym (first_among-++ old (check spec scope (view_of whole)).refusals (want_faults spec wanted (expr_place (view_of whole)) (check spec scope (view_of whole)).form))
