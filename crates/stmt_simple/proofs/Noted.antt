-- What is noted of the parts of a statement is what the statement is refused by.
use Rattle.std.specs.Prelude.{◌≡◌, List, Option, Some, Result, Ok, Err, OnOk}
use Rattle.std.proofs.Common.{ap, sym, ◌∙◌, append-nil}
use Rattle.vdm_kinds.specs.declared.place.Place.{Place}
use Rattle.vdm_kinds.specs.declared.spec_fault.SpecFault.{SpecFault}
use Rattle.abstract_syntax.specs.Classes.{SpecTree}
use Rattle.abstract_syntax.specs.Expressions.{ExprTree, expr_place}
use Rattle.abstract_syntax.specs.Statements.{exits}
use Rattle.expr_tree.specs.View.{view_of}
use Rattle.expr_tree.specs.declared.expr.Expr.{Expr}
use Rattle.form_meaning.specs.Forms.{FormTree}
use Rattle.class_checks.specs.Expressions.{check}
use Rattle.class_checks.specs.Results.{Checked, gives, refusing, after, first_among}
use Rattle.spec_checks.specs.Statements.{check_stmt, done}
use Rattle.spec_checks.specs.Targets.{StmtScope}
use Rattle.stmt_targets.specs.Below.check_scopes.specs.Told.{told}
use Rattle.stmt_targets.specs.Below.stmt_scopes.specs.Refused.{refused, refused_after, refused_refusing}

-- what is refused of the form of a value, behind what is refused in it
abbrev pub value_check : SpecTree → StmtScope → (Place → FormTree → List SpecFault) → ExprTree → Checked
value_check spec scope faults e = after (check spec scope.within e) (λ (form : FormTree). refusing (faults (expr_place e) form) done)

-- the value stands in a box
pub noted_value : (spec : SpecTree) (scope : StmtScope) (faults : Place → FormTree → List SpecFault) (whole part : Expr) (place : Place) (form : FormTree)
    (first middle later : Option SpecFault) (statement : Checked) → part ≡ whole → place ≡ expr_place (view_of whole)
    → told first (check spec scope.within (view_of part)) ≡ told middle (gives form)
    → later ≡ first_among middle (faults place form)
    → statement ≡ value_check spec scope faults (view_of whole)
    → later ≡ refused first statement
noted_value spec scope faults whole part place form first middle later statement same at so noted begun =
    let told_so : told first (check spec scope.within (view_of whole)) ≡ told middle (gives form) =
    ap (λ (e : Expr). told first (check spec scope.within (view_of e))) (sym same) ∙ so in
    let noted_there : later ≡ first_among middle (faults (expr_place (view_of whole)) form) =
    noted ∙ ap (λ (p : Place). first_among middle (faults p form)) at in
    sym (ap (refused first) begun
    ∙ refused_after first middle (check spec scope.within (view_of whole)) form
    (λ (f : FormTree). refusing (faults (expr_place (view_of whole)) f) done) told_so
    ∙ refused_refusing middle later (faults (expr_place (view_of whole)) form) done noted_there)

-- these are refused, and then the rest
pub noted_rest : {A E : Type 0} (r : Result A E) (first middle later : Option SpecFault) (faults : List SpecFault) (statement rest : Checked)
    → statement ≡ refusing faults rest → middle ≡ first_among first faults → OnOk r (later ≡ refused middle rest) → OnOk r (later ≡ refused first statement)
noted_rest (Ok a) first middle later faults statement rest begun e h =
    h ∙ sym (ap (refused first) begun ∙ refused_refusing first middle faults rest e)
noted_rest (Err f) first middle later faults statement rest begun e h = h

-- of the same refusals the same is the first
pub noted_same : {A E : Type 0} (r : Result A E) (first later : Option SpecFault) (statement other : Checked) → statement.refusals ≡ other.refusals
    → OnOk r (later ≡ refused first other) → OnOk r (later ≡ refused first statement)
noted_same (Ok a) first later statement other e h = h ∙ ap (first_among first) (sym e)
noted_same (Err f) first later statement other e h = h

-- an exit is refused by what is refused in its value
pub exit_value : (spec : SpecTree) (scope : StmtScope) (value : ExprTree) (place : Place)
    → (check_stmt spec scope (exits (Some value) place)).refusals ≡ (check spec scope.within value).refusals
unfolding after check_stmt
exit_value spec scope value place = append-nil (check spec scope.within value).refusals
