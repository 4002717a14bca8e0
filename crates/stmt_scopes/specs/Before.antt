-- Checks whose refusals come before those of the rest.
use Rattle.std.specs.Prelude.{◌≡◌, List, [], ◌∷◌, ◌++◌, Option, Some, None}
use Rattle.std.proofs.Common.{refl, ap, sym, ◌∙◌, append_assoc}
use Rattle.vdm_kinds.specs.declared.spec_fault.SpecFault.{SpecFault}
use Rattle.abstract_syntax.specs.Classes.{SpecTree}
use Rattle.abstract_syntax.specs.Expressions.{ExprTree, MaybeExpr, left_out, given_expr, PatternTree, PatternTrees, expr_place}
use Rattle.form_meaning.specs.Forms.{FormTree}
use Rattle.class_checks.specs.Expressions.{check, givens, givens_each, want_faults, where_true}
use Rattle.class_checks.specs.Operators.{truth}
use Rattle.class_checks.specs.Results.{Checked, refusing, after, first_among}
use Rattle.class_checks.specs.Scopes.{ScopeTree}
use Rattle.spec_checks.specs.Statements.{done, maybe_wanting, wanting}
use Rattle.spec_checks.specs.Targets.{StmtScope}
use Rattle.check_frames.specs.Below.check_scopes.specs.Told.{first_among-++}
use Rattle.check_frames.specs.Below.check_patterns.specs.Givens.{given_in, given_in_each, givens_list, givens-listed, givens_each-listed}
use Rattle.stmt_scopes.specs.Refused.{refused}

-- what is refused in the part comes first, and then what is refused in the rest
abbrev pub IsBefore : (Checked → Checked) → Type 0
IsBefore part = (rest : Checked) → (part rest).refusals ≡ (part done).refusals ++ rest.refusals

pub refused_before : (part : Checked → Checked) → IsBefore part → (first later : Option SpecFault) (rest : Checked)
    → later ≡ first_among first (part done).refusals → refused first (part rest) ≡ refused later rest
refused_before part is first later rest e =
    ap (first_among first) (is rest)
    ∙ first_among-++ first (part done).refusals rest.refusals
    ∙ ap (λ (f : Option SpecFault). first_among f rest.refusals) (sym e)

pub before-nothing : IsBefore (λ (rest : Checked). rest)
before-nothing rest = refl

pub before-refusing : (refusals : List SpecFault) (part : Checked → Checked) → IsBefore part → IsBefore (λ (rest : Checked). refusing refusals (part rest))
before-refusing refusals part is rest =
    ap (λ (more : List SpecFault). refusals ++ more) (is rest) ∙ sym (append_assoc refusals (part done).refusals rest.refusals)

pub before-after : (first : Checked) (part : FormTree → Checked → Checked) → ((form : FormTree) → IsBefore (part form))
    → IsBefore (λ (rest : Checked). after first (λ (form : FormTree). part form rest))
unfolding after
before-after first part is rest =
    ap (λ (more : List SpecFault). first.refusals ++ more) (is first.form rest)
    ∙ sym (append_assoc first.refusals (part first.form done).refusals rest.refusals)

-- two parts, one behind the other
pub before-then : (first second : Checked → Checked) → IsBefore first → IsBefore second → IsBefore (λ (rest : Checked). first (second rest))
before-then first second is then_is rest =
    is (second rest)
    ∙ ap (λ (more : List SpecFault). (first done).refusals ++ more) (then_is rest)
    ∙ sym (append_assoc (first done).refusals (second done).refusals rest.refusals)
    ∙ ap (λ (before : List SpecFault). before ++ rest.refusals) (sym (is (second done)))

-- of equal parts
pub before-same : (part other : Checked → Checked) → ((rest : Checked) → part rest ≡ other rest) → IsBefore other → IsBefore part
before-same part other same is rest =
    ap (λ (c : Checked). c.refusals) (same rest)
    ∙ is rest
    ∙ ap (λ (c : Checked). c.refusals ++ rest.refusals) (sym (same done))

module _ (spec : SpecTree) where
  pub before-wanting : (scope : StmtScope) (wanted : FormTree) (e : ExprTree) → IsBefore (wanting spec scope wanted e)
  before-wanting scope wanted e =
      before-after (check spec scope.within e) (λ (form : FormTree) (rest : Checked). refusing (want_faults spec wanted (expr_place e) form) rest)
      (λ form. before-refusing (want_faults spec wanted (expr_place e) form) (λ (rest : Checked). rest) before-nothing)

  pub before-maybe_wanting : (scope : StmtScope) (wanted : FormTree) (e : Option ExprTree) → IsBefore (maybe_wanting spec scope wanted e)
  before-maybe_wanting scope wanted None = before-nothing
  before-maybe_wanting scope wanted (Some e) = before-wanting scope wanted e

  pub before-where_true : (scope : ScopeTree) (condition : MaybeExpr) → IsBefore (where_true spec scope condition)
  unfolding check
  before-where_true scope left_out = before-nothing
  before-where_true scope (given_expr condition) =
      before-after (check spec scope condition) (λ (form : FormTree) (rest : Checked). refusing (want_faults spec truth (expr_place condition) form) rest)
      (λ form. before-refusing (want_faults spec truth (expr_place condition) form) (λ (rest : Checked). rest) before-nothing)

  pub before-givens_list : (scope : ScopeTree) (es : List ExprTree) → IsBefore (givens_list spec scope es)
  before-givens_list scope [] = before-nothing
  before-givens_list scope (e ∷ es) =
      before-after (check spec scope e) (λ (form : FormTree) (rest : Checked). givens_list spec scope es rest) (λ form. before-givens_list scope es)

  pub before-givens : (scope : ScopeTree) (p : PatternTree) → IsBefore (givens spec scope p)
  before-givens scope p =
      before-same (givens spec scope p) (givens_list spec scope (given_in p)) (givens-listed spec scope p) (before-givens_list scope (given_in p))

  pub before-givens_each : (scope : ScopeTree) (ps : PatternTrees) → IsBefore (givens_each spec scope ps)
  before-givens_each scope ps =
      before-same (givens_each spec scope ps) (givens_list spec scope (given_in_each ps)) (givens_each-listed spec scope ps)
      (before-givens_list scope (given_in_each ps))
