-- What is told of a definition, a declaration or a bind, and of the rest, inside what it binds.
use Rattle.std.specs.Prelude.{◌≡◌, List, [], ◌∷◌, Option}
use Rattle.std.proofs.Common.{ap, sym, ◌∙◌}
use Rattle.vdm_kinds.specs.declared.place.Place.{Place}
use Rattle.vdm_kinds.specs.declared.spec_fault.SpecFault.{SpecFault}
use Rattle.abstract_syntax.specs.Classes.{SpecTree}
use Rattle.abstract_syntax.specs.Expressions.{ExprTree, MaybeExpr, PatternTrees, bind_in, expr_place}
use Rattle.abstract_syntax.specs.Statements.{LocalTree}
use Rattle.expr_tree.specs.View.{DefinedView, defined_trees}
use Rattle.form_meaning.specs.Forms.{FormTree}
use Rattle.class_checks.specs.Expressions.{bound_in, check, defined_in, definition_faults, givens, givens_each, inside_definition, set_faults, where_true}
use Rattle.class_checks.specs.Results.{Checked, first_among, gives, refusing}
use Rattle.class_checks.specs.Scopes.{LocalForm, ScopeTree, type_scope}
use Rattle.class_checks.specs.TypeNames.{form_of, type_faults}
use Rattle.spec_checks.specs.Statements.{done, locals_in, maybe_wanting, moved}
use Rattle.spec_checks.specs.Targets.{StmtScope, patterns_names}
use Rattle.stmt_scopes.specs.Below.check_scopes.specs.Told.{told}
use Rattle.stmt_scopes.specs.Before.{before-givens, before-givens_each, before-maybe_wanting, before-where_true, refused_before}
use Rattle.stmt_scopes.specs.Refused.{refused, refused_after, refused_refusing}
use Rattle.stmt_exprs.specs.Behind.{bind_then, found_then, inside_then}
use Rattle.stmt_exprs.specs.Declaring.{with_local}
use Rattle.stmt_exprs.proofs.Onward.{bind_found, definition_begun, found_begun, local_begun}

module _ (spec : SpecTree) where
  pub definition_told : (scope within : ScopeTree) (d : DefinedView) (place : Place) (form : FormTree) (first valued faulted later : Option SpecFault)
      (rest : ScopeTree → Checked)
      → told first (check spec scope d.value) ≡ told valued (gives form) → place ≡ expr_place d.value
      → faulted ≡ first_among valued (definition_faults spec scope d.pattern d.declared place form)
      → later ≡ first_among faulted (givens spec scope d.pattern done).refusals
      → within ≡ inside_definition spec scope d.pattern d.declared form
      → refused first (defined_in spec scope (defined_trees (d ∷ [])) rest) ≡ refused later (rest within)
  definition_told scope within d place form first valued faulted later rest so at faults given is =
      let bound : ScopeTree = inside_definition spec scope d.pattern d.declared form in
      ap (refused first) (definition_begun spec scope d rest)
      ∙ refused_after first valued (check spec scope d.value) form
      (λ (f : FormTree). refusing (definition_faults spec scope d.pattern d.declared (expr_place d.value) f)
      (givens spec scope d.pattern (rest (inside_definition spec scope d.pattern d.declared f)))) so
      ∙ refused_refusing valued faulted (definition_faults spec scope d.pattern d.declared (expr_place d.value) form) (givens spec scope d.pattern (rest bound))
      (faults ∙ ap (λ (p : Place). first_among valued (definition_faults spec scope d.pattern d.declared p form)) at)
      ∙ refused_before (givens spec scope d.pattern) (before-givens spec scope d.pattern) faulted later (rest bound) given
      ∙ ap (λ (s : ScopeTree). refused later (rest s)) (sym is)

  pub local_told : (scope more : StmtScope) (l : LocalTree) (form : FormTree) (first typed later : Option SpecFault) (rest : StmtScope → Checked)
      → typed ≡ first_among first (type_faults spec (type_scope scope.within) l.declared)
      → form ≡ form_of spec (type_scope scope.within) l.declared
      → later ≡ first_among typed (maybe_wanting spec scope form l.initial done).refusals
      → more ≡ with_local scope l.name form
      → refused first (locals_in spec scope (l ∷ []) rest) ≡ refused later (rest more)
  local_told scope more l form first typed later rest faults known wanted is =
      let declared : FormTree = form_of spec (type_scope scope.within) l.declared in
      ap (refused first) (local_begun spec scope l rest)
      ∙ refused_refusing first typed (type_faults spec (type_scope scope.within) l.declared)
      (maybe_wanting spec scope declared l.initial (rest (with_local scope l.name declared))) faults
      ∙ ap (λ (f : FormTree). refused typed (maybe_wanting spec scope f l.initial (rest (with_local scope l.name f)))) (sym known)
      ∙ refused_before (maybe_wanting spec scope form l.initial) (before-maybe_wanting spec scope form l.initial) typed later (rest (with_local scope l.name form)) wanted
      ∙ ap (λ (s : StmtScope). refused later (rest s)) (sym is)

  pub found_told : (scope : ScopeTree) (ps : PatternTrees) (set : ExprTree) (place : Place) (form : FormTree) (all : List LocalForm)
      (first valued faulted later : Option SpecFault) (rest : List LocalForm → Checked)
      → told first (check spec scope set) ≡ told valued (gives form) → place ≡ expr_place set
      → faulted ≡ first_among valued (set_faults spec scope ps place form)
      → later ≡ first_among faulted (givens_each spec scope ps done).refusals
      → all ≡ bound_in spec scope [] ps form
      → refused first (found_then spec scope ps set rest) ≡ refused later (rest all)
  found_told scope ps set place form all first valued faulted later rest so at faults given is =
      let bound : List LocalForm = bound_in spec scope [] ps form in
      ap (refused first) (found_begun spec scope ps set rest)
      ∙ refused_after first valued (check spec scope set) form
      (λ (f : FormTree). refusing (set_faults spec scope ps (expr_place set) f) (givens_each spec scope ps (rest (bound_in spec scope [] ps f)))) so
      ∙ refused_refusing valued faulted (set_faults spec scope ps (expr_place set) form) (givens_each spec scope ps (rest bound))
      (faults ∙ ap (λ (p : Place). first_among valued (set_faults spec scope ps p form)) at)
      ∙ refused_before (givens_each spec scope ps) (before-givens_each spec scope ps) faulted later (rest bound) given
      ∙ ap (λ (found : List LocalForm). refused later (rest found)) (sym is)

  -- a bind, its condition, and the rest, which stands inside
  pub bind_told : (scope more : StmtScope) (within : ScopeTree) (ps : PatternTrees) (set : ExprTree) (condition : MaybeExpr)
      (first found later : Option SpecFault) (rest : StmtScope → Checked)
      → ((r : ScopeTree → Checked) → refused first (inside_then spec scope.within ps set r) ≡ refused found (r within))
      → later ≡ first_among found (where_true spec within condition done).refusals
      → more ≡ moved scope within (patterns_names ps)
      → refused first (bind_then spec scope (bind_in ps set) condition rest) ≡ refused later (rest more)
  bind_told scope more within ps set condition first found later rest told_so held is =
      ap (refused first) (bind_found spec scope ps set condition rest)
      ∙ told_so (λ (s : ScopeTree). where_true spec s condition (rest (moved scope s (patterns_names ps))))
      ∙ refused_before (where_true spec within condition) (before-where_true spec within condition) found later
      (rest (moved scope within (patterns_names ps))) held
      ∙ ap (λ (s : StmtScope). refused later (rest s)) (sym is)
