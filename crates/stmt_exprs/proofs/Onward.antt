-- Definitions, declarations and binds: what is checked of one, and what stands behind it.
use Rattle.std.specs.Prelude.{◌≡◌, List, [], ◌∷◌, Option, Some, None}
use Rattle.std.proofs.Common.{refl, ap}
use Rattle.abstract_syntax.specs.Expressions.{bind_in, ExprTree, MaybeExpr, PatternTrees, expr_place}
use Rattle.abstract_syntax.specs.Classes.{SpecTree}
use Rattle.abstract_syntax.specs.Statements.{LocalTree}
use Rattle.abstract_syntax.specs.Types.{TypeTree}
use Rattle.expr_tree.specs.View.{DefinedView, defined_trees}
use Rattle.form_meaning.specs.Forms.{FormTree}
use Rattle.class_checks.specs.Expressions.{bound_in, check, defined_in, definition_faults, givens, givens_each, inside_definition, set_faults, where_true}
use Rattle.class_checks.specs.Results.{Checked, after, refusing}
use Rattle.class_checks.specs.Scopes.{LocalForm, ScopeTree, inside, type_scope}
use Rattle.spec_checks.specs.Statements.{inside_names, locals_in, maybe_wanting, initial_in}
use Rattle.spec_checks.specs.Targets.{StmtScope, patterns_names}
use Rattle.class_checks.specs.TypeNames.{form_of, type_faults}
use Rattle.stmt_exprs.specs.Behind.{bind_then, found_then}
use Rattle.stmt_exprs.specs.Declaring.{with_local}

module _ (spec : SpecTree) where
  -- ---- definitions

  pub definitions_none : (scope : ScopeTree) (rest : ScopeTree → Checked) → defined_in spec scope (defined_trees []) rest ≡ rest scope
  unfolding check
  definitions_none scope rest = refl

  pub definitions_first : (scope : ScopeTree) (d : DefinedView) (ds : List DefinedView) (rest : ScopeTree → Checked)
      → defined_in spec scope (defined_trees (d ∷ ds)) rest
      ≡ defined_in spec scope (defined_trees (d ∷ [])) (λ (within : ScopeTree). defined_in spec within (defined_trees ds) rest)
  unfolding check
  definitions_first scope d ds rest = refl

  pub definition_begun : (scope : ScopeTree) (d : DefinedView) (rest : ScopeTree → Checked)
      → defined_in spec scope (defined_trees (d ∷ [])) rest
      ≡ after (check spec scope d.value) (λ (form : FormTree). refusing (definition_faults spec scope d.pattern d.declared (expr_place d.value) form)
      (givens spec scope d.pattern (rest (inside_definition spec scope d.pattern d.declared form))))
  unfolding check
  definition_begun scope d rest = refl

  -- ---- declarations

  pub locals_first : (scope : StmtScope) (l : LocalTree) (ls : List LocalTree) (rest : StmtScope → Checked)
      → locals_in spec scope (l ∷ ls) rest ≡ locals_in spec scope (l ∷ []) (λ (more : StmtScope). locals_in spec more ls rest)
  locals_first scope l ls rest = refl

  initial_wanted : (scope : StmtScope) (declared : TypeTree) (initial : Option ExprTree) (rest : Checked)
      → initial_in spec scope declared initial rest ≡ maybe_wanting spec scope (form_of spec (type_scope scope.within) declared) initial rest
  initial_wanted scope declared None rest = refl
  initial_wanted scope declared (Some e) rest = refl

  pub local_begun : (scope : StmtScope) (l : LocalTree) (rest : StmtScope → Checked)
      → locals_in spec scope (l ∷ []) rest
      ≡ refusing (type_faults spec (type_scope scope.within) l.declared)
      (maybe_wanting spec scope (form_of spec (type_scope scope.within) l.declared) l.initial
      (rest (with_local scope l.name (form_of spec (type_scope scope.within) l.declared))))
  local_begun scope l rest = ap (refusing (type_faults spec (type_scope scope.within) l.declared))
      (initial_wanted scope l.declared l.initial (rest (with_local scope l.name (form_of spec (type_scope scope.within) l.declared))))

  -- ---- binds

  pub found_begun : (scope : ScopeTree) (ps : PatternTrees) (set : ExprTree) (rest : List LocalForm → Checked)
      → found_then spec scope ps set rest
      ≡ after (check spec scope set) (λ (form : FormTree). refusing (set_faults spec scope ps (expr_place set) form)
      (givens_each spec scope ps (rest (bound_in spec scope [] ps form))))
  unfolding check
  found_begun scope ps set rest = refl

  pub bind_found : (scope : StmtScope) (ps : PatternTrees) (set : ExprTree) (condition : MaybeExpr) (rest : StmtScope → Checked)
      → bind_then spec scope (bind_in ps set) condition rest
      ≡ found_then spec scope.within ps set (λ (found : List LocalForm).
      where_true spec (inside scope.within found) condition (rest (inside_names scope found (patterns_names ps))))
  bind_found scope ps set condition rest = refl
