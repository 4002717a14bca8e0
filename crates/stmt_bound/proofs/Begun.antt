-- The check of each kind of statement that binds or declares names for others, by what comes first of it.
use Rattle.std.specs.Prelude.{◌≡◌, ◌∷◌, [], ◌++◌, List, Option}
use Rattle.std.proofs.Common.{refl, sym, append-nil}
use Rattle.vdm_kinds.specs.declared.name.Name.{Name}
use Rattle.vdm_kinds.specs.declared.place.Place.{Place}
use Rattle.abstract_syntax.specs.Expressions.{BindTree, DefinedTrees, ExprTree, PatternTree, expr_place, no_patterns, one_pattern}
use Rattle.abstract_syntax.specs.Classes.{SpecTree}
use Rattle.abstract_syntax.specs.Statements.{DclTree, StmtTree, StmtTrees, block, def_then, for_numbers, for_sequence, for_set, let_be_then, let_then, trap_exit}
use Rattle.form_meaning.specs.Forms.{FormTree, any_form}
use Rattle.class_checks.specs.Expressions.{bound_in, check, defined_in, givens, set_faults, want_faults}
use Rattle.class_checks.specs.Operators.{any_sequence, number}
use Rattle.class_checks.specs.Patterns.{items_of, pattern_faults}
use Rattle.class_checks.specs.Results.{after, refusing}
use Rattle.class_checks.specs.Scopes.{ScopeTree, type_scope}
use Rattle.spec_checks.specs.Statements.{check_stmt, check_stmts, dcls_in, inside_names, inside_pattern, maybe_of, maybe_wanting, moved, wanting}
use Rattle.spec_checks.specs.Targets.{StmtScope, defined_names, pattern_names}
use Rattle.stmt_exprs.specs.Behind.{bind_then, set_then}

module _ (spec : SpecTree) (scope : StmtScope) where
  pub block_begun : (locals : List DclTree) (stmts : StmtTrees) (place : Place)
      → check_stmt spec scope (block locals stmts place) ≡ dcls_in spec scope locals (λ (within : StmtScope). check_stmts spec within stmts)
  unfolding check_stmt
  block_begun locals stmts place = refl

  pub let_begun : (definitions : DefinedTrees) (body : StmtTree) (place : Place)
      → check_stmt spec scope (let_then definitions body place)
      ≡ defined_in spec scope.within definitions (λ (within : ScopeTree). check_stmt spec (moved scope within (defined_names definitions)) body)
  unfolding check_stmt
  let_begun definitions body place = refl

  pub let_be_begun : (bind : BindTree) (condition : Option ExprTree) (body : StmtTree) (place : Place)
      → check_stmt spec scope (let_be_then bind condition body place)
      ≡ bind_then spec scope bind (maybe_of condition) (λ (inside : StmtScope). check_stmt spec inside body)
  unfolding check_stmt
  let_be_begun bind condition body place = refl

  pub def_begun : (pattern : PatternTree) (value : ExprTree) (body : StmtTree) (place : Place)
      → check_stmt spec scope (def_then pattern value body place)
      ≡ after (check spec scope.within value) (λ (form : FormTree).
      refusing (pattern_faults spec (type_scope scope.within) pattern)
      (givens spec scope.within pattern (check_stmt spec (inside_pattern spec scope form pattern) body)))
  unfolding check_stmt
  def_begun pattern value body place = refl

  pub numbers_begun : (name : Name) (name_place : Place) (first last : ExprTree) (step : Option ExprTree) (body : StmtTree) (place : Place)
      → check_stmt spec scope (for_numbers name name_place first last step body place)
      ≡ wanting spec scope number first (wanting spec scope number last (maybe_wanting spec scope number step
      (check_stmt spec (inside_names scope (record { name = name; form = number } ∷ []) (name ∷ [])) body)))
  unfolding check_stmt
  numbers_begun name name_place first last step body place = refl

  pub set_begun : (pattern : PatternTree) (set : ExprTree) (body : StmtTree) (place : Place)
      → check_stmt spec scope (for_set pattern set body place)
      ≡ set_then spec scope (one_pattern pattern no_patterns) set (λ (inside : StmtScope). check_stmt spec inside body)
  unfolding check check_stmt
  set_begun pattern set body place = λ i.
      after (check spec scope.within set) (λ (form : FormTree).
      refusing (set_faults spec scope.within (one_pattern pattern no_patterns) (expr_place set) form)
      (givens spec scope.within pattern
      (check_stmt spec
      (inside_names scope (bound_in spec scope.within [] (one_pattern pattern no_patterns) form) (sym (append-nil (pattern_names pattern)) i))
      body)))

  pub sequence_begun : (pattern : PatternTree) (sequence : ExprTree) (body : StmtTree) (place : Place)
      → check_stmt spec scope (for_sequence pattern sequence body place)
      ≡ after (check spec scope.within sequence) (λ (form : FormTree).
      refusing (want_faults spec any_sequence (expr_place sequence) form ++ pattern_faults spec (type_scope scope.within) pattern)
      (givens spec scope.within pattern (check_stmt spec (inside_pattern spec scope (items_of spec form) pattern) body)))
  unfolding check_stmt
  sequence_begun pattern sequence body place = refl

  pub trap_begun : (pattern : PatternTree) (handler body : StmtTree) (place : Place)
      → check_stmt spec scope (trap_exit pattern handler body place)
      ≡ refusing (pattern_faults spec (type_scope scope.within) pattern)
      (givens spec scope.within pattern
      (after (check_stmt spec (inside_pattern spec scope any_form pattern) handler) (λ (form : FormTree). check_stmt spec scope body)))
  unfolding check_stmt
  trap_begun pattern handler body place = refl
