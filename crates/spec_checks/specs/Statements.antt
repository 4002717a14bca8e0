-- The check of a statement, by its kinds. ('Statements' of the VDM-10 Language Manual (Overture).)
use Rattle.std.specs.Prelude.{Bool, true, false, not, List, [], ◌∷◌, ◌++◌, Option, Some, None, map}
use Rattle.vdm_kinds.specs.declared.name.Name.{Name}
use Rattle.vdm_kinds.specs.declared.place.Place.{Place}
use Rattle.vdm_kinds.specs.declared.spec_fault.SpecFault.{SpecFault}
use Rattle.vdm_kinds.specs.declared.spec_kind.SpecKind.TheVariants.{NoCommonValue}
use Rattle.abstract_syntax.specs.Types.{TypeTree}
use Rattle.abstract_syntax.specs.Expressions.{ExprTree, MaybeExpr, left_out, given_expr, BindTree, PatternTree, PatternTrees, no_patterns, one_pattern, bind_in, expr_place}
use Rattle.abstract_syntax.specs.Statements.{LocalTree, DclTree, StmtTree, StmtTrees, MaybeStmt, StmtBranches, StmtCases, HandlerTrees, block, assign, assign_together, call, returns, exits, let_then, let_be_then, def_then, if_then, cases_then, while_do, for_numbers, for_set, for_sequence, trap_exit, trap_exits, always_after, in_parallel, start_thread, start_threads, skips, errs, no_stmts, one_stmt, no_stmt, given_stmt, no_stmt_branches, one_stmt_branch, no_stmt_cases, one_stmt_case, no_handlers, one_handler}
use Rattle.abstract_syntax.specs.Classes.{SpecTree}
use Rattle.form_meaning.specs.Forms.{FormTree, any_form, no_form, one_of, AltTree, object_alt}
use Rattle.class_checks.specs.Expressions.{
  check,
  want_faults,
  set_faults,
  bound_in,
  one_bound,
  defined_in,
  givens,
  givens_each,
  where_true,
}
use Rattle.class_checks.specs.Operators.{truth, number, any_set, any_sequence}
use Rattle.class_checks.specs.Patterns.{binds, bindings_of, items_of, pattern_faults, patterns_faults, scopes_behind}
use Rattle.class_checks.specs.Results.{Checked, gives, refused_if, refusing, after, after_each}
use Rattle.class_checks.specs.Scopes.{LocalForm, ScopeTree, inside, type_scope}
use Rattle.class_checks.specs.Shapes.{any_or_some}
use Rattle.spec_checks.specs.Targets.{
  Returned,
  anything,
  no_value,
  a_value,
  StmtScope,
  nothing_owned,
  declared_too,
  hidden_by,
  pattern_names,
  patterns_names,
  defined_names,
  assigned,
  all_assigned,
  apart_faults,
}
use Rattle.class_checks.specs.TypeNames.{form_of, type_faults}

-- a statement has no form
abbrev pub done : Checked
done = gives no_form

-- in another scope of expressions, where these names are bound
abbrev pub moved : StmtScope → ScopeTree → List Name → StmtScope
moved scope within names = record { within = within; declared = hidden_by names scope.declared; returned = scope.returned }

abbrev pub maybe_of : Option ExprTree → MaybeExpr
maybe_of None = left_out
maybe_of (Some e) = given_expr e

abbrev pub is_object : AltTree → Bool
is_object (object_alt class) = true
is_object _ = false

abbrev pub inside_names : StmtScope → List LocalForm → List Name → StmtScope
inside_names scope found names = moved scope (inside scope.within found) names

abbrev pub one_of_patterns : PatternTree → PatternTrees
one_of_patterns p = one_pattern p no_patterns

abbrev pub bind_names : BindTree → List Name
bind_names (bind_in patterns set) = patterns_names patterns

module _ (spec : SpecTree) where
  -- ---- what is given back

  -- an operation without a result may give none
  abbrev pub returned_faults : Returned → Place → FormTree → List SpecFault
  returned_faults anything place form = []
  returned_faults no_value place form = refused_if true NoCommonValue place
  returned_faults (a_value wanted) place form = want_faults spec wanted place form

  -- a call that gives a value gives it back; one that gives none goes on
  abbrev pub call_faults : Returned → Place → FormTree → List SpecFault
  call_faults returned place any_form = []
  call_faults returned place no_form = []
  call_faults returned place (one_of alternatives) = returned_faults returned place (one_of alternatives)

  -- ---- declarations

  abbrev pub declared_inside : StmtScope → LocalTree → StmtScope
  declared_inside scope l = record {
    within = inside scope.within (record { name = l.name; form = form_of spec (type_scope scope.within) l.declared } ∷ []);
    declared = declared_too l.name scope.declared;
    returned = scope.returned;
  }

  abbrev pub initial_in : StmtScope → TypeTree → Option ExprTree → Checked → Checked
  initial_in scope declared None rest = rest
  initial_in scope declared (Some e) rest = after (check spec scope.within e) (λ (form : FormTree).
      refusing (want_faults spec (form_of spec (type_scope scope.within) declared) (expr_place e) form) rest)

  -- each sees the earlier ones
  abbrev pub locals_in : StmtScope → List LocalTree → (StmtScope → Checked) → Checked
  locals_in scope [] rest = rest scope
  locals_in scope (l ∷ ls) rest = refusing (type_faults spec (type_scope scope.within) l.declared)
      (initial_in scope l.declared l.initial (locals_in (declared_inside scope l) ls rest))

  abbrev pub dcls_in : StmtScope → List DclTree → (StmtScope → Checked) → Checked
  dcls_in scope [] rest = rest scope
  dcls_in scope (dcl ∷ dcls) rest = locals_in scope dcl.locals (λ (more : StmtScope). dcls_in more dcls rest)

  -- ---- parts

  -- an expression that has to meet a form, and then the rest
  abbrev pub wanting : StmtScope → FormTree → ExprTree → Checked → Checked
  wanting scope wanted e rest = after (check spec scope.within e) (λ (form : FormTree). refusing (want_faults spec wanted (expr_place e) form) rest)

  abbrev pub maybe_wanting : StmtScope → FormTree → Option ExprTree → Checked → Checked
  maybe_wanting scope wanted None rest = rest
  maybe_wanting scope wanted (Some e) rest = wanting scope wanted e rest

  -- a pattern over a value of a form
  abbrev pub inside_pattern : StmtScope → FormTree → PatternTree → StmtScope
  inside_pattern scope form pattern = inside_names scope (binds spec (type_scope scope.within) form pattern) (pattern_names pattern)

  -- ---- by kinds

  unfoldable mutual
    pub check_stmt : StmtScope → StmtTree → Checked
    check_stmt scope (block locals statements place) =
        dcls_in scope locals (λ (within : StmtScope). check_stmts within statements)
    check_stmt scope (assign target value place) = assigned spec scope (record { target = target; value = value }) done
    check_stmt scope (assign_together assignments place) = refusing (apart_faults spec scope nothing_owned assignments) (all_assigned spec scope assignments done)
    check_stmt scope (call application place) = after (check spec scope.within application) (λ (form : FormTree).
        refusing (call_faults scope.returned (expr_place application) form) done)
    check_stmt scope (returns None place) = done
    check_stmt scope (returns (Some e) place) = after (check spec scope.within e) (λ (form : FormTree).
        refusing (returned_faults scope.returned (expr_place e) form) done)
    check_stmt scope (exits None place) = done
    check_stmt scope (exits (Some e) place) = after (check spec scope.within e) (λ (form : FormTree). done)
    check_stmt scope (let_then definitions body place) = defined_in spec scope.within definitions
        (λ (within : ScopeTree). check_stmt (moved scope within (defined_names definitions)) body)
    check_stmt scope (let_be_then bind condition body place) =
        one_bound spec scope.within [] bind (λ (found : List LocalForm) (form : FormTree).
        where_true spec (inside scope.within found) (maybe_of condition)
        (check_stmt (inside_names scope found (bind_names bind)) body))
    check_stmt scope (def_then pattern value body place) = after (check spec scope.within value) (λ (form : FormTree).
        refusing (pattern_faults spec (type_scope scope.within) pattern)
        (givens spec scope.within pattern (check_stmt (inside_pattern scope form pattern) body)))
    check_stmt scope (if_then condition body elseifs otherwise place) =
        wanting scope truth condition (after (check_stmt scope body) (λ (form : FormTree).
        stmt_branches scope elseifs (after (check_maybe scope otherwise) (λ (last : FormTree). done))))
    check_stmt scope (cases_then subject alternatives others place) = after (check spec scope.within subject) (λ (form : FormTree).
        stmt_cases scope form alternatives (after (check_maybe scope others) (λ (last : FormTree). done)))
    check_stmt scope (while_do condition body place) = wanting scope truth condition (check_stmt scope body)
    check_stmt scope (for_numbers name name_place first last step body place) =
        wanting scope number first (wanting scope number last (maybe_wanting scope number step
        (check_stmt (inside_names scope (record { name = name; form = number } ∷ []) (name ∷ [])) body)))
    check_stmt scope (for_set pattern set body place) = after (check spec scope.within set) (λ (form : FormTree).
        refusing (set_faults spec scope.within (one_of_patterns pattern) (expr_place set) form)
        (givens spec scope.within pattern (check_stmt (inside_names scope (bound_in spec scope.within [] (one_of_patterns pattern) form) (pattern_names pattern)) body)))
    check_stmt scope (for_sequence pattern sequence body place) = after (check spec scope.within sequence) (λ (form : FormTree).
        refusing (want_faults spec any_sequence (expr_place sequence) form ++ pattern_faults spec (type_scope scope.within) pattern)
        (givens spec scope.within pattern (check_stmt (inside_pattern scope (items_of spec form) pattern) body)))
    -- what is caught may have any form
    check_stmt scope (trap_exit pattern handler body place) = refusing (pattern_faults spec (type_scope scope.within) pattern)
        (givens spec scope.within pattern
        (after (check_stmt (inside_pattern scope any_form pattern) handler) (λ (form : FormTree). check_stmt scope body)))
    check_stmt scope (trap_exits handlers body place) = handlers_in scope handlers (check_stmt scope body)
    check_stmt scope (always_after last body place) = after (check_stmt scope last) (λ (form : FormTree). check_stmt scope body)
    check_stmt scope (in_parallel statements place) = check_stmts scope statements
    check_stmt scope (start_thread object place) = after (check spec scope.within object) (λ (form : FormTree).
        refusing (refused_if (not (any_or_some is_object form)) NoCommonValue (expr_place object)) done)
    check_stmt scope (start_threads objects place) = wanting scope any_set objects done
    check_stmt scope (skips place) = done
    check_stmt scope (errs place) = done

    pub check_stmts : StmtScope → StmtTrees → Checked
    check_stmts scope no_stmts = done
    check_stmts scope (one_stmt s ss) = after (check_stmt scope s) (λ (form : FormTree). check_stmts scope ss)

    pub check_maybe : StmtScope → MaybeStmt → Checked
    check_maybe scope no_stmt = done
    check_maybe scope (given_stmt s) = check_stmt scope s

    pub stmt_branches : StmtScope → StmtBranches → Checked → Checked
    stmt_branches scope no_stmt_branches rest = rest
    stmt_branches scope (one_stmt_branch condition body more) rest =
        wanting scope truth condition (after (check_stmt scope body) (λ (form : FormTree). stmt_branches scope more rest))

    -- what stands behind several patterns is checked for each, with what that one binds
    pub stmt_cases : StmtScope → FormTree → StmtCases → Checked → Checked
    stmt_cases scope form no_stmt_cases rest = rest
    stmt_cases scope form (one_stmt_case patterns body more) rest = refusing (patterns_faults spec (type_scope scope.within) patterns)
        (givens_each spec scope.within patterns (after_each no_form
        (map (λ (within : ScopeTree). check_stmt (moved scope within (patterns_names patterns)) body)
        (scopes_behind scope.within (bindings_of spec (type_scope scope.within) form patterns)))
        (λ (known other : FormTree). known)
        (λ (all : FormTree). stmt_cases scope form more rest)))

    pub handlers_in : StmtScope → HandlerTrees → Checked → Checked
    handlers_in scope no_handlers rest = rest
    handlers_in scope (one_handler pattern body more) rest = refusing (pattern_faults spec (type_scope scope.within) pattern)
        (givens spec scope.within pattern
        (after (check_stmt (inside_pattern scope any_form pattern) body) (λ (form : FormTree). handlers_in scope more rest)))
