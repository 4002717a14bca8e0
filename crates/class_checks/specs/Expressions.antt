-- The check of an expression: its form, and all that is refused in it, by its kinds. ('Expressions' of the VDM-10 Language Manual (Overture);
-- that forms alone are compared, and so only what no value can mean is refused, is this project's own.)
use Rattle.std.specs.Prelude.{ℕ, suc, not, List, [], ◌∷◌, ◌++◌, Option, Some, None, map}
use Rattle.vdm_kinds.specs.declared.name.Name.{Name}
use Rattle.vdm_kinds.specs.declared.name_at.TypeName.{TypeName}
use Rattle.vdm_kinds.specs.declared.place.Place.{Place}
use Rattle.vdm_kinds.specs.declared.spec_fault.SpecFault.{SpecFault}
use Rattle.vdm_kinds.specs.declared.spec_kind.SpecKind.TheVariants.{UnknownName, NoCommonValue}
use Rattle.abstract_syntax.specs.Literals.{
  LiteralTree,
  whole_literal,
  character_literal,
  text_literal,
  quote_literal,
  boolean_literal,
  nil_literal,
}
use Rattle.abstract_syntax.specs.Types.{TypeTree}
use Rattle.abstract_syntax.specs.Expressions.{
  ExprTree,
  literal,
  named,
  qualified,
  old_value,
  self_object,
  current_time,
  undefined,
  result_value,
  bracketed,
  prefixed,
  joined as joined_by,
  set_enumeration,
  set_range,
  set_comprehension,
  empty_map,
  map_enumeration,
  map_comprehension,
  sequence_enumeration,
  sequence_comprehension,
  make_tuple,
  make_token,
  make_record,
  modify_record,
  is_of_type,
  is_of_named,
  is_of_basic,
  is_of_class,
  is_of_base_class,
  same_class,
  same_base_class,
  create,
  history,
  apply,
  subsequence,
  select,
  select_of_class,
  select_part,
  let_in,
  let_be,
  def_in,
  if_else,
  cases_of,
  for_all,
  exists_some,
  exists_one,
  iota_of,
  ExprTrees,
  no_exprs,
  one_expr,
  MaybeExpr,
  left_out,
  given_expr,
  MapletTrees,
  no_maplets,
  one_maplet,
  FieldValueTrees,
  no_field_values,
  one_field_value,
  DefinedTrees,
  no_defined,
  one_defined,
  BranchTrees,
  no_branches,
  one_branch,
  CaseTrees,
  no_cases,
  one_case,
  BindTree,
  bind_in,
  BindTrees,
  no_binds,
  one_bind,
  PatternTree,
  any_value,
  bound,
  literal_pattern,
  equal_to,
  set_pattern,
  sequence_pattern,
  map_pattern,
  empty_map_pattern,
  tuple_pattern,
  record_pattern,
  concatenation_pattern,
  PatternTrees,
  no_patterns,
  one_pattern,
  MapletPatterns,
  no_maplet_patterns,
  one_maplet_pattern,
  expr_place,
}
use Rattle.abstract_syntax.specs.Classes.{SpecTree}
use Rattle.form_meaning.specs.Forms.{FormTree, any_form, no_form, nil_alt, character_alt, quote_alt, record_alt, FormTrees, no_forms, one_form, only, joined}
use Rattle.pattern_meaning.specs.RecordTypes.{RecordType}
use Rattle.abstract_syntax.specs.Classes.{FieldTree}
use Rattle.class_checks.specs.Callees.{
  Callee,
  is_read,
  is_applied,
  value_callee,
  named_callee,
  qualified_callee,
  selected_callee,
  selected_of_class,
  created_callee,
}
use Rattle.class_checks.specs.Members.{beyond, may_not_count, read_name, read_qualified, read_old, read_self, read_result, uncounted}
use Rattle.class_checks.specs.Operators.{truth, number, any_set, sequence_with, map_with}
use Rattle.class_checks.specs.Patterns.{binds, bindings_of, elements_of, pattern_faults, patterns_faults, scopes_behind, binds_each}
use Rattle.class_checks.specs.Results.{Checked, gives, refusing, after, after_each, refused_if, form_unless}
use Rattle.class_checks.specs.Scopes.{LocalForm, ScopeTree, inside, type_scope}
use Rattle.class_checks.specs.Shapes.{ShapeTree, of_prefix, of_operator, of_range, of_set, of_sequence, of_map, of_tuple, of_token, of_test, of_condition, of_call, of_part, of_subsequence, of_changed, Seen, all_done, one_part}
use Rattle.class_checks.specs.TypeNames.{is_class, form_of, meets, name_faults, type_faults, record_type, record_faults, fields_made}

abbrev pub literal_form : LiteralTree → FormTree
literal_form (whole_literal value) = number
literal_form (character_literal code) = only character_alt
literal_form (text_literal characters) = sequence_with (only character_alt)
literal_form (quote_literal name) = only (quote_alt name)
literal_form (boolean_literal value) = truth
literal_form nil_literal = only nil_alt

abbrev pub expr_count : ExprTrees → ℕ
expr_count no_exprs = 0
expr_count (one_expr e es) = suc (expr_count es)

abbrev pub changed_names : FieldValueTrees → List Name
changed_names no_field_values = []
changed_names (one_field_value name name_place value rest) = name ∷ changed_names rest

module _ (spec : SpecTree) where
  -- ---- what stands in a place that wants something

  abbrev pub want_faults : FormTree → Place → FormTree → List SpecFault
  want_faults wanted place form = refused_if (not (meets spec form wanted)) NoCommonValue place

  -- of a class that is named in a test
  abbrev pub class_faults : Name → Place → List SpecFault
  class_faults class place = refused_if (not (is_class spec class)) UnknownName place

  -- ---- records

  abbrev pub fields_wanted : Name → List FieldTree → FormTrees
  fields_wanted class [] = no_forms
  fields_wanted class (field ∷ fields) = one_form (form_of spec class field.declared) (fields_wanted class fields)

  abbrev pub made_wants : Option RecordType → FormTrees
  made_wants None = no_forms
  made_wants (Some made) = fields_wanted made.class (fields_made spec (Some made))

  abbrev pub made_form : Option RecordType → FormTree
  made_form None = any_form
  made_form (Some made) = only (record_alt made.class made.name)

  abbrev pub wants_unless : List SpecFault → FormTrees → FormTrees
  wants_unless [] wants = wants
  wants_unless (refused ∷ refusals) wants = no_forms

  -- `mk_T` with so many parts
  abbrev pub record_callee : ScopeTree → TypeName → ℕ → Place → Callee
  record_callee scope t n place = record {
    refusals = record_faults spec (type_scope scope) t n place;
    wants = wants_unless (record_faults spec (type_scope scope) t n place) (made_wants (record_type spec (type_scope scope) t));
    result = form_unless (record_faults spec (type_scope scope) t n place) (made_form (record_type spec (type_scope scope) t));
  }

  -- ---- types and patterns of definitions

  abbrev pub optional_type_faults : ScopeTree → Option TypeTree → List SpecFault
  optional_type_faults scope None = []
  optional_type_faults scope (Some declared) = type_faults spec (type_scope scope) declared

  abbrev pub optional_want_faults : ScopeTree → Option TypeTree → Place → FormTree → List SpecFault
  optional_want_faults scope None place form = []
  optional_want_faults scope (Some declared) place form = want_faults (form_of spec (type_scope scope) declared) place form

  -- where a type is given, it tells the form
  abbrev pub defined_form : ScopeTree → Option TypeTree → FormTree → FormTree
  defined_form scope None form = form
  defined_form scope (Some declared) form = form_of spec (type_scope scope) declared

  -- `p : T = a`, whose value has this form
  abbrev pub definition_faults : ScopeTree → PatternTree → Option TypeTree → Place → FormTree → List SpecFault
  definition_faults scope pattern declared place form =
      pattern_faults spec (type_scope scope) pattern ++ (optional_type_faults scope declared ++ optional_want_faults scope declared place form)

  abbrev pub inside_definition : ScopeTree → PatternTree → Option TypeTree → FormTree → ScopeTree
  inside_definition scope pattern declared form = inside scope (binds spec (type_scope scope) (defined_form scope declared form) pattern)

  -- what binds bind, behind what earlier ones did; the value of each is checked where all of them stand
  abbrev pub bound_in : ScopeTree → List LocalForm → PatternTrees → FormTree → List LocalForm
  bound_in scope found patterns form = found ++ binds_each spec (type_scope scope) (elements_of spec form) patterns

  abbrev pub set_faults : ScopeTree → PatternTrees → Place → FormTree → List SpecFault
  set_faults scope patterns place form = want_faults any_set place form ++ patterns_faults spec (type_scope scope) patterns

  -- a call, and its arguments
  abbrev pub called_by : Callee → (ShapeTree → Checked) → Checked
  called_by callee arguments = refusing callee.refusals (arguments (of_call callee.wants callee.result))

  -- what is selected is not called
  abbrev pub read_by : Callee → Checked
  read_by callee = called_by callee (λ (shape : ShapeTree). all_done spec shape [])

  -- ---- by kinds

  unfoldable mutual
    pub check : ScopeTree → ExprTree → Checked
    -- names, literals and words
    check scope (literal value place) = gives (literal_form value)
    check scope (named name place) = read_name spec scope place name
    check scope (qualified class name name_place place) = read_qualified spec scope class name name_place place
    check scope (old_value name place) = read_old spec scope place name
    check scope (self_object place) = read_self spec scope place
    check scope (current_time place) = refusing (beyond spec scope place scope.reach) (gives number)
    check scope (undefined place) = gives any_form
    check scope (result_value place) = read_result spec scope place scope.result
    check scope (bracketed inner place) = check scope inner
    -- operators
    check scope (prefixed sign operand place) =
        one_part spec (of_prefix sign) [] (check scope operand) (expr_place operand) (all_done spec (of_prefix sign))
    check scope (joined_by left sign right place) =
        one_part spec (of_operator sign) [] (check scope left) (expr_place left) (λ (done : List Seen).
        one_part spec (of_operator sign) done (check scope right) (expr_place right) (all_done spec (of_operator sign)))
    -- sets, maps and sequences
    check scope (set_enumeration elements place) = listed scope of_set [] elements
    check scope (set_range first last place) =
        one_part spec of_range [] (check scope first) (expr_place first) (λ (done : List Seen).
        one_part spec of_range done (check scope last) (expr_place last) (all_done spec of_range))
    check scope (set_comprehension element bindings condition place) = bound_by scope [] bindings (λ (found : List LocalForm).
        where_true (inside scope found) condition
        (one_part spec of_set [] (check (inside scope found) element) (expr_place element) (all_done spec of_set)))
    check scope (empty_map place) = gives (map_with any_form any_form)
    check scope (map_enumeration pairs place) = pairs_in scope [] pairs
    check scope (map_comprehension key value bindings condition place) = bound_by scope [] bindings (λ (found : List LocalForm).
        where_true (inside scope found) condition
        (one_part spec of_map [] (check (inside scope found) key) (expr_place key) (λ (done : List Seen).
        one_part spec of_map done (check (inside scope found) value) (expr_place value) (all_done spec of_map))))
    check scope (sequence_enumeration items place) = listed scope of_sequence [] items
    check scope (sequence_comprehension item pattern set condition place) =
        after (check scope set) (λ (form : FormTree).
        refusing (set_faults scope (one_pattern pattern no_patterns) (expr_place set) form)
        (givens scope pattern (where_true (inside scope (bound_in scope [] (one_pattern pattern no_patterns) form)) condition
        (one_part spec of_sequence [] (check (inside scope (bound_in scope [] (one_pattern pattern no_patterns) form)) item) (expr_place item)
        (all_done spec of_sequence)))))
    -- tuples, tokens and records
    check scope (make_tuple parts place) = listed scope of_tuple [] parts
    check scope (make_token inner place) = one_part spec of_token [] (check scope inner) (expr_place inner) (all_done spec of_token)
    check scope (make_record t fields place) = called_by (record_callee scope t (expr_count fields) place) (λ (shape : ShapeTree). listed scope shape [] fields)
    check scope (modify_record target fields place) =
        one_part spec (of_changed (changed_names fields)) [] (check scope target) (expr_place target)
        (λ (done : List Seen). changed scope (changed_names fields) done fields)
    -- tests of types and classes
    check scope (is_of_type tested declared place) = refusing (type_faults spec (type_scope scope) declared)
        (one_part spec of_test [] (check scope tested) (expr_place tested) (all_done spec of_test))
    check scope (is_of_named t tested place) = refusing (name_faults spec (type_scope scope) t place)
        (one_part spec of_test [] (check scope tested) (expr_place tested) (all_done spec of_test))
    check scope (is_of_basic basic tested place) = one_part spec of_test [] (check scope tested) (expr_place tested) (all_done spec of_test)
    check scope (is_of_class class class_place tested place) = refusing (class_faults class class_place)
        (one_part spec of_test [] (check scope tested) (expr_place tested) (all_done spec of_test))
    check scope (is_of_base_class class class_place tested place) = refusing (class_faults class class_place)
        (one_part spec of_test [] (check scope tested) (expr_place tested) (all_done spec of_test))
    check scope (same_class left right place) =
        one_part spec of_test [] (check scope left) (expr_place left) (λ (done : List Seen).
        one_part spec of_test done (check scope right) (expr_place right) (all_done spec of_test))
    check scope (same_base_class left right place) =
        one_part spec of_test [] (check scope left) (expr_place left) (λ (done : List Seen).
        one_part spec of_test done (check scope right) (expr_place right) (all_done spec of_test))
    -- objects and their history
    check scope (create class class_place arguments place) =
        called_by (created_callee spec scope class_place place (expr_count arguments) class) (λ (shape : ShapeTree). listed scope shape [] arguments)
    check scope (history counter names place) =
        refusing (may_not_count spec scope place scope.reach) (refusing (uncounted spec scope names) (gives number))
    -- postfixes
    check scope (apply head arguments place) =
        applied scope head (check scope head) (expr_count arguments) place (λ (shape : ShapeTree). listed scope shape [] arguments)
    check scope (subsequence target first last place) =
        one_part spec of_subsequence [] (check scope target) (expr_place target) (λ (done : List Seen).
        one_part spec of_subsequence done (check scope first) (expr_place first) (λ (more : List Seen).
        one_part spec of_subsequence more (check scope last) (expr_place last) (all_done spec of_subsequence)))
    check scope (select target name name_place place) = after (check scope target) (λ (form : FormTree).
        read_by (selected_callee spec scope is_read (expr_place target) name name_place form))
    check scope (select_of_class target class class_place name name_place place) = after (check scope target) (λ (form : FormTree).
        read_by (selected_of_class spec scope is_read (expr_place target) class class_place name name_place form))
    check scope (select_part target n place) =
        one_part spec (of_part n) [] (check scope target) (expr_place target) (all_done spec (of_part n))
    -- what reaches as far to the right as it can
    check scope (let_in definitions body place) = defined_in scope definitions (λ (within : ScopeTree). check within body)
    check scope (let_be bind condition body place) = one_bound scope [] bind (λ (found : List LocalForm) (form : FormTree).
        where_true (inside scope found) condition (check (inside scope found) body))
    check scope (def_in pattern value body place) = after (check scope value) (λ (form : FormTree).
        refusing (pattern_faults spec (type_scope scope) pattern)
        (givens scope pattern (check (inside scope (binds spec (type_scope scope) form pattern)) body)))
    check scope (if_else condition value elseifs otherwise place) = after (check scope condition) (λ (form : FormTree).
        refusing (want_faults truth (expr_place condition) form)
        (after (check scope value) (λ (known : FormTree). branches scope known elseifs
        (λ (all : FormTree). after (check scope otherwise) (λ (last : FormTree). gives (joined all last))))))
    check scope (cases_of subject alternatives others place) =
        after (check scope subject) (λ (form : FormTree). cases_in scope form no_form alternatives (λ (known : FormTree). others_in scope known others))
    check scope (for_all bindings condition place) = bound_by scope [] bindings (λ (found : List LocalForm).
        one_part spec of_condition [] (check (inside scope found) condition) (expr_place condition) (all_done spec of_condition))
    check scope (exists_some bindings condition place) = bound_by scope [] bindings (λ (found : List LocalForm).
        one_part spec of_condition [] (check (inside scope found) condition) (expr_place condition) (all_done spec of_condition))
    check scope (exists_one bind condition place) = one_bound scope [] bind (λ (found : List LocalForm) (form : FormTree).
        one_part spec of_condition [] (check (inside scope found) condition) (expr_place condition) (all_done spec of_condition))
    check scope (iota_of bind condition place) = one_bound scope [] bind (λ (found : List LocalForm) (form : FormTree).
        after (check (inside scope found) condition) (λ (held : FormTree).
        refusing (want_faults truth (expr_place condition) held) (gives (elements_of spec form))))

    -- the parts of a node, in order
    pub listed : ScopeTree → ShapeTree → List Seen → ExprTrees → Checked
    listed scope shape done no_exprs = all_done spec shape done
    listed scope shape done (one_expr e es) =
        one_part spec shape done (check scope e) (expr_place e) (λ (more : List Seen). listed scope shape more es)

    pub pairs_in : ScopeTree → List Seen → MapletTrees → Checked
    pairs_in scope done no_maplets = all_done spec of_map done
    pairs_in scope done (one_maplet key value rest) =
        one_part spec of_map done (check scope key) (expr_place key) (λ (more : List Seen).
        one_part spec of_map more (check scope value) (expr_place value) (λ (all : List Seen). pairs_in scope all rest))

    pub changed : ScopeTree → List Name → List Seen → FieldValueTrees → Checked
    changed scope fields done no_field_values = all_done spec (of_changed fields) done
    changed scope fields done (one_field_value name name_place value rest) =
        one_part spec (of_changed fields) done (check scope value) (expr_place value) (λ (more : List Seen). changed scope fields more rest)

    -- what is applied to so many arguments; `whole` is its own check, where it is neither a name nor selected
    pub applied : ScopeTree → ExprTree → Checked → ℕ → Place → (ShapeTree → Checked) → Checked
    applied scope (named name name_place) whole n place arguments = called_by (named_callee spec scope name name_place n place) arguments
    applied scope (qualified class name name_place head_place) whole n place arguments =
        called_by (qualified_callee spec scope class name name_place head_place n place) arguments
    applied scope (select target name name_place head_place) whole n place arguments = after (check scope target) (λ (form : FormTree).
        called_by (selected_callee spec scope (is_applied head_place n place) (expr_place target) name name_place form) arguments)
    applied scope (select_of_class target class class_place name name_place head_place) whole n place arguments =
        after (check scope target) (λ (form : FormTree).
        called_by
        (selected_of_class spec scope (is_applied head_place n place) (expr_place target) class class_place name name_place form)
        arguments)
    applied scope head whole n place arguments = after whole (λ (form : FormTree).
        called_by (value_callee spec [] form (expr_place head) n place) arguments)

    -- a condition that may be left out, and what stands under it
    pub where_true : ScopeTree → MaybeExpr → Checked → Checked
    where_true scope left_out rest = rest
    where_true scope (given_expr condition) rest = after (check scope condition) (λ (form : FormTree).
        refusing (want_faults truth (expr_place condition) form) rest)

    -- the values of all binds stand where the first does: none sees what the others bind
    pub bound_by : ScopeTree → List LocalForm → BindTrees → (List LocalForm → Checked) → Checked
    bound_by scope found no_binds rest = rest found
    bound_by scope found (one_bind bind more) rest =
        one_bound scope found bind (λ (all : List LocalForm) (form : FormTree). bound_by scope all more rest)

    pub one_bound : ScopeTree → List LocalForm → BindTree → (List LocalForm → FormTree → Checked) → Checked
    one_bound scope found (bind_in patterns set) rest = after (check scope set) (λ (form : FormTree).
        refusing (set_faults scope patterns (expr_place set) form)
        (givens_each scope patterns (rest (bound_in scope found patterns form) form)))

    -- each definition sees the earlier ones
    pub defined_in : ScopeTree → DefinedTrees → (ScopeTree → Checked) → Checked
    defined_in scope no_defined rest = rest scope
    defined_in scope (one_defined pattern declared value more) rest = after (check scope value) (λ (form : FormTree).
        refusing (definition_faults scope pattern declared (expr_place value) form)
        (givens scope pattern (defined_in (inside_definition scope pattern declared form) more rest)))

    pub branches : ScopeTree → FormTree → BranchTrees → (FormTree → Checked) → Checked
    branches scope known no_branches rest = rest known
    branches scope known (one_branch condition value more) rest = after (check scope condition) (λ (form : FormTree).
        refusing (want_faults truth (expr_place condition) form)
        (after (check scope value) (λ (other : FormTree). branches scope (joined known other) more rest)))

    pub others_in : ScopeTree → FormTree → MaybeExpr → Checked
    others_in scope known left_out = gives known
    others_in scope known (given_expr others) = after (check scope others) (λ (other : FormTree). gives (joined known other))

    -- What stands behind several patterns is checked for each, with what that one binds.
    pub cases_in : ScopeTree → FormTree → FormTree → CaseTrees → (FormTree → Checked) → Checked
    cases_in scope form known no_cases rest = rest known
    cases_in scope form known (one_case patterns body more) rest = refusing (patterns_faults spec (type_scope scope) patterns)
        (givens_each scope patterns (after_each known
        (map (λ (within : ScopeTree). check within body) (scopes_behind scope (bindings_of spec (type_scope scope) form patterns)))
        joined
        (λ (all : FormTree). cases_in scope form all more rest)))

    -- the expressions in brackets in a pattern, which stand where the pattern does, and then the rest
    pub givens : ScopeTree → PatternTree → Checked → Checked
    givens scope (any_value place) rest = rest
    givens scope (bound name place) rest = rest
    givens scope (literal_pattern fixed place) rest = rest
    givens scope (equal_to inner place) rest = after (check scope inner) (λ (form : FormTree). rest)
    givens scope (set_pattern elements place) rest = givens_each scope elements rest
    givens scope (sequence_pattern items place) rest = givens_each scope items rest
    givens scope (map_pattern maplets place) rest = givens_maplets scope maplets rest
    givens scope (empty_map_pattern place) rest = rest
    givens scope (tuple_pattern parts place) rest = givens_each scope parts rest
    givens scope (record_pattern t fields place) rest = givens_each scope fields rest
    givens scope (concatenation_pattern parts place) rest = givens_each scope parts rest

    pub givens_each : ScopeTree → PatternTrees → Checked → Checked
    givens_each scope no_patterns rest = rest
    givens_each scope (one_pattern p ps) rest = givens scope p (givens_each scope ps rest)

    pub givens_maplets : ScopeTree → MapletPatterns → Checked → Checked
    givens_maplets scope no_maplet_patterns rest = rest
    givens_maplets scope (one_maplet_pattern p q more) rest = givens scope p (givens scope q (givens_maplets scope more rest))
