-- What is still to be done, as the check that it is.
use Rattle.std.specs.Prelude.{List, [], ◌∷◌, Option, Some, None, map, drop, length}
use Rattle.std.specs.Borrow.{Bor}
use Rattle.std.specs.declared.alloc.Global.{Global}
use Rattle.std.specs.declared.boxed.Box.{Box}
use Rattle.vdm_kinds.specs.declared.name.Name.{Name as NameNumber}
use Rattle.vdm_kinds.specs.declared.place.Place.{Place}
use Rattle.abstract_syntax.specs.Expressions.{ExprTree, MaybeExpr, left_out, given_expr, BindTrees, BranchTrees, DefinedTrees, PatternTree, PatternTrees, expr_place}
use Rattle.abstract_syntax.specs.Classes.{SpecTree}
use Rattle.expr_tree.specs.View.{
  view_of,
  views_of,
  pattern_view,
  defined_view,
  branch_view,
  case_view,
  maplet_view,
  field_value_view,
  bind_view,
  expr_trees,
  pattern_trees,
  defined_trees,
  branch_trees,
  case_trees,
  maplet_trees,
  field_value_trees,
  bind_trees,
  maybe_view,
  CaseView,
  DefinedView,
}
use Rattle.expr_tree.specs.declared.expr.Expr.{Expr}
use Rattle.form_meaning.specs.Forms.{FormTree, no_form, joined}
use Rattle.shared_names.specs.Maps.{held}
use Rattle.shared_names.specs.declared.shared_map.SharedMap.{SharedMap}
use Rattle.class_checks.specs.Callees.{Use, is_read, is_applied, value_callee, selected_callee, selected_of_class, Callee}
use Rattle.class_checks.specs.Expressions.{
  check,
  listed,
  pairs_in,
  changed,
  where_true,
  bound_by,
  bound_in,
  defined_in,
  branches,
  others_in,
  cases_in,
  called_by,
  set_faults,
  want_faults,
  definition_faults,
  inside_definition,
}
use Rattle.class_checks.specs.Operators.{truth}
use Rattle.class_checks.specs.Patterns.{binds, bindings_of, elements_of, pattern_faults, patterns_faults, scopes_behind}
use Rattle.class_checks.specs.Results.{Checked, gives, refusing, after, after_each}
use Rattle.class_checks.specs.Scopes.{LocalForm, ScopeTree, inside, type_scope}
use Rattle.class_checks.specs.Shapes.{ShapeTree, of_map, Seen, next_part, all_done, one_part}
use Rattle.check_patterns.specs.Below.check_scopes.specs.Told.{scope_at, spec_in}
use Rattle.check_patterns.specs.Below.check_scopes.specs.declared.setting.Setting.{Setting}
use Rattle.check_shapes.specs.ShapeView.{names_of, shape_view, seen_view}
use Rattle.check_patterns.specs.Shown.{local_view}
use Rattle.check_patterns.specs.Shown.{patterns_of}
use Rattle.check_patterns.specs.Givens.{given_in, given_in_each, givens_list}
use Rattle.check_frames.specs.declared.cases.Cases.{Cases}
use Rattle.check_frames.specs.declared.cases.CaseValues.{CaseValues}
use Rattle.check_frames.specs.declared.here.Here.{Here}
use Rattle.check_frames.specs.declared.rest.Rest.{Rest}
use Rattle.check_frames.specs.declared.rest.Rest.TheVariants.{Nothing, One, Two, Three, Items, Maplets, MapletValue, FieldValues, Modified}
use Rattle.check_frames.specs.declared.inside.Inside.{Inside}
use Rattle.check_frames.specs.declared.inside.Body.{Body}
use Rattle.check_frames.specs.declared.inside.Body.TheVariants.{Parts, Expr as OneExpr, Known}
use Rattle.check_frames.specs.declared.step.Frame.{Frame}
use Rattle.check_frames.specs.declared.step.Step.{Step}
use Rattle.check_frames.specs.declared.step.Step.TheVariants.{Part, Head, Target, TargetOfClass, Condition, Given, Bind as OfBind, Choice as OfChoice}
use Rattle.check_frames.specs.declared.bind_step.BindStep.{BindStep}
use Rattle.check_frames.specs.declared.bind_step.BindStep.TheVariants.{Set as BindSet, Iota as IotaSet, Defined, Def}
use Rattle.check_frames.specs.declared.bind_step.Binds.{Binds}
use Rattle.check_frames.specs.declared.choice.Choice.{Choice}
use Rattle.check_frames.specs.declared.choice.Choice.TheVariants.{If, Then, Last, Subject, CaseValue}
use Rattle.check_frames.specs.declared.choice.Branches.{Branches}
use Rattle.check_frames.specs.declared.way.Way.{Way}
use Rattle.check_frames.specs.declared.way.Way.TheVariants.{Read, Applied}
use Rattle.check_frames.specs.declared.after.After.{After}
use Rattle.check_frames.specs.declared.after.Goal.{Goal}
use Rattle.check_frames.specs.declared.after.Goal.TheVariants.{Binds as MoreBinds, Definitions, Iota, CaseValues as BehindCase, Body as BodyBehind}
use Rattle.check_frames.specs.declared.next.Next.{Next}
use Rattle.check_frames.specs.declared.next.Next.TheVariants.{Gives, Part as NextPart, Becomes, Goes}

abbrev pub boxed : Bor (Box Expr Global) → ExprTree
boxed e = view_of e.now.value

abbrev pub maybe_boxed : Option (Bor (Box Expr Global)) → MaybeExpr
maybe_boxed None = left_out
maybe_boxed (Some e) = given_expr (boxed e)

abbrev pub spec_here : Here → SpecTree
spec_here here = spec_in here.setting

abbrev pub scope_here : Here → ScopeTree
scope_here here = scope_at here.setting (held here.locals.now)

module _ (setting : Setting) where
  -- the scope of these locals
  abbrev pub at : SharedMap FormTree → ScopeTree
  at locals = scope_at setting (held locals)

  -- ---- parts in one scope

  -- a part, and then what follows
  unfoldable pub part_then : ScopeTree → ShapeTree → List Seen → ExprTree → (List Seen → Checked) → Checked
  part_then scope shape done e next = one_part (spec_in setting) shape done (check (spec_in setting) scope e) (expr_place e) next

  abbrev pub rest_check : ScopeTree → ShapeTree → List Seen → Rest → Checked
  rest_check scope shape done Nothing = all_done (spec_in setting) shape done
  rest_check scope shape done (One e) = part_then scope shape done (boxed e) (all_done (spec_in setting) shape)
  rest_check scope shape done (Two a b) =
      part_then scope shape done (boxed a) (λ (more : List Seen). part_then scope shape more (boxed b) (all_done (spec_in setting) shape))
  rest_check scope shape done (Three a b c) =
      part_then scope shape done (boxed a) (λ (more : List Seen).
      part_then scope shape more (boxed b) (λ (most : List Seen). part_then scope shape most (boxed c) (all_done (spec_in setting) shape)))
  rest_check scope shape done (Items es) = listed (spec_in setting) scope shape done (expr_trees (views_of es.now))
  rest_check scope shape done (Maplets ms) = pairs_in (spec_in setting) scope done (maplet_trees (map maplet_view ms.now))
  rest_check scope shape done (MapletValue v ms) =
      part_then scope of_map done (boxed v) (λ (more : List Seen). pairs_in (spec_in setting) scope more (maplet_trees (map maplet_view ms.now)))
  rest_check scope shape done (FieldValues all fs) =
      changed (spec_in setting) scope (names_of all.now.items) done (field_value_trees (map field_value_view fs.now))
  rest_check scope shape done (Modified e all) =
      part_then scope shape done (boxed e) (λ (more : List Seen).
      changed (spec_in setting) scope (names_of all.now.items) more (field_value_trees (map field_value_view all.now.items)))

  -- a part, and then the others
  abbrev pub part_check : ScopeTree → ShapeTree → List Seen → ExprTree → Rest → Checked
  part_check scope shape done e rest = part_then scope shape done e (λ (more : List Seen). rest_check scope shape more rest)

  -- ---- inside binds

  abbrev pub body_check : ScopeTree → Body → Checked
  body_check scope (Parts shape rest) = rest_check scope (shape_view shape) [] rest
  body_check scope (OneExpr e) = check (spec_in setting) scope (boxed e)
  body_check scope (Known form) = gives form

  abbrev pub inside_check : ScopeTree → Inside → Checked
  inside_check scope within = where_true (spec_in setting) scope (maybe_boxed within.condition) (body_check scope within.body)

  unfoldable pub inside_of : ScopeTree → Inside → List LocalForm → Checked
  inside_of scope within found = inside_check (inside scope found) within

  -- what patterns bind of the elements of a set of this form; then the binds that follow, and what stands inside
  unfoldable pub bound_behind : ScopeTree → List LocalForm → PatternTrees → BindTrees → Inside → FormTree → Checked
  bound_behind scope found patterns more within form = givens_list (spec_in setting) scope (given_in_each patterns)
      (bound_by (spec_in setting) scope (bound_in (spec_in setting) scope found patterns form) more (inside_of scope within))

  -- the set of a bind at `place` has this form
  abbrev pub bind_behind : ScopeTree → List LocalForm → PatternTrees → Place → BindTrees → Inside → FormTree → Checked
  bind_behind scope found patterns place more within form =
      refusing (set_faults (spec_in setting) scope patterns place form) (bound_behind scope found patterns more within form)

  unfoldable pub bind_check : ScopeTree → List LocalForm → PatternTrees → ExprTree → BindTrees → Inside → Checked
  bind_check scope found patterns set more within =
      after (check (spec_in setting) scope set) (bind_behind scope found patterns (expr_place set) more within)

  unfoldable pub iota_bound : ScopeTree → PatternTrees → ExprTree → FormTree → Checked
  iota_bound scope patterns condition form = givens_list (spec_in setting) scope (given_in_each patterns)
      (where_true (spec_in setting)
      (inside scope (bound_in (spec_in setting) scope [] patterns form))
      (given_expr condition) (gives (elements_of (spec_in setting) form)))

  -- the set of an `iota` at `place` has this form
  abbrev pub iota_behind : ScopeTree → PatternTrees → Place → ExprTree → FormTree → Checked
  iota_behind scope patterns place condition form =
      refusing (set_faults (spec_in setting) scope patterns place form) (iota_bound scope patterns condition form)

  unfoldable pub iota_check : ScopeTree → PatternTrees → ExprTree → ExprTree → Checked
  iota_check scope patterns set condition =
      after (check (spec_in setting) scope set) (iota_behind scope patterns (expr_place set) condition)

  -- ---- definitions

  unfoldable pub let_body : ExprTree → ScopeTree → Checked
  let_body body within = check (spec_in setting) within body

  -- the expressions in brackets in the pattern of a definition; then the others, inside what it binds
  unfoldable pub defined_behind : ScopeTree → DefinedView → ExprTree → DefinedTrees → FormTree → Checked
  defined_behind scope definition body more form = givens_list (spec_in setting) scope (given_in definition.pattern)
      (defined_in (spec_in setting) (inside_definition (spec_in setting) scope definition.pattern definition.declared form) more (let_body body))

  -- the value at `place` of the first of these has this form
  abbrev pub definitions_behind : ScopeTree → List DefinedView → Place → ExprTree → FormTree → Checked
  definitions_behind scope [] place body form = gives form
  definitions_behind scope (definition ∷ more) place body form =
      refusing (definition_faults (spec_in setting) scope definition.pattern definition.declared place form)
      (defined_behind scope definition body (defined_trees more) form)

  unfoldable pub let_check : ScopeTree → ExprTree → List DefinedView → ExprTree → Checked
  let_check scope value definitions body =
      after (check (spec_in setting) scope value) (definitions_behind scope definitions (expr_place value) body)

  unfoldable pub def_bound : ScopeTree → PatternTree → ExprTree → FormTree → Checked
  def_bound scope pattern body form = givens_list (spec_in setting) scope (given_in pattern)
      (let_body body (inside scope (binds (spec_in setting) (type_scope scope) form pattern)))

  -- the value of a `def` has this form
  abbrev pub def_behind : ScopeTree → PatternTree → ExprTree → FormTree → Checked
  def_behind scope pattern body form =
      refusing (pattern_faults (spec_in setting) (type_scope scope) pattern) (def_bound scope pattern body form)

  unfoldable pub def_check : ScopeTree → PatternTree → ExprTree → ExprTree → Checked
  def_check scope pattern value body = after (check (spec_in setting) scope value) (def_behind scope pattern body)

  -- ---- alternatives

  unfoldable pub last_check : ScopeTree → FormTree → ExprTree → Checked
  last_check scope known e = after (check (spec_in setting) scope e) (λ (form : FormTree). gives (joined known form))

  unfoldable pub others_of : ScopeTree → MaybeExpr → FormTree → Checked
  others_of scope others known = others_in (spec_in setting) scope known others

  unfoldable pub otherwise_of : ScopeTree → ExprTree → FormTree → Checked
  otherwise_of scope otherwise known = last_check scope known otherwise

  -- the value behind a condition, and what follows
  unfoldable pub then_check : ScopeTree → FormTree → ExprTree → BranchTrees → ExprTree → Checked
  then_check scope known value rest otherwise = after (check (spec_in setting) scope value) (λ (other : FormTree).
      branches (spec_in setting) scope (joined known other) rest (otherwise_of scope otherwise))

  unfoldable pub branch_check : ScopeTree → FormTree → ExprTree → ExprTree → BranchTrees → ExprTree → Checked
  branch_check scope known condition value rest otherwise = after (check (spec_in setting) scope condition) (λ (form : FormTree).
      refusing (want_faults (spec_in setting) truth (expr_place condition) form) (then_check scope known value rest otherwise))

  unfoldable pub cases_check : ScopeTree → FormTree → FormTree → List CaseView → MaybeExpr → Checked
  cases_check scope form known cases others = cases_in (spec_in setting) scope form known (case_trees cases) (others_of scope others)

  -- the alternatives of an `if` that follow, behind values of this form
  abbrev pub branches_check : ScopeTree → FormTree → Branches → Checked
  branches_check scope known rest =
      branches (spec_in setting) scope known (branch_trees (map branch_view rest.branches.now)) (otherwise_of scope (boxed rest.otherwise))

  abbrev pub cases_left : ScopeTree → FormTree → Cases → Checked
  cases_left scope known all = cases_check scope all.form known (map case_view all.cases.now) (maybe_view all.others.now)

  unfoldable pub subject_check : ScopeTree → ExprTree → List CaseView → MaybeExpr → Checked
  subject_check scope subject cases others =
      after (check (spec_in setting) scope subject) (λ (form : FormTree). cases_check scope form no_form cases others)

  -- what stands behind the patterns of an alternative, in each of these scopes
  unfoldable pub values_in : ScopeTree → FormTree → ExprTree → List ScopeTree → Cases → Checked
  values_in scope known value scopes all = after_each known
      (map (λ (within : ScopeTree). check (spec_in setting) within value) scopes)
      joined
      (λ (more : FormTree). cases_left scope more all)

  abbrev pub values_check : ScopeTree → FormTree → CaseValues → Checked
  values_check scope known values = values_in scope known (boxed values.value) (drop values.next (map at values.scopes.items)) values.all

  -- ... in one scope, and then in those that are left
  unfoldable pub value_check : ScopeTree → FormTree → ScopeTree → CaseValues → Checked
  value_check scope known within values = after (check (spec_in setting) within (boxed values.value)) (λ (other : FormTree).
      values_check scope (joined known other) values)

  unfoldable pub case_behind : ScopeTree → FormTree → CaseView → Cases → Checked
  case_behind scope known case all = givens_list (spec_in setting) scope (given_in_each (pattern_trees case.patterns))
      (values_in scope known case.value
      (scopes_behind scope (bindings_of (spec_in setting) (type_scope scope) all.form (pattern_trees case.patterns))) all)

  -- an alternative, and those behind it
  unfoldable pub case_check : ScopeTree → FormTree → CaseView → Cases → Checked
  case_check scope known case all =
      refusing (patterns_faults (spec_in setting) (type_scope scope) (pattern_trees case.patterns)) (case_behind scope known case all)

  -- ---- behind the expressions in brackets in patterns

  abbrev pub binds_check : ScopeTree → Binds → Checked
  binds_check scope rest =
      bound_by (spec_in setting) scope (map local_view rest.found.items) (bind_trees (map bind_view rest.more.now)) (inside_of scope rest.inside)

  abbrev pub goal_check : ScopeTree → Goal → Checked
  goal_check scope (MoreBinds rest) = binds_check scope rest
  goal_check scope (Definitions definitions body) =
      defined_in (spec_in setting) scope (defined_trees (map defined_view definitions.now)) (let_body (boxed body))
  goal_check scope (Iota condition form) = where_true (spec_in setting) scope (given_expr (boxed condition)) (gives form)
  goal_check scope (BehindCase known values) = values_check scope known values
  goal_check scope (BodyBehind body) = let_body (boxed body) scope

  abbrev pub after_check : After → Checked
  after_check rest = goal_check (at rest.locals) rest.goal

  -- the expressions in brackets, and then what comes behind the patterns
  unfoldable pub givens_check : ScopeTree → List ExprTree → After → Checked
  givens_check scope es rest = givens_list (spec_in setting) scope es (after_check rest)

  -- such an expression, and then the others
  unfoldable pub given_check : ScopeTree → ExprTree → List ExprTree → After → Checked
  given_check scope e es rest = after (check (spec_in setting) scope e) (λ (form : FormTree). givens_check scope es rest)

  -- ---- what is done with the form of a part

  abbrev pub called_with : ScopeTree → Rest → Callee → Checked
  called_with scope rest callee = called_by (spec_in setting) callee (λ (shape : ShapeTree). rest_check scope shape [] rest)

  abbrev pub use_of : Way → Use
  use_of Read = is_read
  use_of (Applied head_place arguments place) = is_applied head_place (length arguments.now) place

  abbrev pub arguments_of : Way → Rest
  arguments_of Read = Nothing
  arguments_of (Applied head_place arguments place) = Items arguments

  unfoldable pub target_check : ScopeTree → Place → NameNumber → Place → Way → FormTree → Checked
  target_check scope target_place name name_place way form =
      called_with scope (arguments_of way) (selected_callee (spec_in setting) scope (use_of way) target_place name name_place form)

  unfoldable pub target_of_class_check : ScopeTree → Place → NameNumber → Place → NameNumber → Place → Way → FormTree → Checked
  target_of_class_check scope target_place class class_place name name_place way form = called_with scope (arguments_of way)
      (selected_of_class (spec_in setting) scope (use_of way) target_place class class_place name name_place form)

  -- what a value is applied to
  abbrev pub value_behind : ScopeTree → Place → Bor (List Expr) → Place → FormTree → Checked
  value_behind scope head_place arguments place form =
      called_with scope (Items arguments) (value_callee (spec_in setting) [] form head_place (length arguments.now) place)

  unfoldable pub value_applied : ScopeTree → ExprTree → Bor (List Expr) → Place → Checked
  value_applied scope head arguments place =
      after (check (spec_in setting) scope head) (value_behind scope (expr_place head) arguments place)

  -- a part at `place` has this form; then the others
  abbrev pub part_seen : ScopeTree → ShapeTree → List Seen → Place → Rest → FormTree → Checked
  part_seen scope shape done place rest form =
      next_part (spec_in setting) shape done place form (λ (more : List Seen). rest_check scope shape more rest)

  abbrev pub bind_step_check : ScopeTree → BindStep → FormTree → Checked
  bind_step_check scope (BindSet patterns place rest) form =
      bind_behind scope (map local_view rest.found.items) (patterns_of patterns) place (bind_trees (map bind_view rest.more.now)) rest.inside form
  bind_step_check scope (IotaSet patterns place condition) form = iota_behind scope (patterns_of patterns) place (boxed condition) form
  bind_step_check scope (Defined definitions place body) form = definitions_behind scope (map defined_view definitions.now) place (boxed body) form
  bind_step_check scope (Def pattern body) form = def_behind scope (pattern_view pattern.now.value) (boxed body) form

  abbrev pub choice_check : ScopeTree → Choice → FormTree → Checked
  choice_check scope (If place value rest) form =
      refusing (want_faults (spec_in setting) truth place form)
      (then_check scope rest.known (boxed value) (branch_trees (map branch_view rest.branches.now)) (boxed rest.otherwise))
  choice_check scope (Then rest) form = branches_check scope (joined rest.known form) rest
  choice_check scope (Last known) form = gives (joined known form)
  choice_check scope (Subject cases others) form = cases_check scope form no_form (map case_view cases.now) (maybe_view others.now)
  choice_check scope (CaseValue known values) form = values_check scope (joined known form) values

  abbrev pub step_check : ScopeTree → Step → FormTree → Checked
  step_check scope (Part shape done place rest) form = part_seen scope (shape_view shape) (map seen_view done.items) place rest form
  step_check scope (Head head_place arguments place) form = value_behind scope head_place arguments place form
  step_check scope (Target target_place named way) form = target_check scope target_place named.name named.place way form
  step_check scope (TargetOfClass target_place class named way) form =
      target_of_class_check scope target_place class.name class.place named.name named.place way form
  step_check scope (Condition place body) form = refusing (want_faults (spec_in setting) truth place form) (body_check scope body)
  step_check scope (Given exprs next rest) form = givens_check scope (drop next (map boxed exprs.items)) rest
  step_check scope (OfBind step) form = bind_step_check scope step form
  step_check scope (OfChoice choice) form = choice_check scope choice form

  abbrev pub frame_check : Frame → FormTree → Checked
  frame_check frame form = step_check (at frame.locals) frame.step form

  -- ---- what comes next

  abbrev pub next_check : Next → Checked
  next_check (Gives form) = gives form
  next_check (NextPart e locals frame) = after (check (spec_in setting) (at locals) (view_of e.now)) (frame_check frame)
  next_check (Goes rest) = after_check rest
  next_check (Becomes e locals) = check (spec_in setting) (at locals) (view_of e.now)

  -- what is checked above a frame comes first; the topmost frame is the last
  abbrev pub under : List Frame → Checked → Checked
  under [] checked = checked
  under (frame ∷ above) checked = after (under above checked) (frame_check frame)
