-- What stands right in an expression that is built is built.
use Rattle.std.proofs.Common.{◌≡◌, Bool, true, false, [], ◌∷◌, ◌++◌, None, Some, refl}
use Rattle.abstract_syntax.specs.Expressions.{
  ExprTree,
  ExprTrees,
  MaybeExpr,
  MapletTrees,
  FieldValueTrees,
  DefinedTrees,
  BranchTrees,
  CaseTrees,
  BindTree,
  BindTrees,
  PatternTree,
  PatternTrees,
  MapletPatterns,
  literal,
  named,
  qualified,
  old_value,
  self_object,
  current_time,
  undefined,
  result_value,
  bracketed,
  prefixed,
  joined,
  set_enumeration,
  set_range,
  set_comprehension,
  empty_map,
  map_enumeration,
  map_comprehension,
  sequence_enumeration,
  sequence_comprehension,
  make_tuple,
  make_token,
  make_record,
  modify_record,
  is_of_type,
  is_of_named,
  is_of_basic,
  is_of_class,
  is_of_base_class,
  same_class,
  same_base_class,
  create,
  apply,
  subsequence,
  select,
  select_part,
  let_in,
  let_be,
  def_in,
  if_else,
  cases_of,
  for_all,
  exists_some,
  exists_one,
  iota_of,
  select_of_class,
  no_exprs,
  one_expr,
  left_out,
  given_expr,
  no_maplets,
  one_maplet,
  no_field_values,
  one_field_value,
  no_defined,
  one_defined,
  no_branches,
  one_branch,
  no_cases,
  one_case,
  bind_in,
  no_binds,
  one_bind,
  any_value,
  bound,
  literal_pattern,
  equal_to,
  set_pattern,
  sequence_pattern,
  map_pattern,
  empty_map_pattern,
  tuple_pattern,
  record_pattern,
  concatenation_pattern,
  no_patterns,
  one_pattern,
  no_maplet_patterns,
  one_maplet_pattern,
}
use Rattle.pattern_meaning.specs.Brackets.{given_in, given_in_each, given_in_maplets}
use Rattle.text_phases.specs.Built.{or_behind, unbuilt_in_expr, unbuilt_in_exprs, unbuilt_in_maybe, unbuilt_in_maplets, unbuilt_in_field_values, unbuilt_in_defined, unbuilt_in_branches, unbuilt_in_cases, unbuilt_in_bind, unbuilt_in_binds, unbuilt_in_pattern, unbuilt_in_patterns, unbuilt_in_maplet_patterns}
use Rattle.built_laws.specs.Parts.{exprs_in, maybe_in, maplets_in, field_values_in, definitions_in, branches_in, cases_in, bind_parts, binds_in, parts}
use Rattle.built_laws.specs.Meant.{Each, creates, has_plan}
use Rattle.built_laws.proofs.Lists.{each-append}
use Rattle.built_laws.proofs.Nothing.{first-none, behind-none, told-none}

-- built where objects may be made or not
abbrev pub IsBuiltIn : Bool → ExprTree → Type 0
IsBuiltIn makes tree = unbuilt_in_expr makes tree ≡ None

module _ (makes : Bool) where
  -- ---- the expressions in brackets in patterns

  mutual
    pub given_built : (p : PatternTree) → unbuilt_in_pattern makes p ≡ None → Each (IsBuiltIn makes) (given_in p)
    given_built (any_value place) h = tt
    given_built (bound name place) h = tt
    given_built (literal_pattern value place) h = tt
    given_built (equal_to inner place) h = (h, tt)
    given_built (set_pattern elements place) h = each_built elements h
    given_built (sequence_pattern items place) h = each_built items h
    given_built (map_pattern maplets place) h = maplets_given maplets h
    given_built (empty_map_pattern place) h = tt
    given_built (tuple_pattern elements place) h = each_built elements h
    given_built (record_pattern t fields place) h = each_built fields h
    given_built (concatenation_pattern elements place) h = each_built elements h

    pub each_built : (ps : PatternTrees) → unbuilt_in_patterns makes ps ≡ None → Each (IsBuiltIn makes) (given_in_each ps)
    each_built no_patterns h = tt
    each_built (one_pattern p ps) h =
        each-append (IsBuiltIn makes) (given_in p) (given_in_each ps) (given_built p (first-none _ _ h)) (each_built ps (behind-none _ _ h))

    maplets_given : (ms : MapletPatterns) → unbuilt_in_maplet_patterns makes ms ≡ None → Each (IsBuiltIn makes) (given_in_maplets ms)
    maplets_given no_maplet_patterns h = tt
    maplets_given (one_maplet_pattern p q ms) h =
        let behind = behind-none _ _ h in
        each-append (IsBuiltIn makes) (given_in p) (given_in q ++ given_in_maplets ms) (given_built p (first-none _ _ h))
        (each-append (IsBuiltIn makes) (given_in q) (given_in_maplets ms) (given_built q (first-none _ _ behind)) (maplets_given ms (behind-none _ _ behind)))

  -- ---- lists

  exprs_built : (es : ExprTrees) → unbuilt_in_exprs makes es ≡ None → Each (IsBuiltIn makes) (exprs_in es)
  exprs_built no_exprs h = tt
  exprs_built (one_expr e es) h = (first-none _ _ h, exprs_built es (behind-none _ _ h))

  maybe_built : (e : MaybeExpr) → unbuilt_in_maybe makes e ≡ None → Each (IsBuiltIn makes) (maybe_in e)
  maybe_built left_out h = tt
  maybe_built (given_expr e) h = (h, tt)

  maplets_built : (ms : MapletTrees) → unbuilt_in_maplets makes ms ≡ None → Each (IsBuiltIn makes) (maplets_in ms)
  maplets_built no_maplets h = tt
  maplets_built (one_maplet key value ms) h =
      let behind = behind-none _ _ h in (first-none _ _ h, (first-none _ _ behind, maplets_built ms (behind-none _ _ behind)))

  field_values_built : (fs : FieldValueTrees) → unbuilt_in_field_values makes fs ≡ None → Each (IsBuiltIn makes) (field_values_in fs)
  field_values_built no_field_values h = tt
  field_values_built (one_field_value name name_place value fs) h = (first-none _ _ h, field_values_built fs (behind-none _ _ h))

  pub definitions_built : (ds : DefinedTrees) → unbuilt_in_defined makes ds ≡ None → Each (IsBuiltIn makes) (definitions_in ds)
  definitions_built no_defined h = tt
  definitions_built (one_defined pattern declared value ds) h =
      let behind = behind-none _ _ h in
      each-append (IsBuiltIn makes) (given_in pattern) (value ∷ definitions_in ds) (given_built pattern (first-none _ _ h))
      (first-none _ _ behind, definitions_built ds (behind-none _ _ behind))

  branches_built : (bs : BranchTrees) → unbuilt_in_branches makes bs ≡ None → Each (IsBuiltIn makes) (branches_in bs)
  branches_built no_branches h = tt
  branches_built (one_branch condition value bs) h =
      let behind = behind-none _ _ h in (first-none _ _ h, (first-none _ _ behind, branches_built bs (behind-none _ _ behind)))

  cases_built : (cs : CaseTrees) → unbuilt_in_cases makes cs ≡ None → Each (IsBuiltIn makes) (cases_in cs)
  cases_built no_cases h = tt
  cases_built (one_case patterns value cs) h =
      let behind = behind-none _ _ h in
      each-append (IsBuiltIn makes) (given_in_each patterns) (value ∷ cases_in cs) (each_built patterns (first-none _ _ h))
      (first-none _ _ behind, cases_built cs (behind-none _ _ behind))

  pub bind_built : (b : BindTree) → unbuilt_in_bind makes b ≡ None → Each (IsBuiltIn makes) (bind_parts b)
  bind_built (bind_in patterns set) h =
      each-append (IsBuiltIn makes) (given_in_each patterns) (set ∷ []) (each_built patterns (first-none _ _ h)) (behind-none _ _ h, tt)

  binds_built : (bs : BindTrees) → unbuilt_in_binds makes bs ≡ None → Each (IsBuiltIn makes) (binds_in bs)
  binds_built no_binds h = tt
  binds_built (one_bind b bs) h =
      each-append (IsBuiltIn makes) (bind_parts b) (binds_in bs) (bind_built b (first-none _ _ h)) (binds_built bs (behind-none _ _ h))

  -- ---- what comes one behind the other

  two_built : (a b : ExprTree) → or_behind (unbuilt_in_expr makes a) (unbuilt_in_expr makes b) ≡ None → Each (IsBuiltIn makes) (a ∷ b ∷ [])
  two_built a b h = (first-none _ _ h, (behind-none _ _ h, tt))

  binds_where : (bs : BindTrees) (e : MaybeExpr) → or_behind (unbuilt_in_binds makes bs) (unbuilt_in_maybe makes e) ≡ None
      → Each (IsBuiltIn makes) (binds_in bs ++ maybe_in e)
  binds_where bs e h =
      each-append (IsBuiltIn makes) (binds_in bs) (maybe_in e) (binds_built bs (first-none _ _ h)) (maybe_built e (behind-none _ _ h))

  binds_then : (bs : BindTrees) (e : ExprTree) → or_behind (unbuilt_in_binds makes bs) (unbuilt_in_expr makes e) ≡ None
      → Each (IsBuiltIn makes) (binds_in bs ++ (e ∷ []))
  binds_then bs e h = each-append (IsBuiltIn makes) (binds_in bs) (e ∷ []) (binds_built bs (first-none _ _ h)) (behind-none _ _ h, tt)

  bind_then : (b : BindTree) (e : ExprTree) → or_behind (unbuilt_in_bind makes b) (unbuilt_in_expr makes e) ≡ None
      → Each (IsBuiltIn makes) (bind_parts b ++ (e ∷ []))
  bind_then b e h = each-append (IsBuiltIn makes) (bind_parts b) (e ∷ []) (bind_built b (first-none _ _ h)) (behind-none _ _ h, tt)

  -- ---- all kinds

  pub parts_built : (tree : ExprTree) → IsBuiltIn makes tree → Each (IsBuiltIn makes) (parts tree)
  parts_built (literal value place) h = tt
  parts_built (named name place) h = tt
  parts_built (qualified class name name_place place) h = tt
  parts_built (old_value name place) h = tt
  parts_built (self_object place) h = tt
  parts_built (current_time place) h = tt
  parts_built (undefined place) h = tt
  parts_built (result_value place) h = tt
  parts_built (bracketed inner place) h = (h, tt)
  parts_built (prefixed sign operand place) h = (h, tt)
  parts_built (joined left sign right place) h = two_built left right h
  parts_built (set_enumeration elements place) h = exprs_built elements h
  parts_built (set_range first last place) h = two_built first last h
  parts_built (set_comprehension element binds condition place) h = (first-none _ _ h, binds_where binds condition (behind-none _ _ h))
  parts_built (empty_map place) h = tt
  parts_built (map_enumeration pairs place) h = maplets_built pairs h
  parts_built (map_comprehension key value binds condition place) h =
      let behind = behind-none _ _ h in (first-none _ _ h, (first-none _ _ behind, binds_where binds condition (behind-none _ _ behind)))
  parts_built (sequence_enumeration items place) h = exprs_built items h
  parts_built (sequence_comprehension item pattern set condition place) h =
      let behind = behind-none _ _ h in
      let last = behind-none _ _ behind in (
        first-none _ _ h,
        each-append (IsBuiltIn makes) (given_in pattern) (set ∷ maybe_in condition) (given_built pattern (first-none _ _ behind))
            (first-none _ _ last, maybe_built condition (behind-none _ _ last)),
      )
  parts_built (make_tuple elements place) h = exprs_built elements h
  parts_built (make_token inner place) h = (h, tt)
  parts_built (make_record type_name fields place) h = exprs_built fields h
  parts_built (modify_record target fields place) h = (first-none _ _ h, field_values_built fields (behind-none _ _ h))
  parts_built (is_of_type tested declared place) h = (h, tt)
  parts_built (is_of_named type_name tested place) h = (h, tt)
  parts_built (is_of_basic basic tested place) h = (h, tt)
  parts_built (is_of_class class class_place tested place) h = (h, tt)
  parts_built (is_of_base_class class class_place tested place) h = (h, tt)
  parts_built (same_class left right place) h = two_built left right h
  parts_built (same_base_class left right place) h = two_built left right h
  parts_built (create class class_place arguments place) h = exprs_built arguments (behind-none _ _ h)
  parts_built (apply head arguments place) h = (first-none _ _ h, exprs_built arguments (behind-none _ _ h))
  parts_built (subsequence target first last place) h = (first-none _ _ h, two_built first last (behind-none _ _ h))
  parts_built (select target name name_place place) h = (h, tt)
  parts_built (select_part target number place) h = (h, tt)
  parts_built (let_in definitions body place) h =
      each-append (IsBuiltIn makes) (definitions_in definitions) (body ∷ []) (definitions_built definitions (first-none _ _ h)) (behind-none _ _ h, tt)
  parts_built (let_be bind condition body place) h =
      let behind = behind-none _ _ h in
      each-append (IsBuiltIn makes) (bind_parts bind) (maybe_in condition ++ (body ∷ [])) (bind_built bind (first-none _ _ h))
      (each-append (IsBuiltIn makes) (maybe_in condition) (body ∷ []) (maybe_built condition (first-none _ _ behind)) (behind-none _ _ behind, tt))
  parts_built (def_in pattern value body place) h =
      each-append (IsBuiltIn makes) (given_in pattern) (value ∷ body ∷ []) (given_built pattern (first-none _ _ h)) (two_built value body (behind-none _ _ h))
  parts_built (if_else condition value elseifs otherwise place) h =
      let behind = behind-none _ _ h in
      let last = behind-none _ _ behind in (
        first-none _ _ h,
        (
          first-none _ _ behind,
          each-append (IsBuiltIn makes) (branches_in elseifs) (otherwise ∷ []) (branches_built elseifs (first-none _ _ last)) (behind-none _ _ last, tt),
        ),
      )
  parts_built (cases_of subject cases others place) h =
      let behind = behind-none _ _ h in (
        first-none _ _ h,
        each-append (IsBuiltIn makes) (cases_in cases) (maybe_in others) (cases_built cases (first-none _ _ behind)) (maybe_built others (behind-none _ _ behind)),
      )
  parts_built (for_all binds condition place) h = binds_then binds condition h
  parts_built (exists_some binds condition place) h = binds_then binds condition h
  parts_built (exists_one bind condition place) h = bind_then bind condition h
  parts_built (iota_of bind condition place) h = bind_then bind condition h
  parts_built (select_of_class target class class_place name name_place place) h = (h, tt)
  parts_built tree h = told-none _ h

  -- ---- the node

  pub plan_there : (tree : ExprTree) → IsBuiltIn makes tree → has_plan tree ≡ true
  plan_there (literal value place) h = refl
  plan_there (named name place) h = refl
  plan_there (qualified class name name_place place) h = refl
  plan_there (old_value name place) h = refl
  plan_there (self_object place) h = refl
  plan_there (current_time place) h = refl
  plan_there (undefined place) h = refl
  plan_there (result_value place) h = refl
  plan_there (bracketed inner place) h = refl
  plan_there (prefixed sign operand place) h = refl
  plan_there (joined left sign right place) h = refl
  plan_there (set_enumeration elements place) h = refl
  plan_there (set_range first last place) h = refl
  plan_there (set_comprehension element binds condition place) h = refl
  plan_there (empty_map place) h = refl
  plan_there (map_enumeration pairs place) h = refl
  plan_there (map_comprehension key value binds condition place) h = refl
  plan_there (sequence_enumeration items place) h = refl
  plan_there (sequence_comprehension item pattern set condition place) h = refl
  plan_there (make_tuple elements place) h = refl
  plan_there (make_token inner place) h = refl
  plan_there (make_record type_name fields place) h = refl
  plan_there (modify_record target fields place) h = refl
  plan_there (is_of_type tested declared place) h = refl
  plan_there (is_of_named type_name tested place) h = refl
  plan_there (is_of_basic basic tested place) h = refl
  plan_there (is_of_class class class_place tested place) h = refl
  plan_there (is_of_base_class class class_place tested place) h = refl
  plan_there (same_class left right place) h = refl
  plan_there (same_base_class left right place) h = refl
  plan_there (create class class_place arguments place) h = refl
  plan_there (apply head arguments place) h = refl
  plan_there (subsequence target first last place) h = refl
  plan_there (select target name name_place place) h = refl
  plan_there (select_part target number place) h = refl
  plan_there (let_in definitions body place) h = refl
  plan_there (let_be bind condition body place) h = refl
  plan_there (def_in pattern value body place) h = refl
  plan_there (if_else condition value elseifs otherwise place) h = refl
  plan_there (cases_of subject cases others place) h = refl
  plan_there (for_all binds condition place) h = refl
  plan_there (exists_some binds condition place) h = refl
  plan_there (exists_one bind condition place) h = refl
  plan_there (iota_of bind condition place) h = refl
  plan_there (select_of_class target class class_place name name_place place) h = refl
  plan_there tree h = told-none _ h

-- ---- what makes no object

pub none_made : (tree : ExprTree) → IsBuiltIn false tree → creates tree ≡ false
none_made (create class class_place arguments place) h = told-none place (first-none (Some place) (unbuilt_in_exprs false arguments) h)
none_made tree h = refl
