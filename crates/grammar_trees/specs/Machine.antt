-- How tokens are read from left to right, one after the other: a device of the proof that tokens are at most one tree.
use Rattle.std.specs.Prelude.{ℕ, ℤ, Bool, true, false, if◌then◌else◌, nat_lt, List, [], ◌∷◌, ◌++◌, Option, Some, None}
use Rattle.vdm_kinds.specs.declared.counter.Counter.{Counter}
use Rattle.vdm_kinds.specs.declared.name.Name.{Name}
use Rattle.vdm_kinds.specs.declared.name_at.NameAt.{NameAt}
use Rattle.vdm_kinds.specs.declared.name_at.TypeName.{TypeName}
use Rattle.vdm_kinds.specs.declared.place.Place.{Place}
use Rattle.vdm_kinds.specs.declared.sign.Sign.{Sign}
use Rattle.vdm_kinds.specs.declared.sign.Sign.TheVariants.{Plus, Minus, Positive, Negative, Equal, InSet, Concatenation}
use Rattle.abstract_syntax.specs.Literals.{whole_literal, character_literal, text_literal, quote_literal, boolean_literal, nil_literal}
use Rattle.abstract_syntax.specs.Types.{TypeTree}
use Rattle.abstract_syntax.specs.Expressions.{ExprTree, ExprTrees, MaybeExpr, MapletTrees, FieldValueTrees, DefinedTrees, BranchTrees, CaseTrees, BindTree, BindTrees, PatternTree, PatternTrees, MapletPatterns, literal, named, qualified, old_value, self_object, current_time, undefined, result_value, bracketed, prefixed, joined, set_enumeration, set_range, set_comprehension, empty_map, map_enumeration, map_comprehension, sequence_enumeration, sequence_comprehension, make_tuple, make_token, make_record, modify_record, is_of_type, is_of_named, is_of_basic, is_of_class, is_of_base_class, same_class, same_base_class, create, history, apply, subsequence, select, select_of_class, select_part, let_in, let_be, def_in, if_else, cases_of, for_all, exists_some, exists_one, iota_of, no_exprs, one_expr, left_out, given_expr, no_maplets, no_field_values, no_defined, no_branches, no_cases, one_case, bind_in, no_binds, any_value, bound, literal_pattern, equal_to, set_pattern, sequence_pattern, map_pattern, empty_map_pattern, tuple_pattern, record_pattern, concatenation_pattern, no_patterns, no_maplet_patterns}
use Rattle.abstract_syntax.specs.Expressions.{pattern_place}
use Rattle.grammar_words.specs.declared.word.Word.{Word}
use Rattle.grammar_words.specs.declared.word.Word.TheVariants as word_is
use Rattle.grammar_words.specs.Tokens.{Token, word_of, identifier, quote, whole, character, text, make_named, is_named, plain}
use Rattle.grammar_words.specs.Pulls.{left_pull, right_pull, far_pull, postfix_pull, is_prefix, is_infix}
use Rattle.grammar_trees.specs.Lists.{and_expr, and_maplet, and_field_value, and_defined, and_branch, and_case, and_bind, and_pattern, and_maplet_pattern, only_pattern}
use Rattle.grammar_trees.specs.Frames.{Enclosed, Listed, Ranged, Compared, BindsFor, Conditioned, Body, PatternsFor, Frame, TypeNameFor, Header, Mode, State, Built, bracket, token_of, named_test, basic_test, class_test, base_class_test, set_of, sequence_of, tuple_of, record_of, new_of, applied_to, in_set, part_of_sequence, classes, base_classes, set_each, map_each, all_of, some_of, one_of, the_one, such_one, set_such, map_such, sequence_such, all_body, some_body, one_body, the_body, let_body, such_body, def_body, else_body, set_like, sequence_like, tuple_like, record_like, operand_of, right_of, body, enclosed, matched, items, tuple_start, range_end, map_key, map_value, condition, bind_set, sequence_set, left_class, right_class, tested, modified, field_value, let_value, let_such, def_value, if_test, if_then, elseif_test, elseif_then, subject, case_value, others_value, bind_patterns, sequence_bound, let_start, let_next, def_pattern, case_patterns, pattern_items, tuple_pattern_start, pattern_key, pattern_value, concatenated, test_type, let_type, type_bracket, made, asked, made_pattern, opens, comma_then, st_then, arrow_then, opens_pattern, type_after, type_rest, qualified_rest, member_of, member_rest, part_of, new_name, counter_opens, counter_name, counter_next, class_opens, class_name, base_class_opens, base_class_name, field_name, field_arrow, empty_map_end, empty_pattern_end, wants, has, wants_pattern, has_pattern, awaits, typing, refused, nothing, an_expr, a_pattern}

abbrev pub in_mode : Mode → List Frame → State
in_mode mode frames = record { mode = mode; frames = frames }

abbrev pub no_tree : State
no_tree = in_mode refused []

-- ---- where an expression is wanted

-- the operator that a sign is before its operand
abbrev pub as_prefix : Sign → Option Sign
as_prefix Plus = Some Positive
as_prefix Minus = Some Negative
as_prefix Positive = None
as_prefix Negative = None
as_prefix sign = if is_prefix sign then Some sign else None

abbrev pub want_operand : Option Sign → Place → List Frame → State
want_operand None place fs = no_tree
want_operand (Some sign) place fs = in_mode wants (operand_of sign place ∷ fs)

-- a list that ends before its first item
abbrev pub empty_curly : Listed → ExprTrees → Place → List Frame → State
empty_curly set_of no_exprs place fs = in_mode (has (set_enumeration no_exprs place)) fs
empty_curly _ _ place fs = no_tree

abbrev pub empty_square : Listed → ExprTrees → Place → List Frame → State
empty_square sequence_of no_exprs place fs = in_mode (has (sequence_enumeration no_exprs place)) fs
empty_square _ _ place fs = no_tree

abbrev pub empty_round : Listed → ExprTrees → Place → List Frame → State
empty_round (record_of type_name) no_exprs place fs = in_mode (has (make_record type_name no_exprs place)) fs
empty_round (new_of class class_place) no_exprs place fs = in_mode (has (create class class_place no_exprs place)) fs
empty_round (applied_to head) no_exprs place fs = in_mode (has (apply head no_exprs place)) fs
empty_round _ _ place fs = no_tree

-- `|->` before a first item
abbrev pub empty_maps_to : Listed → ExprTrees → Place → List Frame → State
empty_maps_to set_of no_exprs place fs = in_mode (awaits (empty_map_end place)) fs
empty_maps_to _ _ place fs = no_tree

-- `...` behind a first item
abbrev pub dots_behind : Listed → ExprTrees → Place → List Frame → State
dots_behind set_of (one_expr first no_exprs) place fs = in_mode (awaits (comma_then (range_end in_set first place))) fs
dots_behind (applied_to head) (one_expr first no_exprs) place fs =
    in_mode (awaits (comma_then (range_end (part_of_sequence head) first place))) fs
dots_behind _ _ place fs = no_tree

-- what is done with a list that an item is wanted for
abbrev pub in_items : (Listed → ExprTrees → Place → List Frame → State) → List Frame → State
in_items go [] = no_tree
in_items go (items listed es place ∷ fs) = go listed es place fs
in_items go (f ∷ fs) = no_tree

-- forms that go on to the right as far as they can, and `cases`
abbrev pub want_far : Word → Place → List Frame → State
want_far word_is.Let place fs = in_mode wants_pattern (let_start place ∷ fs)
want_far word_is.Def place fs = in_mode wants_pattern (def_pattern place ∷ fs)
want_far word_is.If place fs = in_mode wants (if_test place ∷ fs)
want_far word_is.Cases place fs = in_mode wants (subject place ∷ fs)
want_far word_is.Forall place fs = in_mode wants_pattern (bind_patterns all_of no_binds no_patterns place ∷ fs)
want_far word_is.Exists place fs = in_mode wants_pattern (bind_patterns some_of no_binds no_patterns place ∷ fs)
want_far word_is.ExistsOne place fs = in_mode wants_pattern (bind_patterns one_of no_binds no_patterns place ∷ fs)
want_far word_is.Iota place fs = in_mode wants_pattern (bind_patterns the_one no_binds no_patterns place ∷ fs)
want_far _ place fs = no_tree

-- forms that begin with a word and a bracket
abbrev pub want_form : Word → Place → List Frame → State
want_form word_is.MakeTuple place fs = in_mode (awaits (opens (tuple_start place))) fs
want_form word_is.MakeToken place fs = in_mode (awaits (opens (enclosed token_of place))) fs
want_form word_is.IsType place fs = in_mode (awaits (opens (tested place))) fs
want_form (word_is.IsBasic basic) place fs = in_mode (awaits (opens (enclosed (basic_test basic) place))) fs
want_form word_is.Modify place fs = in_mode (awaits (opens (modified place))) fs
want_form word_is.New place fs = in_mode (awaits (new_name place)) fs
want_form word_is.IsOfClass place fs = in_mode (awaits (class_opens place)) fs
want_form word_is.IsOfBaseClass place fs = in_mode (awaits (base_class_opens place)) fs
want_form word_is.SameClass place fs = in_mode (awaits (opens (left_class classes place))) fs
want_form word_is.SameBaseClass place fs = in_mode (awaits (opens (left_class base_classes place))) fs
want_form (word_is.Counter counter) place fs = in_mode (awaits (counter_opens counter place)) fs
want_form w place fs = want_far w place fs

abbrev pub want_word : Word → Place → List Frame → State
want_word word_is.True place fs = in_mode (has (literal (boolean_literal true) place)) fs
want_word word_is.False place fs = in_mode (has (literal (boolean_literal false) place)) fs
want_word word_is.Nil place fs = in_mode (has (literal nil_literal place)) fs
want_word word_is.SelfWord place fs = in_mode (has (self_object place)) fs
want_word word_is.Time place fs = in_mode (has (current_time place)) fs
want_word word_is.Undefined place fs = in_mode (has (undefined place)) fs
want_word word_is.Result place fs = in_mode (has (result_value place)) fs
want_word (word_is.Operator sign) place fs = want_operand (as_prefix sign) place fs
want_word word_is.OpenRound place fs = in_mode wants (enclosed bracket place ∷ fs)
want_word word_is.OpenCurly place fs = in_mode wants (items set_of no_exprs place ∷ fs)
want_word word_is.OpenSquare place fs = in_mode wants (items sequence_of no_exprs place ∷ fs)
want_word word_is.CloseCurly place fs = in_items empty_curly fs
want_word word_is.CloseSquare place fs = in_items empty_square fs
want_word word_is.CloseRound place fs = in_items empty_round fs
want_word word_is.MapsTo place fs = in_items empty_maps_to fs
want_word word_is.Dots place fs = in_items dots_behind fs
want_word w place fs = want_form w place fs

abbrev pub want : Token → List Frame → State
want (identifier name place) fs = in_mode (has (named name place)) fs
want (quote name place) fs = in_mode (has (literal (quote_literal name) place)) fs
want (whole n place) fs = in_mode (has (literal (whole_literal n) place)) fs
want (character c place) fs = in_mode (has (literal (character_literal c) place)) fs
want (text characters place) fs = in_mode (has (literal (text_literal characters) place)) fs
want (make_named name place) fs = in_mode (awaits (type_after made name place)) fs
want (is_named name place) fs = in_mode (awaits (type_after asked name place)) fs
want (plain w place) fs = want_word w place fs

-- ---- where a pattern is wanted

abbrev pub empty_pattern_curly : PatternsFor → PatternTrees → Place → List Frame → State
empty_pattern_curly set_like no_patterns place fs = in_mode (has_pattern (set_pattern no_patterns place)) fs
empty_pattern_curly _ _ place fs = no_tree

abbrev pub empty_pattern_square : PatternsFor → PatternTrees → Place → List Frame → State
empty_pattern_square sequence_like no_patterns place fs = in_mode (has_pattern (sequence_pattern no_patterns place)) fs
empty_pattern_square _ _ place fs = no_tree

abbrev pub empty_pattern_round : PatternsFor → PatternTrees → Place → List Frame → State
empty_pattern_round (record_like type_name) no_patterns place fs = in_mode (has_pattern (record_pattern type_name no_patterns place)) fs
empty_pattern_round _ _ place fs = no_tree

abbrev pub empty_pattern_maps_to : PatternsFor → PatternTrees → Place → List Frame → State
empty_pattern_maps_to set_like no_patterns place fs = in_mode (awaits (empty_pattern_end place)) fs
empty_pattern_maps_to _ _ place fs = no_tree

abbrev pub in_pattern_items : (PatternsFor → PatternTrees → Place → List Frame → State) → List Frame → State
in_pattern_items go [] = no_tree
in_pattern_items go (pattern_items listed ps place ∷ fs) = go listed ps place fs
in_pattern_items go (f ∷ fs) = no_tree

-- `others` in the place of the patterns of a further case
abbrev pub others_of : ExprTree → CaseTrees → PatternTrees → Place → List Frame → State
others_of e (one_case ps v cs) no_patterns place fs = in_mode (awaits (arrow_then (others_value e (one_case ps v cs) place))) fs
others_of e _ _ place fs = no_tree

abbrev pub in_cases : List Frame → State
in_cases [] = no_tree
in_cases (case_patterns e cs ps place ∷ fs) = others_of e cs ps place fs
in_cases (f ∷ fs) = no_tree

abbrev pub want_any : Sign → Place → List Frame → State
want_any Minus place fs = in_mode (has_pattern (any_value place)) fs
want_any _ place fs = no_tree

abbrev pub want_pattern_word : Word → Place → List Frame → State
want_pattern_word word_is.True place fs = in_mode (has_pattern (literal_pattern (boolean_literal true) place)) fs
want_pattern_word word_is.False place fs = in_mode (has_pattern (literal_pattern (boolean_literal false) place)) fs
want_pattern_word word_is.Nil place fs = in_mode (has_pattern (literal_pattern nil_literal place)) fs
want_pattern_word (word_is.Operator sign) place fs = want_any sign place fs
want_pattern_word word_is.OpenRound place fs = in_mode wants (matched place ∷ fs)
want_pattern_word word_is.OpenCurly place fs = in_mode wants_pattern (pattern_items set_like no_patterns place ∷ fs)
want_pattern_word word_is.OpenSquare place fs = in_mode wants_pattern (pattern_items sequence_like no_patterns place ∷ fs)
want_pattern_word word_is.CloseCurly place fs = in_pattern_items empty_pattern_curly fs
want_pattern_word word_is.CloseSquare place fs = in_pattern_items empty_pattern_square fs
want_pattern_word word_is.CloseRound place fs = in_pattern_items empty_pattern_round fs
want_pattern_word word_is.MapsTo place fs = in_pattern_items empty_pattern_maps_to fs
want_pattern_word word_is.MakeTuple place fs = in_mode (awaits (opens_pattern (tuple_pattern_start place))) fs
want_pattern_word word_is.Others place fs = in_cases fs
want_pattern_word _ place fs = no_tree

abbrev pub want_pattern : Token → List Frame → State
want_pattern (identifier name place) fs = in_mode (has_pattern (bound name place)) fs
want_pattern (quote name place) fs = in_mode (has_pattern (literal_pattern (quote_literal name) place)) fs
want_pattern (whole n place) fs = in_mode (has_pattern (literal_pattern (whole_literal n) place)) fs
want_pattern (character c place) fs = in_mode (has_pattern (literal_pattern (character_literal c) place)) fs
want_pattern (text characters place) fs = in_mode (has_pattern (literal_pattern (text_literal characters) place)) fs
want_pattern (make_named name place) fs = in_mode (awaits (type_after made_pattern name place)) fs
want_pattern (is_named name place) fs = no_tree
want_pattern (plain w place) fs = want_pattern_word w place fs

-- ---- behind an expression

-- how strongly a word pulls at the expression that stands before it
abbrev pub word_pull : Word → ℕ
word_pull (word_is.Operator sign) = left_pull sign
word_pull word_is.OpenRound = postfix_pull
word_pull word_is.Dot = postfix_pull
word_pull word_is.DotNumber = postfix_pull
word_pull _ = 0

-- how strongly a frame pulls at the expression that is read for it: not at all, where a word of its own ends it
abbrev pub pull : Frame → ℕ
pull (operand_of sign place) = right_pull sign
pull (right_of left sign place) = right_pull sign
pull (body b place) = far_pull
pull _ = 0

abbrev pub with_body : Body → ExprTree → Place → ExprTree
with_body (all_body binds) e place = for_all binds e place
with_body (some_body binds) e place = exists_some binds e place
with_body (one_body bind) e place = exists_one bind e place
with_body (the_body bind) e place = iota_of bind e place
with_body (let_body definitions) e place = let_in definitions e place
with_body (such_body bind such) e place = let_be bind such e place
with_body (def_body pattern value) e place = def_in pattern value e place
with_body (else_body test value elseifs) e place = if_else test value elseifs e place

-- the tree of a frame that ends with the expression
abbrev pub completed : Frame → ExprTree → ExprTree
completed (operand_of sign place) e = prefixed sign e place
completed (right_of left sign place) e = joined left sign e place
completed (body b place) e = with_body b e place
completed _ e = e

-- what may end an expression or a pattern, besides operators
pub data Stop : Type 0 where
  comma : Stop
  close_round : Stop
  close_square : Stop
  close_curly : Stop
  bar : Stop
  maps_to : Stop
  ampersand : Stop
  then_stop : Stop
  elseif_stop : Stop
  else_stop : Stop
  in_stop : Stop
  be_stop : Stop
  colon : Stop
  arrow : Stop
  end_stop : Stop
  in_set_stop : Stop
  equal_stop : Stop
  no_stop : Stop

abbrev pub stop_of_sign : Sign → Stop
stop_of_sign InSet = in_set_stop
stop_of_sign Equal = equal_stop
stop_of_sign _ = no_stop

abbrev pub stop_of : Word → Stop
stop_of word_is.Comma = comma
stop_of word_is.CloseRound = close_round
stop_of word_is.CloseSquare = close_square
stop_of word_is.CloseCurly = close_curly
stop_of word_is.Bar = bar
stop_of word_is.MapsTo = maps_to
stop_of word_is.Ampersand = ampersand
stop_of word_is.Then = then_stop
stop_of word_is.Elseif = elseif_stop
stop_of word_is.Else = else_stop
stop_of word_is.In = in_stop
stop_of word_is.Be = be_stop
stop_of word_is.Colon = colon
stop_of word_is.Arrow = arrow
stop_of word_is.End = end_stop
stop_of (word_is.Operator sign) = stop_of_sign sign
stop_of _ = no_stop

abbrev pub at_comma : Stop → State → State
at_comma comma s = s
at_comma _ s = no_tree

abbrev pub at_round : Stop → State → State
at_round close_round s = s
at_round _ s = no_tree

abbrev pub at_square : Stop → State → State
at_square close_square s = s
at_square _ s = no_tree

abbrev pub at_curly : Stop → State → State
at_curly close_curly s = s
at_curly _ s = no_tree

abbrev pub at_maps_to : Stop → State → State
at_maps_to maps_to s = s
at_maps_to _ s = no_tree

abbrev pub at_then : Stop → State → State
at_then then_stop s = s
at_then _ s = no_tree

abbrev pub at_in : Stop → State → State
at_in in_stop s = s
at_in _ s = no_tree

abbrev pub at_colon : Stop → State → State
at_colon colon s = s
at_colon _ s = no_tree

abbrev pub at_end : Stop → State → State
at_end end_stop s = s
at_end _ s = no_tree

abbrev pub at_in_set : Stop → State → State
at_in_set in_set_stop s = s
at_in_set _ s = no_tree

abbrev pub at_equal : Stop → State → State
at_equal equal_stop s = s
at_equal _ s = no_tree

abbrev pub enclose : Enclosed → ExprTree → Place → ExprTree
enclose bracket e place = bracketed e place
enclose token_of e place = make_token e place
enclose (named_test type_name) e place = is_of_named type_name e place
enclose (basic_test basic) e place = is_of_basic basic e place
enclose (class_test class class_place) e place = is_of_class class class_place e place
enclose (base_class_test class class_place) e place = is_of_base_class class class_place e place

-- a list with its items
abbrev pub whole_list : Listed → ExprTrees → Place → ExprTree
whole_list set_of es place = set_enumeration es place
whole_list sequence_of es place = sequence_enumeration es place
whole_list tuple_of es place = make_tuple es place
whole_list (record_of type_name) es place = make_record type_name es place
whole_list (new_of class class_place) es place = create class class_place es place
whole_list (applied_to head) es place = apply head es place

-- what closes a list
abbrev pub closes_list : Listed → Stop → State → State
closes_list set_of stop s = at_curly stop s
closes_list sequence_of stop s = at_square stop s
closes_list tuple_of stop s = at_round stop s
closes_list (record_of type_name) stop s = at_round stop s
closes_list (new_of class class_place) stop s = at_round stop s
closes_list (applied_to head) stop s = at_round stop s

-- what stands behind a first item besides `,` and what closes the list
abbrev pub behind_first : Listed → ExprTrees → ExprTree → Place → Stop → List Frame → State
behind_first set_of no_exprs e place bar fs = in_mode wants_pattern (bind_patterns (set_each e) no_binds no_patterns place ∷ fs)
behind_first set_of no_exprs e place maps_to fs = in_mode wants (map_value no_maplets e place ∷ fs)
behind_first sequence_of no_exprs e place bar fs = in_mode wants_pattern (sequence_bound e place ∷ fs)
behind_first listed es e place stop fs = closes_list listed stop (in_mode (has (whole_list listed (and_expr es e) place)) fs)

abbrev pub behind_item : Listed → ExprTrees → ExprTree → Place → Stop → List Frame → State
behind_item listed es e place comma fs = in_mode wants (items listed (and_expr es e) place ∷ fs)
behind_item listed es e place stop fs = behind_first listed es e place stop fs

abbrev pub end_range : Ranged → ExprTree → ExprTree → Place → Stop → List Frame → State
end_range in_set first e place stop fs = at_curly stop (in_mode (has (set_range first e place)) fs)
end_range (part_of_sequence target) first e place stop fs = at_round stop (in_mode (has (subsequence target first e place)) fs)

abbrev pub behind_maplet : MapletTrees → ExprTree → ExprTree → Place → Stop → List Frame → State
behind_maplet ms key e place comma fs = in_mode wants (map_key (and_maplet ms key e) place ∷ fs)
behind_maplet ms key e place close_curly fs = in_mode (has (map_enumeration (and_maplet ms key e) place)) fs
behind_maplet no_maplets key e place bar fs = in_mode wants_pattern (bind_patterns (map_each key e) no_binds no_patterns place ∷ fs)
behind_maplet _ key e place _ fs = no_tree

abbrev pub end_condition : Conditioned → MaybeExpr → Place → Stop → List Frame → State
end_condition (set_such element binds) such place stop fs = at_curly stop (in_mode (has (set_comprehension element binds such place)) fs)
end_condition (map_such key value binds) such place stop fs =
    at_curly stop (in_mode (has (map_comprehension key value binds such place)) fs)
end_condition (sequence_such item pattern set) such place stop fs =
    at_square stop (in_mode (has (sequence_comprehension item pattern set such place)) fs)

-- behind the set of a bind: a condition, the end, or a further bind
abbrev pub behind_comprehension : Conditioned → BindsFor → BindTrees → Place → Stop → List Frame → State
behind_comprehension such for binds place comma fs = in_mode wants_pattern (bind_patterns for binds no_patterns place ∷ fs)
behind_comprehension such for binds place ampersand fs = in_mode wants (condition such place ∷ fs)
behind_comprehension such for binds place stop fs = end_condition such left_out place stop fs

abbrev pub behind_quantified : Body → BindsFor → BindTrees → Place → Stop → List Frame → State
behind_quantified b for binds place comma fs = in_mode wants_pattern (bind_patterns for binds no_patterns place ∷ fs)
behind_quantified b for binds place ampersand fs = in_mode wants (body b place ∷ fs)
behind_quantified b for binds place _ fs = no_tree

abbrev pub behind_one : Body → Place → Stop → List Frame → State
behind_one b place ampersand fs = in_mode wants (body b place ∷ fs)
behind_one b place _ fs = no_tree

abbrev pub behind_such : BindTree → Place → Stop → List Frame → State
behind_such bind place be_stop fs = in_mode (awaits (st_then (let_such bind place))) fs
behind_such bind place in_stop fs = in_mode wants (body (such_body bind left_out) place ∷ fs)
behind_such bind place _ fs = no_tree

abbrev pub behind_set : BindsFor → BindTrees → BindTree → Place → Stop → List Frame → State
behind_set (set_each element) binds bind place stop fs =
    behind_comprehension (set_such element (and_bind binds bind)) (set_each element) (and_bind binds bind) place stop fs
behind_set (map_each key value) binds bind place stop fs =
    behind_comprehension (map_such key value (and_bind binds bind)) (map_each key value) (and_bind binds bind) place stop fs
behind_set all_of binds bind place stop fs =
    behind_quantified (all_body (and_bind binds bind)) all_of (and_bind binds bind) place stop fs
behind_set some_of binds bind place stop fs =
    behind_quantified (some_body (and_bind binds bind)) some_of (and_bind binds bind) place stop fs
behind_set one_of binds bind place stop fs = behind_one (one_body bind) place stop fs
behind_set the_one binds bind place stop fs = behind_one (the_body bind) place stop fs
behind_set such_one binds bind place stop fs = behind_such bind place stop fs

abbrev pub behind_sequence_set : ExprTree → PatternTree → ExprTree → Place → Stop → List Frame → State
behind_sequence_set item pattern e place ampersand fs = in_mode wants (condition (sequence_such item pattern e) place ∷ fs)
behind_sequence_set item pattern e place stop fs = end_condition (sequence_such item pattern e) left_out place stop fs

abbrev pub compare : Compared → ExprTree → ExprTree → Place → ExprTree
compare classes left right place = same_class left right place
compare base_classes left right place = same_base_class left right place

abbrev pub behind_field : ExprTree → FieldValueTrees → Place → Stop → List Frame → State
behind_field target fields place comma fs = in_mode (awaits (field_name target fields place)) fs
behind_field target fields place close_round fs = in_mode (has (modify_record target fields place)) fs
behind_field target fields place _ fs = no_tree

abbrev pub behind_definition : DefinedTrees → Place → Stop → List Frame → State
behind_definition definitions place comma fs = in_mode wants_pattern (let_next definitions place ∷ fs)
behind_definition definitions place in_stop fs = in_mode wants (body (let_body definitions) place ∷ fs)
behind_definition definitions place _ fs = no_tree

-- behind a value of an `if`: its `elseif`s so far are given
abbrev pub behind_branch : ExprTree → ExprTree → BranchTrees → Place → Stop → List Frame → State
behind_branch test value elseifs place elseif_stop fs = in_mode wants (elseif_test test value elseifs place ∷ fs)
behind_branch test value elseifs place else_stop fs = in_mode wants (body (else_body test value elseifs) place ∷ fs)
behind_branch test value elseifs place _ fs = no_tree

abbrev pub behind_case : ExprTree → CaseTrees → Place → Stop → List Frame → State
behind_case e cases place comma fs = in_mode wants_pattern (case_patterns e cases no_patterns place ∷ fs)
behind_case e cases place end_stop fs = in_mode (has (cases_of e cases left_out place)) fs
behind_case e cases place _ fs = no_tree

-- what a frame of a choice does with an expression that a word ends
abbrev pub taken_choice : Frame → ExprTree → Stop → List Frame → State
taken_choice (if_test place) e stop fs = at_then stop (in_mode wants (if_then e place ∷ fs))
taken_choice (if_then test place) e stop fs = behind_branch test e no_branches place stop fs
taken_choice (elseif_test test value elseifs place) e stop fs = at_then stop (in_mode wants (elseif_then test value elseifs e place ∷ fs))
taken_choice (elseif_then test value elseifs next place) e stop fs = behind_branch test value (and_branch elseifs next e) place stop fs
taken_choice (subject place) e stop fs = at_colon stop (in_mode wants_pattern (case_patterns e no_cases no_patterns place ∷ fs))
taken_choice (case_value e cases patterns place) value stop fs = behind_case e (and_case cases patterns value) place stop fs
taken_choice (others_value e cases place) value stop fs = at_end stop (in_mode (has (cases_of e cases (given_expr value) place)) fs)
taken_choice _ e stop fs = no_tree

-- what a frame of a test, of fields or of definitions does with it
abbrev pub taken_part : Frame → ExprTree → Stop → List Frame → State
taken_part (left_class compared place) e stop fs = at_comma stop (in_mode wants (right_class compared e place ∷ fs))
taken_part (right_class compared left place) e stop fs = at_round stop (in_mode (has (compare compared left e place)) fs)
taken_part (tested place) e stop fs = at_comma stop (in_mode (typing []) (test_type e place ∷ fs))
taken_part (modified place) e stop fs = at_comma stop (in_mode (awaits (field_name e no_field_values place)) fs)
taken_part (field_value target fields name name_place place) e stop fs =
    behind_field target (and_field_value fields name name_place e) place stop fs
taken_part (let_value definitions pattern declared place) e stop fs =
    behind_definition (and_defined definitions pattern declared e) place stop fs
taken_part (let_such bind place) e stop fs = at_in stop (in_mode wants (body (such_body bind (given_expr e)) place ∷ fs))
taken_part (def_value pattern place) e stop fs = at_in stop (in_mode wants (body (def_body pattern e) place ∷ fs))
taken_part f e stop fs = taken_choice f e stop fs

-- what a frame does with an expression that a word ends
abbrev pub taken : Frame → ExprTree → Stop → List Frame → State
taken (enclosed for place) e stop fs = at_round stop (in_mode (has (enclose for e place)) fs)
taken (matched place) e stop fs = at_round stop (in_mode (has_pattern (equal_to e place)) fs)
taken (items listed es place) e stop fs = behind_item listed es e place stop fs
taken (tuple_start place) e stop fs = at_comma stop (in_mode wants (items tuple_of (one_expr e no_exprs) place ∷ fs))
taken (range_end ranged first place) e stop fs = end_range ranged first e place stop fs
taken (map_key ms place) e stop fs = at_maps_to stop (in_mode wants (map_value ms e place ∷ fs))
taken (map_value ms key place) e stop fs = behind_maplet ms key e place stop fs
taken (condition such place) e stop fs = end_condition such (given_expr e) place stop fs
taken (bind_set for binds patterns place) e stop fs = behind_set for binds (bind_in patterns e) place stop fs
taken (sequence_set item pattern place) e stop fs = behind_sequence_set item pattern e place stop fs
taken f e stop fs = taken_part f e stop fs

abbrev pub taken_by : List Frame → ExprTree → Stop → State
taken_by [] e stop = no_tree
taken_by (f ∷ fs) e stop = taken f e stop fs

abbrev pub between : Bool → ExprTree → Sign → Place → List Frame → State
between true e sign place fs = in_mode wants (right_of e sign place ∷ fs)
between false e sign place fs = no_tree

abbrev pub go_on : Word → Place → ExprTree → List Frame → State
go_on (word_is.Operator sign) place e fs = between (is_infix sign) e sign place fs
go_on word_is.OpenRound place e fs = in_mode wants (items (applied_to e) no_exprs place ∷ fs)
go_on word_is.Dot place e fs = in_mode (awaits (member_of e place)) fs
go_on word_is.DotNumber place e fs = in_mode (awaits (part_of e place)) fs
go_on w place e fs = taken_by fs e (stop_of w)

-- frames that pull more than the word end before it
abbrev pub follow_word : Word → Place → ExprTree → List Frame → State
follow_word w place e [] = go_on w place e []
follow_word w place e (f ∷ fs) = if nat_lt (word_pull w) (pull f) then follow_word w place (completed f e) fs else go_on w place e (f ∷ fs)

-- a backquote goes on with a name or a member
abbrev pub follow_backquote : ExprTree → List Frame → State
follow_backquote (named name place) fs = in_mode (awaits (qualified_rest name place)) fs
follow_backquote (select target name name_place place) fs = in_mode (awaits (member_rest target name name_place place)) fs
follow_backquote _ fs = no_tree

abbrev pub follow_tilde : ExprTree → List Frame → State
follow_tilde (named name place) fs = in_mode (has (old_value name place)) fs
follow_tilde _ fs = no_tree

abbrev pub follow_plain : Word → Place → ExprTree → List Frame → State
follow_plain word_is.Backquote place e fs = follow_backquote e fs
follow_plain word_is.Tilde place e fs = follow_tilde e fs
follow_plain w place e fs = follow_word w place e fs

abbrev pub follow : Token → ExprTree → List Frame → State
follow (plain w place) e fs = follow_plain w place e fs
follow _ e fs = no_tree

-- ---- behind a pattern

abbrev pub whole_patterns : PatternsFor → PatternTrees → Place → PatternTree
whole_patterns set_like ps place = set_pattern ps place
whole_patterns sequence_like ps place = sequence_pattern ps place
whole_patterns tuple_like ps place = tuple_pattern ps place
whole_patterns (record_like type_name) ps place = record_pattern type_name ps place

abbrev pub closes_patterns : PatternsFor → Stop → State → State
closes_patterns set_like stop s = at_curly stop s
closes_patterns sequence_like stop s = at_square stop s
closes_patterns tuple_like stop s = at_round stop s
closes_patterns (record_like type_name) stop s = at_round stop s

abbrev pub behind_first_pattern : PatternsFor → PatternTrees → PatternTree → Place → Stop → List Frame → State
behind_first_pattern set_like no_patterns p place maps_to fs = in_mode wants_pattern (pattern_value no_maplet_patterns p place ∷ fs)
behind_first_pattern listed ps p place stop fs =
    closes_patterns listed stop (in_mode (has_pattern (whole_patterns listed (and_pattern ps p) place)) fs)

abbrev pub behind_pattern : PatternsFor → PatternTrees → PatternTree → Place → Stop → List Frame → State
behind_pattern listed ps p place comma fs = in_mode wants_pattern (pattern_items listed (and_pattern ps p) place ∷ fs)
behind_pattern listed ps p place stop fs = behind_first_pattern listed ps p place stop fs

abbrev pub behind_pattern_value : MapletPatterns → Place → Stop → List Frame → State
behind_pattern_value ms place comma fs = in_mode wants_pattern (pattern_key ms place ∷ fs)
behind_pattern_value ms place close_curly fs = in_mode (has_pattern (map_pattern ms place)) fs
behind_pattern_value ms place _ fs = no_tree

-- a `,` and a further pattern of a bind, but not behind `iota`
abbrev pub further_bound : BindsFor → BindTrees → PatternTrees → Place → List Frame → State
further_bound the_one binds ps place fs = no_tree
further_bound for binds ps place fs = in_mode wants_pattern (bind_patterns for binds ps place ∷ fs)

abbrev pub behind_bound : BindsFor → BindTrees → PatternTrees → Place → Stop → List Frame → State
behind_bound for binds ps place comma fs = further_bound for binds ps place fs
behind_bound for binds ps place in_set_stop fs = in_mode wants (bind_set for binds ps place ∷ fs)
behind_bound for binds ps place _ fs = no_tree

-- a pattern of a definition behind `let`
abbrev pub behind_defined : DefinedTrees → PatternTree → Place → Stop → List Frame → State
behind_defined definitions p place colon fs = in_mode (typing []) (let_type definitions p place ∷ fs)
behind_defined definitions p place equal_stop fs = in_mode wants (let_value definitions p None place ∷ fs)
behind_defined definitions p place _ fs = no_tree

-- the first pattern behind `let`, which may be that of a bind
abbrev pub behind_let : PatternTree → Place → Stop → List Frame → State
behind_let p place comma fs = in_mode wants_pattern (bind_patterns such_one no_binds (only_pattern p) place ∷ fs)
behind_let p place in_set_stop fs = in_mode wants (bind_set such_one no_binds (only_pattern p) place ∷ fs)
behind_let p place stop fs = behind_defined no_defined p place stop fs

abbrev pub behind_case_pattern : ExprTree → CaseTrees → PatternTrees → Place → Stop → List Frame → State
behind_case_pattern e cases ps place comma fs = in_mode wants_pattern (case_patterns e cases ps place ∷ fs)
behind_case_pattern e cases ps place arrow fs = in_mode wants (case_value e cases ps place ∷ fs)
behind_case_pattern e cases ps place _ fs = no_tree

abbrev pub taken_pattern : Frame → PatternTree → Stop → List Frame → State
taken_pattern (bind_patterns for binds ps place) p stop fs = behind_bound for binds (and_pattern ps p) place stop fs
taken_pattern (sequence_bound item place) p stop fs = at_in_set stop (in_mode wants (sequence_set item p place ∷ fs))
taken_pattern (let_start place) p stop fs = behind_let p place stop fs
taken_pattern (let_next definitions place) p stop fs = behind_defined definitions p place stop fs
taken_pattern (def_pattern place) p stop fs = at_equal stop (in_mode wants (def_value p place ∷ fs))
taken_pattern (case_patterns e cases ps place) p stop fs = behind_case_pattern e cases (and_pattern ps p) place stop fs
taken_pattern (pattern_items listed ps place) p stop fs = behind_pattern listed ps p place stop fs
taken_pattern (tuple_pattern_start place) p stop fs =
    at_comma stop (in_mode wants_pattern (pattern_items tuple_like (only_pattern p) place ∷ fs))
taken_pattern (pattern_key ms place) p stop fs = at_maps_to stop (in_mode wants_pattern (pattern_value ms p place ∷ fs))
taken_pattern (pattern_value ms key place) p stop fs = behind_pattern_value (and_maplet_pattern ms key p) place stop fs
taken_pattern _ p stop fs = no_tree

abbrev pub pattern_taken_by : List Frame → PatternTree → Stop → State
pattern_taken_by [] p stop = no_tree
pattern_taken_by (f ∷ fs) p stop = taken_pattern f p stop fs

-- patterns with `^` between them
abbrev pub joins_sign : Sign → Bool
joins_sign Concatenation = true
joins_sign _ = false

abbrev pub joins : Word → Bool
joins (word_is.Operator sign) = joins_sign sign
joins _ = false

abbrev pub follow_single : Bool → Word → PatternTree → List Frame → State
follow_single true w p fs = in_mode wants_pattern (concatenated (only_pattern p) (pattern_place p) ∷ fs)
follow_single false w p fs = pattern_taken_by fs p (stop_of w)

abbrev pub follow_joined : Bool → Word → PatternTrees → Place → List Frame → State
follow_joined true w ps place fs = in_mode wants_pattern (concatenated ps place ∷ fs)
follow_joined false w ps place fs = pattern_taken_by fs (concatenation_pattern ps place) (stop_of w)

abbrev pub follow_pattern_word : Word → PatternTree → List Frame → State
follow_pattern_word w p [] = follow_single (joins w) w p []
follow_pattern_word w p (concatenated ps place ∷ fs) = follow_joined (joins w) w (and_pattern ps p) place fs
follow_pattern_word w p (f ∷ fs) = follow_single (joins w) w p (f ∷ fs)

abbrev pub follow_pattern : Token → PatternTree → List Frame → State
follow_pattern (plain w place) p fs = follow_pattern_word w p fs
follow_pattern _ p fs = no_tree

-- ---- forms that begin with single tokens

abbrev pub named_alone : Name → Place → TypeName
named_alone name place = record { class = None; name = name; name_place = place }

abbrev pub named_of_class : Name → Name → Place → TypeName
named_of_class class name name_place = record { class = Some class; name = name; name_place = name_place }

-- the `(` behind the name of a type
abbrev pub enter_named : TypeNameFor → TypeName → Place → List Frame → State
enter_named made type_name place fs = in_mode wants (items (record_of type_name) no_exprs place ∷ fs)
enter_named asked type_name place fs = in_mode wants (enclosed (named_test type_name) place ∷ fs)
enter_named made_pattern type_name place fs = in_mode wants_pattern (pattern_items (record_like type_name) no_patterns place ∷ fs)

-- the `(` behind the name of a type with its class
abbrev pub opens_named : TypeNameFor → TypeName → Place → Header
opens_named made type_name place = opens (items (record_of type_name) no_exprs place)
opens_named asked type_name place = opens (enclosed (named_test type_name) place)
opens_named made_pattern type_name place = opens_pattern (pattern_items (record_like type_name) no_patterns place)

abbrev pub await_open : Word → State → State
await_open word_is.OpenRound s = s
await_open _ s = no_tree

abbrev pub await_comma : Word → State → State
await_comma word_is.Comma s = s
await_comma _ s = no_tree

abbrev pub await_st : Word → State → State
await_st word_is.St s = s
await_st _ s = no_tree

abbrev pub await_arrow : Word → State → State
await_arrow word_is.Arrow s = s
await_arrow _ s = no_tree

abbrev pub await_maps_to : Word → State → State
await_maps_to word_is.MapsTo s = s
await_maps_to _ s = no_tree

abbrev pub await_curly : Word → State → State
await_curly word_is.CloseCurly s = s
await_curly _ s = no_tree

abbrev pub after_type_name : Word → TypeNameFor → Name → Place → List Frame → State
after_type_name word_is.OpenRound for name place fs = enter_named for (named_alone name place) place fs
after_type_name word_is.Backquote for name place fs = in_mode (awaits (type_rest for name place)) fs
after_type_name _ for name place fs = no_tree

abbrev pub after_counted : Word → Counter → List NameAt → Place → List Frame → State
after_counted word_is.Comma counter names place fs = in_mode (awaits (counter_name counter names place)) fs
after_counted word_is.CloseRound counter names place fs = in_mode (has (history counter names place)) fs
after_counted _ counter names place fs = no_tree

-- what a header does with a word that ends it or goes on with single tokens
abbrev pub awaited_sign : Header → Word → List Frame → State
awaited_sign (counter_opens counter place) w fs = await_open w (in_mode (awaits (counter_name counter [] place)) fs)
awaited_sign (counter_next counter names place) w fs = after_counted w counter names place fs
awaited_sign (class_opens place) w fs = await_open w (in_mode (awaits (class_name place)) fs)
awaited_sign (base_class_opens place) w fs = await_open w (in_mode (awaits (base_class_name place)) fs)
awaited_sign (empty_map_end place) w fs = await_curly w (in_mode (has (empty_map place)) fs)
awaited_sign (empty_pattern_end place) w fs = await_curly w (in_mode (has_pattern (empty_map_pattern place)) fs)
awaited_sign _ w fs = no_tree

-- what a header does with a word
abbrev pub awaited_word : Header → Word → List Frame → State
awaited_word (opens f) w fs = await_open w (in_mode wants (f ∷ fs))
awaited_word (comma_then f) w fs = await_comma w (in_mode wants (f ∷ fs))
awaited_word (st_then f) w fs = await_st w (in_mode wants (f ∷ fs))
awaited_word (arrow_then f) w fs = await_arrow w (in_mode wants (f ∷ fs))
awaited_word (opens_pattern f) w fs = await_open w (in_mode wants_pattern (f ∷ fs))
awaited_word (type_after for name place) w fs = after_type_name w for name place fs
awaited_word (field_arrow target fields name name_place place) w fs =
    await_maps_to w (in_mode wants (field_value target fields name name_place place ∷ fs))
awaited_word h w fs = awaited_sign h w fs

abbrev pub name_at : Name → Place → NameAt
name_at name place = record { name = name; place = place }

-- what a header does with a name
abbrev pub awaited_name : Header → Name → Place → List Frame → State
awaited_name (type_rest for class place) name name_place fs = in_mode (awaits (opens_named for (named_of_class class name name_place) place)) fs
awaited_name (qualified_rest class place) name name_place fs = in_mode (has (qualified class name name_place place)) fs
awaited_name (member_of target place) name name_place fs = in_mode (has (select target name name_place place)) fs
awaited_name (member_rest target class class_place place) name name_place fs =
    in_mode (has (select_of_class target class class_place name name_place place)) fs
awaited_name (new_name place) name name_place fs = in_mode (awaits (opens (items (new_of name name_place) no_exprs place))) fs
awaited_name (counter_name counter names place) name name_place fs =
    in_mode (awaits (counter_next counter (names ++ name_at name name_place ∷ []) place)) fs
awaited_name (class_name place) name name_place fs = in_mode (awaits (comma_then (enclosed (class_test name name_place) place))) fs
awaited_name (base_class_name place) name name_place fs =
    in_mode (awaits (comma_then (enclosed (base_class_test name name_place) place))) fs
awaited_name (field_name target fields place) name name_place fs = in_mode (awaits (field_arrow target fields name name_place place)) fs
awaited_name _ name name_place fs = no_tree

abbrev pub awaited_number : Header → ℤ → List Frame → State
awaited_number (part_of target place) n fs = in_mode (has (select_part target n place)) fs
awaited_number _ n fs = no_tree

abbrev pub await : Header → Token → List Frame → State
await h (identifier name place) fs = awaited_name h name place fs
await h (whole n place) fs = awaited_number h n fs
await h (plain w place) fs = awaited_word h w fs
await h _ fs = no_tree

-- ---- types

-- a type is read where all of its tokens are there: up to the `)` or the `=` behind it
abbrev pub TypeReader : Type 0
TypeReader = List Token → Option TypeTree

abbrev pub end_test : Option TypeTree → ExprTree → Place → List Frame → State
end_test None e place fs = no_tree
end_test (Some declared) e place fs = in_mode (has (is_of_type e declared place)) fs

abbrev pub end_let : Option TypeTree → DefinedTrees → PatternTree → Place → List Frame → State
end_let None definitions p place fs = no_tree
end_let (Some declared) definitions p place fs = in_mode wants (let_value definitions p (Some declared) place ∷ fs)

abbrev pub close_type : TypeReader → List Token → Token → List Frame → State
close_type types ts t [] = no_tree
close_type types ts t (type_bracket ∷ fs) = in_mode (typing (ts ++ t ∷ [])) fs
close_type types ts t (test_type e place ∷ fs) = end_test (types ts) e place fs
close_type types ts t (f ∷ fs) = no_tree

abbrev pub close_square_type : List Token → Token → List Frame → State
close_square_type ts t [] = no_tree
close_square_type ts t (type_bracket ∷ fs) = in_mode (typing (ts ++ t ∷ [])) fs
close_square_type ts t (f ∷ fs) = no_tree

abbrev pub equal_type : TypeReader → List Token → List Frame → State
equal_type types ts [] = no_tree
equal_type types ts (let_type definitions p place ∷ fs) = end_let (types ts) definitions p place fs
equal_type types ts (f ∷ fs) = no_tree

abbrev pub sign_of_type : TypeReader → Sign → List Token → Token → List Frame → State
sign_of_type types Equal ts t fs = equal_type types ts fs
sign_of_type types sign ts t fs = in_mode (typing (ts ++ t ∷ [])) fs

abbrev pub word_of_type : TypeReader → Word → List Token → Token → List Frame → State
word_of_type types word_is.OpenRound ts t fs = in_mode (typing (ts ++ t ∷ [])) (type_bracket ∷ fs)
word_of_type types word_is.OpenSquare ts t fs = in_mode (typing (ts ++ t ∷ [])) (type_bracket ∷ fs)
word_of_type types word_is.CloseRound ts t fs = close_type types ts t fs
word_of_type types word_is.CloseSquare ts t fs = close_square_type ts t fs
word_of_type types (word_is.Operator sign) ts t fs = sign_of_type types sign ts t fs
word_of_type types w ts t fs = in_mode (typing (ts ++ t ∷ [])) fs

abbrev pub type_on : TypeReader → Token → List Token → List Frame → State
type_on types t ts fs = word_of_type types (word_of t) ts t fs

-- ---- the machine

abbrev pub step_in : TypeReader → Mode → List Frame → Token → State
step_in types wants fs t = want t fs
step_in types (has e) fs t = follow t e fs
step_in types wants_pattern fs t = want_pattern t fs
step_in types (has_pattern p) fs t = follow_pattern t p fs
step_in types (awaits h) fs t = await h t fs
step_in types (typing ts) fs t = type_on types t ts fs
step_in types refused fs t = no_tree

abbrev pub step : TypeReader → State → Token → State
step types s t = step_in types s.mode s.frames t

-- at the end of the tokens each frame that is open has to end
abbrev pub end_expr : ExprTree → List Frame → Built
end_expr e [] = an_expr e
end_expr e (f ∷ fs) = if nat_lt 0 (pull f) then end_expr (completed f e) fs else nothing

abbrev pub end_pattern : PatternTree → List Frame → Built
end_pattern p [] = a_pattern p
end_pattern p (concatenated ps place ∷ []) = a_pattern (concatenation_pattern (and_pattern ps p) place)
end_pattern p _ = nothing

abbrev pub end_in : Mode → List Frame → Built
end_in (has e) fs = end_expr e fs
end_in (has_pattern p) fs = end_pattern p fs
end_in _ fs = nothing

abbrev pub run : TypeReader → List Token → State → Built
run types [] s = end_in s.mode s.frames
run types (t ∷ ts) s = run types ts (step types s t)
