-- Each tree of the grammar is read off its tokens.
use Rattle.std.proofs.Common.{◌≡◌, List, [], ◌∷◌, refl, arith}
use Rattle.abstract_syntax.specs.Expressions.{ExprTree, ExprTrees, MaybeExpr, MapletTrees, FieldValueTrees, DefinedTrees, BranchTrees, CaseTrees, BindTree, BindTrees, PatternTree, PatternTrees, MapletPatterns, literal, named, qualified, old_value, self_object, current_time, undefined, result_value, bracketed, prefixed, joined, set_enumeration, set_range, set_comprehension, empty_map, map_enumeration, map_comprehension, sequence_enumeration, sequence_comprehension, make_tuple, make_token, make_record, modify_record, is_of_type, is_of_named, is_of_basic, is_of_class, is_of_base_class, same_class, same_base_class, create, history, apply, subsequence, select, select_of_class, select_part, let_in, let_be, def_in, if_else, cases_of, for_all, exists_some, exists_one, iota_of, no_exprs, one_expr, left_out, given_expr, no_maplets, one_maplet, no_field_values, one_field_value, no_defined, one_defined, no_branches, one_branch, no_cases, one_case, bind_in, no_binds, one_bind, any_value, bound, literal_pattern, equal_to, set_pattern, sequence_pattern, map_pattern, empty_map_pattern, tuple_pattern, record_pattern, concatenation_pattern, no_patterns, one_pattern, no_maplet_patterns, one_maplet_pattern}
use Rattle.grammar_words.specs.Pulls.{far_pull}
use Rattle.grammar_trees.specs.Spelling.{spelling, pattern_spelling}
use Rattle.grammar_trees.specs.Frames.{wants, wants_pattern, an_expr, a_pattern}
use Rattle.grammar_trees.specs.Machine.{in_mode, TypeReader, run}
use Rattle.grammar_trees.specs.Trees.{IsTree, IsPatternOf}
use Rattle.grammar_words.specs.Tokens.{Token}
use Rattle.grammar_words.specs.Written.{Written, AreTokens}
use Rattle.grammar_trees.proofs.Ends.{reach-positive}
use Rattle.grammar_trees.proofs.Leading.{Begins, Taken}
use Rattle.grammar_trees.proofs.Simple.{literal-taken, named-taken, qualified-taken, old_value-taken, self_object-taken, bracketed-taken, prefixed-taken, joined-taken, set_range-taken, current_time-taken, undefined-taken, result_value-taken, empty_map-taken, make_token-taken, is_of_basic-taken, is_of_class-taken, is_of_base_class-taken, same_class-taken, same_base_class-taken, is_of_named-taken, select-taken, select_of_class-taken, select_part-taken, subsequence-taken, history-taken}
use Rattle.grammar_trees.proofs.PatternParts.{below_closed, concatenation-taken, PatternsTaken, MapletPatternsTaken, PatternTaken}
use Rattle.grammar_trees.proofs.PatternKinds.{any_value-taken, bound-taken, literal_pattern-taken, equal_to-taken, empty_map_pattern-taken, set_pattern-taken, sequence_pattern-taken, record_pattern-taken, tuple_pattern-taken, map_pattern-taken}
use Rattle.grammar_trees.proofs.ListsTaken.{set_enumeration-taken, sequence_enumeration-taken, make_record-taken, create-taken, apply-taken, make_tuple-taken, map_enumeration-taken, modify_record-taken, ExprsTaken, MapletsTaken, FieldValuesTaken, GivenTaken}
use Rattle.grammar_trees.proofs.TypesTaken.{is_of_type-taken, ReadsTypes}
use Rattle.grammar_trees.proofs.BindsTaken.{set_comprehension-taken, map_comprehension-taken, sequence_comprehension-taken, for_all-taken, exists_some-taken, exists_one-taken, iota_of-taken, BindTaken, BindsTaken}
use Rattle.grammar_trees.proofs.FarForms.{if_else-taken, let_in-taken, let_be-taken, def_in-taken, cases_of-taken, DefinitionsTaken, BranchesTaken, CasesTaken}

mutual
  pub takes : (types : TypeReader) → ReadsTypes types → (e : ExprTree) → Taken types e
  takes types r (literal value place) = literal-taken types value place
  takes types r (named name place) = named-taken types name place
  takes types r (qualified class name name_place place) = qualified-taken types class name name_place place
  takes types r (old_value name place) = old_value-taken types name place
  takes types r (self_object place) = self_object-taken types place
  takes types r (current_time place) = current_time-taken types place
  takes types r (undefined place) = undefined-taken types place
  takes types r (result_value place) = result_value-taken types place
  takes types r (bracketed inner place) = bracketed-taken types inner place (takes types r inner)
  takes types r (prefixed sign operand place) = prefixed-taken types sign operand place (takes types r operand)
  takes types r (joined left sign right place) = joined-taken types left sign right place (takes types r left) (takes types r right)
  takes types r (set_enumeration es place) = set_enumeration-taken types es place (takes_exprs types r es)
  takes types r (set_range first last place) = set_range-taken types first last place (takes types r first) (takes types r last)
  takes types r (set_comprehension e bs such place) = set_comprehension-taken types e bs such place (takes types r e) (takes_binds types r bs) (takes_given types r such)
  takes types r (empty_map place) = empty_map-taken types place
  takes types r (map_enumeration ms place) = map_enumeration-taken types ms place (takes_maplets types r ms)
  takes types r (map_comprehension k v bs such place) = map_comprehension-taken types k v bs such place (takes types r k) (takes types r v) (takes_binds types r bs) (takes_given types r such)
  takes types r (sequence_enumeration es place) = sequence_enumeration-taken types es place (takes_exprs types r es)
  takes types r (sequence_comprehension e p s such place) = sequence_comprehension-taken types e p s such place (takes types r e) (takes_pattern types r p) (takes types r s) (takes_given types r such)
  takes types r (make_tuple es place) = make_tuple-taken types es place (takes_exprs types r es)
  takes types r (make_token inner place) = make_token-taken types inner place (takes types r inner)
  takes types r (make_record type_name es place) = make_record-taken types type_name es place (takes_exprs types r es)
  takes types r (modify_record e fields place) = modify_record-taken types e fields place (takes types r e) (takes_field_values types r fields)
  takes types r (is_of_type e declared place) = is_of_type-taken types r e declared place (takes types r e)
  takes types r (is_of_named type_name e place) = is_of_named-taken types type_name e place (takes types r e)
  takes types r (is_of_basic basic e place) = is_of_basic-taken types basic e place (takes types r e)
  takes types r (is_of_class class class_place e place) = is_of_class-taken types class class_place e place (takes types r e)
  takes types r (is_of_base_class class class_place e place) = is_of_base_class-taken types class class_place e place (takes types r e)
  takes types r (same_class left right place) = same_class-taken types left right place (takes types r left) (takes types r right)
  takes types r (same_base_class left right place) = same_base_class-taken types left right place (takes types r left) (takes types r right)
  takes types r (create class class_place es place) = create-taken types class class_place es place (takes_exprs types r es)
  takes types r (history counter names place) = history-taken types counter names place
  takes types r (apply head es place) = apply-taken types head es place (takes types r head) (takes_exprs types r es)
  takes types r (subsequence e first last place) = subsequence-taken types e first last place (takes types r e) (takes types r first) (takes types r last)
  takes types r (select e name name_place place) = select-taken types e name name_place place (takes types r e)
  takes types r (select_of_class e class class_place name name_place place) = select_of_class-taken types e class class_place name name_place place (takes types r e)
  takes types r (select_part e n place) = select_part-taken types e n place (takes types r e)
  takes types r (let_in ds e place) = let_in-taken types r ds e place (takes_definitions types r ds) (takes types r e)
  takes types r (let_be b such e place) = let_be-taken types b such e place (takes_bind types r b) (takes_given types r such) (takes types r e)
  takes types r (def_in p v e place) = def_in-taken types p v e place (takes_pattern types r p) (takes types r v) (takes types r e)
  takes types r (if_else c v bs e place) = if_else-taken types c v bs e place (takes types r c) (takes types r v) (takes_branches types r bs) (takes types r e)
  takes types r (cases_of e cs others place) = cases_of-taken types e cs others place (takes types r e) (takes_cases types r cs) (takes_given types r others)
  takes types r (for_all bs e place) = for_all-taken types bs e place (takes_binds types r bs) (takes types r e)
  takes types r (exists_some bs e place) = exists_some-taken types bs e place (takes_binds types r bs) (takes types r e)
  takes types r (exists_one b e place) = exists_one-taken types b e place (takes_bind types r b) (takes types r e)
  takes types r (iota_of b e place) = iota_of-taken types b e place (takes_bind types r b) (takes types r e)

  pub takes_exprs : (types : TypeReader) → ReadsTypes types → (es : ExprTrees) → ExprsTaken types es
  takes_exprs types r no_exprs = tt
  takes_exprs types r (one_expr e es) = (takes types r e, takes_exprs types r es)

  pub takes_given : (types : TypeReader) → ReadsTypes types → (e : MaybeExpr) → GivenTaken types e
  takes_given types r left_out = tt
  takes_given types r (given_expr e) = takes types r e

  pub takes_maplets : (types : TypeReader) → ReadsTypes types → (ms : MapletTrees) → MapletsTaken types ms
  takes_maplets types r no_maplets = tt
  takes_maplets types r (one_maplet k v ms) = (takes types r k, takes types r v, takes_maplets types r ms)

  pub takes_field_values : (types : TypeReader) → ReadsTypes types → (fs : FieldValueTrees) → FieldValuesTaken types fs
  takes_field_values types r no_field_values = tt
  takes_field_values types r (one_field_value n p v fs) = (takes types r v, takes_field_values types r fs)

  pub takes_definitions : (types : TypeReader) → ReadsTypes types → (ds : DefinedTrees) → DefinitionsTaken types ds
  takes_definitions types r no_defined = tt
  takes_definitions types r (one_defined p t v ds) = (takes_pattern types r p, takes types r v, takes_definitions types r ds)

  pub takes_branches : (types : TypeReader) → ReadsTypes types → (bs : BranchTrees) → BranchesTaken types bs
  takes_branches types r no_branches = tt
  takes_branches types r (one_branch c v bs) = (takes types r c, takes types r v, takes_branches types r bs)

  pub takes_cases : (types : TypeReader) → ReadsTypes types → (cs : CaseTrees) → CasesTaken types cs
  takes_cases types r no_cases = tt
  takes_cases types r (one_case ps v cs) = (takes_patterns types r ps, takes types r v, takes_cases types r cs)

  pub takes_bind : (types : TypeReader) → ReadsTypes types → (b : BindTree) → BindTaken types b
  takes_bind types r (bind_in ps set) = (takes_patterns types r ps, takes types r set)

  pub takes_binds : (types : TypeReader) → ReadsTypes types → (bs : BindTrees) → BindsTaken types bs
  takes_binds types r no_binds = tt
  takes_binds types r (one_bind b bs) = (takes_bind types r b, takes_binds types r bs)

  pub takes_pattern : (types : TypeReader) → ReadsTypes types → (p : PatternTree) → PatternTaken types p
  takes_pattern types r (any_value place) = any_value-taken types place
  takes_pattern types r (bound name place) = bound-taken types name place
  takes_pattern types r (literal_pattern value place) = literal_pattern-taken types value place
  takes_pattern types r (equal_to inner place) = equal_to-taken types inner place (takes types r inner)
  takes_pattern types r (set_pattern ps place) = set_pattern-taken types ps place (takes_patterns types r ps)
  takes_pattern types r (sequence_pattern ps place) = sequence_pattern-taken types ps place (takes_patterns types r ps)
  takes_pattern types r (map_pattern ms place) = map_pattern-taken types ms place (takes_maplet_patterns types r ms)
  takes_pattern types r (empty_map_pattern place) = empty_map_pattern-taken types place
  takes_pattern types r (tuple_pattern ps place) = tuple_pattern-taken types ps place (takes_patterns types r ps)
  takes_pattern types r (record_pattern type_name ps place) = record_pattern-taken types type_name ps place (takes_patterns types r ps)
  takes_pattern types r (concatenation_pattern ps place) = concatenation-taken types ps place (takes_patterns types r ps)

  pub takes_patterns : (types : TypeReader) → ReadsTypes types → (ps : PatternTrees) → PatternsTaken types ps
  takes_patterns types r no_patterns = tt
  takes_patterns types r (one_pattern p ps) = (takes_pattern types r p, takes_patterns types r ps)

  pub takes_maplet_patterns : (types : TypeReader) → ReadsTypes types → (ms : MapletPatterns) → MapletPatternsTaken types ms
  takes_maplet_patterns types r no_maplet_patterns = tt
  takes_maplet_patterns types r (one_maplet_pattern k v ms) = (takes_pattern types r k, takes_pattern types r v, takes_maplet_patterns types r ms)

-- ---- whole lists of tokens

AreTokens-begins : (tokens : List Token) (ws : List Written) → AreTokens tokens ws → Begins tokens ws []
AreTokens-begins [] [] h = refl
AreTokens-begins (t ∷ ts) (w ∷ ws) h = (h.0, AreTokens-begins ts ws h.1)
AreTokens-begins [] (w ∷ ws) h = absurd h
AreTokens-begins (t ∷ ts) [] h = absurd h

pub expr-read : (types : TypeReader) → ReadsTypes types → (tokens : List Token) (e : ExprTree) → IsTree tokens e → run types tokens (in_mode wants []) ≡ an_expr e
expr-read types r tokens e h =
    ((takes types r e).taken far_pull [] h.binds (omega arith)).leads tokens [] (AreTokens-begins tokens (spelling e) h.spelled) (record { below = reach-positive e })

pub pattern-read : (types : TypeReader) → ReadsTypes types → (tokens : List Token) (p : PatternTree) → IsPatternOf tokens p → run types tokens (in_mode wants_pattern []) ≡ a_pattern p
pattern-read types r tokens p h =
    (takes_pattern types r p).whole h.grammatical [] tt tokens [] (AreTokens-begins tokens (pattern_spelling p) h.spelled) (record { below = below_closed }) (record { unjoined = tt })
