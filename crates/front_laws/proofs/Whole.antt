-- The words of each tree are read.
use Rattle.std.proofs.Common.{◌≡◌, true, List, [], ◌∷◌, ◌++◌, map, Option, Some, None, refl, ap, sym, ◌∙◌}
use Rattle.std.proofs.lemmas.List.{append-nil}
use Rattle.abstract_syntax.specs.Types.{TypeTree}
use Rattle.abstract_syntax.specs.Expressions.{ExprTree, ExprTrees, MaybeExpr, MapletTrees, FieldValueTrees, DefinedTrees, BranchTrees, CaseTrees, BindTree, BindTrees, PatternTree, PatternTrees, MapletPatterns, literal, named, qualified, old_value, self_object, current_time, undefined, result_value, bracketed, prefixed, joined, set_enumeration, set_range, set_comprehension, empty_map, map_enumeration, map_comprehension, sequence_enumeration, sequence_comprehension, make_tuple, make_token, make_record, modify_record, is_of_type, is_of_named, is_of_basic, is_of_class, is_of_base_class, same_class, same_base_class, create, history, apply, subsequence, select, select_of_class, select_part, let_in, let_be, def_in, if_else, cases_of, for_all, exists_some, exists_one, iota_of, no_exprs, one_expr, left_out, given_expr, no_maplets, one_maplet, no_field_values, one_field_value, no_defined, one_defined, no_branches, one_branch, no_cases, one_case, bind_in, no_binds, one_bind, any_value, bound, literal_pattern, equal_to, set_pattern, sequence_pattern, map_pattern, empty_map_pattern, tuple_pattern, record_pattern, concatenation_pattern, no_patterns, one_pattern, no_maplet_patterns, one_maplet_pattern}
use Rattle.grammar_words.specs.Pulls.{far_pull}
use Rattle.grammar_words.specs.Tokens.{Token, word_of}
use Rattle.grammar_words.specs.Written.{Written, at, word, number, IsToken, AreTokens}
use Rattle.type_reading.specs.TypeSpelling.{union, type_spelling, IsTypeOf}
use Rattle.grammar_trees.specs.Spelling.{spelling, pattern_spelling}
use Rattle.grammar_trees.specs.Trees.{IsTree, IsPatternOf}
use Rattle.grammar_fronts.specs.declared.kind.Kind.{Kind}
use Rattle.grammar_fronts.specs.declared.kind.Kind.TheVariants as kind
use Rattle.grammar_fronts.specs.declared.wanted.Wanted.{Wanted}
use Rattle.grammar_fronts.specs.declared.wanted.Wanted.TheVariants as want
use Rattle.grammar_fronts.specs.Fronts.{is_whole}
use Rattle.grammar_fronts.specs.Viable.{taken, start}
use Rattle.front_laws.specs.Whole.{IsWholeFront}
use Rattle.front_laws.proofs.Passing.{written_word, words_written, whole_of, Reads}
use Rattle.front_laws.proofs.Starts.{at_expression, at_pattern}
use Rattle.front_laws.proofs.Types.{type_reads}
use Rattle.front_laws.proofs.Claims.{ExprRead, PatternRead, ExprsRead, GivenRead, MapletsRead, FieldValuesRead, DefinitionsRead, BranchesRead, PatternsRead, MapletPatternsRead, CasesRead, BindRead, BindsRead}
use Rattle.front_laws.proofs.PatternsRead.{any_value-read, bound-read, literal_pattern-read, equal_to-read, empty_map_pattern-read, set_pattern-read, sequence_pattern-read, record_pattern-read, tuple_pattern-read, map_pattern-read, concatenation_pattern-read}
use Rattle.front_laws.proofs.Forms.{literal-read, named-read, qualified-read, old_value-read, self_object-read, current_time-read, undefined-read, result_value-read, bracketed-read, prefixed-read, joined-read, set_enumeration-read, set_range-read, empty_map-read, map_enumeration-read, sequence_enumeration-read, make_tuple-read, make_token-read, make_record-read, modify_record-read, is_of_type-read, is_of_named-read, is_of_basic-read, is_of_class-read, is_of_base_class-read, same_class-read, same_base_class-read, create-read, history-read, apply-read, subsequence-read, select-read, select_of_class-read, select_part-read}
use Rattle.front_laws.proofs.FarForms.{set_comprehension-read, map_comprehension-read, sequence_comprehension-read, let_in-read, let_be-read, def_in-read, if_else-read, cases_of-read, for_all-read, exists_some-read, exists_one-read, iota_of-read}

mutual
  pub expr_reads : (e : ExprTree) → ExprRead e
  expr_reads (literal value place) = literal-read value place
  expr_reads (named name place) = named-read name place
  expr_reads (qualified class name name_place place) = qualified-read class name name_place place
  expr_reads (old_value name place) = old_value-read name place
  expr_reads (self_object place) = self_object-read place
  expr_reads (current_time place) = current_time-read place
  expr_reads (undefined place) = undefined-read place
  expr_reads (result_value place) = result_value-read place
  expr_reads (bracketed inner place) = bracketed-read inner place (expr_reads inner)
  expr_reads (prefixed sign operand place) = prefixed-read sign operand place (expr_reads operand)
  expr_reads (joined left sign right place) = joined-read left sign right place (expr_reads left) (expr_reads right)
  expr_reads (set_enumeration es place) = set_enumeration-read es place (reads_exprs es)
  expr_reads (set_range first last place) = set_range-read first last place (expr_reads first) (expr_reads last)
  expr_reads (set_comprehension e bs such place) = set_comprehension-read e bs such place (expr_reads e) (reads_binds bs) (reads_given such)
  expr_reads (empty_map place) = empty_map-read place
  expr_reads (map_enumeration ms place) = map_enumeration-read ms place (reads_maplets ms)
  expr_reads (map_comprehension k v bs such place) = map_comprehension-read k v bs such place (expr_reads k) (expr_reads v) (reads_binds bs) (reads_given such)
  expr_reads (sequence_enumeration es place) = sequence_enumeration-read es place (reads_exprs es)
  expr_reads (sequence_comprehension e p s such place) = sequence_comprehension-read e p s such place (expr_reads e) (reads_pattern p) (expr_reads s) (reads_given such)
  expr_reads (make_tuple es place) = make_tuple-read es place (reads_exprs es)
  expr_reads (make_token inner place) = make_token-read inner place (expr_reads inner)
  expr_reads (make_record type_name es place) = make_record-read type_name es place (reads_exprs es)
  expr_reads (modify_record e fields place) = modify_record-read e fields place (expr_reads e) (reads_field_values fields)
  expr_reads (is_of_type e declared place) = is_of_type-read e declared place (expr_reads e)
  expr_reads (is_of_named type_name e place) = is_of_named-read type_name e place (expr_reads e)
  expr_reads (is_of_basic basic e place) = is_of_basic-read basic e place (expr_reads e)
  expr_reads (is_of_class class class_place e place) = is_of_class-read class class_place e place (expr_reads e)
  expr_reads (is_of_base_class class class_place e place) = is_of_base_class-read class class_place e place (expr_reads e)
  expr_reads (same_class left right place) = same_class-read left right place (expr_reads left) (expr_reads right)
  expr_reads (same_base_class left right place) = same_base_class-read left right place (expr_reads left) (expr_reads right)
  expr_reads (create class class_place es place) = create-read class class_place es place (reads_exprs es)
  expr_reads (history counter names place) = history-read counter names place
  expr_reads (apply head es place) = apply-read head es place (expr_reads head) (reads_exprs es)
  expr_reads (subsequence e first last place) = subsequence-read e first last place (expr_reads e) (expr_reads first) (expr_reads last)
  expr_reads (select e name name_place place) = select-read e name name_place place (expr_reads e)
  expr_reads (select_of_class e class class_place name name_place place) = select_of_class-read e class class_place name name_place place (expr_reads e)
  expr_reads (select_part e n place) = select_part-read e n place (expr_reads e)
  expr_reads (let_in ds e place) = let_in-read ds e place (reads_definitions ds) (expr_reads e)
  expr_reads (let_be b such e place) = let_be-read b such e place (reads_bind b) (reads_given such) (expr_reads e)
  expr_reads (def_in p v e place) = def_in-read p v e place (reads_pattern p) (expr_reads v) (expr_reads e)
  expr_reads (if_else c v bs e place) = if_else-read c v bs e place (expr_reads c) (expr_reads v) (reads_branches bs) (expr_reads e)
  expr_reads (cases_of e cs others place) = cases_of-read e cs others place (expr_reads e) (reads_cases cs) (reads_given others)
  expr_reads (for_all bs e place) = for_all-read bs e place (reads_binds bs) (expr_reads e)
  expr_reads (exists_some bs e place) = exists_some-read bs e place (reads_binds bs) (expr_reads e)
  expr_reads (exists_one b e place) = exists_one-read b e place (reads_bind b) (expr_reads e)
  expr_reads (iota_of b e place) = iota_of-read b e place (reads_bind b) (expr_reads e)

  pub reads_exprs : (es : ExprTrees) → ExprsRead es
  reads_exprs no_exprs = tt
  reads_exprs (one_expr e es) = (expr_reads e, reads_exprs es)

  pub reads_given : (e : MaybeExpr) → GivenRead e
  reads_given left_out = tt
  reads_given (given_expr e) = expr_reads e

  pub reads_maplets : (ms : MapletTrees) → MapletsRead ms
  reads_maplets no_maplets = tt
  reads_maplets (one_maplet k v ms) = (expr_reads k, expr_reads v, reads_maplets ms)

  pub reads_field_values : (fs : FieldValueTrees) → FieldValuesRead fs
  reads_field_values no_field_values = tt
  reads_field_values (one_field_value n p v fs) = (expr_reads v, reads_field_values fs)

  pub reads_definitions : (ds : DefinedTrees) → DefinitionsRead ds
  reads_definitions no_defined = tt
  reads_definitions (one_defined p t v ds) = (reads_pattern p, expr_reads v, reads_definitions ds)

  pub reads_branches : (bs : BranchTrees) → BranchesRead bs
  reads_branches no_branches = tt
  reads_branches (one_branch c v bs) = (expr_reads c, expr_reads v, reads_branches bs)

  pub reads_cases : (cs : CaseTrees) → CasesRead cs
  reads_cases no_cases = tt
  reads_cases (one_case ps v cs) = (reads_patterns ps, expr_reads v, reads_cases cs)

  pub reads_bind : (b : BindTree) → BindRead b
  reads_bind (bind_in ps set) = (reads_patterns ps, expr_reads set)

  pub reads_binds : (bs : BindTrees) → BindsRead bs
  reads_binds no_binds = tt
  reads_binds (one_bind b bs) = (reads_bind b, reads_binds bs)

  pub reads_pattern : (p : PatternTree) → PatternRead p
  reads_pattern (any_value place) = any_value-read place
  reads_pattern (bound name place) = bound-read name place
  reads_pattern (literal_pattern value place) = literal_pattern-read value place
  reads_pattern (equal_to inner place) = equal_to-read inner place (expr_reads inner)
  reads_pattern (set_pattern ps place) = set_pattern-read ps place (reads_patterns ps)
  reads_pattern (sequence_pattern ps place) = sequence_pattern-read ps place (reads_patterns ps)
  reads_pattern (map_pattern ms place) = map_pattern-read ms place (reads_maplet_patterns ms)
  reads_pattern (empty_map_pattern place) = empty_map_pattern-read place
  reads_pattern (tuple_pattern ps place) = tuple_pattern-read ps place (reads_patterns ps)
  reads_pattern (record_pattern type_name ps place) = record_pattern-read type_name ps place (reads_patterns ps)
  reads_pattern (concatenation_pattern ps place) = concatenation_pattern-read ps place (reads_patterns ps)

  pub reads_patterns : (ps : PatternTrees) → PatternsRead ps
  reads_patterns no_patterns = tt
  reads_patterns (one_pattern p ps) = (reads_pattern p, reads_patterns ps)

  pub reads_maplet_patterns : (ms : MapletPatterns) → MapletPatternsRead ms
  reads_maplet_patterns no_maplet_patterns = tt
  reads_maplet_patterns (one_maplet_pattern k v ms) = (reads_pattern k, reads_pattern v, reads_maplet_patterns ms)

-- ---- whole lists of tokens

word-of : (token : Token) (w : Written) → IsToken token w → word_of token ≡ written_word w
word-of token (at kept) h = ap word_of h
word-of token (word w) h = ap word_of h.1
word-of token (number n) h = ap word_of h.1

pub words-of : (tokens : List Token) (ws : List Written) → AreTokens tokens ws → map word_of tokens ≡ words_written ws
words-of [] [] h = refl
words-of (t ∷ ts) (w ∷ ws) h = ap (λ x. x ∷ map word_of ts) (word-of t w h.0) ∙ ap (λ xs. written_word w ∷ xs) (words-of ts ws h.1)
words-of [] (w ∷ ws) h = absurd h
words-of (t ∷ ts) [] h = absurd h

-- what is wanted behind words that are taken to a whole
record Found (o : Option (List Wanted)) : Type 0 where
  pub wanted : List Wanted
  pub is : o ≡ Some wanted
  pub whole : is_whole wanted ≡ true

found : (o : Option (List Wanted)) → whole_of o ≡ true → Found o
found (Some wanted) h = record { wanted = wanted; is = refl; whole = h }
found None h = absurd (cc)

whole_front : (k : Kind) (tokens : List Token) (ws : List Written) → AreTokens tokens ws → Reads (ws ++ []) (start k) → IsWholeFront k (map word_of tokens)
whole_front k tokens ws are r =
    let passes : whole_of (taken (words_written ws) (start k)) ≡ true =
    ap (λ all. whole_of (taken (words_written all) (start k))) (sym (append-nil ws)) ∙ r.passes in
    let f = found (taken (words_written ws) (start k)) passes in
    record { wanted = f.wanted; viable = ap (λ words. taken words (start k)) (words-of tokens ws are) ∙ f.is; whole = f.whole }

nothing : (wanted : List Wanted) → is_whole wanted ≡ true → Reads [] wanted
nothing wanted h = record { passes = h }

pub type-whole : (tokens : List Token) (tree : TypeTree) → IsTypeOf tokens tree → IsWholeFront kind.TypeExpr (map word_of tokens)
type-whole tokens tree h =
    whole_front kind.TypeExpr tokens (type_spelling tree) h.spelled
    ((type_reads tree).whole union h.grammatical [] [] (record { plain = nothing _ refl; name = nothing _ refl; class = nothing _ refl }))

pub pattern-whole : (tokens : List Token) (tree : PatternTree) → IsPatternOf tokens tree → IsWholeFront kind.Pattern (map word_of tokens)
pattern-whole tokens tree h =
    whole_front kind.Pattern tokens (pattern_spelling tree) h.spelled
    ((reads_pattern tree).reads h.grammatical want.Pattern [] at_pattern [] [] (nothing _ refl))

pub expr-whole : (tokens : List Token) (tree : ExprTree) → IsTree tokens tree → IsWholeFront kind.Expr (map word_of tokens)
expr-whole tokens tree h =
    whole_front kind.Expr tokens (spelling tree) h.spelled
    ((expr_reads tree).reads far_pull h.binds want.Expression [] at_expression [] []
    (record { plain = nothing _ refl; name = nothing _ refl; class = nothing _ refl }))
