-- Trees whose words are nowhere too deep are not too deep.
use Rattle.std.proofs.Common.{◌≡◌, ℕ, ◌+◌, ◌≤◌, true, false, Bool, nat_lt, if◌then◌else◌, List, [], ◌∷◌, ◌++◌, length, map, take, Option, Some, None, refl, ap, sym, ◌∙◌, arith}
use Rattle.std.proofs.lemmas.Bool.Decides.{nat_tests}
use Rattle.std.proofs.lemmas.List.{append-nil, take-append-le, take_all}
use Rattle.vdm_kinds.specs.declared.place.Place.{Place}
use Rattle.abstract_syntax.specs.Depth.{type_depth, expr_depth, pattern_depth}
use Rattle.abstract_syntax.specs.Types.{TypeTree}
use Rattle.abstract_syntax.specs.Expressions.{ExprTree, ExprTrees, MaybeExpr, MapletTrees, FieldValueTrees, DefinedTrees, BranchTrees, CaseTrees, BindTree, BindTrees, PatternTree, PatternTrees, MapletPatterns, literal, named, qualified, old_value, self_object, current_time, undefined, result_value, bracketed, prefixed, joined, set_enumeration, set_range, set_comprehension, empty_map, map_enumeration, map_comprehension, sequence_enumeration, sequence_comprehension, make_tuple, make_token, make_record, modify_record, is_of_type, is_of_named, is_of_basic, is_of_class, is_of_base_class, same_class, same_base_class, create, history, apply, subsequence, select, select_of_class, select_part, let_in, let_be, def_in, if_else, cases_of, for_all, exists_some, exists_one, iota_of, no_exprs, one_expr, left_out, given_expr, no_maplets, one_maplet, no_field_values, one_field_value, no_defined, one_defined, no_branches, one_branch, no_cases, one_case, bind_in, no_binds, one_bind, any_value, bound, literal_pattern, equal_to, set_pattern, sequence_pattern, map_pattern, empty_map_pattern, tuple_pattern, record_pattern, concatenation_pattern, no_patterns, one_pattern, no_maplet_patterns, one_maplet_pattern}
use Rattle.grammar_words.specs.declared.word.PlacedWord.{PlacedWord}
use Rattle.grammar_words.specs.declared.word.Word.{Word}
use Rattle.grammar_words.specs.Pulls.{closed, far_pull}
use Rattle.grammar_words.specs.Tokens.{Token, word_of}
use Rattle.grammar_words.specs.Written.{Written, AreTokens}
use Rattle.type_reading.specs.TypeSpelling.{union, type_spelling, IsTypeOf}
use Rattle.grammar_trees.specs.Spelling.{spelling, pattern_spelling}
use Rattle.grammar_trees.specs.Trees.{IsTree, IsPatternOf}
use Rattle.grammar_fronts.specs.declared.front.Front.{Front}
use Rattle.grammar_fronts.specs.declared.front.Front.TheVariants.{TooDeep, Reaches}
use Rattle.grammar_fronts.specs.declared.front.Reach.{Reach}
use Rattle.grammar_fronts.specs.declared.kind.Kind.{Kind}
use Rattle.grammar_fronts.specs.declared.kind.Kind.TheVariants as kind
use Rattle.grammar_fronts.specs.declared.open_node.OpenNode.{OpenNode}
use Rattle.grammar_fronts.specs.declared.wanted.Wanted.{Wanted}
use Rattle.grammar_fronts.specs.declared.wanted.Wanted.TheVariants as want
use Rattle.grammar_fronts.specs.Depth.{Nest, ended, pull_of, with_turn, first_deep}
use Rattle.grammar_fronts.specs.Fronts.{front_of, fronts, on, words_of, unless_deep, reaching}
use Rattle.grammar_fronts.specs.Turns.{Turn, wanted_by}
use Rattle.grammar_fronts.specs.Table.{turn, is_optional}
use Rattle.grammar_fronts.specs.Viable.{Met, takes, refuses, meets, needed, either, left_by, start}
use Rattle.front_laws.proofs.Passing.{words_written}
use Rattle.front_laws.proofs.Starts.{at_expression, at_pattern}
use Rattle.front_laws.proofs.Whole.{words-of}
use Rattle.front_laws.proofs.Fine.{fine, allowed, fine_met, Fine, none_deep}
use Rattle.front_laws.proofs.Nests.{Part, inside}
use Rattle.front_laws.proofs.TypesDeep.{type_deep}
use Rattle.front_laws.proofs.DeepClaims.{ExprDeep, PatternDeep, low_one, ExprsDeep, GivenDeep, MapletsDeep, FieldValuesDeep, DefinitionsDeep, BranchesDeep, PatternsDeep, MapletPatternsDeep, CasesDeep, BindDeep, BindsDeep}
use Rattle.front_laws.proofs.DeepPatterns.{any_value-deep, bound-deep, literal_pattern-deep, equal_to-deep, empty_map_pattern-deep, set_pattern-deep, sequence_pattern-deep, map_pattern-deep, tuple_pattern-deep, record_pattern-deep, concatenation_pattern-deep}
use Rattle.front_laws.proofs.DeepForms.{literal-deep, named-deep, qualified-deep, old_value-deep, self_object-deep, current_time-deep, undefined-deep, result_value-deep, bracketed-deep, prefixed-deep, joined-deep, set_enumeration-deep, set_range-deep, empty_map-deep, map_enumeration-deep, sequence_enumeration-deep, make_tuple-deep, make_token-deep, make_record-deep, modify_record-deep, is_of_type-deep, is_of_named-deep, is_of_basic-deep, is_of_class-deep, is_of_base_class-deep, same_class-deep, same_base_class-deep, create-deep, history-deep, apply-deep, subsequence-deep, select-deep, select_of_class-deep, select_part-deep}
use Rattle.front_laws.proofs.DeepFar.{set_comprehension-deep, map_comprehension-deep, sequence_comprehension-deep, let_in-deep, let_be-deep, def_in-deep, if_else-deep, cases_of-deep, for_all-deep, exists_some-deep, exists_one-deep, iota_of-deep}

mutual
  pub expr_deep : (e : ExprTree) → ExprDeep e
  expr_deep (literal value place) = literal-deep value place
  expr_deep (named name place) = named-deep name place
  expr_deep (qualified class name name_place place) = qualified-deep class name name_place place
  expr_deep (old_value name place) = old_value-deep name place
  expr_deep (self_object place) = self_object-deep place
  expr_deep (current_time place) = current_time-deep place
  expr_deep (undefined place) = undefined-deep place
  expr_deep (result_value place) = result_value-deep place
  expr_deep (bracketed inner place) = bracketed-deep inner place (expr_deep inner)
  expr_deep (prefixed sign operand place) = prefixed-deep sign operand place (expr_deep operand)
  expr_deep (joined left sign right place) = joined-deep left sign right place (expr_deep left) (expr_deep right)
  expr_deep (set_enumeration es place) = set_enumeration-deep es place (deep_exprs es)
  expr_deep (set_range first last place) = set_range-deep first last place (expr_deep first) (expr_deep last)
  expr_deep (set_comprehension e bs such place) = set_comprehension-deep e bs such place (expr_deep e) (deep_binds bs) (deep_given such)
  expr_deep (empty_map place) = empty_map-deep place
  expr_deep (map_enumeration ms place) = map_enumeration-deep ms place (deep_maplets ms)
  expr_deep (map_comprehension k v bs such place) = map_comprehension-deep k v bs such place (expr_deep k) (expr_deep v) (deep_binds bs) (deep_given such)
  expr_deep (sequence_enumeration es place) = sequence_enumeration-deep es place (deep_exprs es)
  expr_deep (sequence_comprehension e p s such place) = sequence_comprehension-deep e p s such place (expr_deep e) (pattern_deep p) (expr_deep s) (deep_given such)
  expr_deep (make_tuple es place) = make_tuple-deep es place (deep_exprs es)
  expr_deep (make_token inner place) = make_token-deep inner place (expr_deep inner)
  expr_deep (make_record type_name es place) = make_record-deep type_name es place (deep_exprs es)
  expr_deep (modify_record e fields place) = modify_record-deep e fields place (expr_deep e) (deep_field_values fields)
  expr_deep (is_of_type e declared place) = is_of_type-deep e declared place (expr_deep e)
  expr_deep (is_of_named type_name e place) = is_of_named-deep type_name e place (expr_deep e)
  expr_deep (is_of_basic basic e place) = is_of_basic-deep basic e place (expr_deep e)
  expr_deep (is_of_class class class_place e place) = is_of_class-deep class class_place e place (expr_deep e)
  expr_deep (is_of_base_class class class_place e place) = is_of_base_class-deep class class_place e place (expr_deep e)
  expr_deep (same_class left right place) = same_class-deep left right place (expr_deep left) (expr_deep right)
  expr_deep (same_base_class left right place) = same_base_class-deep left right place (expr_deep left) (expr_deep right)
  expr_deep (create class class_place es place) = create-deep class class_place es place (deep_exprs es)
  expr_deep (history counter names place) = history-deep counter names place
  expr_deep (apply head es place) = apply-deep head es place (expr_deep head) (deep_exprs es)
  expr_deep (subsequence e first last place) = subsequence-deep e first last place (expr_deep e) (expr_deep first) (expr_deep last)
  expr_deep (select e name name_place place) = select-deep e name name_place place (expr_deep e)
  expr_deep (select_of_class e class class_place name name_place place) = select_of_class-deep e class class_place name name_place place (expr_deep e)
  expr_deep (select_part e n place) = select_part-deep e n place (expr_deep e)
  expr_deep (let_in ds e place) = let_in-deep ds e place (deep_definitions ds) (expr_deep e)
  expr_deep (let_be b such e place) = let_be-deep b such e place (deep_bind b) (deep_given such) (expr_deep e)
  expr_deep (def_in p v e place) = def_in-deep p v e place (pattern_deep p) (expr_deep v) (expr_deep e)
  expr_deep (if_else c v bs e place) = if_else-deep c v bs e place (expr_deep c) (expr_deep v) (deep_branches bs) (expr_deep e)
  expr_deep (cases_of e cs others place) = cases_of-deep e cs others place (expr_deep e) (deep_cases cs) (deep_given others)
  expr_deep (for_all bs e place) = for_all-deep bs e place (deep_binds bs) (expr_deep e)
  expr_deep (exists_some bs e place) = exists_some-deep bs e place (deep_binds bs) (expr_deep e)
  expr_deep (exists_one b e place) = exists_one-deep b e place (deep_bind b) (expr_deep e)
  expr_deep (iota_of b e place) = iota_of-deep b e place (deep_bind b) (expr_deep e)

  pub deep_exprs : (es : ExprTrees) → ExprsDeep es
  deep_exprs no_exprs = tt
  deep_exprs (one_expr e es) = (expr_deep e, deep_exprs es)

  pub deep_given : (e : MaybeExpr) → GivenDeep e
  deep_given left_out = tt
  deep_given (given_expr e) = expr_deep e

  pub deep_maplets : (ms : MapletTrees) → MapletsDeep ms
  deep_maplets no_maplets = tt
  deep_maplets (one_maplet k v ms) = (expr_deep k, expr_deep v, deep_maplets ms)

  pub deep_field_values : (fs : FieldValueTrees) → FieldValuesDeep fs
  deep_field_values no_field_values = tt
  deep_field_values (one_field_value n p v fs) = (expr_deep v, deep_field_values fs)

  pub deep_definitions : (ds : DefinedTrees) → DefinitionsDeep ds
  deep_definitions no_defined = tt
  deep_definitions (one_defined p t v ds) = (pattern_deep p, expr_deep v, deep_definitions ds)

  pub deep_branches : (bs : BranchTrees) → BranchesDeep bs
  deep_branches no_branches = tt
  deep_branches (one_branch c v bs) = (expr_deep c, expr_deep v, deep_branches bs)

  pub deep_cases : (cs : CaseTrees) → CasesDeep cs
  deep_cases no_cases = tt
  deep_cases (one_case ps v cs) = (pattern_deeps ps, expr_deep v, deep_cases cs)

  pub deep_bind : (b : BindTree) → BindDeep b
  deep_bind (bind_in ps set) = (pattern_deeps ps, expr_deep set)

  pub deep_binds : (bs : BindTrees) → BindsDeep bs
  deep_binds no_binds = tt
  deep_binds (one_bind b bs) = (deep_bind b, deep_binds bs)

  pub pattern_deep : (p : PatternTree) → PatternDeep p
  pattern_deep (any_value place) = any_value-deep place
  pattern_deep (bound name place) = bound-deep name place
  pattern_deep (literal_pattern value place) = literal_pattern-deep value place
  pattern_deep (equal_to inner place) = equal_to-deep inner place (expr_deep inner)
  pattern_deep (set_pattern ps place) = set_pattern-deep ps place (pattern_deeps ps)
  pattern_deep (sequence_pattern ps place) = sequence_pattern-deep ps place (pattern_deeps ps)
  pattern_deep (map_pattern ms place) = map_pattern-deep ms place (deep_maplet_patterns ms)
  pattern_deep (empty_map_pattern place) = empty_map_pattern-deep place
  pattern_deep (tuple_pattern ps place) = tuple_pattern-deep ps place (pattern_deeps ps)
  pattern_deep (record_pattern type_name ps place) = record_pattern-deep type_name ps place (pattern_deeps ps)
  pattern_deep (concatenation_pattern ps place) = concatenation_pattern-deep ps place (pattern_deeps ps)

  pub pattern_deeps : (ps : PatternTrees) → PatternsDeep ps
  pattern_deeps no_patterns = tt
  pattern_deeps (one_pattern p ps) = (pattern_deep p, pattern_deeps ps)

  pub deep_maplet_patterns : (ms : MapletPatterns) → MapletPatternsDeep ms
  deep_maplet_patterns no_maplet_patterns = tt
  deep_maplet_patterns (one_maplet_pattern k v ms) = (pattern_deep k, pattern_deep v, deep_maplet_patterns ms)

-- ---- the words of a front alone

-- what is wanted where a word is refused is what has to come
needed_of : Met → List Wanted → List Wanted
needed_of (takes t behind) others = others
needed_of (refuses left) others = left

one_refused : (found : Option Turn) (optional : Bool) (next : Wanted) (behind left : List Wanted) (others : Met)
    → (others ≡ refuses left → left ≡ needed behind) → either found behind (if optional then others else refuses (next ∷ behind)) ≡ refuses left
    → left ≡ (if optional then needed behind else next ∷ behind)
unfolding needed_of
one_refused (Some t) optional next behind left others h is = absurd (cc)
one_refused None true next behind left others h is = h is
one_refused None false next behind left others h is = sym (ap (λ m. needed_of m []) is)

refused_needs : (word : Word) (wanted left : List Wanted) → meets word wanted ≡ refuses left → left ≡ needed wanted
unfolding needed_of
refused_needs word [] left is = sym (ap (λ m. needed_of m []) is)
refused_needs word (next ∷ behind) left is =
    one_refused (turn next word) (is_optional next) next behind left (meets word behind) (refused_needs word behind left) is

by_test : (test a b : Bool) → (a ≡ true → b ≡ true) → (if test then false else a) ≡ true → (if test then false else b) ≡ true
by_test true a b h is = absurd (cc)
by_test false a b h is = h is

allowed_too : (n : ℕ) (a b : Bool) → (a ≡ true → b ≡ true) → allowed n a ≡ true → allowed n b ≡ true
allowed_too n a b h is = by_test (nat_lt 200 n) a b h is

met_front : (word : Word) (words : List Word) (wanted : List Wanted) (nodes : List OpenNode) (met : Met) → meets word wanted ≡ met
    → ((more : List Wanted) (others : List OpenNode) → fine words more others ≡ true → fine (fronts words more).front more others ≡ true)
    → fine_met (fine words) nodes met ≡ true → fine (on word (fronts words) wanted (left_by met)).front wanted nodes ≡ true
met_front word words wanted nodes (takes t behind) e h is =
    let more = wanted_by t ++ behind in
    let nest = ended (length behind + 1) (pull_of t) nodes in
    let others = with_turn t behind nest in
    let front = (fronts words more).front in
    ap (fine_met (fine front) nodes) e
    ∙ allowed_too nest.read (allowed (length others) (fine words more others)) (allowed (length others) (fine front more others))
    (allowed_too (length others) (fine words more others) (fine front more others) (h more others)) is
met_front word words wanted nodes (refuses left) e h is =
    ap (λ (l : List Wanted). allowed (ended (length l) closed nodes).read true) (sym (refused_needs word wanted left e)) ∙ is

fine_front : (words : List Word) (wanted : List Wanted) (nodes : List OpenNode) → fine words wanted nodes ≡ true
    → fine (fronts words wanted).front wanted nodes ≡ true
fine_front [] wanted nodes is = is
fine_front (word ∷ words) wanted nodes is =
    met_front word words wanted nodes (meets word wanted) refl (fine_front words) is

-- ---- what is found of words that are nowhere too deep

reached : (deep : Option Place) (front : Front) (r : Reach) → unless_deep deep front ≡ Reaches r → deep ≡ None
reached (Some place) front r is = absurd (cc)
reached None front r is = refl

words_reached : (deep : Option Place) (front : Front) (r : Reach) → unless_deep deep front ≡ Reaches r → front ≡ Reaches r
words_reached (Some place) front r is = absurd (cc)
words_reached None front r is = is

count_of : Front → ℕ
count_of (TooDeep place) = 0
count_of (Reaches r) = r.words

nothing_deep : (k : Kind) → fine [] (start k) [] ≡ true
nothing_deep kind.TypeExpr = refl
nothing_deep kind.Pattern = refl
nothing_deep kind.Expr = refl

front_fine : (k : Kind) (words : List PlacedWord) (r : Reach) → front_of k words ≡ Reaches r → fine (words_of words) (start k) [] ≡ true
front_fine k [] r is = nothing_deep k
front_fine k (w ∷ ws) r is =
    none_deep w.place (w ∷ ws) (start k) [] (reached (first_deep w.place (w ∷ ws) (start k) []) (reaching 0 (fronts (words_of (w ∷ ws)) (start k))) r is)

front_words : (k : Kind) (words : List PlacedWord) (r : Reach) → front_of k words ≡ Reaches r → length (fronts (words_of words) (start k)).front ≡ r.words
unfolding count_of
front_words k [] r is = ap count_of is
front_words k (w ∷ ws) r is =
    let count : 0 + length (fronts (words_of (w ∷ ws)) (start k)).front ≡ r.words =
    ap count_of (words_reached (first_deep w.place (w ∷ ws) (start k) []) (reaching 0 (fronts (words_of (w ∷ ws)) (start k))) r is) in
    omega arith

-- the words that are taken are a front of the words
one_and_rest : (word : Word) (words : List Word) (wanted : List Wanted) (now : Option (List Wanted))
    → ((more : List Wanted) → (rest : List Word) × (words ≡ (fronts words more).front ++ rest))
    → (rest : List Word) × (word ∷ words ≡ (on word (fronts words) wanted now).front ++ rest)
one_and_rest word words wanted None others = (word ∷ words, refl)
one_and_rest word words wanted (Some more) others = ((others more).0, ap (λ ws. word ∷ ws) (others more).1)

front_and_rest : (words : List Word) (wanted : List Wanted) → (rest : List Word) × (words ≡ (fronts words wanted).front ++ rest)
front_and_rest [] wanted = ([], refl)
front_and_rest (word ∷ words) wanted = one_and_rest word words wanted (left_by (meets word wanted)) (front_and_rest words)

taken_words : (k : Kind) (words : List PlacedWord) (r : Reach) → front_of k words ≡ Reaches r
    → take r.words (words_of words) ≡ (fronts (words_of words) (start k)).front
taken_words k words r is =
    let front = (fronts (words_of words) (start k)).front in
    let split = front_and_rest (words_of words) (start k) in
    ap (λ n. take n (words_of words)) (sym (front_words k words r is)) ∙ ap (take (length front)) split.1
    ∙ take-append-le (length front) front split.0 (omega arith) ∙ take_all (length front) front (omega arith)

not_deep : (test : Bool) → (if test then false else true) ≡ true → test ≡ false
not_deep true is = absurd (cc)
not_deep false is = refl

allowed_depth : (depth : ℕ) → allowed depth true ≡ true → depth ≤ 200
allowed_depth depth is =
    let no : nat_lt 200 depth ≡ false = not_deep (nat_lt 200 depth) is in
    grind (arith, nat_tests)

-- where nothing more stands, all that is open ends
last_depth : {depth reach : ℕ} {next : Wanted} → needed (next ∷ []) ≡ [] → Part depth reach next [] [] [] → depth ≤ 200
last_depth {next = next} optional p =
    let ends : ended 0 closed p.open_nodes ≡ record { nodes = []; read = p.deepest } = p.ends 0 closed (inside (omega arith)) in
    let is : allowed (ended 0 closed p.open_nodes).read true ≡ true =
    sym (ap (λ (l : List Wanted). allowed (ended (length l) closed p.open_nodes).read true) optional) ∙ p.fine.fine in
    let deepest = allowed_depth p.deepest (sym (ap (λ (n : Nest). allowed n.read true) ends) ∙ is) in
    let deep = p.deep in
    omega arith

words_fine : (k : Kind) (words : List PlacedWord) (r : Reach) (tokens : List Token) (ws : List Written) → front_of k words ≡ Reaches r
    → map word_of tokens ≡ take r.words (words_of words) → AreTokens tokens ws → Fine (ws ++ []) (start k) []
words_fine k words r tokens ws found same are =
    let front : map word_of tokens ≡ (fronts (words_of words) (start k)).front = same ∙ taken_words k words r found in
    record {
      fine = ap (λ all. fine (words_written all) (start k) []) (append-nil ws)
          ∙ ap (λ all. fine all (start k) []) (sym (words-of tokens ws are) ∙ front)
          ∙ fine_front (words_of words) (start k) [] (front_fine k words r found);
    }

pub type-depth : (words : List PlacedWord) (r : Reach) (tokens : List Token) (tree : TypeTree) → front_of kind.TypeExpr words ≡ Reaches r
    → map word_of tokens ≡ take r.words (words_of words) → IsTypeOf tokens tree → type_depth tree ≤ 200
type-depth words r tokens tree found same h =
    last_depth refl ((type_deep tree).whole union h.grammatical [] [] tt [] tt (words_fine kind.TypeExpr words r tokens (type_spelling tree) found same h.spelled))

pub pattern-depth : (words : List PlacedWord) (r : Reach) (tokens : List Token) (tree : PatternTree) → front_of kind.Pattern words ≡ Reaches r
    → map word_of tokens ≡ take r.words (words_of words) → IsPatternOf tokens tree → pattern_depth tree ≤ 200
pattern-depth words r tokens tree found same h =
    last_depth refl ((pattern_deep tree).deep h.grammatical 1 (omega arith) (low_one tree) want.Pattern [] at_pattern [] [] tt []
    (words_fine kind.Pattern words r tokens (pattern_spelling tree) found same h.spelled))

pub expr-depth : (words : List PlacedWord) (r : Reach) (tokens : List Token) (tree : ExprTree) → front_of kind.Expr words ≡ Reaches r
    → map word_of tokens ≡ take r.words (words_of words) → IsTree tokens tree → expr_depth tree ≤ 200
expr-depth words r tokens tree found same h =
    last_depth refl ((expr_deep tree).deep far_pull (omega arith) h.binds want.Expression [] at_expression [] [] tt [] tt
    (words_fine kind.Expr words r tokens (spelling tree) found same h.spelled))
