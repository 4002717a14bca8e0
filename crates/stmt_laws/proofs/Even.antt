-- Round brackets of types, patterns and expressions come in pairs.
use Rattle.std.proofs.Common.{◌≡◌, ℕ, zero, suc, Bool, true, false, List, [], ◌∷◌, ◌++◌, Option, Some, None, refl, ap, ◌∙◌}
use Rattle.std.specs.Option.{option_and_then}
use Rattle.vdm_kinds.specs.declared.name.Name.{Name}
use Rattle.vdm_kinds.specs.declared.name_at.NameAt.{NameAt}
use Rattle.vdm_kinds.specs.declared.name_at.TypeName.{TypeName}
use Rattle.vdm_kinds.specs.declared.place.Place.{Place}
use Rattle.vdm_kinds.specs.declared.sign.Sign.{Sign}
use Rattle.vdm_kinds.specs.declared.sign.Sign.TheVariants as sign_is
use Rattle.abstract_syntax.specs.Literals.{LiteralTree, whole_literal, character_literal, text_literal, quote_literal, boolean_literal, nil_literal}
use Rattle.abstract_syntax.specs.Types.{TypeTree, TypeTrees, basic_type, quote_type, set_type, seq_type, seq1_type, map_type, inmap_type, optional_type, bracketed_type, named_type, product_type, union_type, no_types, one_type}
use Rattle.abstract_syntax.specs.Expressions.{ExprTree, ExprTrees, MaybeExpr, MapletTrees, FieldValueTrees, DefinedTrees, BranchTrees, CaseTrees, BindTree, BindTrees, PatternTree, PatternTrees, MapletPatterns, literal, named, qualified, old_value, self_object, current_time, undefined, result_value, bracketed, prefixed, joined, set_enumeration, set_range, set_comprehension, empty_map, map_enumeration, map_comprehension, sequence_enumeration, sequence_comprehension, make_tuple, make_token, make_record, modify_record, is_of_type, is_of_named, is_of_basic, is_of_class, is_of_base_class, same_class, same_base_class, create, history, apply, subsequence, select, select_of_class, select_part, let_in, let_be, def_in, if_else, cases_of, for_all, exists_some, exists_one, iota_of, no_exprs, one_expr, left_out, given_expr, no_maplets, one_maplet, no_field_values, one_field_value, no_defined, one_defined, no_branches, one_branch, no_cases, one_case, bind_in, no_binds, one_bind, any_value, bound, literal_pattern, equal_to, set_pattern, sequence_pattern, map_pattern, empty_map_pattern, tuple_pattern, record_pattern, concatenation_pattern, no_patterns, one_pattern, no_maplet_patterns, one_maplet_pattern}
use Rattle.grammar_words.specs.declared.word.Word.{Word}
use Rattle.grammar_words.specs.declared.word.Word.TheVariants as word_is
use Rattle.grammar_words.specs.Pulls.{prefix_word}
use Rattle.grammar_words.specs.Tokens.{identifier, make_named, is_named}
use Rattle.grammar_words.specs.Written.{Written, at, word}
use Rattle.type_reading.specs.TypeSpelling.{literal_token, class_and_name, type_name_spelling, type_spelling, types_spelling, further_types}
use Rattle.grammar_trees.specs.Spelling.{spelling, pattern_spelling, patterns_spelling, further_patterns, joined_patterns, further_joined, maplet_patterns_spelling, further_maplet_patterns, exprs_spelling, further_exprs, maplets_spelling, further_maplets, field_values_spelling, further_field_values, definitions_spelling, further_definitions, declared_spelling, branches_spelling, cases_spelling, further_cases, bind_spelling, binds_spelling, further_binds, behind_word, such_that, others_spelling, names_spelling, further_names}
use Rattle.front_laws.proofs.Passing.{written_word}

-- how many round brackets are open behind a word, of so many before it
abbrev pub over : Word → ℕ → Option ℕ
over word_is.OpenRound k = Some (suc k)
over word_is.CloseRound zero = None
over word_is.CloseRound (suc k) = Some k
over _ k = Some k

abbrev pub pass : List Written → ℕ → Option ℕ
pass [] k = Some k
pass (w ∷ ws) k = option_and_then (pass ws) (over (written_word w) k)

abbrev begins_at : Bool → ℕ → ℕ
begins_at true k = suc k
begins_at false k = k

-- as many are open behind them as before; or one less, where one was open
pub record Level (inside : Bool) (ws : List Written) : Type 0 where
  pub level : (k : ℕ) → pass ws (begins_at inside k) ≡ Some k

abbrev pub Even : List Written → Type 0
Even ws = Level false ws

pub nil : Level false []
nil = record { level = λ k. refl }

-- a word that is no round bracket, and more
pub next : {inside : Bool} {ws : List Written} (w : Written) → ((k : ℕ) → over (written_word w) k ≡ Some k) → Level inside ws → Level inside (w ∷ ws)
next {inside = inside} {ws = ws} w other more =
    record { level = λ k. ap (option_and_then (pass ws)) (other (begins_at inside k)) ∙ more.level k }

pass_on : (a b : List Written) (m : ℕ) (o : Option ℕ) → ((j : ℕ) → pass a j ≡ Some m → pass (a ++ b) j ≡ pass b m)
    → option_and_then (pass a) o ≡ Some m → option_and_then (pass (a ++ b)) o ≡ pass b m
pass_on a b m None others h = absurd (cc)
pass_on a b m (Some j) others h = others j h

pass_two : (a b : List Written) (k m : ℕ) → pass a k ≡ Some m → pass (a ++ b) k ≡ pass b m
pass_two [] b k m e = let same : k ≡ m = cc in ap (pass b) same
pass_two (w ∷ a) b k m e = pass_on a b m (over (written_word w) k) (λ j h. pass_two a b j m h) e

pub both : {inside : Bool} {a b : List Written} → Level false a → Level inside b → Level inside (a ++ b)
both {inside = inside} {a = a} {b = b} f g =
    record { level = λ k. pass_two a b (begins_at inside k) (begins_at inside k) (f.level (begins_at inside k)) ∙ g.level k }

-- a bracket that opens, and one that closes
pub opens : {ws : List Written} (w : Written) → ((k : ℕ) → over (written_word w) k ≡ Some (suc k)) → Level true ws → Level false (w ∷ ws)
opens {ws = ws} w bracket more = record { level = λ k. ap (option_and_then (pass ws)) (bracket k) ∙ more.level k }

pub closes : {ws : List Written} → Level false ws → Level true (word word_is.CloseRound ∷ ws)
closes more = record { level = λ k. more.level k }

-- ---- single words

literal-even : (value : LiteralTree) (place : Place) → Even (at (literal_token value place) ∷ [])
literal-even (whole_literal n) place = next _ (λ k. refl) nil
literal-even (character_literal c) place = next _ (λ k. refl) nil
literal-even (text_literal t) place = next _ (λ k. refl) nil
literal-even (quote_literal n) place = next _ (λ k. refl) nil
literal-even (boolean_literal true) place = next _ (λ k. refl) nil
literal-even (boolean_literal false) place = next _ (λ k. refl) nil
literal-even nil_literal place = next _ (λ k. refl) nil

prefix-over : (sign : Sign) (k : ℕ) → over (prefix_word sign) k ≡ Some k
prefix-over sign_is.Positive k = refl
prefix-over sign_is.Negative k = refl
prefix-over _ k = refl

made_name-even : (t : TypeName) (place : Place) → Even (type_name_spelling make_named t place)
made_name-even t place = by t.class
  where
    by : (class : Option Name) → Even (class_and_name make_named class t.name t.name_place place)
    by None = next _ (λ k. refl) nil
    by (Some class) = next _ (λ k. refl) (next _ (λ k. refl) (next _ (λ k. refl) nil))

tested_name-even : (t : TypeName) (place : Place) → Even (type_name_spelling is_named t place)
tested_name-even t place = by t.class
  where
    by : (class : Option Name) → Even (class_and_name is_named class t.name t.name_place place)
    by None = next _ (λ k. refl) nil
    by (Some class) = next _ (λ k. refl) (next _ (λ k. refl) (next _ (λ k. refl) nil))

type_name-even : (t : TypeName) (place : Place) → Even (type_name_spelling identifier t place)
type_name-even t place = by t.class
  where
    by : (class : Option Name) → Even (class_and_name identifier class t.name t.name_place place)
    by None = next _ (λ k. refl) nil
    by (Some class) = next _ (λ k. refl) (next _ (λ k. refl) (next _ (λ k. refl) nil))

further_names-even : (names : List NameAt) → Even (further_names names)
further_names-even [] = nil
further_names-even (n ∷ ns) = next _ (λ k. refl) (next _ (λ k. refl) (further_names-even ns))

pub names-even : (names : List NameAt) → Even (names_spelling names)
names-even [] = nil
names-even (n ∷ ns) = next _ (λ k. refl) (further_names-even ns)

-- ---- types

mutual
  pub type-even : (t : TypeTree) → Even (type_spelling t)
  type-even (basic_type basic place) = next _ (λ k. refl) nil
  type-even (quote_type name place) = next _ (λ k. refl) nil
  type-even (set_type t place) = next _ (λ k. refl) (next _ (λ k. refl) (type-even t))
  type-even (seq_type t place) = next _ (λ k. refl) (next _ (λ k. refl) (type-even t))
  type-even (seq1_type t place) = next _ (λ k. refl) (next _ (λ k. refl) (type-even t))
  type-even (map_type key value place) = next _ (λ k. refl) (both (type-even key) (next _ (λ k. refl) (type-even value)))
  type-even (inmap_type key value place) = next _ (λ k. refl) (both (type-even key) (next _ (λ k. refl) (type-even value)))
  type-even (optional_type t place) = next _ (λ k. refl) (both (type-even t) (next _ (λ k. refl) nil))
  type-even (bracketed_type t place) = opens _ (λ k. refl) (both (type-even t) (closes nil))
  type-even (named_type name place) = type_name-even name place
  type-even (product_type factors place) = types-even (word_is.Operator sign_is.Times) (λ k. refl) factors
  type-even (union_type alternatives place) = types-even word_is.Bar (λ k. refl) alternatives

  types-even : (w : Word) → ((k : ℕ) → over w k ≡ Some k) → (ts : TypeTrees) → Even (types_spelling w ts)
  types-even w other no_types = nil
  types-even w other (one_type t ts) = both (type-even t) (further_types-even w other ts)

  further_types-even : (w : Word) → ((k : ℕ) → over w k ≡ Some k) → (ts : TypeTrees) → Even (further_types w ts)
  further_types-even w other no_types = nil
  further_types-even w other (one_type t ts) = next _ other (both (type-even t) (further_types-even w other ts))

declared-even : (t : Option TypeTree) → Even (declared_spelling t)
declared-even None = nil
declared-even (Some t) = next _ (λ k. refl) (type-even t)

-- ---- expressions and patterns

mutual
  pub expr-even : (e : ExprTree) → Even (spelling e)
  expr-even (literal value place) = literal-even value place
  expr-even (named name place) = next _ (λ k. refl) nil
  expr-even (qualified class name name_place place) = next _ (λ k. refl) (next _ (λ k. refl) (next _ (λ k. refl) nil))
  expr-even (old_value name place) = next _ (λ k. refl) (next _ (λ k. refl) nil)
  expr-even (self_object place) = next _ (λ k. refl) nil
  expr-even (current_time place) = next _ (λ k. refl) nil
  expr-even (undefined place) = next _ (λ k. refl) nil
  expr-even (result_value place) = next _ (λ k. refl) nil
  expr-even (bracketed inner place) = opens _ (λ k. refl) (both (expr-even inner) (closes nil))
  expr-even (prefixed sign operand place) = next _ (prefix-over sign) (expr-even operand)
  expr-even (joined left sign right place) = both (expr-even left) (next _ (λ k. refl) (expr-even right))
  expr-even (set_enumeration es place) = next _ (λ k. refl) (both (exprs-even es) (next _ (λ k. refl) nil))
  expr-even (set_range first last place) = next _ (λ k. refl) (both (expr-even first) (next _ (λ k. refl) (next _ (λ k. refl) (next _ (λ k. refl) (both (expr-even last) (next _ (λ k. refl) nil))))))
  expr-even (set_comprehension e bs such place) = next _ (λ k. refl) (both (expr-even e) (next _ (λ k. refl) (both (binds-even bs) (both (behind-even word_is.Ampersand (λ k. refl) such) (next _ (λ k. refl) nil)))))
  expr-even (empty_map place) = next _ (λ k. refl) (next _ (λ k. refl) (next _ (λ k. refl) nil))
  expr-even (map_enumeration ms place) = next _ (λ k. refl) (both (maplets-even ms) (next _ (λ k. refl) nil))
  expr-even (map_comprehension key value bs such place) = next _ (λ k. refl) (both (expr-even key) (next _ (λ k. refl) (both (expr-even value) (next _ (λ k. refl) (both (binds-even bs) (both (behind-even word_is.Ampersand (λ k. refl) such) (next _ (λ k. refl) nil)))))))
  expr-even (sequence_enumeration es place) = next _ (λ k. refl) (both (exprs-even es) (next _ (λ k. refl) nil))
  expr-even (sequence_comprehension e p set such place) = next _ (λ k. refl) (both (expr-even e) (next _ (λ k. refl) (both (pattern-even p) (next _ (λ k. refl) (both (expr-even set) (both (behind-even word_is.Ampersand (λ k. refl) such) (next _ (λ k. refl) nil)))))))
  expr-even (make_tuple es place) = next _ (λ k. refl) (opens _ (λ k. refl) (both (exprs-even es) (closes nil)))
  expr-even (make_token inner place) = next _ (λ k. refl) (opens _ (λ k. refl) (both (expr-even inner) (closes nil)))
  expr-even (make_record type_name es place) = both (made_name-even type_name place) (opens _ (λ k. refl) (both (exprs-even es) (closes nil)))
  expr-even (modify_record e fields place) = next _ (λ k. refl) (opens _ (λ k. refl) (both (expr-even e) (next _ (λ k. refl) (both (field_values-even fields) (closes nil)))))
  expr-even (is_of_type e t place) = next _ (λ k. refl) (opens _ (λ k. refl) (both (expr-even e) (next _ (λ k. refl) (both (type-even t) (closes nil)))))
  expr-even (is_of_named type_name e place) = both (tested_name-even type_name place) (opens _ (λ k. refl) (both (expr-even e) (closes nil)))
  expr-even (is_of_basic basic e place) = next _ (λ k. refl) (opens _ (λ k. refl) (both (expr-even e) (closes nil)))
  expr-even (is_of_class class class_place e place) = next _ (λ k. refl) (opens _ (λ k. refl) (next _ (λ k. refl) (next _ (λ k. refl) (both (expr-even e) (closes nil)))))
  expr-even (is_of_base_class class class_place e place) = next _ (λ k. refl) (opens _ (λ k. refl) (next _ (λ k. refl) (next _ (λ k. refl) (both (expr-even e) (closes nil)))))
  expr-even (same_class left right place) = next _ (λ k. refl) (opens _ (λ k. refl) (both (expr-even left) (next _ (λ k. refl) (both (expr-even right) (closes nil)))))
  expr-even (same_base_class left right place) = next _ (λ k. refl) (opens _ (λ k. refl) (both (expr-even left) (next _ (λ k. refl) (both (expr-even right) (closes nil)))))
  expr-even (create class class_place es place) = next _ (λ k. refl) (next _ (λ k. refl) (opens _ (λ k. refl) (both (exprs-even es) (closes nil))))
  expr-even (history counter names place) = next _ (λ k. refl) (opens _ (λ k. refl) (both (names-even names) (closes nil)))
  expr-even (apply head es place) = both (expr-even head) (opens _ (λ k. refl) (both (exprs-even es) (closes nil)))
  expr-even (subsequence e first last place) = both (expr-even e) (opens _ (λ k. refl) (both (expr-even first) (next _ (λ k. refl) (next _ (λ k. refl) (next _ (λ k. refl) (both (expr-even last) (closes nil)))))))
  expr-even (select e name name_place place) = both (expr-even e) (next _ (λ k. refl) (next _ (λ k. refl) nil))
  expr-even (select_of_class e class class_place name name_place place) = both (expr-even e) (next _ (λ k. refl) (next _ (λ k. refl) (next _ (λ k. refl) (next _ (λ k. refl) nil))))
  expr-even (select_part e part place) = both (expr-even e) (next _ (λ k. refl) (next _ (λ k. refl) nil))
  expr-even (let_in ds e place) = next _ (λ k. refl) (both (definitions-even ds) (next _ (λ k. refl) (expr-even e)))
  expr-even (let_be bind such e place) = next _ (λ k. refl) (both (bind-even bind) (both (such_that-even such) (next _ (λ k. refl) (expr-even e))))
  expr-even (def_in p value e place) = next _ (λ k. refl) (both (pattern-even p) (next _ (λ k. refl) (both (expr-even value) (next _ (λ k. refl) (expr-even e)))))
  expr-even (if_else e value bs other place) = next _ (λ k. refl) (both (expr-even e) (next _ (λ k. refl) (both (expr-even value) (both (branches-even bs) (next _ (λ k. refl) (expr-even other))))))
  expr-even (cases_of e cs others place) = next _ (λ k. refl) (both (expr-even e) (next _ (λ k. refl) (both (cases-even cs) (both (others-even others) (next _ (λ k. refl) nil)))))
  expr-even (for_all bs e place) = next _ (λ k. refl) (both (binds-even bs) (next _ (λ k. refl) (expr-even e)))
  expr-even (exists_some bs e place) = next _ (λ k. refl) (both (binds-even bs) (next _ (λ k. refl) (expr-even e)))
  expr-even (exists_one bind e place) = next _ (λ k. refl) (both (bind-even bind) (next _ (λ k. refl) (expr-even e)))
  expr-even (iota_of bind e place) = next _ (λ k. refl) (both (bind-even bind) (next _ (λ k. refl) (expr-even e)))

  behind-even : (w : Word) → ((k : ℕ) → over w k ≡ Some k) → (e : MaybeExpr) → Even (behind_word w e)
  behind-even w other left_out = nil
  behind-even w other (given_expr e) = next _ other (expr-even e)

  such_that-even : (e : MaybeExpr) → Even (such_that e)
  such_that-even left_out = nil
  such_that-even (given_expr e) = next _ (λ k. refl) (next _ (λ k. refl) (expr-even e))

  others-even : (e : MaybeExpr) → Even (others_spelling e)
  others-even left_out = nil
  others-even (given_expr e) = next _ (λ k. refl) (next _ (λ k. refl) (next _ (λ k. refl) (expr-even e)))

  exprs-even : (es : ExprTrees) → Even (exprs_spelling es)
  exprs-even no_exprs = nil
  exprs-even (one_expr e es) = both (expr-even e) (further_exprs-even es)

  further_exprs-even : (es : ExprTrees) → Even (further_exprs es)
  further_exprs-even no_exprs = nil
  further_exprs-even (one_expr e es) = next _ (λ k. refl) (both (expr-even e) (further_exprs-even es))

  maplets-even : (ms : MapletTrees) → Even (maplets_spelling ms)
  maplets-even no_maplets = nil
  maplets-even (one_maplet key value ms) = both (expr-even key) (next _ (λ k. refl) (both (expr-even value) (further_maplets-even ms)))

  further_maplets-even : (ms : MapletTrees) → Even (further_maplets ms)
  further_maplets-even no_maplets = nil
  further_maplets-even (one_maplet key value ms) = next _ (λ k. refl) (both (expr-even key) (next _ (λ k. refl) (both (expr-even value) (further_maplets-even ms))))

  field_values-even : (fs : FieldValueTrees) → Even (field_values_spelling fs)
  field_values-even no_field_values = nil
  field_values-even (one_field_value name place value fs) = next _ (λ k. refl) (next _ (λ k. refl) (both (expr-even value) (further_field_values-even fs)))

  further_field_values-even : (fs : FieldValueTrees) → Even (further_field_values fs)
  further_field_values-even no_field_values = nil
  further_field_values-even (one_field_value name place value fs) = next _ (λ k. refl) (next _ (λ k. refl) (next _ (λ k. refl) (both (expr-even value) (further_field_values-even fs))))

  pub definitions-even : (ds : DefinedTrees) → Even (definitions_spelling ds)
  definitions-even no_defined = nil
  definitions-even (one_defined p t value ds) = both (pattern-even p) (both (declared-even t) (next _ (λ k. refl) (both (expr-even value) (further_definitions-even ds))))

  further_definitions-even : (ds : DefinedTrees) → Even (further_definitions ds)
  further_definitions-even no_defined = nil
  further_definitions-even (one_defined p t value ds) = next _ (λ k. refl) (both (pattern-even p) (both (declared-even t) (next _ (λ k. refl) (both (expr-even value) (further_definitions-even ds)))))

  branches-even : (bs : BranchTrees) → Even (branches_spelling bs)
  branches-even no_branches = nil
  branches-even (one_branch e value bs) = next _ (λ k. refl) (both (expr-even e) (next _ (λ k. refl) (both (expr-even value) (branches-even bs))))

  cases-even : (cs : CaseTrees) → Even (cases_spelling cs)
  cases-even no_cases = nil
  cases-even (one_case ps value cs) = both (patterns-even ps) (next _ (λ k. refl) (both (expr-even value) (further_cases-even cs)))

  further_cases-even : (cs : CaseTrees) → Even (further_cases cs)
  further_cases-even no_cases = nil
  further_cases-even (one_case ps value cs) = next _ (λ k. refl) (both (patterns-even ps) (next _ (λ k. refl) (both (expr-even value) (further_cases-even cs))))

  pub bind-even : (bind : BindTree) → Even (bind_spelling bind)
  bind-even (bind_in ps set) = both (patterns-even ps) (next _ (λ k. refl) (expr-even set))

  binds-even : (bs : BindTrees) → Even (binds_spelling bs)
  binds-even no_binds = nil
  binds-even (one_bind bind bs) = both (bind-even bind) (further_binds-even bs)

  further_binds-even : (bs : BindTrees) → Even (further_binds bs)
  further_binds-even no_binds = nil
  further_binds-even (one_bind bind bs) = next _ (λ k. refl) (both (bind-even bind) (further_binds-even bs))

  pub pattern-even : (p : PatternTree) → Even (pattern_spelling p)
  pattern-even (any_value place) = next _ (λ k. refl) nil
  pattern-even (bound name place) = next _ (λ k. refl) nil
  pattern-even (literal_pattern value place) = literal-even value place
  pattern-even (equal_to inner place) = opens _ (λ k. refl) (both (expr-even inner) (closes nil))
  pattern-even (set_pattern ps place) = next _ (λ k. refl) (both (patterns-even ps) (next _ (λ k. refl) nil))
  pattern-even (sequence_pattern ps place) = next _ (λ k. refl) (both (patterns-even ps) (next _ (λ k. refl) nil))
  pattern-even (map_pattern ms place) = next _ (λ k. refl) (both (maplet_patterns-even ms) (next _ (λ k. refl) nil))
  pattern-even (empty_map_pattern place) = next _ (λ k. refl) (next _ (λ k. refl) (next _ (λ k. refl) nil))
  pattern-even (tuple_pattern ps place) = next _ (λ k. refl) (opens _ (λ k. refl) (both (patterns-even ps) (closes nil)))
  pattern-even (record_pattern type_name ps place) = both (made_name-even type_name place) (opens _ (λ k. refl) (both (patterns-even ps) (closes nil)))
  pattern-even (concatenation_pattern ps place) = joined-even ps

  pub patterns-even : (ps : PatternTrees) → Even (patterns_spelling ps)
  patterns-even no_patterns = nil
  patterns-even (one_pattern p ps) = both (pattern-even p) (further_patterns-even ps)

  further_patterns-even : (ps : PatternTrees) → Even (further_patterns ps)
  further_patterns-even no_patterns = nil
  further_patterns-even (one_pattern p ps) = next _ (λ k. refl) (both (pattern-even p) (further_patterns-even ps))

  joined-even : (ps : PatternTrees) → Even (joined_patterns ps)
  joined-even no_patterns = nil
  joined-even (one_pattern p ps) = both (pattern-even p) (further_joined-even ps)

  further_joined-even : (ps : PatternTrees) → Even (further_joined ps)
  further_joined-even no_patterns = nil
  further_joined-even (one_pattern p ps) = next _ (λ k. refl) (both (pattern-even p) (further_joined-even ps))

  maplet_patterns-even : (ms : MapletPatterns) → Even (maplet_patterns_spelling ms)
  maplet_patterns-even no_maplet_patterns = nil
  maplet_patterns-even (one_maplet_pattern key value ms) = both (pattern-even key) (next _ (λ k. refl) (both (pattern-even value) (further_maplet_patterns-even ms)))

  further_maplet_patterns-even : (ms : MapletPatterns) → Even (further_maplet_patterns ms)
  further_maplet_patterns-even no_maplet_patterns = nil
  further_maplet_patterns-even (one_maplet_pattern key value ms) = next _ (λ k. refl) (both (pattern-even key) (next _ (λ k. refl) (both (pattern-even value) (further_maplet_patterns-even ms))))
