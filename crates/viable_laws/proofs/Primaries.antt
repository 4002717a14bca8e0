-- What may stand before the postfixes of a call, and how a call begins with it.
use Rattle.std.proofs.Common.{◌≡◌, ℕ, Bool, true, false, if◌then◌else◌, List, [], ◌∷◌, ◌++◌, length, map, Option, Some, None, refl, ap, sym, subst, ◌∙◌}
use Rattle.std.proofs.lemmas.List.{append-nil}
use Rattle.vdm_kinds.specs.declared.basic_type.BasicType.{BasicType}
use Rattle.vdm_kinds.specs.declared.counter.Counter.{Counter}
use Rattle.vdm_kinds.specs.declared.name.Name.{Name}
use Rattle.vdm_kinds.specs.declared.name_at.NameAt.{NameAt}
use Rattle.vdm_kinds.specs.declared.name_at.TypeName.{TypeName}
use Rattle.vdm_kinds.specs.declared.place.Place.{Place}
use Rattle.abstract_syntax.specs.Literals.{LiteralTree, whole_literal, character_literal, text_literal, quote_literal, boolean_literal, nil_literal}
use Rattle.abstract_syntax.specs.Types.{TypeTree}
use Rattle.abstract_syntax.specs.Expressions.{ExprTree, ExprTrees, MaybeExpr, MapletTrees, FieldValueTrees, BindTrees, literal, named, qualified, old_value, bracketed, set_enumeration, set_range, set_comprehension, empty_map, map_enumeration, map_comprehension, make_tuple, make_token, make_record, modify_record, is_of_type, is_of_named, is_of_basic, is_of_class, is_of_base_class, same_class, same_base_class, create, history}
use Rattle.grammar_words.specs.declared.word.Word.{Word}
use Rattle.grammar_words.specs.declared.word.Word.TheVariants as word_is
use Rattle.grammar_words.specs.Pulls.{far_pull}
use Rattle.grammar_words.specs.Tokens.{Token, identifier, plain, make_named, is_named, word_of}
use Rattle.grammar_words.specs.Written.{Written, at, word, at_word, AreTokens}
use Rattle.type_reading.specs.TypeSpelling.{union, type_spelling, literal_token, class_and_name}
use Rattle.grammar_trees.specs.Spelling.{spelling, exprs_spelling, binds_spelling}
use Rattle.grammar_trees.specs.Binding.{Binds, AreExprs}
use Rattle.grammar_fronts.specs.declared.wanted.Wanted.{Wanted}
use Rattle.grammar_fronts.specs.declared.wanted.Wanted.TheVariants as want
use Rattle.grammar_fronts.specs.Table.{turn, is_optional}
use Rattle.grammar_fronts.specs.Viable.{refuses, after, meets, either, left_by, needed}
use Rattle.front_laws.proofs.Passing.{Reads as WordsRead, tok, follow, regroup}
use Rattle.front_laws.proofs.Starts.{at_in_curly}
use Rattle.front_laws.proofs.Types.{inside, type_reads}
use Rattle.front_laws.proofs.Claims.{within}
use Rattle.front_laws.proofs.Parts.{set_in, parts_in, tuple_in, map_in, changes_in, names_in}
use Rattle.front_laws.proofs.BindsRead.{binds_in, condition_in_curly}
use Rattle.front_laws.proofs.Whole.{expr_reads, reads_exprs, reads_given, reads_maplets, reads_field_values, reads_binds}
use Rattle.stmt_trees.specs.Pieces.{whole}
use Rattle.stmt_fronts.specs.declared.expected.Expected.TheVariants.{Within, Statement}
use Rattle.stmt_fronts.specs.Turns.{Turn, calls, all_within}
use Rattle.stmt_fronts.specs.Table.{turns}
use Rattle.stmt_fronts.specs.Viable.{Names}
use Rattle.stmt_laws.specs.Ends.{stops}
use Rattle.stmt_laws.proofs.Stops.{only-optional, whole-stops}
use Rattle.viable_laws.proofs.Takes.{Takes, nothing, token, marked, left_last}
use Rattle.viable_laws.proofs.Leaves.{Whole, passed, leaf}

-- ---- words that nothing goes on with behind a bracket that is closed

-- a postfix, or what stands behind a statement
abbrev pub ends_bracket : Word → Bool
ends_bracket word_is.OpenRound = true
ends_bracket word_is.Dot = true
ends_bracket word_is.DotNumber = true
ends_bracket word_is.Comma = true
ends_bracket w = stops w

-- what takes no `(` takes no other postfix
other_postfix : (x : Wanted) → is_optional x ≡ true → turn x word_is.OpenRound ≡ None → (turn x word_is.Dot ≡ None) × (turn x word_is.DotNumber ≡ None)
other_postfix want.BehindOperand o e = absurd (cc)
other_postfix want.BehindType o e = (refl, refl)
other_postfix want.BehindPattern o e = (refl, refl)
other_postfix want.MorePatterns o e = (refl, refl)
other_postfix want.MorePatternPairs o e = (refl, refl)
other_postfix want.BehindName o e = (refl, refl)
other_postfix want.BehindClass o e = (refl, refl)
other_postfix want.MoreExpressions o e = (refl, refl)
other_postfix want.MorePairs o e = (refl, refl)
other_postfix want.MoreChanges o e = (refl, refl)
other_postfix want.MoreNames o e = (refl, refl)
other_postfix want.MoreBinds o e = (refl, refl)
other_postfix want.Condition o e = (refl, refl)
other_postfix want.LocalType o e = (refl, refl)
other_postfix want.MoreLocals o e = (refl, refl)
other_postfix want.SuchThat o e = (refl, refl)
other_postfix _ o e = absurd (cc)

not_here : (w : Word) (t : Option _) (x : Wanted) (xs : List Wanted)
    → left_by (either t xs (if is_optional x then meets w xs else refuses (x ∷ xs))) ≡ None → t ≡ None
not_here w None x xs e = refl
not_here w (Some t) x xs e = absurd (cc)

passes_on : (w : Word) (x : Wanted) (xs : List Wanted) → turn x w ≡ None → is_optional x ≡ true → after w (x ∷ xs) ≡ after w xs
passes_on w x xs e o =
    ap (λ t. left_by (either t xs (if is_optional x then meets w xs else refuses (x ∷ xs)))) e
    ∙ ap (λ (b : Bool). left_by (if b then meets w xs else refuses (x ∷ xs))) o

no_postfix : (wanted : List Wanted) → length (needed wanted) ≡ 0 → after word_is.OpenRound wanted ≡ None
    → (after word_is.Dot wanted ≡ None) × (after word_is.DotNumber wanted ≡ None)
no_postfix [] h e = (refl, refl)
no_postfix (x ∷ xs) h e =
    let o = only-optional (is_optional x) x xs h in
    let first = not_here word_is.OpenRound (turn x word_is.OpenRound) x xs e in
    let p = other_postfix x o.0 first in
    let q = no_postfix xs o.1 (sym (passes_on word_is.OpenRound x xs first o.0) ∙ e) in
    (passes_on word_is.Dot x xs p.0 o.0 ∙ q.0, passes_on word_is.DotNumber x xs p.1 o.0 ∙ q.1)

-- words that are taken with anything wanted behind
pub record Closed (ws : List Written) (start : List Wanted) : Type 0 where
  pub reads : (behind : List Wanted) (a : List Written) → WordsRead a behind → WordsRead (ws ++ a) (start ++ behind)

no_round : (ws : List Written) (start : List Wanted) → Closed ws start → (tokens : List Token) → AreTokens tokens ws → (e : Whole (map word_of tokens) start)
    → after word_is.OpenRound e.behind ≡ None
no_round ws start c tokens a e =
    passed start want.OpenRound refl word_is.OpenRound [] tt ws tokens a (c.reads (want.OpenRound ∷ []) (word word_is.OpenRound ∷ []) (record { passes = refl })) e

bracket_stops : (ws : List Written) (start : List Wanted) → Closed ws start → (tokens : List Token) → AreTokens tokens ws → (e : Whole (map word_of tokens) start)
    → (w : Word) → ends_bracket w ≡ true → after w e.behind ≡ None
bracket_stops ws start c tokens a e word_is.Comma h =
    passed start want.Comma refl word_is.Comma [] tt ws tokens a (c.reads (want.Comma ∷ []) (word word_is.Comma ∷ []) (record { passes = refl })) e
bracket_stops ws start c tokens a e word_is.OpenRound h = no_round ws start c tokens a e
bracket_stops ws start c tokens a e word_is.Dot h = (no_postfix e.behind e.whole (no_round ws start c tokens a e)).0
bracket_stops ws start c tokens a e word_is.DotNumber h = (no_postfix e.behind e.whole (no_round ws start c tokens a e)).1
bracket_stops ws start c tokens a e w h = whole-stops e.behind w e.whole h

pub closed_taken : {n : Names} (ws : List Written) (start : List Wanted) → Closed ws start → Takes (whole ws) (all_within start) ends_bracket n n
closed_taken ws start c =
    leaf start ends_bracket (subst (λ all. WordsRead (ws ++ []) all) (append-nil start) (c.reads [] [] (record { passes = refl }))) (bracket_stops ws start c)

-- ---- how a call begins

-- the first token, what a call wants behind it, and what is written there
pub record Primary (p : ExprTree) : Type 0 where
  pub first : Token
  pub parts : List Wanted
  pub behind : List Written
  pub spelled : spelling p ≡ at first ∷ behind
  pub before : List Turn
  pub begins : turns Statement (word_of first) ≡ before ++ calls 0 (all_within parts) [] ∷ []
  pub taken : (n : Names) → Takes (whole behind) (all_within parts) ends_bracket n n

by_closed : (p : ExprTree) (t : Token) (parts : List Wanted) (behind : List Written) (before : List Turn) → spelling p ≡ at t ∷ behind
    → turns Statement (word_of t) ≡ before ++ calls 0 (all_within parts) [] ∷ [] → Closed behind parts → Primary p
by_closed p t parts behind before spelled begins c =
    record { first = t; parts = parts; behind = behind; spelled = spelled; before = before; begins = begins; taken = λ n. closed_taken behind parts c }

-- one word
alone : (p : ExprTree) (t : Token) → spelling p ≡ at t ∷ [] → turns Statement (word_of t) ≡ calls 0 [] [] ∷ [] → Primary p
alone p t spelled begins =
    record { first = t; parts = []; behind = []; spelled = spelled; before = []; begins = begins; taken = λ n. nothing }

literal_begins : (value : LiteralTree) (place : Place) → turns Statement (word_of (literal_token value place)) ≡ calls 0 [] [] ∷ []
literal_begins (whole_literal n) place = refl
literal_begins (character_literal c) place = refl
literal_begins (text_literal characters) place = refl
literal_begins (quote_literal name) place = refl
literal_begins (boolean_literal true) place = refl
literal_begins (boolean_literal false) place = refl
literal_begins nil_literal place = refl

no_name_on : (w : Word) → ends_bracket w ≡ true → turns (Within want.BehindName) w ≡ []
no_name_on word_is.Backquote e = absurd (cc)
no_name_on word_is.Tilde e = absurd (cc)
no_name_on _ e = refl

pub literal_primary : (value : LiteralTree) (place : Place) → Primary (literal value place)
literal_primary value place = alone (literal value place) (literal_token value place) refl (literal_begins value place)

pub named_primary : (name : Name) (place : Place) → Primary (named name place)
named_primary name place =
    record {
      first = identifier name place;
      parts = want.BehindName ∷ [];
      behind = [];
      spelled = refl;
      before = _ ∷ [];
      begins = refl;
      taken = λ n. left_last refl no_name_on;
    }

pub qualified_primary : (class name : Name) (name_place place : Place) → Primary (qualified class name name_place place)
qualified_primary class name name_place place =
    record {
      first = identifier class place;
      parts = want.BehindName ∷ [];
      behind = word word_is.Backquote ∷ at (identifier name name_place) ∷ [];
      spelled = refl;
      before = _ ∷ [];
      begins = refl;
      taken = λ n. marked word_is.Backquote [] _ _ refl refl (token (identifier name name_place) [] _ _ refl refl nothing);
    }

pub old_value_primary : (name : Name) (place : Place) → Primary (old_value name place)
old_value_primary name place =
    record {
      first = identifier name place;
      parts = want.BehindName ∷ [];
      behind = word word_is.Tilde ∷ [];
      spelled = refl;
      before = _ ∷ [];
      begins = refl;
      taken = λ n. marked word_is.Tilde [] _ _ refl refl nothing;
    }

pub word_primary : (p : ExprTree) (w : Word) (place : Place) → spelling p ≡ at_word w place ∷ [] → turns Statement w ≡ calls 0 [] [] ∷ [] → Primary p
word_primary p w place spelled begins = alone p (plain w place) spelled begins

-- ---- what has a word of its own, and brackets

pub bracketed_primary : (e : ExprTree) (place : Place) (m : ℕ) → Binds (bracketed e place) m → Primary (bracketed e place)
bracketed_primary e place m b =
    by_closed (bracketed e place) (plain word_is.OpenRound place) (want.Expression ∷ want.CloseRound ∷ []) _ (_ ∷ []) refl refl
    (record { reads = λ behind a r. regroup (spelling e) _ a (within (expr_reads e) far_pull b (follow (word word_is.CloseRound) refl refl refl r)) })

pub set_enumeration_primary : (es : ExprTrees) (place : Place) (m : ℕ) → Binds (set_enumeration es place) m → Primary (set_enumeration es place)
set_enumeration_primary es place m b =
    by_closed (set_enumeration es place) (plain word_is.OpenCurly place) (want.InCurly ∷ []) _ [] refl refl
    (record { reads = λ behind a r. set_in es (reads_exprs es) b behind a r })

pub set_range_primary : (first last : ExprTree) (place : Place) (m : ℕ) → Binds (set_range first last place) m → Primary (set_range first last place)
set_range_primary first last place m b =
    by_closed (set_range first last place) (plain word_is.OpenCurly place) (want.InCurly ∷ []) _ [] refl refl
    (record { reads = λ behind a r. regroup (spelling first) _ a ((expr_reads first).reads far_pull b.0 want.InCurly (want.BehindFirstInCurly ∷ []) at_in_curly behind _ (follow (word word_is.Comma) refl refl refl (tok (word word_is.Dots) refl (tok (word word_is.Comma) refl (regroup (spelling last) _ a (within (expr_reads last) far_pull b.1 (follow (word word_is.CloseCurly) refl refl refl r))))))) })

pub set_comprehension_primary : (element : ExprTree) (bs : BindTrees) (such : MaybeExpr) (place : Place) (m : ℕ) → Binds (set_comprehension element bs such place) m → Primary (set_comprehension element bs such place)
set_comprehension_primary element bs such place m b =
    by_closed (set_comprehension element bs such place) (plain word_is.OpenCurly place) (want.InCurly ∷ []) _ [] refl refl
    (record { reads = λ behind a r. regroup (spelling element) _ a ((expr_reads element).reads far_pull b.0 want.InCurly (want.BehindFirstInCurly ∷ []) at_in_curly behind _ (follow (word word_is.Bar) refl refl refl (regroup (binds_spelling bs) _ a (binds_in bs (reads_binds bs) b.2 b.1 (want.Condition ∷ want.CloseCurly ∷ behind) _ (condition_in_curly such (reads_given such) b.3 behind a r))))) })

pub empty_map_primary : (place : Place) (m : ℕ) → Binds (empty_map place) m → Primary (empty_map place)
empty_map_primary place m b =
    by_closed (empty_map place) (plain word_is.OpenCurly place) (want.InCurly ∷ []) _ [] refl refl
    (record { reads = λ behind a r. tok (word word_is.MapsTo) refl (tok (word word_is.CloseCurly) refl r) })

pub map_enumeration_primary : (ms : MapletTrees) (place : Place) (m : ℕ) → Binds (map_enumeration ms place) m → Primary (map_enumeration ms place)
map_enumeration_primary ms place m b =
    by_closed (map_enumeration ms place) (plain word_is.OpenCurly place) (want.InCurly ∷ []) _ [] refl refl
    (record { reads = λ behind a r. map_in ms (reads_maplets ms) b.1 b.0 behind a r })

pub map_comprehension_primary : (k v : ExprTree) (bs : BindTrees) (such : MaybeExpr) (place : Place) (m : ℕ) → Binds (map_comprehension k v bs such place) m → Primary (map_comprehension k v bs such place)
map_comprehension_primary k v bs such place m b =
    by_closed (map_comprehension k v bs such place) (plain word_is.OpenCurly place) (want.InCurly ∷ []) _ [] refl refl
    (record { reads = λ behind a r. regroup (spelling k) _ a ((expr_reads k).reads far_pull b.0 want.InCurly (want.BehindFirstInCurly ∷ []) at_in_curly behind _ (follow (word word_is.MapsTo) refl refl refl (regroup (spelling v) _ a (within (expr_reads v) far_pull b.1 (follow (word word_is.Bar) refl refl refl (regroup (binds_spelling bs) _ a (binds_in bs (reads_binds bs) b.3 b.2 (want.Condition ∷ want.CloseCurly ∷ behind) _ (condition_in_curly such (reads_given such) b.4 behind a r)))))))) })

pub make_tuple_primary : (es : ExprTrees) (place : Place) (m : ℕ) → Binds (make_tuple es place) m → Primary (make_tuple es place)
make_tuple_primary es place m b =
    by_closed (make_tuple es place) (plain word_is.MakeTuple place) (want.OpenRound ∷ want.Expression ∷ want.Comma ∷ want.Expression ∷ want.MoreExpressions ∷ want.CloseRound ∷ []) _ [] refl refl
    (record { reads = λ behind a r. tok (word word_is.OpenRound) refl (tuple_in es (reads_exprs es) b.1 b.0 behind a r) })

pub make_token_primary : (e : ExprTree) (place : Place) (m : ℕ) → Binds (make_token e place) m → Primary (make_token e place)
make_token_primary e place m b =
    by_closed (make_token e place) (plain word_is.MakeToken place) (want.OpenRound ∷ want.Expression ∷ want.CloseRound ∷ []) _ [] refl refl
    (record { reads = λ behind a r. tok (word word_is.OpenRound) refl (regroup (spelling e) _ a (within (expr_reads e) far_pull b (follow (word word_is.CloseRound) refl refl refl r))) })

pub modify_record_primary : (e : ExprTree) (fs : FieldValueTrees) (place : Place) (m : ℕ) → Binds (modify_record e fs place) m → Primary (modify_record e fs place)
modify_record_primary e fs place m b =
    by_closed (modify_record e fs place) (plain word_is.Modify place) (want.OpenRound ∷ want.Expression ∷ want.Comma ∷ want.Identifier ∷ want.MapsTo ∷ want.Expression ∷ want.MoreChanges ∷ want.CloseRound ∷ []) _ [] refl refl
    (record { reads = λ behind a r. tok (word word_is.OpenRound) refl (regroup (spelling e) _ a (within (expr_reads e) far_pull b.0 (follow (word word_is.Comma) refl refl refl (changes_in fs (reads_field_values fs) b.2 b.1 behind a r)))) })

pub is_of_type_primary : (e : ExprTree) (t : TypeTree) (place : Place) (m : ℕ) → Binds (is_of_type e t place) m → Primary (is_of_type e t place)
is_of_type_primary e t place m b =
    by_closed (is_of_type e t place) (plain word_is.IsType place) (want.OpenRound ∷ want.Expression ∷ want.Comma ∷ want.WholeType ∷ want.CloseRound ∷ []) _ [] refl refl
    (record { reads = λ behind a r. tok (word word_is.OpenRound) refl (regroup (spelling e) _ a (within (expr_reads e) far_pull b.0 (follow (word word_is.Comma) refl refl refl (regroup (type_spelling t) _ a (inside (type_reads t) union b.1 (follow (word word_is.CloseRound) refl refl refl r)))))) })

pub is_of_basic_primary : (basic : BasicType) (e : ExprTree) (place : Place) (m : ℕ) → Binds (is_of_basic basic e place) m → Primary (is_of_basic basic e place)
is_of_basic_primary basic e place m b =
    by_closed (is_of_basic basic e place) (plain (word_is.IsBasic basic) place) (want.OpenRound ∷ want.Expression ∷ want.CloseRound ∷ []) _ [] refl refl
    (record { reads = λ behind a r. tok (word word_is.OpenRound) refl (regroup (spelling e) _ a (within (expr_reads e) far_pull b (follow (word word_is.CloseRound) refl refl refl r))) })

pub is_of_class_primary : (class : Name) (class_place : Place) (e : ExprTree) (place : Place) (m : ℕ) → Binds (is_of_class class class_place e place) m → Primary (is_of_class class class_place e place)
is_of_class_primary class class_place e place m b =
    by_closed (is_of_class class class_place e place) (plain word_is.IsOfClass place) (want.OpenRound ∷ want.Identifier ∷ want.Comma ∷ want.Expression ∷ want.CloseRound ∷ []) _ [] refl refl
    (record { reads = λ behind a r. tok (word word_is.OpenRound) refl (tok (at (identifier class class_place)) refl (tok (word word_is.Comma) refl (regroup (spelling e) _ a (within (expr_reads e) far_pull b (follow (word word_is.CloseRound) refl refl refl r))))) })

pub is_of_base_class_primary : (class : Name) (class_place : Place) (e : ExprTree) (place : Place) (m : ℕ) → Binds (is_of_base_class class class_place e place) m → Primary (is_of_base_class class class_place e place)
is_of_base_class_primary class class_place e place m b =
    by_closed (is_of_base_class class class_place e place) (plain word_is.IsOfBaseClass place) (want.OpenRound ∷ want.Identifier ∷ want.Comma ∷ want.Expression ∷ want.CloseRound ∷ []) _ [] refl refl
    (record { reads = λ behind a r. tok (word word_is.OpenRound) refl (tok (at (identifier class class_place)) refl (tok (word word_is.Comma) refl (regroup (spelling e) _ a (within (expr_reads e) far_pull b (follow (word word_is.CloseRound) refl refl refl r))))) })

pub same_class_primary : (left right : ExprTree) (place : Place) (m : ℕ) → Binds (same_class left right place) m → Primary (same_class left right place)
same_class_primary left right place m b =
    by_closed (same_class left right place) (plain word_is.SameClass place) (want.OpenRound ∷ want.Expression ∷ want.Comma ∷ want.Expression ∷ want.CloseRound ∷ []) _ [] refl refl
    (record { reads = λ behind a r. tok (word word_is.OpenRound) refl (regroup (spelling left) _ a (within (expr_reads left) far_pull b.0 (follow (word word_is.Comma) refl refl refl (regroup (spelling right) _ a (within (expr_reads right) far_pull b.1 (follow (word word_is.CloseRound) refl refl refl r)))))) })

pub same_base_class_primary : (left right : ExprTree) (place : Place) (m : ℕ) → Binds (same_base_class left right place) m → Primary (same_base_class left right place)
same_base_class_primary left right place m b =
    by_closed (same_base_class left right place) (plain word_is.SameBaseClass place) (want.OpenRound ∷ want.Expression ∷ want.Comma ∷ want.Expression ∷ want.CloseRound ∷ []) _ [] refl refl
    (record { reads = λ behind a r. tok (word word_is.OpenRound) refl (regroup (spelling left) _ a (within (expr_reads left) far_pull b.0 (follow (word word_is.Comma) refl refl refl (regroup (spelling right) _ a (within (expr_reads right) far_pull b.1 (follow (word word_is.CloseRound) refl refl refl r)))))) })

pub create_primary : (class : Name) (class_place : Place) (es : ExprTrees) (place : Place) (m : ℕ) → Binds (create class class_place es place) m → Primary (create class class_place es place)
create_primary class class_place es place m b =
    by_closed (create class class_place es place) (plain word_is.New place) (want.Identifier ∷ want.OpenRound ∷ want.Parts ∷ []) _ [] refl refl
    (record { reads = λ behind a r. tok (at (identifier class class_place)) refl (tok (word word_is.OpenRound) refl (parts_in es (reads_exprs es) b behind a r)) })

pub history_primary : (counter : Counter) (names : List NameAt) (place : Place) (m : ℕ) → Binds (history counter names place) m → Primary (history counter names place)
history_primary counter names place m b =
    by_closed (history counter names place) (plain (word_is.Counter counter) place) (want.OpenRound ∷ want.Identifier ∷ want.MoreNames ∷ want.CloseRound ∷ []) _ [] refl refl
    (record { reads = λ behind a r. tok (word word_is.OpenRound) refl (names_in names b behind a r) })

-- ---- records, and tests of their types

record_of : (p : ExprTree) (class : Option Name) (name : Name) (name_place place : Place) (es : ExprTrees) → AreExprs es
    → spelling p ≡ class_and_name make_named class name name_place place ++ (word word_is.OpenRound ∷ (exprs_spelling es ++ (word word_is.CloseRound ∷ []))) → Primary p
record_of p None name name_place place es g e =
    by_closed p (make_named name place) (want.BehindClass ∷ want.OpenRound ∷ want.Parts ∷ []) _ [] e refl
    (record { reads = λ behind a r. tok (word word_is.OpenRound) refl (parts_in es (reads_exprs es) g behind a r) })
record_of p (Some class) name name_place place es g e =
    by_closed p (make_named class place) (want.BehindClass ∷ want.OpenRound ∷ want.Parts ∷ []) _ [] e refl
    (record {
      reads = λ behind a r. tok (word word_is.Backquote) refl (tok (at (identifier name name_place)) refl (tok (word word_is.OpenRound) refl (parts_in es (reads_exprs es) g behind a r)));
    })

pub make_record_primary : (t : TypeName) (es : ExprTrees) (place : Place) (m : ℕ) → Binds (make_record t es place) m → Primary (make_record t es place)
make_record_primary t es place m b = record_of (make_record t es place) t.class t.name t.name_place place es b.1 refl

test_of : (p : ExprTree) (class : Option Name) (name : Name) (name_place place : Place) (e : ExprTree) → Binds e far_pull
    → spelling p ≡ class_and_name is_named class name name_place place ++ (word word_is.OpenRound ∷ (spelling e ++ (word word_is.CloseRound ∷ []))) → Primary p
test_of p None name name_place place e g h =
    by_closed p (is_named name place) (want.BehindClass ∷ want.OpenRound ∷ want.Expression ∷ want.CloseRound ∷ []) _ [] h refl
    (record {
      reads = λ behind a r. tok (word word_is.OpenRound) refl (regroup (spelling e) _ a (within (expr_reads e) far_pull g (follow (word word_is.CloseRound) refl refl refl r)));
    })
test_of p (Some class) name name_place place e g h =
    by_closed p (is_named class place) (want.BehindClass ∷ want.OpenRound ∷ want.Expression ∷ want.CloseRound ∷ []) _ [] h refl
    (record {
      reads = λ behind a r.
          tok (word word_is.Backquote) refl (tok (at (identifier name name_place)) refl (tok (word word_is.OpenRound) refl
          (regroup (spelling e) _ a (within (expr_reads e) far_pull g (follow (word word_is.CloseRound) refl refl refl r)))));
    })

pub is_of_named_primary : (t : TypeName) (e : ExprTree) (place : Place) (m : ℕ) → Binds (is_of_named t e place) m → Primary (is_of_named t e place)
is_of_named_primary t e place m b = test_of (is_of_named t e place) t.class t.name t.name_place place e b.1 refl
