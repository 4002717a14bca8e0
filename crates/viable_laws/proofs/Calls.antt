-- Calls are taken where a statement is wanted: a primary, and postfixes of which the last is an application.
use Rattle.std.proofs.Common.{◌≡◌, ℕ, ◌<◌, ◌≤◌, min, Bool, true, false, List, [], ◌∷◌, ◌++◌, refl, ap, sym, subst, ◌∙◌, append_assoc, arith}
use Rattle.std.proofs.lemmas.List.{append-nil}
use Rattle.vdm_kinds.specs.declared.place.Place.{Place}
use Rattle.vdm_kinds.specs.declared.sign.Sign.{Sign}
use Rattle.vdm_kinds.specs.declared.sign.Sign.TheVariants as sign_is
use Rattle.abstract_syntax.specs.Expressions.{ExprTree, ExprTrees, literal, named, qualified, old_value, self_object, current_time, undefined, result_value, bracketed, prefixed, joined, set_enumeration, set_range, set_comprehension, empty_map, map_enumeration, map_comprehension, sequence_enumeration, sequence_comprehension, make_tuple, make_token, make_record, modify_record, is_of_type, is_of_named, is_of_basic, is_of_class, is_of_base_class, same_class, same_base_class, create, history, apply, subsequence, select, select_of_class, select_part, let_in, let_be, def_in, if_else, cases_of, for_all, exists_some, exists_one, iota_of}
use Rattle.abstract_syntax.specs.Statements.{call}
use Rattle.grammar_words.specs.declared.word.Word.{Word}
use Rattle.grammar_words.specs.declared.word.Word.TheVariants as word_is
use Rattle.grammar_words.specs.Pulls.{right_pull, postfix_pull, far_pull}
use Rattle.grammar_words.specs.Tokens.{Token, identifier, plain, whole as whole_token, word_of}
use Rattle.grammar_words.specs.Written.{Written, at, word, number, at_word}
use Rattle.grammar_trees.specs.Spelling.{spelling, exprs_spelling}
use Rattle.grammar_trees.specs.Binding.{Binds, reach, AreExprs}
use Rattle.grammar_fronts.specs.declared.wanted.Wanted.TheVariants as want
use Rattle.front_laws.proofs.Parts.{parts_in}
use Rattle.front_laws.proofs.Whole.{reads_exprs}
use Rattle.stmt_trees.specs.Pieces.{Piece, must, whole}
use Rattle.stmt_trees.specs.StmtGrammar.{primary, IsCall}
use Rattle.stmt_fronts.specs.declared.expected.Expected.{Expected}
use Rattle.stmt_fronts.specs.declared.expected.Expected.TheVariants.{Within, Statement, Call, Called, Dots}
use Rattle.stmt_fronts.specs.Turns.{calls, all_within}
use Rattle.stmt_fronts.specs.Table.{turns}
use Rattle.stmt_fronts.specs.Viable.{Names, name_of}
use Rattle.stmt_laws.specs.Ends.{ends_stmt, ends_after, first_word}
use Rattle.stmt_laws.proofs.Readers.{Begins, by_mark, by_token, by_nothing}
use Rattle.stmt_laws.proofs.Firsts.{after_ends}
use Rattle.stmt_laws.proofs.Spellings.{whole-append}
use Rattle.stmt_laws.proofs.SoundParts.{IsHead}
use Rattle.viable_laws.proofs.Takes.{Ends, tok, Takes, nothing, both, token, marked, left_out, left_last, same_pieces}
use Rattle.viable_laws.proofs.Leaves.{expr_taken}
use Rattle.viable_laws.proofs.Instead.{none_wanted, begun, nameless_statement, kept, instead}
use Rattle.viable_laws.proofs.Parts.{joined as whole_joined}
use Rattle.viable_laws.proofs.Primaries.{ends_bracket, closed_taken, Primary, literal_primary, named_primary, qualified_primary, old_value_primary, word_primary, bracketed_primary, set_enumeration_primary, set_range_primary, set_comprehension_primary, empty_map_primary, map_enumeration_primary, map_comprehension_primary, make_tuple_primary, make_token_primary, modify_record_primary, is_of_type_primary, is_of_basic_primary, is_of_class_primary, is_of_base_class_primary, same_class_primary, same_base_class_primary, create_primary, history_primary, make_record_primary, is_of_named_primary}
use Rattle.viable_laws.proofs.EachKind.{Taken}

abbrev is_postfix : Word → Bool
is_postfix word_is.OpenRound = true
is_postfix word_is.Dot = true
is_postfix word_is.DotNumber = true
is_postfix _ = false

-- what may stand before a postfix is taken where a statement is wanted, and then a call goes on
record Headed (e : ExprTree) : Type 0 where
  pub headed : (n : Names) (vs : List Piece) (y : List Expected) (ends : Word → Bool) → Begins vs ends is_postfix → Takes vs (Call ∷ y) ends n n
      → Takes (whole (spelling e) ++ vs) (Statement ∷ y) ends n n

postfix_ends : (w : Word) → is_postfix w ≡ true → ends_bracket w ≡ true
postfix_ends word_is.OpenRound e = refl
postfix_ends word_is.Dot e = refl
postfix_ends word_is.DotNumber e = refl
postfix_ends _ e = absurd (cc)

begins_fewer : {vs : List Piece} {ends some more : Word → Bool} → ((w : Word) → some w ≡ true → more w ≡ true) → Begins vs ends some → Begins vs ends more
begins_fewer are b = record { opens = λ tokens rest h e. are (first_word tokens) (b.opens tokens rest h e) }

by_primary : (e : ExprTree) → Primary e → Headed e
by_primary e p =
    record {
      headed = λ n vs y ends b t.
          same_pieces (ap (λ ws. whole ws ++ vs) (sym p.spelled))
          (token p.first p.before (calls 0 (all_within p.parts) []) [] p.begins refl
          (subst (λ m. Takes (whole p.behind ++ vs) ((all_within p.parts ++ (Call ∷ [])) ++ y) ends m n) (sym (nameless_statement.keeps n (name_of p.first)))
          (subst (λ all. Takes (whole p.behind ++ vs) all ends n n) (sym (append_assoc (all_within p.parts) (Call ∷ []) y))
          (both (p.taken n) (begins_fewer postfix_ends b) t))));
    }

-- a postfix behind what is headed
behind_head : {n : Names} (vs : List Piece) {y : List Expected} {ends : Word → Bool} (e : ExprTree) → Headed e → (t : Token) (ws : List Written) → is_postfix (word_of t) ≡ true
    → Takes (must (at t) ∷ (whole ws ++ vs)) (Call ∷ y) ends n n → Takes (whole (spelling e ++ (at t ∷ ws)) ++ vs) (Statement ∷ y) ends n n
behind_head {n = n} vs {y = y} {ends = ends} e h t ws p f =
    same_pieces (sym (ap (λ ps. ps ++ vs) (whole-append (spelling e) (at t ∷ ws)) ∙ append_assoc (whole (spelling e)) (must (at t) ∷ whole ws) vs))
    (h.headed n _ y ends (by_token t p) f)

-- a further postfix may stand behind an application
further_postfix : {n : Names} {vs : List Piece} {y : List Expected} {ends : Word → Bool} → Takes vs (Call ∷ y) ends n n → Takes vs (Called ∷ y) ends n n
further_postfix {y = y} t =
    instead Called Call [] y refl (record { fits_any = λ n name. refl; keeps = kept Called (λ n name. refl) }) (record { fits_any = λ n name. refl; keeps = kept Call (λ n name. refl) })
    (λ w. begun [] (none_wanted (turns Call w))) t

arguments_taken : {n : Names} {vs : List Piece} {y : List Expected} {ends : Word → Bool} (es : ExprTrees) (place : Place) → AreExprs es → Begins vs ends ends_bracket
    → Takes vs (Called ∷ y) ends n n
    → Takes (must (at_word word_is.OpenRound place) ∷ (whole (exprs_spelling es ++ (word word_is.CloseRound ∷ [])) ++ vs)) (Call ∷ y) ends n n
arguments_taken es place g b t =
    token (plain word_is.OpenRound place) [] _ _ refl refl
    (both (closed_taken (exprs_spelling es ++ (word word_is.CloseRound ∷ [])) (want.Parts ∷ []) (record { reads = λ behind a r. parts_in es (reads_exprs es) g behind a r })) b t)

bounds_taken : {n : Names} (first last : ExprTree) → Binds first far_pull → Binds last far_pull
    → Takes (whole (spelling first ++ (word word_is.Comma ∷ (word word_is.Dots ∷ (word word_is.Comma ∷ (spelling last ++ (word word_is.CloseRound ∷ [])))))))
    (Within want.Expression ∷ Within want.Comma ∷ Dots ∷ Within want.Comma ∷ Within want.Expression ∷ Within want.CloseRound ∷ []) ends_bracket n n
bounds_taken first last f l =
    whole_joined (spelling first) _ (both (expr_taken first f) (by_mark word_is.Comma refl) (marked word_is.Comma [] _ _ refl refl
    (marked word_is.Dots [] _ _ refl refl (marked word_is.Comma [] _ _ refl refl
    (whole_joined (spelling last) _ (both (expr_taken last l) (by_mark word_is.CloseRound refl) (marked word_is.CloseRound [] _ _ refl refl nothing)))))))

no_class : (w : Word) → is_postfix w ≡ true → turns (Within want.BehindClass) w ≡ []
no_class word_is.OpenRound e = refl
no_class word_is.Dot e = refl
no_class word_is.DotNumber e = refl
no_class _ e = absurd (cc)

-- the number of a part
numbered : {n : Names} {vs : List Piece} {y : List Expected} {ends : Word → Bool} (part : _) → Takes vs y ends n n
    → Takes (must (number part) ∷ vs) (Within want.Whole ∷ y) ends n n
numbered {n = n} {y = y} part t =
    record {
      takes = λ behind tokens rest h e r.
          subst (λ ts. Ends ts (Within want.Whole ∷ (y ++ behind)) n) (sym h.1.1)
          (tok (whole_token part h.1.0) h.0 (Within want.Whole) (y ++ behind) n [] _ _ refl refl (t.takes behind h.0 rest h.2 e r));
    }

-- no operator pulls more than postfixes
operators-below : (sign : Sign) → right_pull sign ≤ 30
operators-below sign_is.Equivalent = omega arith
operators-below sign_is.Implies = omega arith
operators-below sign_is.Or = omega arith
operators-below sign_is.And = omega arith
operators-below sign_is.Not = omega arith
operators-below sign_is.Equal = omega arith
operators-below sign_is.NotEqual = omega arith
operators-below sign_is.Less = omega arith
operators-below sign_is.LessEqual = omega arith
operators-below sign_is.Greater = omega arith
operators-below sign_is.GreaterEqual = omega arith
operators-below sign_is.Subset = omega arith
operators-below sign_is.ProperSubset = omega arith
operators-below sign_is.InSet = omega arith
operators-below sign_is.NotInSet = omega arith
operators-below sign_is.Plus = omega arith
operators-below sign_is.Minus = omega arith
operators-below sign_is.Union = omega arith
operators-below sign_is.Difference = omega arith
operators-below sign_is.MapUnion = omega arith
operators-below sign_is.Override = omega arith
operators-below sign_is.Concatenation = omega arith
operators-below sign_is.Times = omega arith
operators-below sign_is.Div = omega arith
operators-below sign_is.Rem = omega arith
operators-below sign_is.Mod = omega arith
operators-below sign_is.Inter = omega arith
operators-below sign_is.Inverse = omega arith
operators-below sign_is.DomainRestriction = omega arith
operators-below sign_is.DomainRemoval = omega arith
operators-below sign_is.RangeRestriction = omega arith
operators-below sign_is.RangeRemoval = omega arith
operators-below sign_is.Positive = omega arith
operators-below sign_is.Negative = omega arith
operators-below sign_is.Absolute = omega arith
operators-below sign_is.Card = omega arith
operators-below sign_is.PowerSet = omega arith
operators-below sign_is.DistributedUnion = omega arith
operators-below sign_is.DistributedInter = omega arith
operators-below sign_is.Length = omega arith
operators-below sign_is.Head = omega arith
operators-below sign_is.Tail = omega arith
operators-below sign_is.Indices = omega arith
operators-below sign_is.Elements = omega arith
operators-below sign_is.DistributedConcatenation = omega arith
operators-below sign_is.Domain = omega arith
operators-below sign_is.Range = omega arith
operators-below sign_is.Merge = omega arith
operators-below sign_is.Composition = omega arith
operators-below sign_is.Exponent = omega arith

no_operator : (sign : Sign) (more : ℕ) → postfix_pull < min (right_pull sign) more → ⊥
no_operator sign more h =
    let k : right_pull sign ≤ 30 = operators-below sign in
    let l : 30 < min (right_pull sign) more = h in omega arith

no_far : postfix_pull < far_pull → ⊥
no_far h = let l : 30 < 1 = h in omega arith

heads : (e : ExprTree) (pull : ℕ) → Binds e pull → postfix_pull < reach e → IsHead (primary e) → Headed e
heads (literal value place) pull b r h = by_primary (literal value place) (literal_primary value place)
heads (named name place) pull b r h = by_primary (named name place) (named_primary name place)
heads (qualified class name name_place place) pull b r h = by_primary (qualified class name name_place place) (qualified_primary class name name_place place)
heads (old_value name place) pull b r h = by_primary (old_value name place) (old_value_primary name place)
heads (self_object place) pull b r h = by_primary (self_object place) (word_primary (self_object place) word_is.SelfWord place refl refl)
heads (current_time place) pull b r h = by_primary (current_time place) (word_primary (current_time place) word_is.Time place refl refl)
heads (undefined place) pull b r h = by_primary (undefined place) (word_primary (undefined place) word_is.Undefined place refl refl)
heads (result_value place) pull b r h = by_primary (result_value place) (word_primary (result_value place) word_is.Result place refl refl)
heads (bracketed e place) pull b r h = by_primary (bracketed e place) (bracketed_primary e place pull b)
heads (set_enumeration es place) pull b r h = by_primary (set_enumeration es place) (set_enumeration_primary es place pull b)
heads (set_range first last place) pull b r h = by_primary (set_range first last place) (set_range_primary first last place pull b)
heads (set_comprehension e bs such place) pull b r h = by_primary (set_comprehension e bs such place) (set_comprehension_primary e bs such place pull b)
heads (empty_map place) pull b r h = by_primary (empty_map place) (empty_map_primary place pull b)
heads (map_enumeration ms place) pull b r h = by_primary (map_enumeration ms place) (map_enumeration_primary ms place pull b)
heads (map_comprehension k v bs such place) pull b r h = by_primary (map_comprehension k v bs such place) (map_comprehension_primary k v bs such place pull b)
heads (make_tuple es place) pull b r h = by_primary (make_tuple es place) (make_tuple_primary es place pull b)
heads (make_token e place) pull b r h = by_primary (make_token e place) (make_token_primary e place pull b)
heads (make_record t es place) pull b r h = by_primary (make_record t es place) (make_record_primary t es place pull b)
heads (modify_record e fs place) pull b r h = by_primary (modify_record e fs place) (modify_record_primary e fs place pull b)
heads (is_of_type e t place) pull b r h = by_primary (is_of_type e t place) (is_of_type_primary e t place pull b)
heads (is_of_named t e place) pull b r h = by_primary (is_of_named t e place) (is_of_named_primary t e place pull b)
heads (is_of_basic basic e place) pull b r h = by_primary (is_of_basic basic e place) (is_of_basic_primary basic e place pull b)
heads (is_of_class class class_place e place) pull b r h = by_primary (is_of_class class class_place e place) (is_of_class_primary class class_place e place pull b)
heads (is_of_base_class class class_place e place) pull b r h = by_primary (is_of_base_class class class_place e place) (is_of_base_class_primary class class_place e place pull b)
heads (same_class left right place) pull b r h = by_primary (same_class left right place) (same_class_primary left right place pull b)
heads (same_base_class left right place) pull b r h = by_primary (same_base_class left right place) (same_base_class_primary left right place pull b)
heads (create class class_place es place) pull b r h = by_primary (create class class_place es place) (create_primary class class_place es place pull b)
heads (history counter names place) pull b r h = by_primary (history counter names place) (history_primary counter names place pull b)
heads (apply e es place) pull b r h =
    record {
      headed = λ n vs y ends begins t.
          behind_head vs e (heads e pull b.0 b.2 h) (plain word_is.OpenRound place) (exprs_spelling es ++ (word word_is.CloseRound ∷ [])) refl
          (arguments_taken es place b.3 (begins_fewer postfix_ends begins) (further_postfix t));
    }
heads (subsequence e first last place) pull b r h =
    record {
      headed = λ n vs y ends begins t.
          behind_head vs e (heads e pull b.0 b.2 h) (plain word_is.OpenRound place)
          (spelling first ++ (word word_is.Comma ∷ (word word_is.Dots ∷ (word word_is.Comma ∷ (spelling last ++ (word word_is.CloseRound ∷ [])))))) refl
          (token (plain word_is.OpenRound place) (_ ∷ []) _ _ refl refl (both (bounds_taken first last b.3 b.4) (begins_fewer postfix_ends begins) t));
    }
heads (select e name name_place place) pull b r h =
    record {
      headed = λ n vs y ends begins t.
          behind_head vs e (heads e pull b.0 b.2 h) (plain word_is.Dot place) (at (identifier name name_place) ∷ []) refl
          (token (plain word_is.Dot place) [] _ _ refl refl (token (identifier name name_place) [] _ _ refl refl (left_out refl no_class begins t)));
    }
heads (select_of_class e class class_place name name_place place) pull b r h =
    record {
      headed = λ n vs y ends begins t.
          behind_head vs e (heads e pull b.0 b.2 h) (plain word_is.Dot place)
          (at (identifier class class_place) ∷ (word word_is.Backquote ∷ (at (identifier name name_place) ∷ []))) refl
          (token (plain word_is.Dot place) [] _ _ refl refl (token (identifier class class_place) [] _ _ refl refl
          (marked word_is.Backquote [] _ _ refl refl (token (identifier name name_place) [] _ _ refl refl t))));
    }
heads (select_part e part place) pull b r h =
    record {
      headed = λ n vs y ends begins t.
          behind_head vs e (heads e pull b.0 b.2 h) (plain word_is.DotNumber place) (number part ∷ []) refl
          (token (plain word_is.DotNumber place) [] _ _ refl refl (numbered part t));
    }
heads (prefixed sign operand place) pull b r h = absurd (no_operator sign (reach operand) r)
heads (joined left sign right place) pull b r h = absurd (no_operator sign (reach right) r)
heads (sequence_enumeration es place) pull b r h = absurd h
heads (sequence_comprehension e p set such place) pull b r h = absurd h
heads (cases_of e cs others place) pull b r h = absurd h
heads (let_in ds e place) pull b r h = absurd (no_far r)
heads (let_be bind such e place) pull b r h = absurd (no_far r)
heads (def_in p v e place) pull b r h = absurd (no_far r)
heads (if_else c v bs e place) pull b r h = absurd (no_far r)
heads (for_all bs e place) pull b r h = absurd (no_far r)
heads (exists_some bs e place) pull b r h = absurd (no_far r)
heads (exists_one bind e place) pull b r h = absurd (no_far r)
heads (iota_of bind e place) pull b r h = absurd (no_far r)

no_postfix : (w : Word) → ends_stmt w ≡ true → turns Called w ≡ []
no_postfix word_is.OpenRound e = absurd (cc)
no_postfix word_is.Dot e = absurd (cc)
no_postfix word_is.DotNumber e = absurd (cc)
no_postfix _ e = refl

stmt_bracket : (w : Word) → ends_stmt w ≡ true → ends_bracket w ≡ true
stmt_bracket word_is.CloseRound e = refl
stmt_bracket word_is.CloseCurly e = refl
stmt_bracket word_is.Comma e = refl
stmt_bracket word_is.Semicolon e = refl
stmt_bracket word_is.In e = refl
stmt_bracket word_is.Else e = refl
stmt_bracket word_is.Elseif e = refl
stmt_bracket word_is.End e = refl
stmt_bracket word_is.Pre e = refl
stmt_bracket word_is.Post e = refl
stmt_bracket word_is.Types e = refl
stmt_bracket word_is.Values e = refl
stmt_bracket word_is.Instance e = refl
stmt_bracket word_is.Functions e = refl
stmt_bracket word_is.Operations e = refl
stmt_bracket word_is.Thread e = refl
stmt_bracket word_is.Sync e = refl
stmt_bracket word_is.TextEnd e = refl
stmt_bracket _ e = absurd (cc)

pub call_taken : (e : ExprTree) (place : Place) → IsCall e place → Taken (call e place)
call_taken (apply e es spot) place c =
    let b : Binds (apply e es spot) far_pull = c.binds in
    let h : IsHead (primary e) = c.head in
    let ends : Word → Bool = ends_after (call (apply e es spot) place) in
    record {
      taken = λ n.
          same_pieces (append-nil (whole (spelling (apply e es spot))))
          (behind_head [] e (heads e far_pull b.0 b.2 h) (plain word_is.OpenRound spot) (exprs_spelling es ++ (word word_is.CloseRound ∷ [])) refl
          (arguments_taken es spot b.3 (by_nothing (λ w q. stmt_bracket w (after_ends (call (apply e es spot) place) w q)))
          (left_last refl (λ w q. no_postfix w (after_ends (call (apply e es spot) place) w q)))));
    }
call_taken _ place c = absurd c.applies
