-- Tokens of an assignment or a call are read as such: they begin with no word of another statement, and a `(` with a postfix behind
-- its `)` begins no block.
use Rattle.std.proofs.Common.{◌≡◌, ℕ, suc, ◌<◌, ◌≤◌, min, Bool, true, false, ◌||◌, if◌then◌else◌, List, [], ◌∷◌, ◌++◌, Option, Some, None, refl, ap, sym, subst, ◌∙◌, arith}
use Rattle.vdm_kinds.specs.declared.name.Name.{Name}
use Rattle.vdm_kinds.specs.declared.place.Place.{Place}
use Rattle.vdm_kinds.specs.declared.sign.Sign.{Sign}
use Rattle.vdm_kinds.specs.declared.sign.Sign.TheVariants as sign_is
use Rattle.abstract_syntax.specs.Literals.{LiteralTree, whole_literal, character_literal, text_literal, quote_literal, boolean_literal, nil_literal}
use Rattle.abstract_syntax.specs.Expressions.{ExprTree, literal, named, qualified, old_value, self_object, current_time, undefined, result_value, bracketed, prefixed, joined, set_enumeration, set_range, set_comprehension, empty_map, map_enumeration, map_comprehension, sequence_enumeration, sequence_comprehension, make_tuple, make_token, make_record, modify_record, is_of_type, is_of_named, is_of_basic, is_of_class, is_of_base_class, same_class, same_base_class, create, history, apply, subsequence, select, select_of_class, select_part, let_in, let_be, def_in, if_else, cases_of, for_all, exists_some, exists_one, iota_of, one_expr, no_exprs}
use Rattle.abstract_syntax.specs.Statements.{StmtTree, TargetStepTree, TargetTree, field_of, element_at, variable, variable_of_class}
use Rattle.grammar_words.specs.declared.word.Word.{Word}
use Rattle.grammar_words.specs.declared.word.Word.TheVariants as word_is
use Rattle.grammar_words.specs.Pulls.{prefix_word, right_pull, postfix_pull, far_pull}
use Rattle.grammar_words.specs.Tokens.{Token, identifier, quote, whole as whole_token, character, text, make_named, is_named, plain, word_of}
use Rattle.grammar_words.specs.Written.{Written, at, word, number, at_word}
use Rattle.type_reading.specs.TypeSpelling.{literal_token, class_and_name}
use Rattle.grammar_trees.specs.Spelling.{spelling, exprs_spelling}
use Rattle.grammar_trees.specs.Binding.{Binds, reach}
use Rattle.stmt_trees.specs.Pieces.{Piece, whole, mark, Spelled}
use Rattle.stmt_trees.specs.Targets.{stepped, target_read}
use Rattle.stmt_trees.specs.StmtGrammar.{primary, IsCall}
use Rattle.stmt_reading.specs.Leaves.{Read, word_in}
use Rattle.stmt_reading.specs.Statements.{behind_bracket, begins_call, simple_in, block_in, stmt_begun, stmt_in}
use Rattle.stmt_laws.specs.Ends.{first_word}
use Rattle.stmt_laws.proofs.Readers.{Spelled-split}
use Rattle.stmt_laws.proofs.Spellings.{whole-append}
use Rattle.stmt_laws.proofs.Even.{expr-even}
use Rattle.stmt_laws.proofs.Levels.{Closed, written}
use Rattle.stmt_laws.proofs.SoundParts.{IsHead}
use Rattle.stmt_laws.proofs.SoundForms.{is_there}

-- tokens that are read as an assignment or a call, in whatever room
pub record Simple (tokens : List Token) : Type 0 where
  pub simple : (room : ℕ) → stmt_in (suc room) tokens ≡ simple_in tokens

-- the words of postfixes
abbrev pub is_postfix : Word → Bool
is_postfix word_is.OpenRound = true
is_postfix word_is.Dot = true
is_postfix word_is.DotNumber = true
is_postfix _ = false

-- words that begin no other statement
abbrev begins_simple : Word → Bool
begins_simple word_is.OpenRound = false
begins_simple word_is.Atomic = false
begins_simple word_is.Return = false
begins_simple word_is.Exit = false
begins_simple word_is.Let = false
begins_simple word_is.Def = false
begins_simple word_is.If = false
begins_simple word_is.Cases = false
begins_simple word_is.While = false
begins_simple word_is.For = false
begins_simple word_is.Trap = false
begins_simple word_is.Tixe = false
begins_simple word_is.Always = false
begins_simple word_is.DoubleBar = false
begins_simple word_is.Start = false
begins_simple word_is.StartList = false
begins_simple word_is.Skip = false
begins_simple word_is.Error = false
begins_simple _ = true

begun_simply : (one : List Token → Read StmtTree) (t : Token) (tokens : List Token) → begins_simple (word_of t) ≡ true
    → stmt_begun one t tokens ≡ simple_in (t ∷ tokens)
begun_simply one (plain word_is.OpenRound place) tokens e = absurd (cc)
begun_simply one (plain word_is.Atomic place) tokens e = absurd (cc)
begun_simply one (plain word_is.Return place) tokens e = absurd (cc)
begun_simply one (plain word_is.Exit place) tokens e = absurd (cc)
begun_simply one (plain word_is.Let place) tokens e = absurd (cc)
begun_simply one (plain word_is.Def place) tokens e = absurd (cc)
begun_simply one (plain word_is.If place) tokens e = absurd (cc)
begun_simply one (plain word_is.Cases place) tokens e = absurd (cc)
begun_simply one (plain word_is.While place) tokens e = absurd (cc)
begun_simply one (plain word_is.For place) tokens e = absurd (cc)
begun_simply one (plain word_is.Trap place) tokens e = absurd (cc)
begun_simply one (plain word_is.Tixe place) tokens e = absurd (cc)
begun_simply one (plain word_is.Always place) tokens e = absurd (cc)
begun_simply one (plain word_is.DoubleBar place) tokens e = absurd (cc)
begun_simply one (plain word_is.Start place) tokens e = absurd (cc)
begun_simply one (plain word_is.StartList place) tokens e = absurd (cc)
begun_simply one (plain word_is.Skip place) tokens e = absurd (cc)
begun_simply one (plain word_is.Error place) tokens e = absurd (cc)
begun_simply one t tokens e = refl

by_token : (t : Token) → begins_simple (word_of t) ≡ true → (tokens behind : List Token) → tokens ≡ t ∷ behind → Simple tokens
by_token t e tokens behind h =
    record { simple = λ room. ap (stmt_in (suc room)) h ∙ begun_simply (stmt_in room) t behind e ∙ ap simple_in (sym h) }

-- ---- a bracket with a postfix behind it

postfix_there : (tokens : List Token) → is_postfix (first_word tokens) ≡ true
    → (is_there (word_in word_is.OpenRound tokens) || is_there (word_in word_is.Dot tokens) || is_there (word_in word_is.DotNumber tokens)) ≡ true
postfix_there [] e = absurd (cc)
postfix_there (plain word_is.OpenRound place ∷ tokens) e = refl
postfix_there (plain word_is.Dot place ∷ tokens) e = refl
postfix_there (plain word_is.DotNumber place ∷ tokens) e = refl
postfix_there (plain _ place ∷ tokens) e = absurd (cc)
postfix_there (identifier n p ∷ tokens) e = absurd (cc)
postfix_there (quote n p ∷ tokens) e = absurd (cc)
postfix_there (whole_token n p ∷ tokens) e = absurd (cc)
postfix_there (character n p ∷ tokens) e = absurd (cc)
postfix_there (text n p ∷ tokens) e = absurd (cc)
postfix_there (make_named n p ∷ tokens) e = absurd (cc)
postfix_there (is_named n p ∷ tokens) e = absurd (cc)

call_begins : (tokens rest : List Token) → behind_bracket 0 tokens ≡ rest → is_postfix (first_word rest) ≡ true → begins_call tokens ≡ true
call_begins tokens rest q e =
    ap (λ ts. is_there (word_in word_is.OpenRound ts) || is_there (word_in word_is.Dot ts) || is_there (word_in word_is.DotNumber ts)) q
    ∙ postfix_there rest e

-- ---- what closes a bracket

-- tokens that are written so stop at the bracket that closes what is open before them
pub record Stops (pieces : List Piece) : Type 0 where
  pub stops : (tokens rest : List Token) → Spelled tokens pieces rest → behind_bracket 0 tokens ≡ rest

pub stops_here : Stops (mark word_is.CloseRound ∷ [])
stops_here = record { stops = λ tokens rest h. ap (behind_bracket 0) h.1.1 ∙ h.2 }

pub stops_behind : {a b : List Piece} → Closed false a → Stops b → Stops (a ++ b)
stops_behind {a = a} {b = b} f g =
    record {
      stops = λ tokens rest h.
          let s = Spelled-split tokens a b rest h in
          f.closed tokens s.0 0 s.1 ∙ g.stops s.0 rest s.2;
    }

bracket_simple : (inner : ExprTree) (place : Place) (tokens middle : List Token) → Spelled tokens (whole (spelling (bracketed inner place))) middle
    → is_postfix (first_word middle) ≡ true → Simple tokens
bracket_simple inner place tokens middle h e =
    let f = stops_behind (written (expr-even inner)) stops_here in
    let k = subst (λ ps. Spelled h.0 ps middle) (whole-append (spelling inner) (word word_is.CloseRound ∷ [])) h.2 in
    let calls = call_begins h.0 middle (f.stops h.0 middle k) e in
    record {
      simple = λ room.
          ap (stmt_in (suc room)) h.1
          ∙ ap (λ (b : Bool). if b then simple_in (plain word_is.OpenRound place ∷ h.0) else block_in (stmt_in room) place h.0) calls
          ∙ ap simple_in (sym h.1);
    }

-- ---- what stands before a postfix

record Headed (e : ExprTree) : Type 0 where
  pub headed : (tokens middle : List Token) → Spelled tokens (whole (spelling e)) middle → is_postfix (first_word middle) ≡ true → Simple tokens

first_is : (t : Token) (ws : List Written) (tokens rest : List Token) → Spelled tokens (whole (at t ∷ ws)) rest → first_word tokens ≡ word_of t
first_is t ws tokens rest h = ap first_word h.1

behind_head : (e : ExprTree) → Headed e → (t : Token) (ws : List Written) → is_postfix (word_of t) ≡ true → (tokens rest : List Token)
    → Spelled tokens (whole (spelling e ++ (at t ∷ ws))) rest → Simple tokens
behind_head e f t ws p tokens rest h =
    let s = Spelled-split tokens (whole (spelling e)) (whole (at t ∷ ws)) rest
    (subst (λ ps. Spelled tokens ps rest) (whole-append (spelling e) (at t ∷ ws)) h) in
    f.headed tokens s.0 s.1 (ap is_postfix (first_is t ws s.0 rest s.2) ∙ p)

literal-simple : (value : LiteralTree) (place : Place) → begins_simple (word_of (literal_token value place)) ≡ true
literal-simple (whole_literal n) place = refl
literal-simple (character_literal c) place = refl
literal-simple (text_literal t) place = refl
literal-simple (quote_literal n) place = refl
literal-simple (boolean_literal true) place = refl
literal-simple (boolean_literal false) place = refl
literal-simple nil_literal place = refl

prefix-simple : (sign : Sign) → begins_simple (prefix_word sign) ≡ true
prefix-simple sign_is.Positive = refl
prefix-simple sign_is.Negative = refl
prefix-simple _ = refl

name_first : (token : Name → Place → Token) → ((n : Name) (p : Place) → begins_simple (word_of (token n p)) ≡ true) → (class : Option Name)
    (n : Name) (np p : Place) (more : List Written) (tokens middle : List Token)
    → Spelled tokens (whole (class_and_name token class n np p ++ more)) middle → Simple tokens
name_first token e None n np p more tokens middle h = by_token (token n p) (e n p) tokens h.0 h.1
name_first token e (Some class) n np p more tokens middle h =
    by_token (token class p) (e class p) tokens h.0 h.1

-- no operator pulls more than postfixes
operators-below : (sign : Sign) → right_pull sign ≤ 30
operators-below sign_is.Equivalent = omega arith
operators-below sign_is.Implies = omega arith
operators-below sign_is.Or = omega arith
operators-below sign_is.And = omega arith
operators-below sign_is.Not = omega arith
operators-below sign_is.Equal = omega arith
operators-below sign_is.NotEqual = omega arith
operators-below sign_is.Less = omega arith
operators-below sign_is.LessEqual = omega arith
operators-below sign_is.Greater = omega arith
operators-below sign_is.GreaterEqual = omega arith
operators-below sign_is.Subset = omega arith
operators-below sign_is.ProperSubset = omega arith
operators-below sign_is.InSet = omega arith
operators-below sign_is.NotInSet = omega arith
operators-below sign_is.Plus = omega arith
operators-below sign_is.Minus = omega arith
operators-below sign_is.Union = omega arith
operators-below sign_is.Difference = omega arith
operators-below sign_is.MapUnion = omega arith
operators-below sign_is.Override = omega arith
operators-below sign_is.Concatenation = omega arith
operators-below sign_is.Times = omega arith
operators-below sign_is.Div = omega arith
operators-below sign_is.Rem = omega arith
operators-below sign_is.Mod = omega arith
operators-below sign_is.Inter = omega arith
operators-below sign_is.Inverse = omega arith
operators-below sign_is.DomainRestriction = omega arith
operators-below sign_is.DomainRemoval = omega arith
operators-below sign_is.RangeRestriction = omega arith
operators-below sign_is.RangeRemoval = omega arith
operators-below sign_is.Positive = omega arith
operators-below sign_is.Negative = omega arith
operators-below sign_is.Absolute = omega arith
operators-below sign_is.Card = omega arith
operators-below sign_is.PowerSet = omega arith
operators-below sign_is.DistributedUnion = omega arith
operators-below sign_is.DistributedInter = omega arith
operators-below sign_is.Length = omega arith
operators-below sign_is.Head = omega arith
operators-below sign_is.Tail = omega arith
operators-below sign_is.Indices = omega arith
operators-below sign_is.Elements = omega arith
operators-below sign_is.DistributedConcatenation = omega arith
operators-below sign_is.Domain = omega arith
operators-below sign_is.Range = omega arith
operators-below sign_is.Merge = omega arith
operators-below sign_is.Composition = omega arith
operators-below sign_is.Exponent = omega arith

no_operator : (sign : Sign) (more : ℕ) → postfix_pull < min (right_pull sign) more → ⊥
no_operator sign more h =
    let k : right_pull sign ≤ 30 = operators-below sign in
    let l : 30 < min (right_pull sign) more = h in omega arith

no_far : postfix_pull < far_pull → ⊥
no_far h = let l : 30 < 1 = h in omega arith

head_simple : (e : ExprTree) (pull : ℕ) → Binds e pull → postfix_pull < reach e → IsHead (primary e) → Headed e
head_simple (literal value place) pull b r h = record { headed = λ tokens middle s p. by_token (literal_token value place) (literal-simple value place) tokens s.0 s.1 }
head_simple (named name place) pull b r h = record { headed = λ tokens middle s p. by_token (identifier name place) refl tokens s.0 s.1 }
head_simple (qualified class name name_place place) pull b r h = record { headed = λ tokens middle s p. by_token (identifier class place) refl tokens s.0 s.1 }
head_simple (old_value name place) pull b r h = record { headed = λ tokens middle s p. by_token (identifier name place) refl tokens s.0 s.1 }
head_simple (self_object place) pull b r h = record { headed = λ tokens middle s p. by_token (plain word_is.SelfWord place) refl tokens s.0 s.1 }
head_simple (current_time place) pull b r h = record { headed = λ tokens middle s p. by_token (plain word_is.Time place) refl tokens s.0 s.1 }
head_simple (undefined place) pull b r h = record { headed = λ tokens middle s p. by_token (plain word_is.Undefined place) refl tokens s.0 s.1 }
head_simple (result_value place) pull b r h = record { headed = λ tokens middle s p. by_token (plain word_is.Result place) refl tokens s.0 s.1 }
head_simple (bracketed inner place) pull b r h = record { headed = bracket_simple inner place }
head_simple (prefixed sign operand place) pull b r h = record { headed = λ tokens middle s p. by_token (plain (prefix_word sign) place) (prefix-simple sign) tokens s.0 s.1 }
head_simple (joined left sign right place) pull b r h = absurd (no_operator sign (reach right) r)
head_simple (set_enumeration es place) pull b r h = record { headed = λ tokens middle s p. by_token (plain word_is.OpenCurly place) refl tokens s.0 s.1 }
head_simple (set_range first last place) pull b r h = record { headed = λ tokens middle s p. by_token (plain word_is.OpenCurly place) refl tokens s.0 s.1 }
head_simple (set_comprehension e bs such place) pull b r h = record { headed = λ tokens middle s p. by_token (plain word_is.OpenCurly place) refl tokens s.0 s.1 }
head_simple (empty_map place) pull b r h = record { headed = λ tokens middle s p. by_token (plain word_is.OpenCurly place) refl tokens s.0 s.1 }
head_simple (map_enumeration ms place) pull b r h = record { headed = λ tokens middle s p. by_token (plain word_is.OpenCurly place) refl tokens s.0 s.1 }
head_simple (map_comprehension key value bs such place) pull b r h = record { headed = λ tokens middle s p. by_token (plain word_is.OpenCurly place) refl tokens s.0 s.1 }
head_simple (sequence_enumeration es place) pull b r h = record { headed = λ tokens middle s p. by_token (plain word_is.OpenSquare place) refl tokens s.0 s.1 }
head_simple (sequence_comprehension e p set such place) pull b r h = record { headed = λ tokens middle s p. by_token (plain word_is.OpenSquare place) refl tokens s.0 s.1 }
head_simple (make_tuple es place) pull b r h = record { headed = λ tokens middle s p. by_token (plain word_is.MakeTuple place) refl tokens s.0 s.1 }
head_simple (make_token e place) pull b r h = record { headed = λ tokens middle s p. by_token (plain word_is.MakeToken place) refl tokens s.0 s.1 }
head_simple (make_record t es place) pull b r h =
    record {
      headed = λ tokens middle s p. name_first make_named (λ n spot. refl) t.class t.name t.name_place place
          (word word_is.OpenRound ∷ (exprs_spelling es ++ (word word_is.CloseRound ∷ []))) tokens middle s;
    }
head_simple (modify_record e fs place) pull b r h = record { headed = λ tokens middle s p. by_token (plain word_is.Modify place) refl tokens s.0 s.1 }
head_simple (is_of_type e t place) pull b r h = record { headed = λ tokens middle s p. by_token (plain word_is.IsType place) refl tokens s.0 s.1 }
head_simple (is_of_named t e place) pull b r h =
    record {
      headed = λ tokens middle s p. name_first is_named (λ n spot. refl) t.class t.name t.name_place place
          (word word_is.OpenRound ∷ (spelling e ++ (word word_is.CloseRound ∷ []))) tokens middle s;
    }
head_simple (is_of_basic basic e place) pull b r h = record { headed = λ tokens middle s p. by_token (plain (word_is.IsBasic basic) place) refl tokens s.0 s.1 }
head_simple (is_of_class class class_place e place) pull b r h = record { headed = λ tokens middle s p. by_token (plain word_is.IsOfClass place) refl tokens s.0 s.1 }
head_simple (is_of_base_class class class_place e place) pull b r h = record { headed = λ tokens middle s p. by_token (plain word_is.IsOfBaseClass place) refl tokens s.0 s.1 }
head_simple (same_class left right place) pull b r h = record { headed = λ tokens middle s p. by_token (plain word_is.SameClass place) refl tokens s.0 s.1 }
head_simple (same_base_class left right place) pull b r h = record { headed = λ tokens middle s p. by_token (plain word_is.SameBaseClass place) refl tokens s.0 s.1 }
head_simple (create class class_place es place) pull b r h = record { headed = λ tokens middle s p. by_token (plain word_is.New place) refl tokens s.0 s.1 }
head_simple (history counter names place) pull b r h = record { headed = λ tokens middle s p. by_token (plain (word_is.Counter counter) place) refl tokens s.0 s.1 }
head_simple (apply e es place) pull b r h =
    record {
      headed = λ tokens middle s p. behind_head e (head_simple e pull b.0 b.2 h) (plain word_is.OpenRound place)
          (exprs_spelling es ++ (word word_is.CloseRound ∷ [])) refl tokens middle s;
    }
head_simple (subsequence e first last place) pull b r h =
    record {
      headed = λ tokens middle s p. behind_head e (head_simple e pull b.0 b.2 h) (plain word_is.OpenRound place)
          (spelling first ++ (word word_is.Comma ∷ (word word_is.Dots ∷ (word word_is.Comma ∷ (spelling last ++ (word word_is.CloseRound ∷ [])))))) refl tokens middle s;
    }
head_simple (select e name name_place place) pull b r h =
    record {
      headed = λ tokens middle s p. behind_head e (head_simple e pull b.0 b.2 h) (plain word_is.Dot place)
          (at (identifier name name_place) ∷ []) refl tokens middle s;
    }
head_simple (select_of_class e class class_place name name_place place) pull b r h =
    record {
      headed = λ tokens middle s p. behind_head e (head_simple e pull b.0 b.2 h) (plain word_is.Dot place)
          (at (identifier class class_place) ∷ (word word_is.Backquote ∷ (at (identifier name name_place) ∷ []))) refl tokens middle s;
    }
head_simple (select_part e part place) pull b r h =
    record {
      headed = λ tokens middle s p. behind_head e (head_simple e pull b.0 b.2 h) (plain word_is.DotNumber place)
          (number part ∷ []) refl tokens middle s;
    }
head_simple (let_in ds e place) pull b r h = absurd (no_far r)
head_simple (let_be bind such e place) pull b r h = absurd (no_far r)
head_simple (def_in p v e place) pull b r h = absurd (no_far r)
head_simple (if_else c v bs e place) pull b r h = absurd (no_far r)
head_simple (for_all bs e place) pull b r h = absurd (no_far r)
head_simple (exists_some bs e place) pull b r h = absurd (no_far r)
head_simple (exists_one bind e place) pull b r h = absurd (no_far r)
head_simple (iota_of bind e place) pull b r h = absurd (no_far r)
head_simple (cases_of e cs others place) pull b r h = absurd h

-- tokens of a call
pub call_simple : (e : ExprTree) (place : Place) → IsCall e place → (tokens rest : List Token) → Spelled tokens (whole (spelling e)) rest → Simple tokens
call_simple (apply e es spot) place c tokens rest s =
    let b : Binds (apply e es spot) far_pull = c.binds in
    let h : IsHead (primary e) = c.head in
    behind_head e (head_simple e far_pull b.0 b.2 h) (plain word_is.OpenRound spot) (exprs_spelling es ++ (word word_is.CloseRound ∷ [])) refl
    tokens rest s
call_simple _ place c tokens rest s = absurd c.applies

-- ---- targets

pub record SimpleAll (e : ExprTree) : Type 0 where
  pub all : (tokens rest : List Token) → Spelled tokens (whole (spelling e)) rest → Simple tokens

behind_simple : (e : ExprTree) → SimpleAll e → (ws : List Written) (tokens rest : List Token)
    → Spelled tokens (whole (spelling e ++ ws)) rest → Simple tokens
behind_simple e f ws tokens rest h =
    let s = Spelled-split tokens (whole (spelling e)) (whole ws) rest
    (subst (λ ps. Spelled tokens ps rest) (whole-append (spelling e) ws) h) in
    f.all tokens s.0 s.1

stepped_simple : (steps : List TargetStepTree) (e : ExprTree) → SimpleAll e → SimpleAll (stepped e steps)
stepped_simple [] e f = f
stepped_simple (field_of name name_place place ∷ steps) e f =
    stepped_simple steps (select e name name_place place)
    (record { all = λ tokens rest h. behind_simple e f (at_word word_is.Dot place ∷ at (identifier name name_place) ∷ []) tokens rest h })
stepped_simple (element_at index place ∷ steps) e f =
    stepped_simple steps (apply e (one_expr index no_exprs) place) (record {
      all = λ tokens rest h.
          behind_simple e f (at_word word_is.OpenRound place ∷ (exprs_spelling (one_expr index no_exprs) ++ (word word_is.CloseRound ∷ [])))
          tokens rest h;
    })

pub target_simple : (t : TargetTree) → SimpleAll (target_read t)
target_simple (variable name steps place) =
    stepped_simple steps (named name place) (record { all = λ tokens rest h. by_token (identifier name place) refl tokens h.0 h.1 })
target_simple (variable_of_class class name name_place steps place) =
    stepped_simple steps (qualified class name name_place place)
    (record { all = λ tokens rest h. by_token (identifier class place) refl tokens h.0 h.1 })
