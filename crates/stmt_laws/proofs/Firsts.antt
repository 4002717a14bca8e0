-- What an expression and a pattern begin with, and what may stand behind a statement.
use Rattle.std.proofs.Common.{◌≡◌, zero, suc, arith, append_assoc, Bool, true, false, ◌&&◌, if◌then◌else◌, List, [], ◌∷◌, ◌++◌, map, Some, None, refl, ap, sym, subst, ◌∙◌}
use Rattle.std.specs.List.{Contains}
use Rattle.std.specs.Option.{option_and_then}
use Rattle.abstract_syntax.specs.Expressions.{ExprTree, PatternTree}
use Rattle.abstract_syntax.specs.Statements.{StmtTree}
use Rattle.grammar_words.specs.declared.word.Word.{Word}
use Rattle.grammar_words.specs.declared.word.Word.TheVariants as word_is
use Rattle.grammar_words.specs.Pulls.{far_pull}
use Rattle.grammar_words.specs.Tokens.{Token, word_of}
use Rattle.grammar_words.specs.Written.{Written, at, word}
use Rattle.grammar_trees.specs.Spelling.{spelling, pattern_spelling}
use Rattle.grammar_trees.specs.Binding.{Binds, IsPattern}
use Rattle.grammar_fronts.specs.declared.kind.Kind.{Kind}
use Rattle.grammar_fronts.specs.declared.kind.Kind.TheVariants as kind
use Rattle.grammar_fronts.specs.declared.wanted.Wanted.{Wanted}
use Rattle.grammar_fronts.specs.declared.wanted.Wanted.TheVariants as want
use Rattle.grammar_fronts.specs.Fronts.{is_whole}
use Rattle.grammar_fronts.specs.Operands.{expression}
use Rattle.grammar_fronts.specs.Viable.{after, taken, start, refuses, either, left_by}
use Rattle.front_laws.specs.Whole.{IsWholeFront}
use Rattle.front_laws.proofs.Whole.{pattern-whole, expr-whole}
use Rattle.stmt_trees.specs.Pieces.{Piece, must, mark, may, whole, Begin, Spelled}
use Rattle.stmt_reading.specs.Leaves.{Read, onto, is_word}
use Rattle.stmt_laws.specs.Ends.{ends_expr, first_word, ends_stmt, not_else, behind_stmt, ends_after}
use Rattle.stmt_laws.proofs.WordNumbers.{word-found}
use Rattle.stmt_laws.proofs.Readers.{Reads, Begins, is_other, Spelled-split}
use Rattle.stmt_laws.proofs.Leaves.{fronted}

-- ---- words that are apart

apart_by : (w found : Word) (test : Word → Bool) (b : Bool) → is_word w found ≡ b → test w ≡ false → test found ≡ true → is_other w found ≡ true
apart_by w found test true q fails passes = let e = ap test (word-found w found q) in absurd (cc)
apart_by w found test false q fails passes = ap (λ (b : Bool). if b then false else true) q

-- a word that fails a test is none that passes it
pub apart : (w : Word) (test : Word → Bool) → test w ≡ false → (found : Word) → test found ≡ true → is_other w found ≡ true
apart w test fails found passes = apart_by w found test (is_word w found) refl fails passes

-- ---- what stands behind a statement

pub stmt_ends : (w : Word) → ends_stmt w ≡ true → ends_expr w ≡ true
stmt_ends word_is.CloseRound e = refl
stmt_ends word_is.CloseCurly e = refl
stmt_ends word_is.Comma e = refl
stmt_ends word_is.Semicolon e = refl
stmt_ends word_is.In e = refl
stmt_ends word_is.Else e = refl
stmt_ends word_is.Elseif e = refl
stmt_ends word_is.End e = refl
stmt_ends word_is.Pre e = refl
stmt_ends word_is.Post e = refl
stmt_ends word_is.Types e = refl
stmt_ends word_is.Values e = refl
stmt_ends word_is.Instance e = refl
stmt_ends word_is.Functions e = refl
stmt_ends word_is.Operations e = refl
stmt_ends word_is.Thread e = refl
stmt_ends word_is.Sync e = refl
stmt_ends word_is.TextEnd e = refl
stmt_ends _ e = absurd (cc)

-- none of them begins an expression
pub no_expr : (w : Word) → ends_stmt w ≡ true → expression w ≡ None
no_expr word_is.CloseRound e = refl
no_expr word_is.CloseCurly e = refl
no_expr word_is.Comma e = refl
no_expr word_is.Semicolon e = refl
no_expr word_is.In e = refl
no_expr word_is.Else e = refl
no_expr word_is.Elseif e = refl
no_expr word_is.End e = refl
no_expr word_is.Pre e = refl
no_expr word_is.Post e = refl
no_expr word_is.Types e = refl
no_expr word_is.Values e = refl
no_expr word_is.Instance e = refl
no_expr word_is.Functions e = refl
no_expr word_is.Operations e = refl
no_expr word_is.Thread e = refl
no_expr word_is.Sync e = refl
no_expr word_is.TextEnd e = refl
no_expr _ e = absurd (cc)

left_is : (a b : Bool) → (a && b) ≡ true → a ≡ true
left_is true b e = refl
left_is false b e = absurd (cc)

pub after_ends : (s : StmtTree) (w : Word) → ends_after s w ≡ true → ends_stmt w ≡ true
after_ends s w e = left_is (ends_stmt w) _ e

pub no_operand : (s : StmtTree) (w : Word) → ends_after s w ≡ true → ends_expr w ≡ true
no_operand s w e = stmt_ends w (after_ends s w e)

-- a word that stands behind every statement
pub behind_any : (takes : Bool) (w : Word) → ends_stmt w ≡ true → not_else w ≡ true → behind_stmt takes w ≡ true
behind_any true w e n = ap (λ (b : Bool). b && not_else w) e ∙ n
behind_any false w e n = ap (λ (b : Bool). b && true) e

-- ---- the first word of what is whole

none_after : (w : Word) → expression w ≡ None → after w (start kind.Expr) ≡ None
none_after w e = ap (λ t. left_by (either t [] (refuses (want.Expression ∷ [])))) e

pub no_words : (wanted : List Wanted) → None ≡ Some wanted → ⊥
no_words wanted e = absurd (cc)

pub front_begun : (k : Kind) (front : List Token) (rest : List Token) (w : Word) → IsWholeFront k (map word_of front)
    → after w (start k) ≡ None → first_word (front ++ rest) ≡ w → (IsWholeFront k [] → ⊥) → ⊥
front_begun k [] rest w h none e starts = starts h
front_begun k (t ∷ ts) rest w h none e starts =
    let f = ap (λ v. option_and_then (taken (map word_of ts)) (after v (start k))) e in
    let g = ap (λ o. option_and_then (taken (map word_of ts)) o) none in
    no_words h.wanted (sym g ∙ sym f ∙ h.viable)

pub started : (first : List Wanted) → is_whole first ≡ false → (wanted : List Wanted) → Some first ≡ Some wanted → is_whole wanted ≡ true → ⊥
started first fails wanted e passes = let q : first ≡ wanted = cc in let r = ap is_whole q in absurd (cc)

no_empty_expr : IsWholeFront kind.Expr [] → ⊥
no_empty_expr h = started (want.Expression ∷ []) refl h.wanted h.viable h.whole

pub no_empty_pattern : IsWholeFront kind.Pattern [] → ⊥
no_empty_pattern h = started (want.Pattern ∷ []) refl h.wanted h.viable h.whole

-- the first word begins an expression
pub expr_first : (e : ExprTree) → Binds e far_pull → (tokens rest : List Token) → Spelled tokens (whole (spelling e)) rest
    → expression (first_word tokens) ≡ None → ⊥
expr_first e b tokens rest h none =
    let f = fronted (spelling e) tokens rest h in
    front_begun kind.Expr f.front rest (first_word tokens) (expr-whole f.front e (record { spelled = f.written; binds = b }))
    (none_after (first_word tokens) none) (ap first_word (sym f.is)) no_empty_expr

-- the first word is none that no pattern begins with
pub pattern_first : (p : PatternTree) → IsPattern p → (tokens rest : List Token) → Spelled tokens (whole (pattern_spelling p)) rest
    → (w : Word) → after w (start kind.Pattern) ≡ None → first_word tokens ≡ w → ⊥
pattern_first p g tokens rest h w none e =
    let f = fronted (pattern_spelling p) tokens rest h in
    front_begun kind.Pattern f.front rest w (pattern-whole f.front p (record { spelled = f.written; grammatical = g })) none
    (ap first_word (sym f.is) ∙ e) no_empty_pattern

pub tested : (test : Word → Bool) (w : Word) (b : Bool) → test w ≡ b → (test w ≡ false → ⊥) → test w ≡ true
tested test w true q none = q
tested test w false q none = absurd (none q)

pub word_tested : (w found : Word) (b : Bool) → is_word w found ≡ b → (found ≡ w → ⊥) → is_other w found ≡ true
word_tested w found true q none = absurd (none (word-found w found q))
word_tested w found false q none = ap (λ (b : Bool). if b then false else true) q

-- a pattern does not begin with a word that no pattern begins with
pub by_pattern : {ends : Word → Bool} (vs : List Piece) (w : Word) (p : PatternTree) → IsPattern p → after w (start kind.Pattern) ≡ None
    → Begins (whole (pattern_spelling p) ++ vs) ends (is_other w)
by_pattern vs w p g none =
    record {
      opens = λ tokens rest h s.
          let k = Spelled-split tokens (whole (pattern_spelling p)) vs rest h in
          word_tested w (first_word tokens) (is_word w (first_word tokens)) refl (λ q. pattern_first p g tokens k.0 k.1 w none q);
    }

-- what may come or not, before a word
pub data MayCome (w : Word) (tokens : List Token) (pieces : List Piece) (rest : List Token) : Type 0 where
  away : Spelled tokens pieces rest → MayCome w tokens pieces rest
  there : Spelled tokens (mark w ∷ pieces) rest → MayCome w tokens pieces rest

form_found : (w : Word) (form : List Written) → Contains ([] ∷ (word w ∷ []) ∷ []) form → (tokens middle rest : List Token) (pieces : List Piece)
    → Begin tokens form middle → Spelled middle pieces rest → MayCome w tokens pieces rest
form_found w form (zero, less, is) tokens middle rest pieces h s =
    let b : Begin tokens [] middle = subst (λ f. Begin tokens f middle) (sym is) h in
    away (subst (λ ts. Spelled ts pieces rest) (sym b) s)
form_found w form (suc zero, less, is) tokens middle rest pieces h s =
    let b : Begin tokens (word w ∷ []) middle = subst (λ f. Begin tokens f middle) (sym is) h in
    there (b.0, b.1, subst (λ ts. Spelled ts pieces rest) (sym b.2) s)
form_found w form (suc (suc n), less, is) tokens middle rest pieces h s = absurd (omega arith)

pub may_come_or_not : (w : Word) (tokens rest : List Token) (pieces : List Piece) → Spelled tokens (may w ∷ pieces) rest → MayCome w tokens pieces rest
may_come_or_not w tokens rest pieces h = form_found w h.0 h.2 tokens h.1 rest pieces h.3 h.4

-- ---- more ways to read

-- one thing, and nothing behind it
pub alone_reads : {A B : Type 0} {p : List Token → Read A} {a : A} {ws : List Piece} {middle : Word → Bool} {b : B} {ends : Word → Bool}
    (q : A → List Token → Read B) → Reads p ws a middle → ((w : Word) → ends w ≡ true → middle w ≡ true) → Reads (q a) [] b ends
    → Reads (λ (ts : List Token). onto (p ts) q) ws b ends
alone_reads q first fewer second =
    record {
      reads = λ tokens rest h e.
          ap (λ o. onto o q) (first.reads tokens rest h (fewer (first_word rest) e)) ∙ second.reads rest rest refl e;
    }

pub same_pieces : {A : Type 0} {p : List Token → Read A} {ws vs : List Piece} {a : A} {ends : Word → Bool} → ws ≡ vs → Reads p ws a ends
    → Reads p vs a ends
same_pieces {p = p} {a = a} {ends = ends} e r = subst (λ ps. Reads p ps a ends) e r

pub regrouped : {A : Type 0} {p : List Token → Read A} {a : A} {ends : Word → Bool} (x y z : List Piece) → Reads p (x ++ (y ++ z)) a ends
    → Reads p ((x ++ y) ++ z) a ends
regrouped x y z r = same_pieces (sym (append_assoc x y z)) r

-- a token that tells what is read behind it
pub keyed_reads : {A : Type 0} {p q : List Token → Read A} {ws : List Piece} {a : A} {ends : Word → Bool} (t : Token)
    → ((ts : List Token) → p (t ∷ ts) ≡ q ts) → Reads q ws a ends → Reads p (must (at t) ∷ ws) a ends
keyed_reads {p = p} t same r =
    record { reads = λ tokens rest h e. ap p h.1 ∙ same h.0 ∙ r.reads h.0 rest h.2 e }
