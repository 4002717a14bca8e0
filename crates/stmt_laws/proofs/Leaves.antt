-- Whole types, patterns and expressions are read up to the word that stands behind them.
use Rattle.std.proofs.Common.{◌≡◌, true, false, List, [], ◌∷◌, ◌++◌, length, map, Option, Some, None, refl, ap, sym, ◌∙◌}
use Rattle.vdm_kinds.specs.declared.sign.Sign.TheVariants as sign_is
use Rattle.abstract_syntax.specs.Types.{TypeTree}
use Rattle.abstract_syntax.specs.Expressions.{ExprTree, PatternTree}
use Rattle.grammar_words.specs.declared.word.Word.{Word}
use Rattle.grammar_words.specs.declared.word.Word.TheVariants as word_is
use Rattle.grammar_words.specs.Pulls.{far_pull}
use Rattle.grammar_words.specs.Tokens.{Token, plain, whole as whole_token, word_of}
use Rattle.grammar_words.specs.Written.{Written, at, word, number, AreTokens}
use Rattle.type_reading.specs.TypeSpelling.{type_spelling, IsType, IsTypeOf, union}
use Rattle.type_reading.specs.Reading.{type_of}
use Rattle.type_reading.proofs.Read.{type-read}
use Rattle.grammar_trees.specs.Spelling.{spelling, pattern_spelling}
use Rattle.grammar_trees.specs.Binding.{Binds, IsPattern}
use Rattle.grammar_trees.specs.Trees.{IsTree, IsPatternOf}
use Rattle.grammar_trees.specs.Reading.{expr_of, pattern_of}
use Rattle.grammar_trees.proofs.Trees.{expr-is, pattern-is}
use Rattle.grammar_fronts.specs.declared.kind.Kind.{Kind}
use Rattle.grammar_fronts.specs.declared.kind.Kind.TheVariants as kind
use Rattle.grammar_fronts.specs.declared.wanted.Wanted.{Wanted}
use Rattle.grammar_fronts.specs.declared.wanted.Wanted.TheVariants as want
use Rattle.grammar_fronts.specs.Table.{is_optional}
use Rattle.grammar_fronts.specs.Viable.{after, taken, start, needed}
use Rattle.front_laws.specs.Whole.{IsWholeFront}
use Rattle.front_laws.proofs.Passing.{written_word, words_written, whole_of as whole_found, Reads as WordsRead, Follows, follow}
use Rattle.front_laws.proofs.Starts.{at_expression, at_pattern}
use Rattle.front_laws.proofs.Types.{type_reads as type_passes}
use Rattle.front_laws.proofs.Whole.{words-of, expr_reads as expr_passes, reads_pattern as pattern_passes, type-whole, pattern-whole, expr-whole}
use Rattle.stmt_trees.specs.Pieces.{whole, Spelled}
use Rattle.stmt_reading.specs.Leaves.{expr_in, pattern_in, type_in}
use Rattle.stmt_laws.proofs.Stops.{Ends, at_end, at_word, whole-stops, leaf_is}
use Rattle.stmt_laws.proofs.Keeping.{zero-is, not_taken, NoneTaken, whole_of}
use Rattle.stmt_laws.proofs.Guards.{taken-guarded, be-ends}
use Rattle.stmt_laws.specs.Ends.{ends_expr, ends_pattern, ends_type, first_word}
use Rattle.stmt_laws.proofs.Readers.{Reads}

-- ---- the tokens of a leaf

pub record Fronted (tokens : List Token) (ws : List Written) (rest : List Token) : Type 0 where
  pub front : List Token
  pub is : tokens ≡ front ++ rest
  pub written : AreTokens front ws

one_more : (tokens middle rest : List Token) (t : Token) (w : Written) (ws : List Written) → tokens ≡ t ∷ middle → (f : Fronted middle ws rest)
    → AreTokens (t ∷ f.front) (w ∷ ws) → Fronted tokens (w ∷ ws) rest
one_more tokens middle rest t w ws e f a = record { front = t ∷ f.front; is = e ∙ ap (λ ts. t ∷ ts) f.is; written = a }

pub fronted : (ws : List Written) (tokens rest : List Token) → Spelled tokens (whole ws) rest → Fronted tokens ws rest
fronted [] tokens rest h = record { front = []; is = h; written = tt }
fronted (at kept ∷ ws) tokens rest h =
    let f = fronted ws h.0 rest h.2 in one_more tokens h.0 rest kept (at kept) ws h.1 f (refl, f.written)
fronted (word w ∷ ws) tokens rest h =
    let f = fronted ws h.0 rest h.2 in
    one_more tokens h.0 rest (plain w h.1.0) (word w) ws h.1.1 f ((h.1.0, refl), f.written)
fronted (number n ∷ ws) tokens rest h =
    let f = fronted ws h.0 rest h.2 in
    one_more tokens h.0 rest (whole_token n h.1.0) (number n) ws h.1.1 f ((h.1.0, refl), f.written)

-- ---- what ends them

-- what is wanted behind a whole, and that it ends where this word stands, since that is wanted behind it
pub record Ended (front : List Word) (k : Kind) : Type 0 where
  pub behind : List Wanted
  pub reached : taken front (start k) ≡ Some behind
  pub whole : length (needed behind) ≡ 0

ended : (k : Kind) (front : List Word) → IsWholeFront k front → Ended front k
ended k front h = record { behind = h.wanted; reached = h.viable; whole = zero-is (length (needed h.wanted)) h.whole }

same_whole : (o : Option (List Wanted)) → whole_found o ≡ true → whole_of o ≡ true
same_whole (Some wanted) e = e
same_whole None e = absurd (cc)

words_append : (a b : List Written) → words_written (a ++ b) ≡ words_written a ++ words_written b
words_append [] b = refl
words_append (w ∷ a) b = ap (λ ws. written_word w ∷ ws) (words_append a b)

-- what passes with one thing more wanted, whose word comes first
passed : (k : Kind) (x : Wanted) → is_optional x ≡ false → (w : Word) (words : List Written) → NoneTaken x (words_written words)
    → (ws : List Written) (tokens : List Token) → AreTokens tokens ws → WordsRead (ws ++ word w ∷ words) (start k ++ x ∷ [])
    → (e : Ended (map word_of tokens) k) → after w e.behind ≡ None
passed k x needs w words none ws tokens a r e =
    not_taken x needs (map word_of tokens) w (words_written words) none (start k) e.behind e.reached
    (same_whole (taken (map word_of tokens ++ w ∷ words_written words) (start k ++ x ∷ []))
    (ap (λ front. whole_found (taken (front ++ w ∷ words_written words) (start k ++ x ∷ []))) (words-of tokens ws a)
    ∙ ap (λ all. whole_found (taken all (start k ++ x ∷ []))) (sym (words_append ws (word w ∷ words))) ∙ r.passes))

-- ---- expressions

expr_passed : (x : Wanted) → is_optional x ≡ false → (w : Word) → (e : ExprTree) → Binds e far_pull → (tokens : List Token)
    → AreTokens tokens (spelling e) → Follows (word w ∷ []) (want.BehindOperand ∷ x ∷ []) → (end : Ended (map word_of tokens) kind.Expr)
    → after w end.behind ≡ None
expr_passed x needs w e b tokens a f end =
    passed kind.Expr x needs w [] tt (spelling e) tokens a ((expr_passes e).reads far_pull b want.Expression [] at_expression (x ∷ []) (word w ∷ []) f) end

nothing : WordsRead [] []
nothing = record { passes = refl }

expr_ends : (e : ExprTree) → Binds e far_pull → (tokens : List Token) → AreTokens tokens (spelling e) → (end : Ended (map word_of tokens) kind.Expr)
    → (w : Word) → ends_expr w ≡ true → after w end.behind ≡ None
expr_ends e b tokens a end word_is.Comma h =
    expr_passed want.Comma refl word_is.Comma e b tokens a (follow (word word_is.Comma) refl refl refl nothing) end
expr_ends e b tokens a end word_is.Colon h =
    expr_passed want.Colon refl word_is.Colon e b tokens a (follow (word word_is.Colon) refl refl refl nothing) end
expr_ends e b tokens a end word_is.Be h =
    be-ends end.behind (taken-guarded (map word_of tokens) (start kind.Expr) end.behind refl end.reached) end.whole
expr_ends e b tokens a end w h = whole-stops end.behind w end.whole h

-- no word of the rest goes on
ends_at : (wanted : List Wanted) (rest : List Token) → ((w : Word) → w ≡ first_word rest → after w wanted ≡ None) → Ends wanted (map word_of rest)
ends_at wanted [] none = at_end
ends_at wanted (token ∷ tokens) none = at_word (word_of token) (map word_of tokens) (none (word_of token) refl)

pub expr_leaf : (front rest : List Token) (e : ExprTree) → IsTree front e → ends_expr (first_word rest) ≡ true
    → expr_in (front ++ rest) ≡ Some (e, rest)
expr_leaf front rest e h s =
    let end = ended kind.Expr (map word_of front) (expr-whole front e h) in
    leaf_is kind.Expr expr_of front rest e end.behind end.reached
    (ends_at end.behind rest (λ w q. expr_ends e h.binds front h.spelled end w (ap ends_expr q ∙ s))) ((expr-is front e).1 h)

pub expr_reads : (e : ExprTree) → Binds e far_pull → Reads expr_in (whole (spelling e)) e ends_expr
expr_reads e b =
    record {
      reads = λ tokens rest h s.
          let f = fronted (spelling e) tokens rest h in
          ap expr_in f.is ∙ expr_leaf f.front rest e (record { spelled = f.written; binds = b }) s;
    }

-- ---- patterns

pattern_passed : (x : Wanted) → is_optional x ≡ false → (w : Word) (words : List Written) → NoneTaken x (words_written words)
    → (p : PatternTree) → IsPattern p → (tokens : List Token) → AreTokens tokens (pattern_spelling p)
    → WordsRead (word w ∷ words) (want.BehindPattern ∷ x ∷ []) → (end : Ended (map word_of tokens) kind.Pattern) → after w end.behind ≡ None
pattern_passed x needs w words none p b tokens a f end =
    passed kind.Pattern x needs w words none (pattern_spelling p) tokens a
    ((pattern_passes p).reads b want.Pattern [] at_pattern (x ∷ []) (word w ∷ words) f) end

pattern_ends : (p : PatternTree) → IsPattern p → (tokens : List Token) → AreTokens tokens (pattern_spelling p)
    → (end : Ended (map word_of tokens) kind.Pattern) → (w : Word) → ends_pattern w ≡ true → after w end.behind ≡ None
pattern_ends p b tokens a end word_is.Comma h =
    pattern_passed want.Comma refl word_is.Comma [] tt p b tokens a (record { passes = refl }) end
pattern_ends p b tokens a end word_is.Colon h =
    pattern_passed want.Colon refl word_is.Colon [] tt p b tokens a (record { passes = refl }) end
pattern_ends p b tokens a end (word_is.Operator sign_is.Equal) h =
    pattern_passed want.Equals refl (word_is.Operator sign_is.Equal) [] tt p b tokens a (record { passes = refl }) end
pattern_ends p b tokens a end (word_is.Operator sign_is.InSet) h =
    pattern_passed want.BehindOnlyBound refl (word_is.Operator sign_is.InSet) (word word_is.True ∷ []) (refl, tt) p b tokens a
    (record { passes = refl }) end
pattern_ends p b tokens a end w h = whole-stops end.behind w end.whole h

pub pattern_leaf : (front rest : List Token) (p : PatternTree) → IsPatternOf front p → ends_pattern (first_word rest) ≡ true
    → pattern_in (front ++ rest) ≡ Some (p, rest)
pattern_leaf front rest p h s =
    let end = ended kind.Pattern (map word_of front) (pattern-whole front p h) in
    leaf_is kind.Pattern pattern_of front rest p end.behind end.reached
    (ends_at end.behind rest (λ w q. pattern_ends p h.grammatical front h.spelled end w (ap ends_pattern q ∙ s)))
    ((pattern-is front p).1 h)

pub pattern_reads : (p : PatternTree) → IsPattern p → Reads pattern_in (whole (pattern_spelling p)) p ends_pattern
pattern_reads p b =
    record {
      reads = λ tokens rest h s.
          let f = fronted (pattern_spelling p) tokens rest h in
          ap pattern_in f.is ∙ pattern_leaf f.front rest p (record { spelled = f.written; grammatical = b }) s;
    }

-- ---- types

type_passed : (x : Wanted) → is_optional x ≡ false → (w : Word) → (t : TypeTree) → IsType t union → (tokens : List Token)
    → AreTokens tokens (type_spelling t) → Follows (word w ∷ []) (want.BehindType ∷ x ∷ []) → (end : Ended (map word_of tokens) kind.TypeExpr)
    → after w end.behind ≡ None
type_passed x needs w t b tokens a f end =
    passed kind.TypeExpr x needs w [] tt (type_spelling t) tokens a ((type_passes t).whole union b (x ∷ []) (word w ∷ []) f) end

type_ends : (t : TypeTree) → IsType t union → (tokens : List Token) → AreTokens tokens (type_spelling t)
    → (end : Ended (map word_of tokens) kind.TypeExpr) → (w : Word) → ends_type w ≡ true → after w end.behind ≡ None
type_ends t b tokens a end word_is.Comma h =
    type_passed want.Comma refl word_is.Comma t b tokens a (follow (word word_is.Comma) refl refl refl nothing) end
type_ends t b tokens a end (word_is.Operator sign_is.Equal) h =
    type_passed want.Equals refl (word_is.Operator sign_is.Equal) t b tokens a
    (follow (word (word_is.Operator sign_is.Equal)) refl refl refl nothing) end
type_ends t b tokens a end w h = whole-stops end.behind w end.whole h

pub type_leaf : (front rest : List Token) (t : TypeTree) → IsTypeOf front t → ends_type (first_word rest) ≡ true
    → type_in (front ++ rest) ≡ Some (t, rest)
type_leaf front rest t h s =
    let end = ended kind.TypeExpr (map word_of front) (type-whole front t h) in
    leaf_is kind.TypeExpr type_of front rest t end.behind end.reached
    (ends_at end.behind rest (λ w q. type_ends t h.grammatical front h.spelled end w (ap ends_type q ∙ s))) (type-read front t h)

pub type_reads : (t : TypeTree) → IsType t union → Reads type_in (whole (type_spelling t)) t ends_type
type_reads t b =
    record {
      reads = λ tokens rest h s.
          let f = fronted (type_spelling t) tokens rest h in
          ap type_in f.is ∙ type_leaf f.front rest t (record { spelled = f.written; grammatical = b }) s;
    }
