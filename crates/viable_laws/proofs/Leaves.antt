-- Whole types, patterns and expressions are taken where they are wanted in statements and classes.
use Rattle.std.proofs.Common.{◌≡◌, Bool, true, false, if◌then◌else◌, List, [], ◌∷◌, ◌++◌, length, map, Option, Some, None, refl, ap, sym, subst, ◌∙◌, append_assoc}
use Rattle.std.specs.Option.{option_and_then}
use Rattle.std.proofs.lemmas.List.{map-append, append-nil}
use Rattle.vdm_kinds.specs.declared.name.Name.{Name}
use Rattle.vdm_kinds.specs.declared.sign.Sign.TheVariants as sign_is
use Rattle.abstract_syntax.specs.Types.{TypeTree}
use Rattle.abstract_syntax.specs.Expressions.{ExprTree, PatternTree}
use Rattle.grammar_words.specs.declared.word.Word.{Word}
use Rattle.grammar_words.specs.declared.word.Word.TheVariants as word_is
use Rattle.grammar_words.specs.Pulls.{far_pull}
use Rattle.grammar_words.specs.Tokens.{Token, word_of}
use Rattle.grammar_words.specs.Written.{Written, word, AreTokens}
use Rattle.type_reading.specs.TypeSpelling.{type_spelling, IsType, union}
use Rattle.grammar_trees.specs.Spelling.{spelling, pattern_spelling}
use Rattle.grammar_trees.specs.Binding.{Binds, IsPattern}
use Rattle.grammar_fronts.specs.declared.wanted.Wanted.{Wanted}
use Rattle.grammar_fronts.specs.declared.wanted.Wanted.TheVariants as want
use Rattle.grammar_fronts.specs.Table.{turn, is_optional}
use Rattle.grammar_fronts.specs.Turns.{Turn as InnerTurn, goes_on, begins, joins, adds, wanted_by as inner_wanted_by}
use Rattle.grammar_fronts.specs.Viable.{refuses, after, taken, meets, either, left_by, needed}
use Rattle.front_laws.proofs.Passing.{written_word, words_written, whole_of as whole_found, Reads as WordsRead, Follows, follow}
use Rattle.front_laws.proofs.Starts.{at_expression, at_pattern}
use Rattle.front_laws.proofs.Types.{type_reads as type_passes}
use Rattle.front_laws.proofs.Whole.{words-of, expr_reads as expr_passes, reads_pattern as pattern_passes}
use Rattle.stmt_trees.specs.Pieces.{whole}
use Rattle.stmt_fronts.specs.declared.expected.Expected.{Expected}
use Rattle.stmt_fronts.specs.declared.expected.Expected.TheVariants.{Within}
use Rattle.stmt_fronts.specs.Turns.{all_within, within, inner, wanted_by}
use Rattle.stmt_fronts.specs.Viable.{Names, name_of, named_by}
use Rattle.stmt_laws.proofs.Keeping.{zero-is, not_taken, NoneTaken, whole_of}
use Rattle.stmt_laws.proofs.Guards.{taken-guarded, be-ends}
use Rattle.stmt_laws.proofs.Leaves.{fronted}
use Rattle.stmt_laws.proofs.Stops.{only-optional, whole-stops}
use Rattle.stmt_laws.specs.Ends.{ends_expr, ends_pattern, ends_type, first_word}
use Rattle.viable_laws.proofs.Takes.{Ends, tok, skip, Takes}

-- ---- words that are taken where a part of an expression is wanted

-- what is wanted there gives no names
same_names : (x : Wanted) (n : Names) (name : Option Name) → named_by n (Within x) name ≡ n
same_names x n None = refl
same_names x n (Some name) = refl

within-wanted : (t : InnerTurn) (behind : List Expected) (more : List Wanted)
    → all_within (inner_wanted_by t ++ more) ++ behind ≡ wanted_by (within t) ++ (all_within more ++ behind)
within-wanted (goes_on parts) behind more =
    ap (λ all. all ++ behind) (map-append (λ (w : Wanted). Within w) parts more) ∙ append_assoc (all_within parts) (all_within more) behind
within-wanted (adds pull parts) behind more =
    ap (λ all. all ++ behind) (map-append (λ (w : Wanted). Within w) parts more) ∙ append_assoc (all_within parts) (all_within more) behind
within-wanted (begins pull parts others) behind more =
    ap (λ all. all ++ behind) (map-append (λ (w : Wanted). Within w) (parts ++ others) more)
    ∙ append_assoc (all_within (parts ++ others)) (all_within more) behind
    ∙ ap (λ all. all ++ (all_within more ++ behind)) (map-append (λ (w : Wanted). Within w) parts others)
within-wanted (joins left right parts others) behind more =
    ap (λ all. all ++ behind) (map-append (λ (w : Wanted). Within w) (parts ++ others) more)
    ∙ append_assoc (all_within (parts ++ others)) (all_within more) behind
    ∙ ap (λ all. all ++ (all_within more ++ behind)) (map-append (λ (w : Wanted). Within w) parts others)

same_wanted : (a b : List Wanted) → Some a ≡ Some b → a ≡ b
same_wanted a b e = cc

-- by the first thing wanted, or by one behind it
word_on : (t : Token) (tokens : List Token) (x : Wanted) (xs more : List Wanted) (behind : List Expected) (n : Names) (found : Option InnerTurn) (optional : Bool)
    → turn x (word_of t) ≡ found → is_optional x ≡ optional
    → ((now : List Wanted) → left_by (meets (word_of t) xs) ≡ Some now → Ends tokens (all_within now ++ behind) n → Ends (t ∷ tokens) (all_within xs ++ behind) n)
    → left_by (either found xs (if optional then meets (word_of t) xs else refuses (x ∷ xs))) ≡ Some more
    → Ends tokens (all_within more ++ behind) n → Ends (t ∷ tokens) (Within x ∷ (all_within xs ++ behind)) n
word_on t tokens x xs more behind n (Some done) optional is o others e k =
    tok t tokens (Within x) (all_within xs ++ behind) n [] (within done) [] (ap inner is) refl
    (subst (λ m. Ends tokens (wanted_by (within done) ++ (all_within xs ++ behind)) m) (sym (same_names x n (name_of t)))
    (subst (λ all. Ends tokens all n) (within-wanted done behind xs)
    (subst (λ all. Ends tokens (all_within all ++ behind) n) (sym (same_wanted (inner_wanted_by done ++ xs) more e)) k)))
word_on t tokens x xs more behind n None true is o others e k =
    skip (Within x) (all_within xs ++ behind) (t ∷ tokens) n o (ap inner is) (others more e k)
word_on t tokens x xs more behind n None false is o others e k = absurd (cc)

pub word-within : (t : Token) (tokens : List Token) (xs more : List Wanted) (behind : List Expected) (n : Names) → after (word_of t) xs ≡ Some more
    → Ends tokens (all_within more ++ behind) n → Ends (t ∷ tokens) (all_within xs ++ behind) n
word-within t tokens [] more behind n e k = absurd (cc)
word-within t tokens (x ∷ xs) more behind n e k =
    word_on t tokens x xs more behind n (turn x (word_of t)) (is_optional x) refl refl (λ now h r. word-within t tokens xs now behind n h r) e k

words_on : (t : Token) (front rest : List Token) (xs : List Wanted) (found : Option (List Wanted)) (last : List Wanted) (behind : List Expected) (n : Names)
    → after (word_of t) xs ≡ found
    → ((more : List Wanted) → taken (map word_of front) more ≡ Some last → Ends (front ++ rest) (all_within more ++ behind) n)
    → option_and_then (taken (map word_of front)) found ≡ Some last → Ends (t ∷ (front ++ rest)) (all_within xs ++ behind) n
words_on t front rest xs None last behind n is others e = absurd (cc)
words_on t front rest xs (Some more) last behind n is others e = word-within t (front ++ rest) xs more behind n is (others more e)

pub words-within : (front rest : List Token) (xs last : List Wanted) (behind : List Expected) (n : Names) → taken (map word_of front) xs ≡ Some last
    → Ends rest (all_within last ++ behind) n → Ends (front ++ rest) (all_within xs ++ behind) n
words-within [] rest xs last behind n e k = subst (λ all. Ends rest (all_within all ++ behind) n) (sym (same_wanted xs last e)) k
words-within (t ∷ front) rest xs last behind n e k =
    words_on t front rest xs (after (word_of t) xs) last behind n refl (λ more h. words-within front rest more last behind n h k) e

-- ---- what need not come behind a whole is left out

not_here : (t : Option InnerTurn) (x : Wanted) (xs : List Wanted) (w : Word)
    → left_by (either t xs (if is_optional x then meets w xs else refuses (x ∷ xs))) ≡ None → t ≡ None
not_here None x xs w e = refl
not_here (Some t) x xs w e = absurd (cc)

left_behind : (tokens : List Token) (xs : List Wanted) (behind : List Expected) (n : Names) → length (needed xs) ≡ 0
    → after (first_word tokens) xs ≡ None → Ends tokens behind n → Ends tokens (all_within xs ++ behind) n
left_behind tokens [] behind n h none k = k
left_behind tokens (x ∷ xs) behind n h none k =
    let o = only-optional (is_optional x) x xs h in
    let first = not_here (turn x (first_word tokens)) x xs (first_word tokens) none in
    let others : after (first_word tokens) xs ≡ None =
    sym (ap (λ t. left_by (either t xs (if is_optional x then meets (first_word tokens) xs else refuses (x ∷ xs)))) first
    ∙ ap (λ (b : Bool). left_by (if b then meets (first_word tokens) xs else refuses (x ∷ xs))) o.0) ∙ none in
    skip (Within x) (all_within xs ++ behind) tokens n o.0 (ap inner first) (left_behind tokens xs behind n o.1 others k)

-- ---- what is written as a whole, where this is wanted

-- what is wanted behind words that are taken
pub record Whole (front : List Word) (start : List Wanted) : Type 0 where
  pub behind : List Wanted
  pub reached : taken front start ≡ Some behind
  pub whole : length (needed behind) ≡ 0

found : (front : List Word) (start : List Wanted) (o : Option (List Wanted)) → taken front start ≡ o → whole_found o ≡ true → Whole front start
found front start (Some behind) is e = record { behind = behind; reached = is; whole = zero-is (length (needed behind)) e }
found front start None is e = absurd (cc)

words_append : (a b : List Written) → words_written (a ++ b) ≡ words_written a ++ words_written b
words_append [] b = refl
words_append (w ∷ a) b = ap (λ ws. written_word w ∷ ws) (words_append a b)

pub whole-words : (start : List Wanted) (ws : List Written) (tokens : List Token) → AreTokens tokens ws → WordsRead (ws ++ []) start
    → Whole (map word_of tokens) start
whole-words start ws tokens a r =
    found (map word_of tokens) start (taken (map word_of tokens) start) refl
    (ap (λ words. whole_found (taken words start)) (words-of tokens ws a) ∙ ap (λ all. whole_found (taken (words_written all) start)) (sym (append-nil ws)) ∙ r.passes)

same_whole : (o : Option (List Wanted)) → whole_found o ≡ true → whole_of o ≡ true
same_whole (Some wanted) e = e
same_whole None e = absurd (cc)

-- what passes with one thing more wanted, whose word comes first, does not go on with that word
pub passed : (start : List Wanted) (x : Wanted) → is_optional x ≡ false → (w : Word) (words : List Written) → NoneTaken x (words_written words)
    → (ws : List Written) (tokens : List Token) → AreTokens tokens ws → WordsRead (ws ++ word w ∷ words) (start ++ x ∷ [])
    → (e : Whole (map word_of tokens) start) → after w e.behind ≡ None
passed start x needs w words none ws tokens a r e =
    not_taken x needs (map word_of tokens) w (words_written words) none start e.behind e.reached
    (same_whole (taken (map word_of tokens ++ w ∷ words_written words) (start ++ x ∷ []))
    (ap (λ front. whole_found (taken (front ++ w ∷ words_written words) (start ++ x ∷ []))) (words-of tokens ws a)
    ∙ ap (λ all. whole_found (taken all (start ++ x ∷ []))) (sym (words_append ws (word w ∷ words))) ∙ r.passes))

-- whole tokens are taken, up to a word that they don't go on with
pub leaf : {ws : List Written} (start : List Wanted) (ends : Word → Bool) {n : Names} → WordsRead (ws ++ []) start
    → ((tokens : List Token) → AreTokens tokens ws → (e : Whole (map word_of tokens) start) (w : Word) → ends w ≡ true → after w e.behind ≡ None)
    → Takes (whole ws) (all_within start) ends n n
leaf {ws = ws} start ends {n = n} r stop =
    record {
      takes = λ behind tokens rest h s k.
          let f = fronted ws tokens rest h in
          let e = whole-words start ws f.front f.written r in
          subst (λ ts. Ends ts (all_within start ++ behind) n) (sym f.is)
          (words-within f.front rest start e.behind behind n e.reached
          (left_behind rest e.behind behind n e.whole (stop f.front f.written e (first_word rest) s) k));
    }

nothing : WordsRead [] []
nothing = record { passes = refl }

-- ---- expressions, patterns and types

at_end : (wanted : List Wanted) → whole_found (Some wanted) ≡ true → WordsRead [] wanted
at_end wanted e = record { passes = e }

expr_passed : (x : Wanted) → is_optional x ≡ false → (w : Word) → (e : ExprTree) → Binds e far_pull → (tokens : List Token)
    → AreTokens tokens (spelling e) → Follows (word w ∷ []) (want.BehindOperand ∷ x ∷ []) → (end : Whole (map word_of tokens) (want.Expression ∷ []))
    → after w end.behind ≡ None
expr_passed x needs w e b tokens a f end =
    passed (want.Expression ∷ []) x needs w [] tt (spelling e) tokens a ((expr_passes e).reads far_pull b want.Expression [] at_expression (x ∷ []) (word w ∷ []) f) end

expr_stops : (e : ExprTree) → Binds e far_pull → (tokens : List Token) → AreTokens tokens (spelling e) → (end : Whole (map word_of tokens) (want.Expression ∷ []))
    → (w : Word) → ends_expr w ≡ true → after w end.behind ≡ None
expr_stops e b tokens a end word_is.Comma h =
    expr_passed want.Comma refl word_is.Comma e b tokens a (follow (word word_is.Comma) refl refl refl nothing) end
expr_stops e b tokens a end word_is.Colon h =
    expr_passed want.Colon refl word_is.Colon e b tokens a (follow (word word_is.Colon) refl refl refl nothing) end
expr_stops e b tokens a end word_is.Be h =
    be-ends end.behind (taken-guarded (map word_of tokens) (want.Expression ∷ []) end.behind refl end.reached) end.whole
expr_stops e b tokens a end w h = whole-stops end.behind w end.whole h

pub expr_taken : {n : Names} (e : ExprTree) → Binds e far_pull → Takes (whole (spelling e)) (Within want.Expression ∷ []) ends_expr n n
expr_taken e b =
    leaf (want.Expression ∷ []) ends_expr
    ((expr_passes e).reads far_pull b want.Expression [] at_expression [] []
    (record { plain = at_end _ refl; name = at_end _ refl; class = at_end _ refl }))
    (expr_stops e b)

pattern_passed : (x : Wanted) → is_optional x ≡ false → (w : Word) (words : List Written) → NoneTaken x (words_written words)
    → (p : PatternTree) → IsPattern p → (tokens : List Token) → AreTokens tokens (pattern_spelling p)
    → WordsRead (word w ∷ words) (want.BehindPattern ∷ x ∷ []) → (end : Whole (map word_of tokens) (want.Pattern ∷ [])) → after w end.behind ≡ None
pattern_passed x needs w words none p b tokens a f end =
    passed (want.Pattern ∷ []) x needs w words none (pattern_spelling p) tokens a
    ((pattern_passes p).reads b want.Pattern [] at_pattern (x ∷ []) (word w ∷ words) f) end

pattern_stops : (p : PatternTree) → IsPattern p → (tokens : List Token) → AreTokens tokens (pattern_spelling p)
    → (end : Whole (map word_of tokens) (want.Pattern ∷ [])) → (w : Word) → ends_pattern w ≡ true → after w end.behind ≡ None
pattern_stops p b tokens a end word_is.Comma h =
    pattern_passed want.Comma refl word_is.Comma [] tt p b tokens a (record { passes = refl }) end
pattern_stops p b tokens a end word_is.Colon h =
    pattern_passed want.Colon refl word_is.Colon [] tt p b tokens a (record { passes = refl }) end
pattern_stops p b tokens a end (word_is.Operator sign_is.Equal) h =
    pattern_passed want.Equals refl (word_is.Operator sign_is.Equal) [] tt p b tokens a (record { passes = refl }) end
pattern_stops p b tokens a end (word_is.Operator sign_is.InSet) h =
    pattern_passed want.BehindOnlyBound refl (word_is.Operator sign_is.InSet) (word word_is.True ∷ []) (refl, tt) p b tokens a
    (record { passes = refl }) end
pattern_stops p b tokens a end w h = whole-stops end.behind w end.whole h

pub pattern_taken : {n : Names} (p : PatternTree) → IsPattern p → Takes (whole (pattern_spelling p)) (Within want.Pattern ∷ []) ends_pattern n n
pattern_taken p b =
    leaf (want.Pattern ∷ []) ends_pattern ((pattern_passes p).reads b want.Pattern [] at_pattern [] [] (at_end _ refl)) (pattern_stops p b)

type_passed : (x : Wanted) → is_optional x ≡ false → (w : Word) → (t : TypeTree) → IsType t union → (tokens : List Token)
    → AreTokens tokens (type_spelling t) → Follows (word w ∷ []) (want.BehindType ∷ x ∷ []) → (end : Whole (map word_of tokens) (want.WholeType ∷ []))
    → after w end.behind ≡ None
type_passed x needs w t b tokens a f end =
    passed (want.WholeType ∷ []) x needs w [] tt (type_spelling t) tokens a ((type_passes t).whole union b (x ∷ []) (word w ∷ []) f) end

type_stops : (t : TypeTree) → IsType t union → (tokens : List Token) → AreTokens tokens (type_spelling t)
    → (end : Whole (map word_of tokens) (want.WholeType ∷ [])) → (w : Word) → ends_type w ≡ true → after w end.behind ≡ None
type_stops t b tokens a end word_is.Comma h =
    type_passed want.Comma refl word_is.Comma t b tokens a (follow (word word_is.Comma) refl refl refl nothing) end
type_stops t b tokens a end (word_is.Operator sign_is.Equal) h =
    type_passed want.Equals refl (word_is.Operator sign_is.Equal) t b tokens a
    (follow (word (word_is.Operator sign_is.Equal)) refl refl refl nothing) end
type_stops t b tokens a end w h = whole-stops end.behind w end.whole h

pub type_taken : {n : Names} (t : TypeTree) → IsType t union → Takes (whole (type_spelling t)) (Within want.WholeType ∷ []) ends_type n n
type_taken t b =
    leaf (want.WholeType ∷ []) ends_type
    ((type_passes t).whole union b [] [] (record { plain = at_end _ refl; name = at_end _ refl; class = at_end _ refl }))
    (type_stops t b)
