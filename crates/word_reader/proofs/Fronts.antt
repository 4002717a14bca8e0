-- The words of lexemes, one after another.
use Rattle.std.proofs.Common.{◌≡◌, ℕ, ◌-◌, ◌≤◌, ◌&&◌, Bool, true, false, cond, List, [], ◌∷◌, ◌++◌, length, get_or, take, drop, take_all, append_assoc, Option, Some, None, bytes_eq, nat_eq, codes, unwrap_or, refl, ap, sym, ◌∙◌, arith}
use Rattle.std.specs.List.{starts_with}
use Rattle.vdm_kinds.specs.declared.sign.Sign.TheVariants.{Not, InSet, NotInSet}
use Rattle.vdm_lexer.specs.declared.lexeme.LexKind.{LexKind}
use Rattle.vdm_lexer.specs.declared.lexeme.LexKind.TheVariants as lex
use Rattle.vdm_lexer.specs.declared.lexeme.Lexeme.{Lexeme}
use Rattle.grammar_words.specs.declared.word.Word.{Word}
use Rattle.grammar_words.specs.declared.word.Word.TheVariants.{Identifier, MakeNamed, IsNamed, Operator, In, Set, TextEnd}
use Rattle.grammar_words.specs.declared.word.PlacedWord.{PlacedWord}
use Rattle.grammar_words.specs.Tokens.{width}
use Rattle.word_reader.specs.Fronts.{front_word}
use Rattle.word_reader.specs.Written.{Row, word_in, reserved_words, signs, forms}
use Rattle.word_reader.specs.Words.{is_in, is_set, is_not, is_in_set, joined, before, before_next, ends_operand, named_form, word_of_kind, word_of_lexeme, word_or_end, words_behind}

-- a word of one lexeme
abbrev is_single : Word → Bool
is_single (Operator InSet) = false
is_single (Operator NotInSet) = false
is_single _ = true

abbrev are_single : List Row → Bool
are_single [] = true
are_single (row ∷ rows) = is_single row.1 && are_single rows

both : (a b : Bool) → (a && b) ≡ true → (a ≡ true) × (b ≡ true)
both true b h = (refl, h)
both false b h = absurd (cc)

-- what rows of single words give is single
single-in : (text : List ℕ) (rows : List Row) (fallback : Word) → are_single rows ≡ true → is_single fallback ≡ true → is_single (unwrap_or (word_in text rows) fallback) ≡ true
unfolding word_in
single-in text [] fallback h k = k
single-in text (row ∷ rows) fallback h k =
    let parts = both _ _ h in
    by (bytes_eq text row.0) parts.0 (single-in text rows fallback parts.1 k)
  where
    by : (b : Bool) → is_single row.1 ≡ true → is_single (unwrap_or (word_in text rows) fallback) ≡ true → is_single (unwrap_or (cond b (Some row.1) (word_in text rows)) fallback) ≡ true
    by true here rest = here
    by false here rest = rest

named-single : (piece : List ℕ) → is_single (named_form piece) ≡ true
named-single piece = by (starts_with nat_eq piece (codes "mk_")) (starts_with nat_eq piece (codes "is_"))
  where
    by : (a b : Bool) → is_single (cond a MakeNamed (cond b IsNamed Identifier)) ≡ true
    by true b = refl
    by false true = refl
    by false false = refl

kind-single : (kind : LexKind) (piece : List ℕ) → is_single (word_of_kind kind piece) ≡ true
kind-single lex.Identifier piece = single-in piece forms (named_form piece) refl (named-single piece)
kind-single lex.Whole piece = refl
kind-single lex.Character piece = refl
kind-single lex.Text piece = refl
kind-single lex.Quote piece = refl
kind-single lex.Reserved piece = single-in piece reserved_words TextEnd refl refl
kind-single lex.Sign piece = single-in piece signs TextEnd refl refl
kind-single lex.End piece = refl

lexeme-single : (text : List ℕ) (lexeme : Lexeme) → is_single (word_of_lexeme text lexeme) ≡ true
lexeme-single text lexeme = kind-single lexeme.kind _

-- words by what they are
in-is : (word : Word) → is_in word ≡ true → word ≡ In
in-is In h = refl
in-is word h = absurd (cc)

set-is : (word : Word) → is_set word ≡ true → word ≡ Set
set-is Set h = refl
set-is word h = absurd (cc)

not-is : (word : Word) → is_not word ≡ true → word ≡ Operator Not
not-is (Operator Not) h = refl
not-is word h = absurd (cc)

single-width : (word : Word) → is_single word ≡ true → width word ≡ 1
single-width (Operator InSet) h = absurd (cc)
single-width (Operator NotInSet) h = absurd (cc)
single-width word h = refl

single-other : (word : Word) → is_single word ≡ true → is_in_set word ≡ false
single-other (Operator InSet) h = absurd (cc)
single-other word h = refl

-- ---- the word before others

abbrev pub placed : Word → Lexeme → PlacedWord
placed word lexeme = record { word = word; place = lexeme.place }

-- the first word, and what stands behind it
abbrev pub fronted : Word → Lexeme → List ℕ → List Lexeme → List PlacedWord
fronted word lexeme text behind = placed word lexeme ∷ words_behind (ends_operand word) text (drop (width word - 1) behind)

-- tests joined to one that fails, or that holds
and-false : (a : Bool) → (a && false) ≡ false
and-false true = refl
and-false false = refl

ands-false : (a b : Bool) → (a && b && false) ≡ false
ands-false true true = refl
ands-false true false = refl
ands-false false b = refl

ands-true : (a b c d : Bool) → (c && d) ≡ true → (a && b && c && d) ≡ false → (a && b && true) ≡ false
ands-true false b c d e h = refl
ands-true true false c d e h = refl
ands-true true true true true e h = absurd (cc)
ands-true true true true false e h = absurd (cc)
ands-true true true false d e h = absurd (cc)

all-true : (a b c d : Bool) → (a && b && c && d) ≡ true → (a ≡ true) × (b ≡ true) × (c ≡ true) × (d ≡ true)
all-true true true true true h = (refl, refl, refl, refl)
all-true true true true false h = absurd (cc)
all-true true true false d h = absurd (cc)
all-true true false c d h = absurd (cc)
all-true false b c d h = absurd (cc)

front-none : (ended : Bool) (a b c : Word) → is_set b ≡ false → is_in b ≡ false → front_word ended a b c ≡ a
front-none ended a b c h k = rw (h, k) (by (is_in a) ended (is_not a))
  where
    by : (p q r : Bool) → cond (p && false) (Operator InSet) (cond (q && r && false && is_set c) (Operator NotInSet) a) ≡ a
    by true true true = refl
    by true true false = refl
    by true false r = refl
    by false true true = refl
    by false true false = refl
    by false false r = refl

-- a word and the front of what stands behind it, where they are not one
module _ (ended : Bool) (a b c d : Word) (single : is_single b ≡ true) (apart : (is_in a && is_set b) ≡ false) (away : (ended && is_not a && is_in b && is_set c) ≡ false) where
  set-apart : (is_in a && is_set (front_word (ends_operand a) b c d)) ≡ false
  set-apart = by (is_in b && is_set c) (ends_operand a && is_not b && is_in c && is_set d)
    where
      by : (u v : Bool) → (is_in a && is_set (cond u (Operator InSet) (cond v (Operator NotInSet) b))) ≡ false
      by true v = and-false (is_in a)
      by false true = and-false (is_in a)
      by false false = apart

  in_set-apart : (ended && is_not a && is_in_set (front_word (ends_operand a) b c d)) ≡ false
  in_set-apart = by (is_in b && is_set c) (ends_operand a && is_not b && is_in c && is_set d) refl
    where
      by : (u v : Bool) → (is_in b && is_set c) ≡ u → (ended && is_not a && is_in_set (cond u (Operator InSet) (cond v (Operator NotInSet) b))) ≡ false
      by true v e = ands-true ended (is_not a) (is_in b) (is_set c) e away
      by false true e = ands-false ended (is_not a)
      by false false e = ap (λ (t : Bool). ended && is_not a && t) (single-other b single) ∙ ands-false ended (is_not a)

  not-joined : joined ended a (front_word (ends_operand a) b c d) ≡ None
  not-joined =
      ap (λ (t : Bool). cond t (Some (Operator InSet)) (cond (ended && is_not a && is_in_set (front_word (ends_operand a) b c d)) (Some (Operator NotInSet)) None)) set-apart
      ∙ ap (λ (t : Bool). cond t (Some (Operator NotInSet)) None) in_set-apart

  stays : front_word ended a b c ≡ a
  stays =
      ap (λ (t : Bool). cond t (Operator InSet) (cond (ended && is_not a && is_in b && is_set c) (Operator NotInSet) a)) apart
      ∙ ap (λ (t : Bool). cond t (Operator NotInSet) a) away

-- a word before the front of what stands behind it
module _ (text : List ℕ) (ended : Bool) (a b : Lexeme) (rest : List Lexeme) (A B C D : Word) where
  abbrev Glued : Type 0
  Glued = before ended (placed A a) (fronted (front_word (ends_operand A) B C D) b text rest) ≡ fronted (front_word ended A B C) a text (b ∷ rest)

  glue-in_set : A ≡ In → B ≡ Set → Glued
  glue-in_set is next = rw (is, next) refl

  glue-not_in_set : ended ≡ true → A ≡ Operator Not → B ≡ In → C ≡ Set → Glued
  glue-not_in_set behind is next after = rw (behind, is, next, after) refl

  glue-none : is_single A ≡ true → is_single B ≡ true → (is_in A && is_set B) ≡ false → (ended && is_not A && is_in B && is_set C) ≡ false → fronted (front_word (ends_operand A) B C D) b text rest ≡ words_behind (ends_operand A) text (b ∷ rest) → Glued
  glue-none single other apart away whole =
      let none = not-joined ended A B C D other apart away in
      let front = stays ended A B C D other apart away in
      let width-one = single-width A single in
      ap (λ (both : Option Word). before_next both (placed A a) (placed (front_word (ends_operand A) B C D) b) (words_behind (ends_operand (front_word (ends_operand A) B C D)) text (drop (width (front_word (ends_operand A) B C D) - 1) rest))) none
      ∙ ap (λ (words : List PlacedWord). placed A a ∷ words) whole
      ∙ ap (λ (n : ℕ). placed A a ∷ words_behind (ends_operand A) text (drop (n - 1) (b ∷ rest))) (sym width-one)
      ∙ ap (λ (word : Word). fronted word a text (b ∷ rest)) (sym front)

  glue : is_single A ≡ true → is_single B ≡ true → fronted (front_word (ends_operand A) B C D) b text rest ≡ words_behind (ends_operand A) text (b ∷ rest) → Glued
  glue single other whole = by (is_in A && is_set B) (ended && is_not A && is_in B && is_set C) refl refl
    where
      by : (u v : Bool) → (is_in A && is_set B) ≡ u → (ended && is_not A && is_in B && is_set C) ≡ v → Glued
      by true v e f = let parts = both _ _ e in glue-in_set (in-is A parts.0) (set-is B parts.1)
      by false true e f = let parts = all-true _ _ _ _ f in glue-not_in_set parts.0 (not-is A parts.1) (in-is B parts.2) (set-is C parts.3)
      by false false e f = glue-none single other e f whole

-- the words of lexemes are the front of them before the rest
pub front-step : (text : List ℕ) (ended : Bool) (a : Lexeme) (rest : List Lexeme)
    → words_behind ended text (a ∷ rest) ≡ fronted (front_word ended (word_of_lexeme text a) (word_or_end text rest) (word_or_end text (drop 1 rest))) a text rest
front-step text ended a [] =
    let A = word_of_lexeme text a in
    ap (λ (n : ℕ). placed A a ∷ words_behind (ends_operand A) text (drop (n - 1) [])) (sym (single-width A (lexeme-single text a)))
    ∙ ap (λ (word : Word). fronted word a text []) (sym (front-none ended A TextEnd TextEnd refl refl))
front-step text ended a (b ∷ rest) =
    let behind = front-step text (ends_operand (word_of_lexeme text a)) b rest in
    ap (before ended (placed (word_of_lexeme text a) a)) behind
    ∙ glue text ended a b rest (word_of_lexeme text a) (word_of_lexeme text b) (word_or_end text rest) (word_or_end text (drop 1 rest)) (lexeme-single text a) (lexeme-single text b) (sym behind)

-- what a slice's pattern leaves behind its first element
others-are : (a : Lexeme) (rest : List Lexeme) → take (length (a ∷ rest) - 1) (drop 1 (a ∷ rest)) ≡ rest
others-are a rest = take_all (length (a ∷ rest) - 1) rest (omega arith)

-- one word more was read
pub read-step : (text : List ℕ) (ended next : Bool) (rest left : List Lexeme) (d : Lexeme) (all found more : List PlacedWord) (word : Word) (n : ℕ)
    → 1 ≤ length rest
    → all ≡ found ++ words_behind ended text rest
    → word ≡ front_word ended (word_of_lexeme text (get_or rest 0 d)) (word_or_end text (take (length rest - 1) (drop 1 rest))) (word_or_end text (drop 1 (take (length rest - 1) (drop 1 rest))))
    → more ≡ found ++ placed word (get_or rest 0 d) ∷ []
    → next ≡ ends_operand word
    → n ≡ width word - 1
    → left ≡ drop n (take (length rest - 1) (drop 1 rest))
    → all ≡ more ++ words_behind next text left
read-step text ended next [] left d all found more word n some was is pushed ends wide cut = absurd (omega arith)
read-step text ended next (a ∷ rest) left d all found more word n some was is pushed ends wide cut =
    let same = others-are a rest in
    let front = is ∙ ap (λ (others : List Lexeme). front_word ended (word_of_lexeme text a) (word_or_end text others) (word_or_end text (drop 1 others))) same in
    was
    ∙ ap (λ (words : List PlacedWord). found ++ words) (front-step text ended a rest)
    ∙ ap (λ (w : Word). found ++ fronted w a text rest) (sym front)
    ∙ sym (append_assoc found (placed word a ∷ []) (words_behind (ends_operand word) text (drop (width word - 1) rest)))
    ∙ ap (λ (words : List PlacedWord). words ++ words_behind (ends_operand word) text (drop (width word - 1) rest)) (sym pushed)
    ∙ ap (λ (b : Bool). more ++ words_behind b text (drop (width word - 1) rest)) (sym ends)
    ∙ ap (λ (m : ℕ). more ++ words_behind next text (drop m rest)) (sym wide)
    ∙ ap (λ (others : List Lexeme). more ++ words_behind next text (drop n others)) (sym same)
    ∙ ap (λ (others : List Lexeme). more ++ words_behind next text others) (sym cut)
