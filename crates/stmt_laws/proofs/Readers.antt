-- What is written so is read so: pieces one after the other, up to a word that ends them.
use Rattle.std.proofs.Common.{◌≡◌, Bool, true, false, List, [], ◌∷◌, ◌++◌, Some, None, refl, ap, ◌∙◌, if◌then◌else◌}
use Rattle.vdm_kinds.specs.declared.place.Place.{Place}
use Rattle.vdm_kinds.specs.declared.name.Name.{Name}
use Rattle.vdm_kinds.specs.declared.name_at.NameAt.{NameAt}
use Rattle.grammar_words.specs.declared.word.Word.{Word}
use Rattle.grammar_words.specs.Tokens.{Token, identifier, quote, whole as whole_token, character, text, make_named, is_named, plain, word_of}
use Rattle.grammar_words.specs.Written.{at}
use Rattle.stmt_trees.specs.Pieces.{Piece, must, again, one_of, mark, Spelled}
use Rattle.stmt_laws.specs.Ends.{first_word}
use Rattle.stmt_reading.specs.Leaves.{Read, onto, choice, word_in, is_word, name_in}

-- tokens that are written so are read as this, where one of these words stands behind them
pub record Reads {A : Type 0} (p : List Token → Read A) (ws : List Piece) (a : A) (ends : Word → Bool) : Type 0 where
  pub reads : (tokens rest : List Token) → Spelled tokens ws rest → ends (first_word rest) ≡ true → p tokens ≡ Some (a, rest)

-- what is written so begins with one of these words, where one of those stands behind it
pub record Begins (ws : List Piece) (ends begins : Word → Bool) : Type 0 where
  pub opens : (tokens rest : List Token) → Spelled tokens ws rest → ends (first_word rest) ≡ true → begins (first_word tokens) ≡ true

-- ---- two after each other

pub Spelled-split : (tokens : List Token) (a b : List Piece) (rest : List Token) → Spelled tokens (a ++ b) rest
    → (middle : List Token) × Spelled tokens a middle × Spelled middle b rest
Spelled-split tokens [] b rest h = (tokens, refl, h)
Spelled-split tokens (must w ∷ a) b rest h =
    let k = Spelled-split h.0 a b rest h.2 in (k.0, (h.0, h.1, k.1), k.2)
Spelled-split tokens (again name ∷ a) b rest h =
    let k = Spelled-split h.0 a b rest h.3 in (k.0, (h.0, h.1, h.2, k.1), k.2)
Spelled-split tokens (one_of forms ∷ a) b rest h =
    let k = Spelled-split h.1 a b rest h.4 in (k.0, (h.0, h.1, h.2, h.3, k.1), k.2)

pub onto_reads : {A B : Type 0} (p : List Token → Read A) (q : A → List Token → Read B) (a : A) (b : B) (ws vs : List Piece)
    (middle ends : Word → Bool) → Reads p ws a middle → Begins vs ends middle → Reads (q a) vs b ends
    → Reads (λ (ts : List Token). onto (p ts) q) (ws ++ vs) b ends
onto_reads p q a b ws vs middle ends first begins second =
    record {
      reads = λ tokens rest h e.
          let k = Spelled-split tokens ws vs rest h in
          ap (λ o. onto o q) (first.reads tokens k.0 k.1 (begins.opens k.0 rest k.2 e)) ∙ second.reads k.0 rest k.2 e;
    }

pub done : {A : Type 0} (a : A) (ends : Word → Bool) → Reads (λ (ts : List Token). Some (a, ts)) [] a ends
done a ends = record { reads = λ tokens rest h e. ap (λ (ts : List Token). Some (a, ts)) h }

-- what is read so is read so by what is the same
pub same_reads : {A : Type 0} {p q : List Token → Read A} {ws : List Piece} {a : A} {ends : Word → Bool}
    → ((ts : List Token) → q ts ≡ p ts) → Reads p ws a ends → Reads q ws a ends
same_reads same first = record { reads = λ tokens rest h e. same tokens ∙ first.reads tokens rest h e }

-- ---- what comes next

pub by_mark : {ends begins : Word → Bool} {vs : List Piece} (w : Word) → begins w ≡ true → Begins (mark w ∷ vs) ends begins
by_mark {begins = begins} w e = record { opens = λ tokens rest h s. ap (λ ts. begins (first_word ts)) h.1.1 ∙ e }

pub by_token : {ends begins : Word → Bool} {vs : List Piece} (t : Token) → begins (word_of t) ≡ true → Begins (must (at t) ∷ vs) ends begins
by_token {begins = begins} t e = record { opens = λ tokens rest h s. ap (λ ts. begins (first_word ts)) h.1 ∙ e }

pub by_nothing : {ends begins : Word → Bool} → ((w : Word) → ends w ≡ true → begins w ≡ true) → Begins [] ends begins
by_nothing {begins = begins} more =
    record { opens = λ tokens rest h s. ap (λ ts. begins (first_word ts)) h ∙ more (first_word rest) s }

-- ---- words

pub word-is : (w : Word) (place : Place) (rest : List Token) → is_word w w ≡ true → word_in w (plain w place ∷ rest) ≡ Some (place, rest)
word-is w place rest e = ap (λ (b : Bool). if b then Some (place, rest) else None) e

pub word-is_not : (w : Word) (tokens : List Token) → is_word w (first_word tokens) ≡ false → word_in w tokens ≡ None
word-is_not w [] e = refl
word-is_not w (plain found place ∷ tokens) e = ap (λ (b : Bool). if b then Some (place, tokens) else None) e
word-is_not w (identifier n p ∷ tokens) e = refl
word-is_not w (quote n p ∷ tokens) e = refl
word-is_not w (whole_token n p ∷ tokens) e = refl
word-is_not w (character n p ∷ tokens) e = refl
word-is_not w (text n p ∷ tokens) e = refl
word-is_not w (make_named n p ∷ tokens) e = refl
word-is_not w (is_named n p ∷ tokens) e = refl

-- a word at any place, and what is read behind it
pub at_mark : {B : Type 0} {b : B} {vs : List Piece} {ends : Word → Bool} (w : Word) (q : Place → List Token → Read B) → is_word w w ≡ true
    → ((place : Place) → Reads (q place) vs b ends) → Reads (λ (ts : List Token). onto (word_in w ts) q) (mark w ∷ vs) b ends
at_mark w q is more =
    record {
      reads = λ tokens rest h e.
          ap (λ ts. onto (word_in w ts) q) h.1.1 ∙ ap (λ o. onto o q) (word-is w h.1.0 h.0 is) ∙ (more h.1.0).reads h.0 rest h.2 e;
    }

-- where the word may be left out: it comes, or it does not
pub may_come : {B : Type 0} {b : B} {vs : List Piece} {ends : Word → Bool} (w : Word) (q : Place → List Token → Read B)
    (other : List Token → Read B) → is_word w w ≡ true → ((place : Place) → Reads (q place) vs b ends)
    → Reads (λ (ts : List Token). choice (word_in w ts) q (other ts)) (mark w ∷ vs) b ends
may_come w q other is more =
    record {
      reads = λ tokens rest h e.
          ap (λ ts. choice (word_in w ts) q (other tokens)) h.1.1 ∙ ap (λ o. choice o q (other tokens)) (word-is w h.1.0 h.0 is)
          ∙ (more h.1.0).reads h.0 rest h.2 e;
    }

abbrev pub is_other : Word → Word → Bool
is_other w found = if is_word w found then false else true

other-is : (w found : Word) → is_other w found ≡ true → is_word w found ≡ false
other-is w found e = by (is_word w found) e
  where
    by : (b : Bool) → (if b then false else true) ≡ true → b ≡ false
    by true h = absurd (cc)
    by false h = refl

pub left_away : {B : Type 0} {b : B} {vs : List Piece} {ends : Word → Bool} (w : Word) (q : Place → List Token → Read B)
    (other : List Token → Read B) → Begins vs ends (is_other w) → Reads other vs b ends
    → Reads (λ (ts : List Token). choice (word_in w ts) q (other ts)) vs b ends
left_away w q other begins more =
    record {
      reads = λ tokens rest h e.
          ap (λ o. choice o q (other tokens)) (word-is_not w tokens (other-is w (first_word tokens) (begins.opens tokens rest h e)))
          ∙ more.reads tokens rest h e;
    }

-- a name at its place
pub at_name : {B : Type 0} {b : B} {vs : List Piece} {ends : Word → Bool} (name : Name) (place : Place) (q : NameAt → List Token → Read B)
    → Reads (q (record { name = name; place = place })) vs b ends
    → Reads (λ (ts : List Token). onto (name_in ts) q) (must (at (identifier name place)) ∷ vs) b ends
at_name name place q more =
    record { reads = λ tokens rest h e. ap (λ ts. onto (name_in ts) q) h.1 ∙ more.reads h.0 rest h.2 e }

-- what ends with what is read
pub last_reads : {A B : Type 0} {p : List Token → Read A} {ws : List Piece} {a : A} {ends : Word → Bool} (made : A → B)
    → Reads p ws a ends → Reads (λ (ts : List Token). onto (p ts) (λ (found : A) (rest : List Token). Some (made found, rest))) ws (made a) ends
last_reads made first =
    record { reads = λ tokens rest h e. ap (λ o. onto o (λ found more. Some (made found, more))) (first.reads tokens rest h e) }

-- one thing, and more behind it
pub then_reads : {A B : Type 0} {p : List Token → Read A} {a : A} {ws : List Piece} {middle : Word → Bool} {b : B} {vs : List Piece}
    {ends : Word → Bool} (q : A → List Token → Read B) → Reads p ws a middle → Begins vs ends middle → Reads (q a) vs b ends
    → Reads (λ (ts : List Token). onto (p ts) q) (ws ++ vs) b ends
then_reads {p = p} {a = a} {ws = ws} {middle = middle} {b = b} {vs = vs} {ends = ends} q first begins second =
    onto_reads p q a b ws vs middle ends first begins second
