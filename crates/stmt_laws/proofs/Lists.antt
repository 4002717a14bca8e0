-- Lists are read: as many items as are written, with a word between each two.
use Rattle.std.proofs.Common.{◌≡◌, ℕ, zero, suc, ◌+◌, ◌<◌, ◌≤◌, Bool, true, List, [], ◌∷◌, ◌++◌, length, Some, ap, ◌∙◌, arith}
use Rattle.grammar_words.specs.declared.word.Word.{Word}
use Rattle.grammar_words.specs.Tokens.{Token}
use Rattle.grammar_words.specs.Written.{Written, at, word, number}
use Rattle.stmt_trees.specs.Pieces.{Piece, must, again, one_of, IsFirst, Begin, Spelled}
use Rattle.stmt_trees.specs.ClassSpelling.{each_behind}
use Rattle.stmt_reading.specs.Leaves.{Read, onto, is_word, put, turns_for, further, list_in}
use Rattle.stmt_laws.proofs.Readers.{Reads, Begins, is_other, by_mark, by_nothing, done, may_come, left_away, last_reads, then_reads}

-- ---- how many tokens pieces have at least

abbrev pub marks : List Piece → ℕ
marks [] = 0
marks (must w ∷ pieces) = marks pieces + 1
marks (again name ∷ pieces) = marks pieces + 1
marks (one_of forms ∷ pieces) = marks pieces

first-fits : (tokens middle : List Token) (w : Written) → IsFirst tokens w middle → length tokens ≡ length middle + 1
first-fits tokens middle (at kept) h = ap length h ∙ omega arith
first-fits tokens middle (word w) h = ap length h.1 ∙ omega arith
first-fits tokens middle (number n) h = ap length h.1 ∙ omega arith

begin-fits : (ws : List Written) (tokens rest : List Token) → Begin tokens ws rest → length rest ≤ length tokens
begin-fits [] tokens rest h = let e : length tokens ≡ length rest = ap length h in omega arith
begin-fits (w ∷ ws) tokens rest h =
    let e : length tokens ≡ length h.0 + 1 = first-fits tokens h.0 w h.1 in
    let k : length rest ≤ length h.0 = begin-fits ws h.0 rest h.2 in omega arith

pub marks-fit : (pieces : List Piece) (tokens rest : List Token) → Spelled tokens pieces rest → marks pieces ≤ length tokens
marks-fit [] tokens rest h = omega arith
marks-fit (must w ∷ pieces) tokens rest h =
    let e : length tokens ≡ length h.0 + 1 = first-fits tokens h.0 w h.1 in
    let k : marks pieces ≤ length h.0 = marks-fit pieces h.0 rest h.2 in omega arith
marks-fit (again name ∷ pieces) tokens rest h =
    let e : length tokens ≡ length h.0 + 1 = ap length h.2 ∙ omega arith in
    let k : marks pieces ≤ length h.0 = marks-fit pieces h.0 rest h.3 in omega arith
marks-fit (one_of forms ∷ pieces) tokens rest h =
    let e : length h.1 ≤ length tokens = begin-fits h.0 tokens h.1 h.3 in
    let k : marks pieces ≤ length h.1 = marks-fit pieces h.1 rest h.4 in omega arith

pub marks-append : (a b : List Piece) → marks (a ++ b) ≡ marks a + marks b
marks-append [] b = omega arith
marks-append (must w ∷ a) b = let e : marks (a ++ b) ≡ marks a + marks b = marks-append a b in omega arith
marks-append (again name ∷ a) b = let e : marks (a ++ b) ≡ marks a + marks b = marks-append a b in omega arith
marks-append (one_of forms ∷ a) b = marks-append a b

-- what is read with as many turns as there are tokens, and one
pub counted : {A : Type 0} (p : ℕ → List Token → Read A) (ws : List Piece) (a : A) (ends : Word → Bool) (n : ℕ) → n ≤ marks ws
    → ((turns : ℕ) → n < turns → Reads (p turns) ws a ends) → Reads (λ (ts : List Token). p (turns_for ts) ts) ws a ends
counted p ws a ends n fits more =
    record {
      reads = λ tokens rest h e.
          let k : marks ws ≤ length tokens = marks-fit ws tokens rest h in
          let f : n ≤ marks ws = fits in
          (more (turns_for tokens) (omega arith)).reads tokens rest h e;
    }

-- ---- lists

abbrev pub AllRead : {A : Type 0} → (List Token → Read A) → (A → List Piece) → (A → Word → Bool) → List A → Type 0
AllRead one spell middle [] = Unit {0}
AllRead one spell middle (a ∷ others) = Reads one (spell a) a (middle a) × AllRead one spell middle others

-- what may stand behind each item
pub record Between {A : Type 0} (w : Word) (middle : A → Word → Bool) (ends : Word → Bool) : Type 0 where
  pub known : is_word w w ≡ true
  pub next : (a : A) → middle a w ≡ true
  pub last : (a : A) (found : Word) → ends found ≡ true → middle a found ≡ true
  pub other : (found : Word) → ends found ≡ true → is_other w found ≡ true

pub items-begin : {A : Type 0} (w : Word) (spell : A → List Piece) (middle : A → Word → Bool) (ends : Word → Bool) (a : A) → Between w middle ends
    → (others : List A) → Begins (each_behind w spell others) ends (middle a)
items-begin w spell middle ends a between [] = by_nothing (between.last a)
items-begin w spell middle ends a between (next ∷ others) = by_mark w (between.next a)

pub further-reads : {A : Type 0} (w : Word) (one : List Token → Read A) (spell : A → List Piece) (middle : A → Word → Bool) (ends : Word → Bool)
    → Between w middle ends → (items : List A) → AllRead one spell middle items → (turns : ℕ) → length items < turns
    → Reads (further w one turns) (each_behind w spell items) items ends
further-reads w one spell middle ends between items all zero short = absurd (omega arith)
further-reads w one spell middle ends between [] all (suc turns) short =
    left_away w _ (λ ts. Some ([], ts)) (by_nothing between.other) (done [] ends)
further-reads w one spell middle ends between (a ∷ others) all (suc turns) short =
    may_come w _ _ between.known (λ place.
    then_reads _ all.0 (items-begin w spell middle ends a between others)
    (last_reads (λ more. a ∷ more) (further-reads w one spell middle ends between others all.1 turns (omega arith))))

pub each-fits : {A : Type 0} (w : Word) (spell : A → List Piece) (items : List A) → length items ≤ marks (each_behind w spell items)
each-fits w spell [] = omega arith
each-fits w spell (a ∷ others) =
    let k : length others ≤ marks (each_behind w spell others) = each-fits w spell others in
    let e : marks (spell a ++ each_behind w spell others) ≡ marks (spell a) + marks (each_behind w spell others) =
    marks-append (spell a) (each_behind w spell others) in omega arith

pub list-reads : {A : Type 0} (w : Word) (one : List Token → Read A) (spell : A → List Piece) (middle : A → Word → Bool) (ends : Word → Bool)
    → Between w middle ends → (a : A) (others : List A) → AllRead one spell middle (a ∷ others)
    → Reads (list_in w one) (spell a ++ each_behind w spell others) (a ∷ others) ends
list-reads w one spell middle ends between a others all =
    counted (λ turns ts. onto (one ts) (λ first rest. onto (further w one turns rest) (put first))) _ _ ends (length others) fits (λ turns short.
    then_reads _ all.0 (items-begin w spell middle ends a between others)
    (last_reads (λ more. a ∷ more) (further-reads w one spell middle ends between others all.1 turns short)))
  where
    fits : length others ≤ marks (spell a ++ each_behind w spell others)
    fits =
        let k : length others ≤ marks (each_behind w spell others) = each-fits w spell others in
        let e : marks (spell a ++ each_behind w spell others) ≡ marks (spell a) + marks (each_behind w spell others) =
        marks-append (spell a) (each_behind w spell others) in omega arith
