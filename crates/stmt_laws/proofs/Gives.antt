-- What is read is written so: what holds of all that a reading gives, one combinator after the other.
use Rattle.std.proofs.Common.{◌≡◌, ℕ, zero, suc, Bool, true, false, if◌then◌else◌, List, [], ◌∷◌, ◌++◌, take, drop, Option, Some, None, refl, ap, sym, subst, arith}
use Rattle.std.proofs.lemmas.List.{take-append-drop}
use Rattle.vdm_kinds.specs.declared.name_at.NameAt.{NameAt}
use Rattle.vdm_kinds.specs.declared.place.Place.{Place}
use Rattle.grammar_words.specs.declared.word.Word.{Word}
use Rattle.grammar_words.specs.Tokens.{Token, identifier, quote, whole as whole_token, character, text, make_named, is_named, plain}
use Rattle.grammar_words.specs.Written.{Written, at, word, number, AreTokens}
use Rattle.grammar_fronts.specs.declared.kind.Kind.{Kind}
use Rattle.stmt_trees.specs.Pieces.{Piece, must, again, one_of, key, mark, may, whole, Spelled}
use Rattle.stmt_trees.specs.ClassSpelling.{each_behind, list_spelling}
use Rattle.stmt_trees.specs.ClassGrammar.{AreAll}
use Rattle.stmt_reading.specs.Leaves.{Read, onto, choice, with_rest, front_length, leaf, is_word, word_in, name_in, further, list_in, turns_for}
use Rattle.stmt_laws.proofs.WordNumbers.{word-found}

-- all that a reading gives has this
pub record Gives {A : Type 0} (r : Read A) (P : A → List Token → Type 0) : Type 0 where
  pub gives : (a : A) (rest : List Token) → r ≡ Some (a, rest) → P a rest

same_found : {A : Type 0} (x y : A × List Token) → Some x ≡ Some y → x ≡ y
same_found x y e = cc

pub gives_this : {A : Type 0} {P : A → List Token → Type 0} (a : A) (rest : List Token) → P a rest → Gives (Some (a, rest)) P
gives_this {P = P} a rest h = record { gives = λ b more e. subst (λ x. P x.0 x.1) (same_found (a, rest) (b, more) e) h }

pub gives_none : {A : Type 0} {P : A → List Token → Type 0} → Gives None P
gives_none = record { gives = λ b more e. absurd (cc) }

onto_of : {A B : Type 0} {P : A → List Token → Type 0} {Q : B → List Token → Type 0} (r : Read A) (q : A → List Token → Read B) → Gives r P
    → ((a : A) (rest : List Token) → P a rest → Gives (q a rest) Q) → Gives (onto r q) Q
onto_of None q first more = gives_none
onto_of (Some (a, rest)) q first more = more a rest (first.gives a rest refl)

pub gives_onto : {A B : Type 0} {r : Read A} {P : A → List Token → Type 0} {Q : B → List Token → Type 0} (q : A → List Token → Read B)
    → Gives r P → ((a : A) (rest : List Token) → P a rest → Gives (q a rest) Q) → Gives (onto r q) Q
gives_onto {r = r} q first more = onto_of r q first more

choice_of : {A B : Type 0} {P : A → List Token → Type 0} {Q : B → List Token → Type 0} (r : Read A) (q : A → List Token → Read B) (other : Read B)
    → Gives r P → ((a : A) (rest : List Token) → P a rest → Gives (q a rest) Q) → (r ≡ None → Gives other Q) → Gives (choice r q other) Q
choice_of None q other first more less = less refl
choice_of (Some (a, rest)) q other first more less = more a rest (first.gives a rest refl)

pub gives_choice : {A B : Type 0} {r : Read A} {P : A → List Token → Type 0} {Q : B → List Token → Type 0} (q : A → List Token → Read B)
    (other : Read B) → Gives r P → ((a : A) (rest : List Token) → P a rest → Gives (q a rest) Q) → (r ≡ None → Gives other Q)
    → Gives (choice r q other) Q
gives_choice {r = r} q other first more less = choice_of r q other first more less

pub gives_more : {A : Type 0} {r : Read A} {P Q : A → List Token → Type 0} → ((a : A) (rest : List Token) → P a rest → Q a rest) → Gives r P → Gives r Q
gives_more more first = record { gives = λ a rest e. more a rest (first.gives a rest e) }

-- ---- tokens that are spelled so

pub record Spells (tokens : List Token) (pieces : List Piece) (rest : List Token) : Type 0 where
  pub is : Spelled tokens pieces rest

join : (tokens middle rest : List Token) (a b : List Piece) → Spelled tokens a middle → Spelled middle b rest → Spelled tokens (a ++ b) rest
join tokens middle rest [] b h k = subst (λ ts. Spelled ts b rest) (sym h) k
join tokens middle rest (must w ∷ a) b h k = (h.0, h.1, join h.0 middle rest a b h.2 k)
join tokens middle rest (again name ∷ a) b h k = (h.0, h.1, h.2, join h.0 middle rest a b h.3 k)
join tokens middle rest (one_of forms ∷ a) b h k = (h.0, h.1, h.2, h.3, join h.1 middle rest a b h.4 k)

pub two : {tokens middle rest : List Token} {a b : List Piece} → Spells tokens a middle → Spells middle b rest → Spells tokens (a ++ b) rest
two {tokens = tokens} {middle = middle} {rest = rest} {a = a} {b = b} h k = record { is = join tokens middle rest a b h.is k.is }

pub ended : {rest : List Token} → Spells rest [] rest
ended = record { is = refl }

pub begun : {tokens rest : List Token} {a : List Piece} {w : Word} {place : Place} → Spells tokens a rest → Spells (plain w place ∷ tokens) (key w place ∷ a) rest
begun {tokens = tokens} h = record { is = (tokens, refl, h.is) }

pub respelled : {tokens rest : List Token} {a b : List Piece} → a ≡ b → Spells tokens a rest → Spells tokens b rest
respelled {tokens = tokens} {rest = rest} e h = subst (λ ps. Spells tokens ps rest) e h

-- a word at the front
pub record AtWord (w : Word) (tokens : List Token) (place : Place) (rest : List Token) : Type 0 where
  pub is : tokens ≡ plain w place ∷ rest

pub marked : {w : Word} {tokens middle rest : List Token} {place : Place} {a : List Piece} → AtWord w tokens place middle → Spells middle a rest
    → Spells tokens (mark w ∷ a) rest
marked {middle = middle} {place = place} f h = record { is = (middle, (place, f.is), h.is) }

pub keyed : {w : Word} {tokens middle rest : List Token} {place : Place} {a : List Piece} → AtWord w tokens place middle → Spells middle a rest
    → Spells tokens (key w place ∷ a) rest
keyed {middle = middle} f h = record { is = (middle, f.is, h.is) }

-- a name at the front
pub record AtName (tokens : List Token) (name : NameAt) (rest : List Token) : Type 0 where
  pub is : tokens ≡ identifier name.name name.place ∷ rest

pub named_at : {tokens middle rest : List Token} {name : NameAt} {a : List Piece} → AtName tokens name middle → Spells middle a rest
    → Spells tokens (must (at (identifier name.name name.place)) ∷ a) rest
named_at {middle = middle} f h = record { is = (middle, f.is, h.is) }

-- a word that was left out, and one that was not
pub left_out : {w : Word} {tokens rest : List Token} {a : List Piece} → Spells tokens a rest → Spells tokens (may w ∷ a) rest
left_out {tokens = tokens} h = record { is = ([], tokens, (0, omega arith, refl), refl, h.is) }

pub not_left_out : {w : Word} {tokens middle rest : List Token} {place : Place} {a : List Piece} → AtWord w tokens place middle
    → Spells middle a rest → Spells tokens (may w ∷ a) rest
not_left_out {w = w} {middle = middle} {place = place} f h =
    record { is = (word w ∷ [], middle, (1, omega arith, refl), (middle, (place, f.is), refl), h.is) }

-- ---- words and names

word_given : (w found : Word) (place : Place) (tokens : List Token) (b : Bool) → is_word w found ≡ b
    → Gives (if b then Some (place, tokens) else None) (AtWord w (plain found place ∷ tokens))
word_given w found place tokens true e =
    gives_this place tokens (record { is = ap (λ x. plain x place ∷ tokens) (word-found w found e) })
word_given w found place tokens false e = gives_none

pub gives_word : (w : Word) (tokens : List Token) → Gives (word_in w tokens) (AtWord w tokens)
gives_word w [] = gives_none
gives_word w (plain found place ∷ tokens) = word_given w found place tokens (is_word w found) refl
gives_word w (identifier n p ∷ tokens) = gives_none
gives_word w (quote n p ∷ tokens) = gives_none
gives_word w (whole_token n p ∷ tokens) = gives_none
gives_word w (character n p ∷ tokens) = gives_none
gives_word w (text n p ∷ tokens) = gives_none
gives_word w (make_named n p ∷ tokens) = gives_none
gives_word w (is_named n p ∷ tokens) = gives_none

pub gives_name : (tokens : List Token) → Gives (name_in tokens) (AtName tokens)
gives_name [] = gives_none
gives_name (identifier n p ∷ tokens) = gives_this (record { name = n; place = p }) tokens (record { is = refl })
gives_name (quote n p ∷ tokens) = gives_none
gives_name (whole_token n p ∷ tokens) = gives_none
gives_name (character n p ∷ tokens) = gives_none
gives_name (text n p ∷ tokens) = gives_none
gives_name (make_named n p ∷ tokens) = gives_none
gives_name (is_named n p ∷ tokens) = gives_none
gives_name (plain w p ∷ tokens) = gives_none

-- ---- what was found: how it is written, and that the grammar has it

pub record Found {A : Type 0} (spell : A → List Piece) (Good : A → Type 0) (tokens : List Token) (a : A) (rest : List Token) : Type 0 where
  pub spelled : Spells tokens (spell a) rest
  pub good : Good a

-- tokens of a leaf
written_so : (front rest : List Token) (ws : List Written) → AreTokens front ws → Spelled (front ++ rest) (whole ws) rest
written_so [] rest [] h = refl
written_so (t ∷ ts) rest (at kept ∷ ws) h = (ts ++ rest, ap (λ x. x ∷ (ts ++ rest)) h.0, written_so ts rest ws h.1)
written_so (t ∷ ts) rest (word w ∷ ws) h = (ts ++ rest, (h.0.0, ap (λ x. x ∷ (ts ++ rest)) h.0.1), written_so ts rest ws h.1)
written_so (t ∷ ts) rest (number n ∷ ws) h = (ts ++ rest, (h.0.0, ap (λ x. x ∷ (ts ++ rest)) h.0.1), written_so ts rest ws h.1)
written_so [] rest (w ∷ ws) h = absurd h
written_so (t ∷ ts) rest [] h = absurd h

rest_given : {A : Type 0} (found : Option A) (rest : List Token) (P : A → List Token → Type 0) → ((a : A) → found ≡ Some a → P a rest)
    → Gives (with_rest found rest) P
rest_given None rest P more = gives_none
rest_given (Some a) rest P more = gives_this a rest (more a refl)

pub gives_leaf : {A : Type 0} (k : Kind) (tree_of : List Token → Option A) (spell : A → List Written) (Good : A → Type 0)
    → ((front : List Token) (a : A) → tree_of front ≡ Some a → AreTokens front (spell a) × Good a) → (tokens : List Token)
    → Gives (leaf k tree_of tokens) (Found (λ (a : A). whole (spell a)) Good tokens)
gives_leaf k tree_of spell Good sound tokens =
    rest_given (tree_of (take (front_length k tokens) tokens)) (drop (front_length k tokens) tokens) (Found (λ a. whole (spell a)) Good tokens) (λ a e.
    let n = front_length k tokens in
    let h = sound (take n tokens) a e in
    record {
      spelled = record {
        is = subst (λ ts. Spelled ts (whole (spell a)) (drop n tokens)) (take-append-drop n tokens)
            (written_so (take n tokens) (drop n tokens) (spell a) h.0);
      };
      good = h.1;
    })

-- ---- lists

pub gives_further : {A : Type 0} (w : Word) (one : List Token → Read A) (spell : A → List Piece) (Good : A → Type 0)
    → ((ts : List Token) → Gives (one ts) (Found spell Good ts)) → (turns : ℕ) (tokens : List Token)
    → Gives (further w one turns tokens) (Found (each_behind w spell) (AreAll Good) tokens)
gives_further w one spell Good sound zero tokens = gives_none
gives_further w one spell Good sound (suc turns) tokens =
    gives_choice _ _ (gives_word w tokens) (λ place a f.
    gives_onto _ (sound a) (λ x b g.
    gives_onto _ (gives_further w one spell Good sound turns b) (λ others c h.
    gives_this (x ∷ others) c (record { spelled = marked f (two g.spelled h.spelled); good = (g.good, h.good) }))))
    (λ none. gives_this [] tokens (record { spelled = ended; good = tt }))

abbrev pub AreSome : {A : Type 0} → (A → Type 0) → List A → Type 0
AreSome Good [] = ⊥
AreSome Good (a ∷ others) = Good a × AreAll Good others

pub gives_list : {A : Type 0} (w : Word) (one : List Token → Read A) (spell : A → List Piece) (Good : A → Type 0)
    → ((ts : List Token) → Gives (one ts) (Found spell Good ts)) → (tokens : List Token)
    → Gives (list_in w one tokens) (Found (list_spelling w spell) (AreSome Good) tokens)
gives_list w one spell Good sound tokens =
    gives_onto _ (sound tokens) (λ x b g.
    gives_onto _ (gives_further w one spell Good sound (turns_for tokens) b) (λ others c h.
    gives_this (x ∷ others) c (record { spelled = two g.spelled h.spelled; good = (g.good, h.good) })))
