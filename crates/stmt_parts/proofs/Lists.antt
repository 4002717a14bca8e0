-- Lists that are read one by one, one item on and at their end.
use Rattle.std.proofs.Common.{◌≡◌, ℕ, suc, List, [], ◌∷◌, ◌++◌, Some, None, refl, ap, sym, ◌∙◌}
use Rattle.std.proofs.lemmas.List.{append_assoc, append-nil}
use Rattle.vdm_kinds.specs.declared.place.Place.{Place}
use Rattle.abstract_syntax.specs.Statements.{LocalTree, DclTree}
use Rattle.grammar_words.specs.declared.word.Word.{Word}
use Rattle.grammar_words.specs.declared.word.Word.TheVariants.{Comma, Dcl, Semicolon}
use Rattle.grammar_words.specs.Tokens.{Token}
use Rattle.stmt_reading.specs.Leaves.{Read, onto, put, further, list_in, turns_for, word_in}
use Rattle.stmt_reading.specs.Statements.{dcls_in, local_in}
use Rattle.stmt_parts.specs.Lists.{added, dcl_in, one_added}

module _ {A : Type 0} where
  added-put : (xs : List A) (x : A) (read : Read (List A)) → added (xs ++ x ∷ []) read ≡ added xs (onto read (put x))
  added-put xs x None = refl
  added-put xs x (Some (others, rest)) = ap (λ all. Some (all, rest)) (append_assoc xs (x ∷ []) others)

  -- what follows an item that was read is added behind it
  pub behind-one : (next : List Token → Read (List A)) (xs ys : List A) (b : List Token) (read : Read A) → one_added xs read ≡ Some (ys, b)
      → added ys (next b) ≡ added xs (onto read (λ x rest. onto (next rest) (put x)))
  behind-one next xs ys b None read_it = cc
  behind-one next xs ys b (Some (x, rest)) read_it =
      let both : (ys, b) ≡ (xs ++ x ∷ [], rest) = cc in
      ap (λ (r : List A × List Token). added r.0 (next r.1)) both ∙ added-put xs x (next rest)

  pub none-behind : (next : List Token → Read (List A)) (xs : List A) (read : Read A) → one_added xs read ≡ None
      → added xs (onto read (λ x rest. onto (next rest) (put x))) ≡ None
  none-behind next xs None none = refl
  none-behind next xs (Some (x, rest)) none = cc

  pub whole : (read : Read (List A)) → added [] read ≡ read
  whole None = refl
  whole (Some found) = refl

  -- what follows the first item
  pub behind-first : (next : List Token → Read (List A)) (ys : List A) (b : List Token) (read : Read A) → one_added [] read ≡ Some (ys, b)
      → added ys (next b) ≡ onto read (λ x rest. onto (next rest) (put x))
  behind-first next ys b read read_it = behind-one next [] ys b read read_it ∙ whole (onto read (λ x rest. onto (next rest) (put x)))

  module _ (between : Word) (one : List Token → Read A) where
    pub further-more : (xs ys : List A) (n m : ℕ) (tokens a b : List Token) (place : Place) → n ≡ suc m → word_in between tokens ≡ Some (place, a)
        → one_added xs (one a) ≡ Some (ys, b) → added ys (further between one m b) ≡ added xs (further between one n tokens)
    further-more xs ys n m tokens a b place more comes read_it =
        behind-one (further between one m) xs ys b (one a) read_it ∙ sym (rw more (rw comes refl))

    pub further-refused : (xs : List A) (n m : ℕ) (tokens a : List Token) (place : Place) → n ≡ suc m → word_in between tokens ≡ Some (place, a)
        → one_added xs (one a) ≡ None → added xs (further between one n tokens) ≡ None
    further-refused xs n m tokens a place more comes none =
        (rw more (rw comes refl)) ∙ none-behind (further between one m) xs (one a) none

    pub further-end : (xs : List A) (n m : ℕ) (tokens : List Token) → n ≡ suc m → word_in between tokens ≡ None
        → added xs (further between one n tokens) ≡ Some (xs, tokens)
    further-end xs n m tokens more ends = (rw more (rw ends refl)) ∙ ap (λ all. Some (all, tokens)) (append-nil xs)

    pub list-begun : (ys : List A) (tokens b : List Token) (turns : ℕ) → turns ≡ turns_for tokens → one_added [] (one tokens) ≡ Some (ys, b)
        → added ys (further between one turns b) ≡ list_in between one tokens
    list-begun ys tokens b turns all read_it =
        ap (λ n. added ys (further between one n b)) all ∙ behind-first (further between one (turns_for tokens)) ys b (one tokens) read_it

-- ---- the local variables of a block

-- a `dcl` with its `;`, and what follows
semicolon-step : (m : ℕ) (place : Place) (locals : List LocalTree) (read : Read Place)
    → onto (onto read (λ semicolon b. Some (record { locals = locals; place = place }, b))) (λ (d : DclTree) rest. onto (dcls_in m rest) (put d))
    ≡ onto read (λ semicolon b. onto (dcls_in m b) (λ others c. Some (record { locals = locals; place = place } ∷ others, c)))
semicolon-step m place locals None = refl
semicolon-step m place locals (Some found) = refl

dcls-step : (m : ℕ) (a : List Token) (place : Place) (read : Read (List LocalTree))
    → onto (onto read (λ locals b. onto (word_in Semicolon b) (λ semicolon c. Some (record { locals = locals; place = place }, c)))) (λ (d : DclTree) rest. onto (dcls_in m rest) (put d))
    ≡ onto read (λ locals b. onto (word_in Semicolon b) (λ semicolon c. onto (dcls_in m c) (λ others d. Some (record { locals = locals; place = place } ∷ others, d))))
dcls-step m a place None = refl
dcls-step m a place (Some (locals, b)) = semicolon-step m place locals (word_in Semicolon b)

pub dcls-more : (xs ys : List DclTree) (n m : ℕ) (tokens a b : List Token) (place : Place) → n ≡ suc m → word_in Dcl tokens ≡ Some (place, a)
    → one_added xs (dcl_in place a) ≡ Some (ys, b) → added ys (dcls_in m b) ≡ added xs (dcls_in n tokens)
dcls-more xs ys n m tokens a b place more comes read_it =
    behind-one (dcls_in m) xs ys b (dcl_in place a) read_it ∙ ap (added xs) (dcls-step m a place (list_in Comma local_in a))
    ∙ sym (rw more (rw comes refl))

pub dcls-refused : (xs : List DclTree) (n m : ℕ) (tokens a : List Token) (place : Place) → n ≡ suc m → word_in Dcl tokens ≡ Some (place, a)
    → one_added xs (dcl_in place a) ≡ None → added xs (dcls_in n tokens) ≡ None
dcls-refused xs n m tokens a place more comes none =
    (rw more (rw comes refl)) ∙ ap (added xs) (sym (dcls-step m a place (list_in Comma local_in a))) ∙ none-behind (dcls_in m) xs (dcl_in place a) none

pub dcls-end : (xs : List DclTree) (n m : ℕ) (tokens : List Token) → n ≡ suc m → word_in Dcl tokens ≡ None
    → added xs (dcls_in n tokens) ≡ Some (xs, tokens)
dcls-end xs n m tokens more ends = (rw more (rw ends refl)) ∙ ap (λ all. Some (all, tokens)) (append-nil xs)
