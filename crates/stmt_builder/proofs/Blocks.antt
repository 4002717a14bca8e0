-- The statements of a block, one statement on and at its end.
use Rattle.std.proofs.Common.{◌≡◌, ℕ, suc, Bool, true, false, List, [], Some, None, refl, ap, sym, ◌∙◌}
use Rattle.std.proofs.lemmas.List.{append-nil}
use Rattle.vdm_kinds.specs.declared.place.Place.{Place}
use Rattle.abstract_syntax.specs.Statements.{StmtTree}
use Rattle.grammar_words.specs.declared.word.Word.TheVariants.{CloseRound, Semicolon}
use Rattle.grammar_words.specs.Tokens.{Token}
use Rattle.stmt_reading.specs.Leaves.{Read, onto, choice, put, word_in}
use Rattle.stmt_reading.specs.Statements.{block_rest}
use Rattle.stmt_parts.specs.Lists.{added, one_added}
use Rattle.stmt_parts.proofs.Lists.{behind-first, behind-one, none-behind}
use Rattle.stmt_openings.specs.Between.{closing_in, stmts_in}

module _ (one : List Token → Read StmtTree) where
  -- behind the `)`, or the `;` before a statement
  abbrev continued : ℕ → Bool → List Token → Read (List StmtTree)
  continued m true a = Some ([], a)
  continued m false a = onto (one a) (λ s b. onto (block_rest one m b) (put s))

  behind-semicolon : (m : ℕ) (a : List Token) (read : Read Place)
      → choice read (λ close b. Some ([], b)) (continued m false a) ≡ onto (choice read (λ close b. Some (true, b)) (Some (false, a))) (continued m)
  behind-semicolon m a None = refl
  behind-semicolon m a (Some (place, b)) = refl

  at-semicolon : (m : ℕ) (read : Read Place)
      → onto read (λ semicolon a. choice (word_in CloseRound a) (λ close b. Some ([], b)) (continued m false a))
      ≡ onto (onto read (λ semicolon a. choice (word_in CloseRound a) (λ close b. Some (true, b)) (Some (false, a)))) (continued m)
  at-semicolon m None = refl
  at-semicolon m (Some (place, a)) = behind-semicolon m a (word_in CloseRound a)

  at-close : (m : ℕ) (tokens : List Token) (read : Read Place)
      → choice read (λ close a. Some ([], a)) (onto (word_in Semicolon tokens) (λ semicolon a. choice (word_in CloseRound a) (λ close b. Some ([], b)) (continued m false a)))
      ≡ onto (choice read (λ close a. Some (true, a)) (onto (word_in Semicolon tokens) (λ semicolon a. choice (word_in CloseRound a) (λ close b. Some (true, b)) (Some (false, a))))) (continued m)
  at-close m tokens None = at-semicolon m (word_in Semicolon tokens)
  at-close m tokens (Some (place, a)) = refl

  rest-is : (n m : ℕ) (tokens : List Token) → n ≡ suc m → block_rest one n tokens ≡ onto (closing_in tokens) (continued m)
  rest-is n m tokens more = ap (λ k. block_rest one k tokens) more ∙ at-close m tokens (word_in CloseRound tokens)

  closed-is : (xs : List StmtTree) (n m : ℕ) (tokens a : List Token) (closed which : Bool) → n ≡ suc m → closing_in tokens ≡ Some (closed, a) → closed ≡ which
      → added xs (block_rest one n tokens) ≡ added xs (continued m which a)
  closed-is xs n m tokens a closed which more closing is =
      ap (added xs) (rest-is n m tokens more ∙ ap (λ read. onto read (continued m)) closing ∙ ap (λ b. continued m b a) is)

  pub block-more : (xs ys : List StmtTree) (n m : ℕ) (tokens a b : List Token) (closed : Bool) → n ≡ suc m → closing_in tokens ≡ Some (closed, a) → closed ≡ false
      → one_added xs (one a) ≡ Some (ys, b) → added ys (block_rest one m b) ≡ added xs (block_rest one n tokens)
  block-more xs ys n m tokens a b closed more closing is read_it =
      behind-one (block_rest one m) xs ys b (one a) read_it ∙ sym (closed-is xs n m tokens a closed false more closing is)

  pub block-refused : (xs : List StmtTree) (n m : ℕ) (tokens a : List Token) (closed : Bool) → n ≡ suc m → closing_in tokens ≡ Some (closed, a) → closed ≡ false
      → one_added xs (one a) ≡ None → added xs (block_rest one n tokens) ≡ None
  block-refused xs n m tokens a closed more closing is none =
      closed-is xs n m tokens a closed false more closing is ∙ none-behind (block_rest one m) xs (one a) none

  pub block-unclosed : (xs : List StmtTree) (n m : ℕ) (tokens : List Token) → n ≡ suc m → closing_in tokens ≡ None → added xs (block_rest one n tokens) ≡ None
  block-unclosed xs n m tokens more none = ap (added xs) (rest-is n m tokens more ∙ ap (λ read. onto read (continued m)) none)

  pub block-end : (xs : List StmtTree) (n m : ℕ) (tokens a : List Token) (closed : Bool) → n ≡ suc m → closing_in tokens ≡ Some (closed, a) → closed ≡ true
      → added xs (block_rest one n tokens) ≡ Some (xs, a)
  block-end xs n m tokens a closed more closing is =
      closed-is xs n m tokens a closed true more closing is ∙ ap (λ all. Some (all, a)) (append-nil xs)

  pub block-begun : (turns : ℕ) (ys : List StmtTree) (tokens b : List Token) → one_added [] (one tokens) ≡ Some (ys, b)
      → added ys (block_rest one turns b) ≡ stmts_in one turns tokens
  block-begun turns ys tokens b read_it = behind-first (block_rest one turns) ys b (one tokens) read_it
