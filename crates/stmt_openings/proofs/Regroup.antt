-- What is read in one go, read as an opening and what follows it.
use Rattle.std.proofs.Common.{◌≡◌, ℕ, ◌||◌, Bool, true, false, if◌then◌else◌, List, [], ◌∷◌, Some, None, refl, ap, sym, ◌∙◌}
use Rattle.vdm_kinds.specs.declared.place.Place.{Place}
use Rattle.vdm_kinds.specs.declared.sign.Sign.TheVariants.{Equal}
use Rattle.abstract_syntax.specs.Expressions.{PatternTree}
use Rattle.abstract_syntax.specs.Statements.{DclTree, StmtTree, always_after, block, trap_exit}
use Rattle.grammar_words.specs.declared.word.Word.TheVariants.{Colon, In, Operator, With}
use Rattle.grammar_words.specs.Tokens.{Token}
use Rattle.stmt_reading.specs.Leaves.{Read, onto, pattern_in, put, turns_for, word_in}
use Rattle.stmt_reading.specs.Statements.{always_in, block_in, block_rest, dcls_in, in_body, is_there, let_bind, let_definitions, let_in_stmt, stmts_tree, trap_in}
use Rattle.stmt_openings.specs.Between.{stmts_in, two_in}

module _ (one : List Token → Read StmtTree) where
  put-on : {B : Type 0} (next : List StmtTree → List Token → Read B) (s : StmtTree) (read : Read (List StmtTree))
      → onto read (λ others b. next (s ∷ others) b) ≡ onto (onto read (put s)) next
  put-on next s None = refl
  put-on next s (Some (others, b)) = refl

  first-on : {B : Type 0} (next : List StmtTree → List Token → Read B) (turns : ℕ) (read : Read StmtTree)
      → onto read (λ s a. onto (block_rest one turns a) (λ others b. next (s ∷ others) b)) ≡ onto (onto read (λ s a. onto (block_rest one turns a) (put s))) next
  first-on next turns None = refl
  first-on next turns (Some (s, a)) = put-on next s (block_rest one turns a)

  pub block-in : (place : Place) (tokens a : List Token) (locals : List DclTree) (turns : ℕ) → turns ≡ turns_for tokens → dcls_in (turns_for tokens) tokens ≡ Some (locals, a)
      → block_in one place tokens ≡ onto (stmts_in one turns a) (λ ss b. Some (block locals (stmts_tree ss) place, b))
  block-in place tokens a locals turns all dcls =
      (rw dcls refl) ∙ first-on (λ ss b. Some (block locals (stmts_tree ss) place, b)) (turns_for tokens) (one a)
      ∙ ap (λ n. onto (stmts_in one n a) (λ ss b. Some (block locals (stmts_tree ss) place, b))) (sym all)

  second-on : (made : StmtTree → StmtTree → StmtTree) (first : StmtTree) (read : Read StmtTree)
      → onto read (λ s b. Some (made first s, b)) ≡ onto {A = StmtTree × StmtTree} (onto read (λ s c. Some ((first, s), c))) (λ both c. Some (made both.0 both.1, c))
  second-on made first None = refl
  second-on made first (Some (s, b)) = refl

  in-on : (made : StmtTree → StmtTree → StmtTree) (first : StmtTree) (read : Read Place)
      → onto read (λ place a. onto (one a) (λ s b. Some (made first s, b)))
      ≡ onto {A = StmtTree × StmtTree} (onto read (λ place b. onto (one b) (λ s c. Some ((first, s), c)))) (λ both c. Some (made both.0 both.1, c))
  in-on made first None = refl
  in-on made first (Some (place, b)) = second-on made first (one b)

  both-on : (made : StmtTree → StmtTree → StmtTree) (read : Read StmtTree)
      → onto read (λ first a. in_body one (made first) a)
      ≡ onto {A = StmtTree × StmtTree} (onto read (λ first a. onto (word_in In a) (λ place b. onto (one b) (λ s c. Some ((first, s), c))))) (λ both c. Some (made both.0 both.1, c))
  both-on made None = refl
  both-on made (Some (first, a)) = in-on made first (word_in In a)

  pub always-in : (place : Place) (tokens : List Token)
      → always_in one place tokens ≡ onto (two_in one tokens) (λ both a. Some (always_after both.0 both.1 place, a))
  always-in place tokens = both-on (λ last s. always_after last s place) (one tokens)

  pub trap-in : (place : Place) (tokens a b : List Token) (p : PatternTree) (with_place : Place) → pattern_in tokens ≡ Some (p, a) → word_in With a ≡ Some (with_place, b)
      → trap_in one place tokens ≡ onto (two_in one b) (λ both c. Some (trap_exit p both.0 both.1 place, c))
  trap-in place tokens a b p with_place pattern word = (rw pattern (rw word refl)) ∙ both-on (λ handler s. trap_exit p handler s place) (one b)

  pub let-definitions : (place : Place) (tokens a : List Token) (p : PatternTree) → pattern_in tokens ≡ Some (p, a)
      → (is_there (word_in Colon a) || is_there (word_in (Operator Equal) a)) ≡ true → let_in_stmt one place tokens ≡ let_definitions one place p a
  let-definitions place tokens a p pattern begins = rw pattern (rw begins refl)

  pub let-bind : (place : Place) (tokens a : List Token) (p : PatternTree) → pattern_in tokens ≡ Some (p, a)
      → (is_there (word_in Colon a) || is_there (word_in (Operator Equal) a)) ≡ false → let_in_stmt one place tokens ≡ let_bind one place p a
  let-bind place tokens a p pattern begins = rw pattern (rw begins refl)
