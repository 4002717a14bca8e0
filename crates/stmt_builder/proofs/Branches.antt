-- Each `elseif`, one on and at their end.
use Rattle.std.proofs.Common.{◌≡◌, ℕ, suc, List, [], ◌∷◌, ◌++◌, Option, Some, None, refl, ap, sym, ◌∙◌}
use Rattle.vdm_kinds.specs.declared.place.Place.{Place}
use Rattle.abstract_syntax.specs.Expressions.{ExprTree}
use Rattle.abstract_syntax.specs.Statements.{StmtTree, StmtBranches, no_stmt_branches, one_stmt_branch}
use Rattle.grammar_words.specs.declared.word.Word.TheVariants.{Elseif, Then}
use Rattle.grammar_words.specs.Tokens.{Token}
use Rattle.stmt_reading.specs.Leaves.{Read, onto, choice, expr_in, word_in}
use Rattle.stmt_reading.specs.Statements.{branches_in}
use Rattle.stmt_openings.specs.Between.{branch_in}
use Rattle.stmt_builder.specs.Lists.{BranchRow, branches_before, branches_on}

before-push : (xs : List BranchRow) (x : BranchRow) (others : StmtBranches) → branches_before (xs ++ x ∷ []) others ≡ branches_before xs (one_stmt_branch x.0 x.1 others)
before-push [] x others = refl
before-push (y ∷ xs) x others = ap (one_stmt_branch y.0 y.1) (before-push xs x others)

on-push : (xs : List BranchRow) (x : BranchRow) (read : Read StmtBranches)
    → branches_on (xs ++ x ∷ []) read ≡ branches_on xs (onto read (λ others rest. Some (one_stmt_branch x.0 x.1 others, rest)))
on-push xs x None = refl
on-push xs x (Some (others, rest)) = ap (λ all. Some (all, rest)) (before-push xs x others)

pub branches-whole : (read : Read StmtBranches) → branches_on [] read ≡ read
branches-whole None = refl
branches-whole (Some found) = refl

module _ (one : List Token → Read StmtTree) where
  abbrev onward : ℕ → Option ExprTree → List Token → Read StmtBranches
  onward m None a = Some (no_stmt_branches, a)
  onward m (Some condition) a = onto (one a) (λ s b. onto (branches_in one m b) (λ others c. Some (one_stmt_branch condition s others, c)))

  at-then : (m : ℕ) (condition : ExprTree) (read : Read Place)
      → onto read (λ then_place c. onward m (Some condition) c) ≡ onto (onto read (λ then_place c. Some (Some condition, c))) (onward m)
  at-then m condition None = refl
  at-then m condition (Some (place, c)) = refl

  at-condition : (m : ℕ) (read : Read ExprTree)
      → onto read (λ condition b. onto (word_in Then b) (λ then_place c. onward m (Some condition) c))
      ≡ onto (onto read (λ condition b. onto (word_in Then b) (λ then_place c. Some (Some condition, c)))) (onward m)
  at-condition m None = refl
  at-condition m (Some (condition, b)) = at-then m condition (word_in Then b)

  at-elseif : (m : ℕ) (tokens : List Token) (read : Read Place)
      → choice read (λ place a. onto (expr_in a) (λ condition b. onto (word_in Then b) (λ then_place c. onward m (Some condition) c))) (Some (no_stmt_branches, tokens))
      ≡ onto (choice read (λ place a. onto (expr_in a) (λ condition b. onto (word_in Then b) (λ then_place c. Some (Some condition, c)))) (Some (None, tokens))) (onward m)
  at-elseif m tokens None = refl
  at-elseif m tokens (Some (place, a)) = at-condition m (expr_in a)

  branches-is : (n m : ℕ) (tokens : List Token) → n ≡ suc m → branches_in one n tokens ≡ onto (branch_in tokens) (onward m)
  branches-is n m tokens more = ap (λ k. branches_in one k tokens) more ∙ at-elseif m tokens (word_in Elseif tokens)

  found-is : (xs : List BranchRow) (n m : ℕ) (tokens a : List Token) (found : Option ExprTree) → n ≡ suc m → branch_in tokens ≡ Some (found, a)
      → branches_on xs (branches_in one n tokens) ≡ branches_on xs (onward m found a)
  found-is xs n m tokens a found more comes = ap (branches_on xs) (branches-is n m tokens more ∙ ap (λ read. onto read (onward m)) comes)

  body-is : (xs : List BranchRow) (m : ℕ) (a b : List Token) (condition : ExprTree) (s : StmtTree) → one a ≡ Some (s, b)
      → branches_on (xs ++ (condition, s) ∷ []) (branches_in one m b) ≡ branches_on xs (onward m (Some condition) a)
  body-is xs m a b condition s body =
      on-push xs (condition, s) (branches_in one m b)
      ∙ ap (λ read. branches_on xs (onto read (λ s b. onto (branches_in one m b) (λ others c. Some (one_stmt_branch condition s others, c))))) (sym body)

  pub branches-more : (xs ys : List BranchRow) (n m : ℕ) (tokens a b : List Token) (condition : ExprTree) (s : StmtTree) → n ≡ suc m
      → branch_in tokens ≡ Some (Some condition, a) → one a ≡ Some (s, b) → ys ≡ xs ++ (condition, s) ∷ []
      → branches_on ys (branches_in one m b) ≡ branches_on xs (branches_in one n tokens)
  branches-more xs ys n m tokens a b condition s more comes body pushed =
      ap (λ zs. branches_on zs (branches_in one m b)) pushed ∙ body-is xs m a b condition s body ∙ sym (found-is xs n m tokens a (Some condition) more comes)

  pub branches-refused : (xs : List BranchRow) (n m : ℕ) (tokens a : List Token) (condition : ExprTree) → n ≡ suc m
      → branch_in tokens ≡ Some (Some condition, a) → one a ≡ None → branches_on xs (branches_in one n tokens) ≡ None
  branches-refused xs n m tokens a condition more comes none =
      found-is xs n m tokens a (Some condition) more comes
      ∙ ap (λ read. branches_on xs (onto read (λ s b. onto (branches_in one m b) (λ others c. Some (one_stmt_branch condition s others, c))))) none

  pub branches-unread : (xs : List BranchRow) (n m : ℕ) (tokens : List Token) → n ≡ suc m → branch_in tokens ≡ None
      → branches_on xs (branches_in one n tokens) ≡ None
  branches-unread xs n m tokens more none = ap (branches_on xs) (branches-is n m tokens more ∙ ap (λ read. onto read (onward m)) none)

  pub branches-end : (xs : List BranchRow) (n m : ℕ) (tokens a : List Token) → n ≡ suc m → branch_in tokens ≡ Some (None, a)
      → branches_on xs (branches_in one n tokens) ≡ Some (branches_before xs no_stmt_branches, a)
  branches-end xs n m tokens a more comes = found-is xs n m tokens a None more comes
