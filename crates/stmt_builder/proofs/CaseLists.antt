-- The alternatives of `cases`, one on and at their end.
use Rattle.std.proofs.Common.{◌≡◌, ℕ, suc, List, [], ◌∷◌, ◌++◌, Some, None, refl, ap, sym, ◌∙◌}
use Rattle.vdm_kinds.specs.declared.place.Place.{Place}
use Rattle.abstract_syntax.specs.Expressions.{PatternTrees}
use Rattle.abstract_syntax.specs.Statements.{StmtTree, StmtCases, given_stmt, no_stmt, no_stmt_cases, one_stmt_case}
use Rattle.grammar_words.specs.declared.word.Word.TheVariants.{Arrow, Comma, End, Others}
use Rattle.grammar_words.specs.Tokens.{Token}
use Rattle.stmt_reading.specs.Leaves.{Read, onto, choice, word_in}
use Rattle.stmt_reading.specs.Statements.{CasesRead, cases_in, others_in, patterns_in}
use Rattle.stmt_openings.specs.Between.{behind_case_in, case_in}
use Rattle.stmt_openings.specs.declared.between.AfterCase.{AfterCase}
use Rattle.stmt_openings.specs.declared.between.AfterCase.TheVariants as after
use Rattle.stmt_builder.specs.Lists.{CaseRow, alternative_in, case_added, cases_before, cases_on, last_in}

-- an alternative before others, and what stands behind `others`
abbrev with_row : CaseRow → CasesRead → List Token → Read CasesRead
with_row row more rest = Some ((one_stmt_case row.0 row.1 more.0, more.1), rest)

abbrev others_found : StmtTree → List Token → Read CasesRead
others_found s rest = Some ((no_stmt_cases, given_stmt s), rest)

before-push : (xs : List CaseRow) (x : CaseRow) (others : StmtCases) → cases_before (xs ++ x ∷ []) others ≡ cases_before xs (one_stmt_case x.0 x.1 others)
before-push [] x others = refl
before-push (y ∷ xs) x others = ap (one_stmt_case y.0 y.1) (before-push xs x others)

on-push : (xs : List CaseRow) (x : CaseRow) (read : Read CasesRead)
    → cases_on (xs ++ x ∷ []) read ≡ cases_on xs (onto read (with_row x))
on-push xs x None = refl
on-push xs x (Some (more, rest)) = ap (λ all. Some ((all, more.1), rest)) (before-push xs x more.0)

pub cases-whole : (read : Read CasesRead) → cases_on [] read ≡ read
cases-whole None = refl
cases-whole (Some found) = refl

module _ (one : List Token → Read StmtTree) where
  -- what follows an alternative, and the whole with it
  abbrev left : ℕ → AfterCase → List Token → Read CasesRead
  left m after.Ends b = Some ((no_stmt_cases, no_stmt), b)
  left m after.Others b = onto (last_in one b) others_found
  left m after.Goes b = cases_in one m b

  abbrev onward : ℕ → CaseRow → AfterCase → List Token → Read CasesRead
  onward m row found b = onto (left m found b) (with_row row)

  at-end : (row : CaseRow) (s : StmtTree) (read : Read Place)
      → onto (onto read (λ end c. others_found s c)) (with_row row)
      ≡ onto (onto (onto read (λ end b. Some (s, b))) others_found) (with_row row)
  at-end row s None = refl
  at-end row s (Some found) = refl

  at-last : (row : CaseRow) (read : Read StmtTree)
      → onto (onto read (λ s b. onto (word_in End b) (λ end c. others_found s c))) (with_row row)
      ≡ onto (onto (onto read (λ s a. onto (word_in End a) (λ end b. Some (s, b)))) others_found) (with_row row)
  at-last row None = refl
  at-last row (Some (s, b)) = at-end row s (word_in End b)

  at-arrow : (m : ℕ) (row : CaseRow) (read : Read Place)
      → onto (onto read (λ place a. onto (one a) (λ s b. onto (word_in End b) (λ end c. others_found s c)))) (with_row row)
      ≡ onto (onto read (λ place c. Some (after.Others, c))) (onward m row)
  at-arrow m row None = refl
  at-arrow m row (Some (place, a)) = at-last row (one a)

  at-others : (m : ℕ) (row : CaseRow) (d : List Token) (read : Read Place)
      → onto (choice read (λ others e. others_in one e) (cases_in one m d)) (with_row row)
      ≡ onto (choice read (λ others b. onto (word_in Arrow b) (λ place c. Some (after.Others, c))) (Some (after.Goes, d))) (onward m row)
  at-others m row d None = refl
  at-others m row d (Some (place, e)) = at-arrow m row (word_in Arrow e)

  at-comma : (m : ℕ) (row : CaseRow) (read : Read Place)
      → onto read (λ comma d. onto (choice (word_in Others d) (λ others e. others_in one e) (cases_in one m d)) (with_row row))
      ≡ onto (onto read (λ comma a. choice (word_in Others a) (λ others b. onto (word_in Arrow b) (λ place c. Some (after.Others, c))) (Some (after.Goes, a)))) (onward m row)
  at-comma m row None = refl
  at-comma m row (Some (place, d)) = at-others m row d (word_in Others d)

  at-close : (m : ℕ) (row : CaseRow) (c : List Token) (read : Read Place)
      → choice read (λ end d. with_row row (no_stmt_cases, no_stmt) d)
      (onto (word_in Comma c) (λ comma d. onto (choice (word_in Others d) (λ others e. others_in one e) (cases_in one m d)) (with_row row)))
      ≡ onto (choice read (λ end a. Some (after.Ends, a)) (onto (word_in Comma c) (λ comma a. choice (word_in Others a) (λ others b. onto (word_in Arrow b) (λ place c. Some (after.Others, c))) (Some (after.Goes, a))))) (onward m row)
  at-close m row c None = at-comma m row (word_in Comma c)
  at-close m row c (Some (place, d)) = refl

  -- with what stands behind it
  after-row : (m : ℕ) (row : CaseRow) (read : Read AfterCase)
      → onto read (onward m row) ≡ onto {A = CaseRow × AfterCase} (onto read (λ found c. Some ((row, found), c))) (λ (found : CaseRow × AfterCase) c. onward m found.0 found.1 c)
  after-row m row None = refl
  after-row m row (Some found) = refl

  at-body : (m : ℕ) (ps : PatternTrees) (read : Read StmtTree)
      → onto read (λ s c. onto (behind_case_in c) (onward m (ps, s)))
      ≡ onto {A = CaseRow × AfterCase} (onto read (λ s b. onto (behind_case_in b) (λ found c. Some (((ps, s), found), c)))) (λ (found : CaseRow × AfterCase) c. onward m found.0 found.1 c)
  at-body m ps None = refl
  at-body m ps (Some (s, b)) = after-row m (ps, s) (behind_case_in b)

  at-patterns : (m : ℕ) (read : Read PatternTrees)
      → onto read (λ ps a. onto (one a) (λ s c. onto (behind_case_in c) (onward m (ps, s))))
      ≡ onto {A = CaseRow × AfterCase} (onto read (λ ps a. onto (one a) (λ s b. onto (behind_case_in b) (λ found c. Some (((ps, s), found), c))))) (λ (found : CaseRow × AfterCase) c. onward m found.0 found.1 c)
  at-patterns m None = refl
  at-patterns m (Some (ps, a)) = at-body m ps (one a)

  -- the definition, with the parts of `alternative_in`
  body-parts : (m : ℕ) (ps : PatternTrees) (read : Read StmtTree)
      → onto read (λ s c. choice (word_in End c) (λ end d. with_row (ps, s) (no_stmt_cases, no_stmt) d)
      (onto (word_in Comma c) (λ comma d. onto (choice (word_in Others d) (λ others e. others_in one e) (cases_in one m d)) (with_row (ps, s)))))
      ≡ onto read (λ s c. onto (behind_case_in c) (onward m (ps, s)))
  body-parts m ps None = refl
  body-parts m ps (Some (s, c)) = at-close m (ps, s) c (word_in End c)

  arrow-parts : (m : ℕ) (ps : PatternTrees) (read : Read Place)
      → onto read (λ place b. onto (one b) (λ s c. choice (word_in End c) (λ end d. with_row (ps, s) (no_stmt_cases, no_stmt) d)
      (onto (word_in Comma c) (λ comma d. onto (choice (word_in Others d) (λ others e. others_in one e) (cases_in one m d)) (with_row (ps, s))))))
      ≡ onto (onto read (λ place b. Some (ps, b))) (λ ps a. onto (one a) (λ s c. onto (behind_case_in c) (onward m (ps, s))))
  arrow-parts m ps None = refl
  arrow-parts m ps (Some (place, b)) = body-parts m ps (one b)

  patterns-parts : (m : ℕ) (read : Read PatternTrees)
      → onto read (λ ps a. onto (word_in Arrow a) (λ place b. onto (one b) (λ s c. choice (word_in End c) (λ end d. with_row (ps, s) (no_stmt_cases, no_stmt) d)
      (onto (word_in Comma c) (λ comma d. onto (choice (word_in Others d) (λ others e. others_in one e) (cases_in one m d)) (with_row (ps, s)))))))
      ≡ onto (onto read (λ ps a. onto (word_in Arrow a) (λ place b. Some (ps, b)))) (λ ps a. onto (one a) (λ s c. onto (behind_case_in c) (onward m (ps, s))))
  patterns-parts m None = refl
  patterns-parts m (Some (ps, a)) = arrow-parts m ps (word_in Arrow a)

  cases-is : (n m : ℕ) (tokens : List Token) → n ≡ suc m
      → cases_in one n tokens ≡ onto (alternative_in one tokens) (λ (found : CaseRow × AfterCase) c. onward m found.0 found.1 c)
  cases-is n m tokens more =
      ap (λ k. cases_in one k tokens) more ∙ patterns-parts m (patterns_in tokens) ∙ at-patterns m (case_in tokens)

  added-is : (m : ℕ) (xs ys : List CaseRow) (found : AfterCase) (b : List Token) (read : Read (CaseRow × AfterCase)) → case_added xs read ≡ Some ((ys, found), b)
      → cases_on xs (onto read (λ (found : CaseRow × AfterCase) c. onward m found.0 found.1 c)) ≡ cases_on ys (left m found b)
  added-is m xs ys found b None read_it = cc
  added-is m xs ys found b (Some ((row, last), rest)) read_it =
      let both : ((ys, found), b) ≡ ((xs ++ row ∷ [], last), rest) = cc in
      sym (on-push xs row (left m last rest)) ∙ sym (ap (λ (r : (List CaseRow × AfterCase) × List Token). cases_on r.0.0 (left m r.0.1 r.1)) both)

  none-added : (m : ℕ) (xs : List CaseRow) (read : Read (CaseRow × AfterCase)) → case_added xs read ≡ None
      → cases_on xs (onto read (λ (found : CaseRow × AfterCase) c. onward m found.0 found.1 c)) ≡ None
  none-added m xs None none = refl
  none-added m xs (Some found) none = cc

  pub cases-behind : (xs ys : List CaseRow) (n m : ℕ) (tokens b : List Token) (found which : AfterCase) → n ≡ suc m
      → case_added xs (alternative_in one tokens) ≡ Some ((ys, found), b) → found ≡ which → cases_on xs (cases_in one n tokens) ≡ cases_on ys (left m which b)
  cases-behind xs ys n m tokens b found which more read_it is =
      ap (cases_on xs) (cases-is n m tokens more) ∙ added-is m xs ys found b (alternative_in one tokens) read_it ∙ ap (λ w. cases_on ys (left m w b)) is

  pub cases-refused : (xs : List CaseRow) (n m : ℕ) (tokens : List Token) → n ≡ suc m → case_added xs (alternative_in one tokens) ≡ None
      → cases_on xs (cases_in one n tokens) ≡ None
  cases-refused xs n m tokens more none = ap (cases_on xs) (cases-is n m tokens more) ∙ none-added m xs (alternative_in one tokens) none

  pub others-behind : (xs : List CaseRow) (m : ℕ) (b c : List Token) (s : StmtTree) → last_in one b ≡ Some (s, c)
      → cases_on xs (left m after.Others b) ≡ Some ((cases_before xs no_stmt_cases, given_stmt s), c)
  others-behind xs m b c s last = ap (λ (read : Read StmtTree). cases_on xs (onto read others_found)) last

  pub others-refused : (xs : List CaseRow) (m : ℕ) (b : List Token) → last_in one b ≡ None → cases_on xs (left m after.Others b) ≡ None
  others-refused xs m b last = ap (λ (read : Read StmtTree). cases_on xs (onto read others_found)) last
