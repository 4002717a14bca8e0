-- `if` with its further branches and its `else` is read: each `else` by the nearest `if` that lacks one.
use Rattle.std.proofs.Common.{◌≡◌, ℕ, zero, suc, ◌+◌, ◌<◌, ◌≤◌, Bool, true, false, ◌&&◌, List, ◌∷◌, ◌++◌, Some, refl, ap, arith}
use Rattle.vdm_kinds.specs.declared.place.Place.{Place}
use Rattle.abstract_syntax.specs.Expressions.{ExprTree}
use Rattle.abstract_syntax.specs.Statements.{StmtTree, MaybeStmt, StmtBranches, if_then, no_stmt, given_stmt, no_stmt_branches, one_stmt_branch}
use Rattle.grammar_words.specs.declared.word.Word.{Word}
use Rattle.grammar_words.specs.declared.word.Word.TheVariants as word_is
use Rattle.grammar_words.specs.Pulls.{far_pull}
use Rattle.grammar_words.specs.Tokens.{Token}
use Rattle.grammar_trees.specs.Spelling.{spelling}
use Rattle.grammar_trees.specs.Binding.{Binds}
use Rattle.stmt_trees.specs.Pieces.{mark, whole}
use Rattle.stmt_trees.specs.StmtSpelling.{stmt_spelling, stmt_branches_spelling, else_spelling}
use Rattle.stmt_trees.specs.StmtGrammar.{takes_else, LeavesElse, AreStmtBranches}
use Rattle.stmt_reading.specs.Leaves.{Read, onto, expr_in, word_in}
use Rattle.stmt_reading.specs.Statements.{else_in, branches_in, if_in}
use Rattle.stmt_laws.specs.Ends.{ends_stmt, not_else, behind_stmt, ends_after}
use Rattle.stmt_laws.proofs.Readers.{Reads, Begins, is_other, by_mark, by_nothing, at_mark, done, may_come, left_away, last_reads, then_reads}
use Rattle.stmt_laws.proofs.Leaves.{expr_reads}
use Rattle.stmt_laws.proofs.Lists.{marks, marks-append, counted}
use Rattle.stmt_laws.proofs.Parts.{OneReads}

-- ---- what stands behind a branch

abbrev only_else : Word → Bool
only_else word_is.Else = true
only_else _ = false

-- behind the branches: the `else`, or what stands behind an `if` that lacks one
abbrev pub behind_branches : MaybeStmt → Word → Bool
behind_branches (given_stmt s) w = only_else w
behind_branches no_stmt w = behind_stmt true w

and-left : (a b : Bool) → (a && b) ≡ true → (a && true) ≡ true
and-left true b e = refl
and-left false b e = absurd (cc)

pub any_takes : (takes : Bool) (w : Word) → behind_stmt true w ≡ true → behind_stmt takes w ≡ true
any_takes true w e = e
any_takes false w e = and-left (ends_stmt w) (not_else w) e

else_ends : (s : StmtTree) → takes_else s ≡ false → (w : Word) → only_else w ≡ true → ends_after s w ≡ true
else_ends s e word_is.Else h = ap (λ b. behind_stmt b word_is.Else) e
else_ends s e _ h = absurd (cc)

pub body_ends : (s : StmtTree) (others : StmtBranches) (otherwise : MaybeStmt) → LeavesElse s others otherwise
    → Begins (stmt_branches_spelling others) (behind_branches otherwise) (ends_after s)
body_ends s (one_stmt_branch c t more) otherwise leaves = by_mark word_is.Elseif (ap (λ b. behind_stmt b word_is.Elseif) (leaves refl))
body_ends s no_stmt_branches (given_stmt t) leaves = by_nothing (else_ends s (leaves refl))
body_ends s no_stmt_branches no_stmt leaves = by_nothing (λ w e. any_takes (takes_else s) w e)

no_elseif : (w : Word) → behind_stmt true w ≡ true → is_other word_is.Elseif w ≡ true
no_elseif word_is.Elseif e = absurd (cc)
no_elseif (word_is.Operator s) e = absurd (cc)
no_elseif _ e = refl

no_elseif_behind : (otherwise : MaybeStmt) (w : Word) → behind_branches otherwise w ≡ true → is_other word_is.Elseif w ≡ true
no_elseif_behind (given_stmt s) word_is.Else e = refl
no_elseif_behind (given_stmt s) _ e = absurd (cc)
no_elseif_behind no_stmt w e = no_elseif w e

no_else : (w : Word) → behind_stmt true w ≡ true → is_other word_is.Else w ≡ true
no_else word_is.Else e = absurd (cc)
no_else (word_is.Operator s) e = absurd (cc)
no_else _ e = refl

-- ---- branches

abbrev pub BranchesReads : (List Token → Read StmtTree) → StmtBranches → Type 0
BranchesReads one no_stmt_branches = Unit {0}
BranchesReads one (one_stmt_branch c s others) = OneReads one s × BranchesReads one others

abbrev pub ElseReads : (List Token → Read StmtTree) → MaybeStmt → Type 0
ElseReads one no_stmt = Unit {0}
ElseReads one (given_stmt s) = OneReads one s

abbrev pub branch_count : StmtBranches → ℕ
branch_count no_stmt_branches = 0
branch_count (one_stmt_branch c s others) = branch_count others + 1

branches-read : (one : List Token → Read StmtTree) (bs : StmtBranches) (otherwise : MaybeStmt) (turns : ℕ) → branch_count bs < turns
    → AreStmtBranches bs otherwise → BranchesReads one bs
    → Reads (branches_in one turns) (stmt_branches_spelling bs) bs (behind_branches otherwise)
branches-read one bs otherwise zero short g r = absurd (omega arith)
branches-read one no_stmt_branches otherwise (suc turns) short g r =
    left_away word_is.Elseif _ (λ ts. Some (no_stmt_branches, ts)) (by_nothing (no_elseif_behind otherwise))
    (done no_stmt_branches (behind_branches otherwise))
branches-read one (one_stmt_branch c s others) otherwise (suc turns) short g r =
    may_come word_is.Elseif _ (λ ts. Some (no_stmt_branches, ts)) refl (λ place.
    then_reads _ (expr_reads c g.0) (by_mark word_is.Then refl) (at_mark word_is.Then _ refl (λ spot.
    then_reads _ r.0 (body_ends s others otherwise g.2)
    (last_reads (λ more. one_stmt_branch c s more) (branches-read one others otherwise turns (omega arith) g.3 r.1)))))

else-reads : (one : List Token → Read StmtTree) (otherwise : MaybeStmt) (c : ExprTree) (s : StmtTree) (bs : StmtBranches) (place : Place)
    → ElseReads one otherwise → Reads (else_in one) (else_spelling otherwise) otherwise (ends_after (if_then c s bs otherwise place))
else-reads one no_stmt c s bs place r =
    left_away word_is.Else _ (λ ts. Some (no_stmt, ts)) (by_nothing no_else) (done no_stmt (behind_stmt true))
else-reads one (given_stmt t) c s bs place r =
    may_come word_is.Else _ (λ ts. Some (no_stmt, ts)) refl (λ spot. last_reads (λ found. given_stmt found) r)

else_begins : (otherwise : MaybeStmt) (c : ExprTree) (s : StmtTree) (bs : StmtBranches) (place : Place)
    → Begins (else_spelling otherwise) (ends_after (if_then c s bs otherwise place)) (behind_branches otherwise)
else_begins no_stmt c s bs place = by_nothing (λ w e. e)
else_begins (given_stmt t) c s bs place = by_mark word_is.Else refl

-- behind the body
pub rest_begins : (s t : StmtTree) (bs : StmtBranches) (otherwise : MaybeStmt) (c : ExprTree) (place : Place) → LeavesElse t bs otherwise
    → Begins (stmt_branches_spelling bs ++ else_spelling otherwise) (ends_after (if_then c s bs otherwise place)) (ends_after t)
rest_begins s t (one_stmt_branch d u more) otherwise c place leaves =
    by_mark word_is.Elseif (ap (λ b. behind_stmt b word_is.Elseif) (leaves refl))
rest_begins s t no_stmt_branches (given_stmt u) c place leaves = by_mark word_is.Else (ap (λ b. behind_stmt b word_is.Else) (leaves refl))
rest_begins s t no_stmt_branches no_stmt c place leaves = by_nothing (λ w e. any_takes (takes_else t) w e)

branches-fit : (bs : StmtBranches) → branch_count bs ≤ marks (stmt_branches_spelling bs)
branches-fit no_stmt_branches = omega arith
branches-fit (one_stmt_branch c s others) =
    let k : branch_count others ≤ marks (stmt_branches_spelling others) = branches-fit others in
    let e = marks-append (whole (spelling c)) (mark word_is.Then ∷ (stmt_spelling s ++ stmt_branches_spelling others)) in
    let f = marks-append (stmt_spelling s) (stmt_branches_spelling others) in omega arith

pub if_reads : (one : List Token → Read StmtTree) (c : ExprTree) (s : StmtTree) (bs : StmtBranches) (otherwise : MaybeStmt) (place : Place)
    → Binds c far_pull → LeavesElse s bs otherwise → AreStmtBranches bs otherwise → OneReads one s → BranchesReads one bs
    → ElseReads one otherwise → Reads (if_in one place)
    (whole (spelling c) ++ (mark word_is.Then ∷ (stmt_spelling s ++ (stmt_branches_spelling bs ++ else_spelling otherwise))))
    (if_then c s bs otherwise place) (ends_after (if_then c s bs otherwise place))
if_reads one c s bs otherwise place b leaves g r q t =
    counted (λ turns ts. onto (expr_in ts) (λ condition a. onto (word_in word_is.Then a) (λ then_place b2. onto (one b2) (λ body d.
    onto (branches_in one turns d) (λ elseifs e. onto (else_in one e) (λ other f. Some (if_then condition body elseifs other place, f)))))))
    _ _ (ends_after (if_then c s bs otherwise place)) (branch_count bs) fits (λ turns short.
    then_reads _ (expr_reads c b) (by_mark word_is.Then refl) (at_mark word_is.Then _ refl (λ spot.
    then_reads _ r (rest_begins s s bs otherwise c place leaves)
    (then_reads _ (branches-read one bs otherwise turns short g q) (else_begins otherwise c s bs place)
    (last_reads (λ found. if_then c s bs found place) (else-reads one otherwise c s bs place t))))))
  where
    fits : branch_count bs ≤ marks (whole (spelling c) ++ (mark word_is.Then ∷ (stmt_spelling s ++ (stmt_branches_spelling bs ++ else_spelling otherwise))))
    fits =
        let k : branch_count bs ≤ marks (stmt_branches_spelling bs) = branches-fit bs in
        let e = marks-append (whole (spelling c)) (mark word_is.Then ∷ (stmt_spelling s ++ (stmt_branches_spelling bs ++ else_spelling otherwise))) in
        let f = marks-append (stmt_spelling s) (stmt_branches_spelling bs ++ else_spelling otherwise) in
        let h = marks-append (stmt_branches_spelling bs) (else_spelling otherwise) in omega arith
