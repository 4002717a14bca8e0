-- What stands between the statements in a statement.
use Rattle.std.specs.Prelude.{ℕ, Bool, true, false, Option, Some, None, List, ◌∷◌}
use Rattle.vdm_kinds.specs.declared.place.Place.{Place}
use Rattle.abstract_syntax.specs.Expressions.{ExprTree, PatternTree, PatternTrees}
use Rattle.abstract_syntax.specs.Statements.{StmtTree}
use Rattle.grammar_words.specs.declared.word.Word.TheVariants as word_is
use Rattle.grammar_words.specs.Tokens.{Token}
use Rattle.stmt_reading.specs.Leaves.{Read, onto, choice, expr_in, pattern_in, put, word_in}
use Rattle.stmt_reading.specs.Statements.{block_rest, patterns_in}
use Rattle.stmt_openings.specs.declared.between.AfterCase.{AfterCase}
use Rattle.stmt_openings.specs.declared.between.AfterCase.TheVariants as after

-- the `)` of a block, before which a `;` may stand, or the `;` before a further statement
abbrev pub closing_in : List Token → Read Bool
closing_in tokens =
    choice (word_in word_is.CloseRound tokens) (λ (close : Place) (a : List Token). Some (true, a))
    (onto (word_in word_is.Semicolon tokens) (λ (semicolon : Place) (a : List Token).
    choice (word_in word_is.CloseRound a) (λ (close : Place) (b : List Token). Some (true, b)) (Some (false, a))))

-- `elseif c then`, where it comes next
abbrev pub branch_in : List Token → Read (Option ExprTree)
branch_in tokens =
    choice (word_in word_is.Elseif tokens)
    (λ (place : Place) (a : List Token). onto (expr_in a) (λ (condition : ExprTree) (b : List Token).
    onto (word_in word_is.Then b) (λ (then_place : Place) (c : List Token). Some (Some condition, c))))
    (Some (None, tokens))

-- `p, q ->`
abbrev pub case_in : List Token → Read PatternTrees
case_in tokens =
    onto (patterns_in tokens) (λ (ps : PatternTrees) (a : List Token).
    onto (word_in word_is.Arrow a) (λ (place : Place) (b : List Token). Some (ps, b)))

-- what stands behind an alternative of `cases`
abbrev pub behind_case_in : List Token → Read AfterCase
behind_case_in tokens =
    choice (word_in word_is.End tokens) (λ (end : Place) (a : List Token). Some (after.Ends, a))
    (onto (word_in word_is.Comma tokens) (λ (comma : Place) (a : List Token).
    choice (word_in word_is.Others a)
    (λ (others : Place) (b : List Token). onto (word_in word_is.Arrow b) (λ (place : Place) (c : List Token). Some (after.Others, c)))
    (Some (after.Goes, a))))

-- `p |->`
abbrev pub handler_opening_in : List Token → Read PatternTree
handler_opening_in tokens =
    onto (pattern_in tokens) (λ (p : PatternTree) (a : List Token).
    onto (word_in word_is.MapsTo a) (λ (to : Place) (b : List Token). Some (p, b)))

-- the statements of a block behind its local variables, and its `)`
abbrev pub stmts_in : (List Token → Read StmtTree) → ℕ → List Token → Read (List StmtTree)
stmts_in one turns tokens = onto (one tokens) (λ (s : StmtTree) (rest : List Token). onto (block_rest one turns rest) (put s))

-- `s in t`
abbrev pub two_in : (List Token → Read StmtTree) → List Token → Read (StmtTree × StmtTree)
two_in one tokens =
    onto (one tokens) (λ (first : StmtTree) (a : List Token).
    onto (word_in word_is.In a) (λ (place : Place) (b : List Token).
    onto (one b) (λ (second : StmtTree) (c : List Token). Some ((first, second), c))))
