-- Tokens are at most one statement, and are read as it.
use Rattle.std.proofs.Common.{◌≡◌, ℕ, ◌≤◌, max, true, List, [], Some, refl, ap, sym, ◌∙◌, arith}
use Rattle.abstract_syntax.specs.Depth.{stmt_depth}
use Rattle.abstract_syntax.specs.Statements.{StmtTree}
use Rattle.grammar_words.specs.declared.word.Word.TheVariants as word_is
use Rattle.grammar_words.specs.Tokens.{Token}
use Rattle.stmt_trees.specs.Pieces.{Spelled}
use Rattle.stmt_trees.specs.StmtSpelling.{stmt_spelling}
use Rattle.stmt_trees.specs.StmtGrammar.{IsStmt, takes_else}
use Rattle.stmt_trees.specs.Trees.{IsStatement}
use Rattle.stmt_reading.specs.Statements.{stmt_in, nesting_limit, all_read, stmt_of}
use Rattle.stmt_laws.specs.Ends.{first_word, ends_after}
use Rattle.stmt_laws.proofs.Firsts.{behind_any}
use Rattle.stmt_laws.proofs.ReadStmts.{at_room, stmt-read}

-- a statement before a word that ends it is read, and what stands behind it is left
pub statement-read : (tokens rest : List Token) (tree : StmtTree) (room : ℕ) → Spelled tokens (stmt_spelling tree) rest → IsStmt tree
    → stmt_depth tree ≤ room → ends_after tree (first_word rest) ≡ true → stmt_in room tokens ≡ Some (tree, rest)
statement-read tokens rest tree room h g d e = (at_room tree (stmt-read tree g) room d).reads tokens rest h e

whole-read : (tokens : List Token) (tree : StmtTree) (room : ℕ) → IsStatement tokens tree → stmt_depth tree ≤ room
    → stmt_in room tokens ≡ Some (tree, [])
whole-read tokens tree room h d =
    statement-read tokens [] tree room h.spelled h.grammatical d (behind_any (takes_else tree) word_is.TextEnd refl refl)

pub statement-of : (tokens : List Token) (tree : StmtTree) → IsStatement tokens tree → stmt_depth tree ≤ nesting_limit
    → stmt_of tokens ≡ Some tree
statement-of tokens tree h d = ap all_read (whole-read tokens tree nesting_limit h d)

same_tree : (a b : StmtTree) → all_read (Some (a, [])) ≡ all_read (Some (b, [])) → a ≡ b
same_tree a b e = cc

-- as much room as both take
pub one-statement : (tokens : List Token) (a b : StmtTree) → IsStatement tokens a → IsStatement tokens b → a ≡ b
one-statement tokens a b h k =
    let room = max (stmt_depth a) (stmt_depth b) in
    let first : stmt_depth a ≤ max (stmt_depth a) (stmt_depth b) = omega arith in
    let second : stmt_depth b ≤ max (stmt_depth a) (stmt_depth b) = omega arith in
    same_tree a b (ap all_read (sym (whole-read tokens a room h first) ∙ whole-read tokens b room k second))
