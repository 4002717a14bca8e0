-- Which statement, and which specification, a list of tokens is.
use Rattle.std.specs.Prelude.{List, []}
use Rattle.abstract_syntax.specs.Statements.{StmtTree}
use Rattle.abstract_syntax.specs.Classes.{SpecTree}
use Rattle.grammar_words.specs.Tokens.{Token}
use Rattle.stmt_trees.specs.Pieces.{Spelled}
use Rattle.stmt_trees.specs.StmtSpelling.{stmt_spelling}
use Rattle.stmt_trees.specs.StmtGrammar.{IsStmt}
use Rattle.stmt_trees.specs.ClassSpelling.{spec_spelling}
use Rattle.stmt_trees.specs.ClassGrammar.{IsSpec}

-- the tokens are those of the statement, which the grammar has
pub record IsStatement (tokens : List Token) (tree : StmtTree) : Type 0 where
  pub spelled : Spelled tokens (stmt_spelling tree) []
  pub grammatical : IsStmt tree

-- the tokens are those of the specification, which the grammar has
pub record IsSpecification (tokens : List Token) (tree : SpecTree) : Type 0 where
  pub spelled : Spelled tokens (spec_spelling tree) []
  pub grammatical : IsSpec tree
