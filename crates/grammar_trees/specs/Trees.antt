-- Which tree a list of tokens is.
use Rattle.std.specs.Prelude.{List}
use Rattle.abstract_syntax.specs.Expressions.{ExprTree, PatternTree}
use Rattle.grammar_words.specs.Tokens.{Token}
use Rattle.grammar_words.specs.Written.{AreTokens}
use Rattle.grammar_words.specs.Pulls.{far_pull}
use Rattle.grammar_trees.specs.Spelling.{spelling, pattern_spelling}
use Rattle.grammar_trees.specs.Binding.{Binds, IsPattern}

-- the tokens are those of the expression, which the grammar has
pub record IsTree (tokens : List Token) (tree : ExprTree) : Type 0 where
  pub spelled : AreTokens tokens (spelling tree)
  pub binds : Binds tree far_pull

-- the tokens are those of the pattern, which the grammar has
pub record IsPatternOf (tokens : List Token) (tree : PatternTree) : Type 0 where
  pub spelled : AreTokens tokens (pattern_spelling tree)
  pub grammatical : IsPattern tree
