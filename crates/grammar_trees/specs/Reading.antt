-- The tree that is read off tokens, from left to right.
use Rattle.std.specs.Prelude.{List, [], Option, Some, None}
use Rattle.abstract_syntax.specs.Expressions.{ExprTree, PatternTree}
use Rattle.grammar_words.specs.Tokens.{Token}
use Rattle.type_reading.specs.Reading.{type_of}
use Rattle.grammar_trees.specs.Frames.{Built, nothing, an_expr, a_pattern, wants, wants_pattern}
use Rattle.grammar_trees.specs.Machine.{in_mode, run}

abbrev pub built_expr : Built → Option ExprTree
built_expr (an_expr tree) = Some tree
built_expr (a_pattern tree) = None
built_expr nothing = None

abbrev pub built_pattern : Built → Option PatternTree
built_pattern (an_expr tree) = None
built_pattern (a_pattern tree) = Some tree
built_pattern nothing = None

-- the expression that the tokens are, if they are one
abbrev pub expr_of : List Token → Option ExprTree
expr_of tokens = built_expr (run type_of tokens (in_mode wants []))

-- the pattern that the tokens are, if they are one
abbrev pub pattern_of : List Token → Option PatternTree
pattern_of tokens = built_pattern (run type_of tokens (in_mode wants_pattern []))
