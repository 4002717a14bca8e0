-- What may come where something is wanted: one table of what each word does, one of what may be left out, and one of what is a form
-- that the profile leaves out.
use Rattle.std.specs.Prelude.{Bool, true, false, Option}
use Rattle.vdm_kinds.specs.declared.sign.Sign.TheVariants.{Union, MapUnion}
use Rattle.grammar_words.specs.declared.word.Word.{Word}
use Rattle.grammar_words.specs.declared.word.Word.TheVariants as word
use Rattle.grammar_fronts.specs.declared.wanted.Wanted.{Wanted}
use Rattle.grammar_fronts.specs.declared.wanted.Wanted.TheVariants.{WholeType, SingleType, BehindType, Pattern, BehindPattern, InCurlyPattern, BehindFirstInPattern, InSquarePattern, PatternParts, MorePatterns, MorePatternPairs, Expression, BehindOperand, BehindName, BehindClass, Parts, MoreExpressions, InOfDef, InCurly, BehindFirstInCurly, SecondInCurly, BehindFirstPair, MorePairs, InSquare, BehindFirstInSquare, Arguments, BehindFirstArgument, SecondArgument, MoreChanges, MoreNames, BehindBound, BehindOnlyBound, MoreBinds, Condition, BehindLet, LocalType, MoreLocals, SuchThat, Otherwise, BehindCase, MoreCases, NextCase, SetOfBind}
use Rattle.grammar_fronts.specs.Turns.{Turn}
use Rattle.grammar_fronts.specs.Types.{whole_type, single_type, behind_type}
use Rattle.grammar_fronts.specs.Patterns.{pattern, behind_pattern, in_curly_pattern, behind_first_in_pattern, in_square_pattern, pattern_parts, more_patterns, more_pattern_pairs}
use Rattle.grammar_fronts.specs.Operands.{expression, behind_operand, behind_name, behind_class, parts, more_expressions}
use Rattle.grammar_fronts.specs.Brackets.{in_curly, behind_first_in_curly, second_in_curly, behind_first_pair, more_pairs, in_square, behind_first_in_square, arguments, behind_first_argument, second_argument, more_changes, more_names}
use Rattle.grammar_fronts.specs.Binds.{behind_bound, behind_only_bound, more_binds, condition, behind_let, local_type, more_locals, such_that, otherwise, behind_case, more_cases, next_case}
use Rattle.grammar_fronts.specs.Words.{alone}

-- what a word does, where it may stand
abbrev pub turn : Wanted → Word → Option Turn
turn WholeType w = whole_type w
turn SingleType w = single_type w
turn BehindType w = behind_type w
turn Pattern w = pattern w
turn BehindPattern w = behind_pattern w
turn InCurlyPattern w = in_curly_pattern w
turn BehindFirstInPattern w = behind_first_in_pattern w
turn InSquarePattern w = in_square_pattern w
turn PatternParts w = pattern_parts w
turn MorePatterns w = more_patterns w
turn MorePatternPairs w = more_pattern_pairs w
turn Expression w = expression w
turn BehindOperand w = behind_operand w
turn BehindName w = behind_name w
turn BehindClass w = behind_class w
turn Parts w = parts w
turn MoreExpressions w = more_expressions w
turn InCurly w = in_curly w
turn BehindFirstInCurly w = behind_first_in_curly w
turn SecondInCurly w = second_in_curly w
turn BehindFirstPair w = behind_first_pair w
turn MorePairs w = more_pairs w
turn InSquare w = in_square w
turn BehindFirstInSquare w = behind_first_in_square w
turn Arguments w = arguments w
turn BehindFirstArgument w = behind_first_argument w
turn SecondArgument w = second_argument w
turn MoreChanges w = more_changes w
turn MoreNames w = more_names w
turn BehindBound w = behind_bound w
turn BehindOnlyBound w = behind_only_bound w
turn MoreBinds w = more_binds w
turn Condition w = condition w
turn BehindLet w = behind_let w
turn LocalType w = local_type w
turn MoreLocals w = more_locals w
turn SuchThat w = such_that w
turn Otherwise w = otherwise w
turn BehindCase w = behind_case w
turn MoreCases w = more_cases w
turn NextCase w = next_case w
turn wanted w = alone wanted w

-- what need not come: parts that are optional or repeated, and what may follow a whole operand, pattern or type
abbrev pub is_optional : Wanted → Bool
is_optional BehindType = true
is_optional BehindPattern = true
is_optional MorePatterns = true
is_optional MorePatternPairs = true
is_optional BehindOperand = true
is_optional BehindName = true
is_optional BehindClass = true
is_optional MoreExpressions = true
is_optional MorePairs = true
is_optional MoreChanges = true
is_optional MoreNames = true
is_optional MoreBinds = true
is_optional Condition = true
is_optional LocalType = true
is_optional MoreLocals = true
is_optional SuchThat = true
is_optional _ = false

-- `:` behind the patterns of a bind, `->` or `+>` behind a type, `union` or `munion` behind a pattern, `,` behind the expression of a
-- `def`, and `seq` behind the `in` of a bind are forms that are left out
abbrev pub is_left_out_at : Wanted → Word → Bool
is_left_out_at BehindBound word.Colon = true
is_left_out_at BehindOnlyBound word.Colon = true
is_left_out_at BehindType word.Arrow = true
is_left_out_at BehindType word.TotalArrow = true
is_left_out_at BehindPattern (word.Operator Union) = true
is_left_out_at BehindPattern (word.Operator MapUnion) = true
is_left_out_at InOfDef word.Comma = true
is_left_out_at SetOfBind word.Seq = true
is_left_out_at _ _ = false
