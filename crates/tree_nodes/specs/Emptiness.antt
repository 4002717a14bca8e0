-- Whether lists of parts are empty.
use Rattle.std.specs.Prelude.{Bool, true, false}
use Rattle.abstract_syntax.specs.Expressions.{ExprTrees, PatternTrees, CaseTrees, MapletTrees, no_exprs, one_expr, no_patterns, one_pattern, no_cases, one_case, no_maplets, one_maplet}

abbrev pub is_empty_exprs : ExprTrees → Bool
is_empty_exprs no_exprs = true
is_empty_exprs (one_expr e es) = false

abbrev pub is_empty_patterns : PatternTrees → Bool
is_empty_patterns no_patterns = true
is_empty_patterns (one_pattern p ps) = false

abbrev pub is_empty_cases : CaseTrees → Bool
is_empty_cases no_cases = true
is_empty_cases (one_case ps v cs) = false

abbrev pub IsNotOnly : ExprTrees → Type 0
IsNotOnly no_exprs = Unit {0}
IsNotOnly (one_expr e no_exprs) = ⊥
IsNotOnly (one_expr e (one_expr f es)) = Unit {0}

abbrev pub is_empty_maplets : MapletTrees → Bool
is_empty_maplets no_maplets = true
is_empty_maplets (one_maplet k v ms) = false
