-- Lists of parts, one behind the other.
use Rattle.std.specs.Prelude.{Option}
use Rattle.vdm_kinds.specs.declared.name.Name.{Name}
use Rattle.vdm_kinds.specs.declared.place.Place.{Place}
use Rattle.abstract_syntax.specs.Types.{TypeTree}
use Rattle.abstract_syntax.specs.Expressions.{ExprTree, ExprTrees, MapletTrees, FieldValueTrees, DefinedTrees, BranchTrees, CaseTrees, BindTree, BindTrees, PatternTree, PatternTrees, MapletPatterns, no_exprs, one_expr, no_maplets, one_maplet, no_field_values, one_field_value, no_defined, one_defined, no_branches, one_branch, no_cases, one_case, no_binds, one_bind, no_patterns, one_pattern, no_maplet_patterns, one_maplet_pattern}

abbrev pub then_exprs : ExprTrees → ExprTrees → ExprTrees
then_exprs no_exprs more = more
then_exprs (one_expr e es) more = one_expr e (then_exprs es more)

abbrev pub then_maplets : MapletTrees → MapletTrees → MapletTrees
then_maplets no_maplets more = more
then_maplets (one_maplet k v ms) more = one_maplet k v (then_maplets ms more)

abbrev pub then_field_values : FieldValueTrees → FieldValueTrees → FieldValueTrees
then_field_values no_field_values more = more
then_field_values (one_field_value n p v fs) more = one_field_value n p v (then_field_values fs more)

abbrev pub then_defined : DefinedTrees → DefinedTrees → DefinedTrees
then_defined no_defined more = more
then_defined (one_defined p t v ds) more = one_defined p t v (then_defined ds more)

abbrev pub then_branches : BranchTrees → BranchTrees → BranchTrees
then_branches no_branches more = more
then_branches (one_branch c v bs) more = one_branch c v (then_branches bs more)

abbrev pub then_cases : CaseTrees → CaseTrees → CaseTrees
then_cases no_cases more = more
then_cases (one_case ps v cs) more = one_case ps v (then_cases cs more)

abbrev pub then_binds : BindTrees → BindTrees → BindTrees
then_binds no_binds more = more
then_binds (one_bind b bs) more = one_bind b (then_binds bs more)

abbrev pub then_patterns : PatternTrees → PatternTrees → PatternTrees
then_patterns no_patterns more = more
then_patterns (one_pattern p ps) more = one_pattern p (then_patterns ps more)

abbrev pub then_maplet_patterns : MapletPatterns → MapletPatterns → MapletPatterns
then_maplet_patterns no_maplet_patterns more = more
then_maplet_patterns (one_maplet_pattern k v ms) more = one_maplet_pattern k v (then_maplet_patterns ms more)

-- and one more at the end
abbrev pub and_expr : ExprTrees → ExprTree → ExprTrees
and_expr es e = then_exprs es (one_expr e no_exprs)

abbrev pub and_maplet : MapletTrees → ExprTree → ExprTree → MapletTrees
and_maplet ms k v = then_maplets ms (one_maplet k v no_maplets)

abbrev pub and_field_value : FieldValueTrees → Name → Place → ExprTree → FieldValueTrees
and_field_value fs n p v = then_field_values fs (one_field_value n p v no_field_values)

abbrev pub and_defined : DefinedTrees → PatternTree → Option TypeTree → ExprTree → DefinedTrees
and_defined ds p t v = then_defined ds (one_defined p t v no_defined)

abbrev pub and_branch : BranchTrees → ExprTree → ExprTree → BranchTrees
and_branch bs c v = then_branches bs (one_branch c v no_branches)

abbrev pub and_case : CaseTrees → PatternTrees → ExprTree → CaseTrees
and_case cs ps v = then_cases cs (one_case ps v no_cases)

abbrev pub and_bind : BindTrees → BindTree → BindTrees
and_bind bs b = then_binds bs (one_bind b no_binds)

abbrev pub and_pattern : PatternTrees → PatternTree → PatternTrees
and_pattern ps p = then_patterns ps (one_pattern p no_patterns)

abbrev pub and_maplet_pattern : MapletPatterns → PatternTree → PatternTree → MapletPatterns
and_maplet_pattern ms k v = then_maplet_patterns ms (one_maplet_pattern k v no_maplet_patterns)

-- one alone
abbrev pub only_pattern : PatternTree → PatternTrees
only_pattern p = one_pattern p no_patterns
