-- Lists of parts, one behind the other, may be regrouped.
use Rattle.std.proofs.Common.{◌≡◌, refl, ap}
use Rattle.abstract_syntax.specs.Expressions.{ExprTrees, MapletTrees, FieldValueTrees, DefinedTrees, BranchTrees, CaseTrees, BindTrees, PatternTrees, MapletPatterns, no_exprs, one_expr, no_maplets, one_maplet, no_field_values, one_field_value, no_defined, one_defined, no_branches, one_branch, no_cases, one_case, no_binds, one_bind, no_patterns, one_pattern, no_maplet_patterns, one_maplet_pattern}
use Rattle.grammar_trees.specs.Lists.{then_exprs, then_maplets, then_field_values, then_defined, then_branches, then_cases, then_binds, then_patterns, then_maplet_patterns}

pub exprs-assoc : (a b c : ExprTrees) → then_exprs (then_exprs a b) c ≡ then_exprs a (then_exprs b c)
exprs-assoc no_exprs b c = refl
exprs-assoc (one_expr e es) b c = ap (λ (x : ExprTrees). one_expr e x) (exprs-assoc es b c)

pub maplets-assoc : (a b c : MapletTrees) → then_maplets (then_maplets a b) c ≡ then_maplets a (then_maplets b c)
maplets-assoc no_maplets b c = refl
maplets-assoc (one_maplet k v ms) b c = ap (λ (x : MapletTrees). one_maplet k v x) (maplets-assoc ms b c)

pub field_values-assoc : (a b c : FieldValueTrees) → then_field_values (then_field_values a b) c ≡ then_field_values a (then_field_values b c)
field_values-assoc no_field_values b c = refl
field_values-assoc (one_field_value n p v fs) b c = ap (λ (x : FieldValueTrees). one_field_value n p v x) (field_values-assoc fs b c)

pub defined-assoc : (a b c : DefinedTrees) → then_defined (then_defined a b) c ≡ then_defined a (then_defined b c)
defined-assoc no_defined b c = refl
defined-assoc (one_defined p t v ds) b c = ap (λ (x : DefinedTrees). one_defined p t v x) (defined-assoc ds b c)

pub branches-assoc : (a b c : BranchTrees) → then_branches (then_branches a b) c ≡ then_branches a (then_branches b c)
branches-assoc no_branches b c = refl
branches-assoc (one_branch t v bs) b c = ap (λ (x : BranchTrees). one_branch t v x) (branches-assoc bs b c)

pub cases-assoc : (a b c : CaseTrees) → then_cases (then_cases a b) c ≡ then_cases a (then_cases b c)
cases-assoc no_cases b c = refl
cases-assoc (one_case ps v cs) b c = ap (λ (x : CaseTrees). one_case ps v x) (cases-assoc cs b c)

pub binds-assoc : (a b c : BindTrees) → then_binds (then_binds a b) c ≡ then_binds a (then_binds b c)
binds-assoc no_binds b c = refl
binds-assoc (one_bind d ds) b c = ap (λ (x : BindTrees). one_bind d x) (binds-assoc ds b c)

pub patterns-assoc : (a b c : PatternTrees) → then_patterns (then_patterns a b) c ≡ then_patterns a (then_patterns b c)
patterns-assoc no_patterns b c = refl
patterns-assoc (one_pattern p ps) b c = ap (λ (x : PatternTrees). one_pattern p x) (patterns-assoc ps b c)

pub maplet_patterns-assoc : (a b c : MapletPatterns) → then_maplet_patterns (then_maplet_patterns a b) c ≡ then_maplet_patterns a (then_maplet_patterns b c)
maplet_patterns-assoc no_maplet_patterns b c = refl
maplet_patterns-assoc (one_maplet_pattern k v ms) b c = ap (λ (x : MapletPatterns). one_maplet_pattern k v x) (maplet_patterns-assoc ms b c)
