-- Lists of parts, and one part more.
use Rattle.std.proofs.Common.{◌≡◌, List, [], ◌∷◌, ◌++◌, map, refl, ap}
use Rattle.abstract_syntax.specs.Expressions.{BindTrees, BranchTrees, CaseTrees, DefinedTrees, ExprTrees, FieldValueTrees, MapletPatterns, MapletTrees, PatternTrees, one_bind, one_branch, one_case, one_defined, one_expr, one_field_value, one_maplet, one_maplet_pattern, one_pattern}
use Rattle.grammar_trees.specs.Lists.{and_expr, and_pattern, and_bind, and_maplet, and_field_value, and_defined, and_branch, and_case, and_maplet_pattern}
use Rattle.expr_tree.specs.View.{bind_trees, bind_view, branch_trees, branch_view, case_trees, case_view, defined_trees, defined_view, expr_trees, field_value_trees, field_value_view, maplet_pattern_trees, maplet_pattern_view, maplet_trees, maplet_view, pattern_trees, pattern_view, pattern_views, view_of, views_of}
use Rattle.expr_tree.specs.declared.expr.Expr.{Expr}
use Rattle.expr_tree.specs.declared.pattern.Pattern.{Pattern}
use Rattle.expr_tree.specs.declared.pattern.Bind.{Bind}
use Rattle.expr_tree.specs.declared.parts.Maplet.{Maplet}
use Rattle.expr_tree.specs.declared.parts.FieldValue.{FieldValue}
use Rattle.expr_tree.specs.declared.parts.Defined.{Defined}
use Rattle.expr_tree.specs.declared.parts.Branch.{Branch}
use Rattle.expr_tree.specs.declared.parts.Case.{Case}
use Rattle.expr_tree.specs.declared.pattern.MapletPattern.{MapletPattern}

pub exprs-push : (items : List Expr) (last : Expr) → expr_trees (views_of (items ++ last ∷ [])) ≡ and_expr (expr_trees (views_of items)) (view_of last)
exprs-push [] last = refl
exprs-push (first ∷ items) last = ap (λ (all : ExprTrees). one_expr (view_of first) all) (exprs-push items last)

pub patterns-push : (items : List Pattern) (last : Pattern) → pattern_trees (pattern_views (items ++ last ∷ [])) ≡ and_pattern (pattern_trees (pattern_views items)) (pattern_view last)
patterns-push [] last = refl
patterns-push (first ∷ items) last = ap (λ (all : PatternTrees). one_pattern (pattern_view first) all) (patterns-push items last)

pub binds-push : (items : List Bind) (last : Bind) → bind_trees (map bind_view (items ++ last ∷ [])) ≡ and_bind (bind_trees (map bind_view items)) (bind_view last)
binds-push [] last = refl
binds-push (first ∷ items) last = ap (λ (all : BindTrees). one_bind (bind_view first) all) (binds-push items last)

pub maplets-push : (items : List Maplet) (last : Maplet) → maplet_trees (map maplet_view (items ++ last ∷ [])) ≡ and_maplet (maplet_trees (map maplet_view items)) (maplet_view last).key (maplet_view last).value
maplets-push [] last = refl
maplets-push (first ∷ items) last = ap (λ (all : MapletTrees). one_maplet (maplet_view first).key (maplet_view first).value all) (maplets-push items last)

pub field_values-push : (items : List FieldValue) (last : FieldValue) → field_value_trees (map field_value_view (items ++ last ∷ [])) ≡ and_field_value (field_value_trees (map field_value_view items)) (field_value_view last).name (field_value_view last).name_place (field_value_view last).value
field_values-push [] last = refl
field_values-push (first ∷ items) last = ap (λ (all : FieldValueTrees). one_field_value (field_value_view first).name (field_value_view first).name_place (field_value_view first).value all) (field_values-push items last)

pub defined-push : (items : List Defined) (last : Defined) → defined_trees (map defined_view (items ++ last ∷ [])) ≡ and_defined (defined_trees (map defined_view items)) (defined_view last).pattern (defined_view last).declared (defined_view last).value
defined-push [] last = refl
defined-push (first ∷ items) last = ap (λ (all : DefinedTrees). one_defined (defined_view first).pattern (defined_view first).declared (defined_view first).value all) (defined-push items last)

pub branches-push : (items : List Branch) (last : Branch) → branch_trees (map branch_view (items ++ last ∷ [])) ≡ and_branch (branch_trees (map branch_view items)) (branch_view last).condition (branch_view last).value
branches-push [] last = refl
branches-push (first ∷ items) last = ap (λ (all : BranchTrees). one_branch (branch_view first).condition (branch_view first).value all) (branches-push items last)

pub cases-push : (items : List Case) (last : Case) → case_trees (map case_view (items ++ last ∷ [])) ≡ and_case (case_trees (map case_view items)) (pattern_trees (case_view last).patterns) (case_view last).value
cases-push [] last = refl
cases-push (first ∷ items) last = ap (λ (all : CaseTrees). one_case (pattern_trees (case_view first).patterns) (case_view first).value all) (cases-push items last)

pub maplet_patterns-push : (items : List MapletPattern) (last : MapletPattern) → maplet_pattern_trees (map maplet_pattern_view (items ++ last ∷ [])) ≡ and_maplet_pattern (maplet_pattern_trees (map maplet_pattern_view items)) (maplet_pattern_view last).key (maplet_pattern_view last).value
maplet_patterns-push [] last = refl
maplet_patterns-push (first ∷ items) last = ap (λ (all : MapletPatterns). one_maplet_pattern (maplet_pattern_view first).key (maplet_pattern_view first).value all) (maplet_patterns-push items last)
