use Rattle.std.proofs.Common.{◌≡◌, map, drop}
use Rattle.text_phases.specs.Built.{unbuilt_in_exprs, unbuilt_in_maplets, unbuilt_in_field_values, unbuilt_in_defined, unbuilt_in_branches, unbuilt_in_cases, unbuilt_in_binds, unbuilt_in_patterns, unbuilt_in_maplet_patterns}
use Rattle.expr_tree.specs.View.{views_of, expr_trees, maplet_view, maplet_trees, field_value_view, field_value_trees, defined_view, defined_trees, branch_view, branch_trees, case_view, case_trees, bind_view, bind_trees, pattern_views, pattern_trees, maplet_pattern_view, maplet_pattern_trees}
use Rattle.built_exprs.proofs.exprs.+unbuilt.Given as goal

-- in each list: those so far are built, so that the rest decides
abbrev pub invariant-in_exprs-loop-expr : goal.invariant-in_exprs-loop-expr
invariant-in_exprs-loop-expr l =
    unbuilt_in_exprs l.makes (expr_trees (views_of (drop l.expr-index l.exprs)))
    ≡ unbuilt_in_exprs l.makes (expr_trees (views_of l.exprs))

abbrev pub invariant-in_maplets-loop-maplet : goal.invariant-in_maplets-loop-maplet
invariant-in_maplets-loop-maplet l =
    unbuilt_in_maplets l.makes (maplet_trees (map maplet_view (drop l.maplet-index l.maplets)))
    ≡ unbuilt_in_maplets l.makes (maplet_trees (map maplet_view l.maplets))

abbrev pub invariant-in_field_values-loop-field : goal.invariant-in_field_values-loop-field
invariant-in_field_values-loop-field l =
    unbuilt_in_field_values l.makes (field_value_trees (map field_value_view (drop l.field-index l.fields)))
    ≡ unbuilt_in_field_values l.makes (field_value_trees (map field_value_view l.fields))

abbrev pub invariant-in_definitions-loop-defined : goal.invariant-in_definitions-loop-defined
invariant-in_definitions-loop-defined l =
    unbuilt_in_defined l.makes (defined_trees (map defined_view (drop l.defined-index l.definitions)))
    ≡ unbuilt_in_defined l.makes (defined_trees (map defined_view l.definitions))

abbrev pub invariant-in_branches-loop-branch : goal.invariant-in_branches-loop-branch
invariant-in_branches-loop-branch l =
    unbuilt_in_branches l.makes (branch_trees (map branch_view (drop l.branch-index l.branches)))
    ≡ unbuilt_in_branches l.makes (branch_trees (map branch_view l.branches))

abbrev pub invariant-in_cases-loop-case : goal.invariant-in_cases-loop-case
invariant-in_cases-loop-case l =
    unbuilt_in_cases l.makes (case_trees (map case_view (drop l.case-index l.cases)))
    ≡ unbuilt_in_cases l.makes (case_trees (map case_view l.cases))

abbrev pub invariant-in_binds-loop-bind : goal.invariant-in_binds-loop-bind
invariant-in_binds-loop-bind l =
    unbuilt_in_binds l.makes (bind_trees (map bind_view (drop l.bind-index l.binds)))
    ≡ unbuilt_in_binds l.makes (bind_trees (map bind_view l.binds))

abbrev pub invariant-in_patterns-loop-pattern : goal.invariant-in_patterns-loop-pattern
invariant-in_patterns-loop-pattern l =
    unbuilt_in_patterns l.makes (pattern_trees (pattern_views (drop l.pattern-index l.patterns)))
    ≡ unbuilt_in_patterns l.makes (pattern_trees (pattern_views l.patterns))

abbrev pub invariant-in_maplet_patterns-loop-maplet : goal.invariant-in_maplet_patterns-loop-maplet
invariant-in_maplet_patterns-loop-maplet l =
    unbuilt_in_maplet_patterns l.makes (maplet_pattern_trees (map maplet_pattern_view (drop l.maplet-index l.maplets)))
    ≡ unbuilt_in_maplet_patterns l.makes (maplet_pattern_trees (map maplet_pattern_view l.maplets))
