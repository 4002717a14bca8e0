-- The names with `~` in what a walk over a tree has still to come to.
use Rattle.std.specs.Prelude.{List, [], ◌∷◌, ◌++◌, map, reverse, flat_map}
use Rattle.vdm_kinds.specs.declared.name.Name.{Name as NameOf}
use Rattle.stmt_meaning.specs.Olds.{
  olds_in,
  olds_in_exprs,
  olds_in_maybe,
  olds_in_maplets,
  olds_in_field_values,
  olds_in_defined,
  olds_in_branches,
  olds_in_cases,
  olds_in_bind,
  olds_in_binds,
  olds_in_pattern,
  olds_in_patterns,
  olds_in_maplet_patterns,
}
use Rattle.expr_tree.specs.View.{
  view_of,
  views_of,
  expr_trees,
  maybe_view,
  maplet_trees,
  maplet_view,
  field_value_trees,
  field_value_view,
  defined_trees,
  defined_view,
  branch_trees,
  branch_view,
  case_trees,
  case_view,
  bind_trees,
  bind_view,
  pattern_view,
  pattern_views,
  pattern_trees,
  maplet_pattern_trees,
  maplet_pattern_view,
}
use Rattle.old_names.specs.declared.part.Part.{Part}
use Rattle.old_names.specs.declared.part.Part.TheVariants.{
  Expr,
  Exprs,
  MaybeExpr,
  Maplets,
  FieldValues,
  Definitions,
  Branches,
  Cases,
  Bind,
  Binds,
  Pattern,
  Patterns,
  MapletPatterns,
}
use Rattle.old_names.specs.declared.part.Parts.{Parts}
use Rattle.old_names.specs.declared.part.Parts.TheVariants.{Nothing, Variable, One, Two, Three, Four}
use Rattle.old_names.specs.declared.walk.Waiting.{Waiting}
use Rattle.old_names.specs.declared.walk.Waiting.TheVariants.{Found, Within}
use Rattle.old_names.specs.declared.walk.Walk.{Walk}

-- those in a part, in text order
abbrev pub part_olds : Part → List NameOf
part_olds (Expr part) = olds_in (view_of part.now.value)
part_olds (Exprs part) = olds_in_exprs (expr_trees (views_of part.now.items))
part_olds (MaybeExpr part) = olds_in_maybe (maybe_view part.now)
part_olds (Maplets part) = olds_in_maplets (maplet_trees (map maplet_view part.now))
part_olds (FieldValues part) = olds_in_field_values (field_value_trees (map field_value_view part.now))
part_olds (Definitions part) = olds_in_defined (defined_trees (map defined_view part.now))
part_olds (Branches part) = olds_in_branches (branch_trees (map branch_view part.now))
part_olds (Cases part) = olds_in_cases (case_trees (map case_view part.now))
part_olds (Bind part) = olds_in_bind (bind_view part.now)
part_olds (Binds part) = olds_in_binds (bind_trees (map bind_view part.now))
part_olds (Pattern part) = olds_in_pattern (pattern_view part.now.value)
part_olds (Patterns part) = olds_in_patterns (pattern_trees (pattern_views part.now.items))
part_olds (MapletPatterns part) = olds_in_maplet_patterns (maplet_pattern_trees (map maplet_pattern_view part.now))

-- those in the parts, one after the other
abbrev pub parts_olds : Parts → List NameOf
parts_olds Nothing = []
parts_olds (Variable name) = name ∷ []
parts_olds (One a) = part_olds a
parts_olds (Two a b) = part_olds a ++ part_olds b
parts_olds (Three a b c) = part_olds a ++ (part_olds b ++ part_olds c)
parts_olds (Four a b c d) = part_olds a ++ (part_olds b ++ (part_olds c ++ part_olds d))

-- those in what waits
abbrev pub waiting_olds : Waiting → List NameOf
waiting_olds (Found name) = name ∷ []
waiting_olds (Within part) = part_olds part

-- those in all that is still to come; what comes next is last
unfoldable pub coming : Walk → List NameOf
coming w = flat_map waiting_olds (reverse w.waiting.items)
