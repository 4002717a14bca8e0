-- What patterns that are still to be matched bind.
use Rattle.std.specs.Prelude.{List, [], ◌∷◌, ◌++◌, map, drop}
use Rattle.vdm_kinds.specs.declared.name.Name.{Name}
use Rattle.abstract_syntax.specs.Classes.{SpecTree}
use Rattle.expr_tree.specs.View.{pattern_view, pattern_views, pattern_trees, maplet_pattern_view, maplet_pattern_trees}
use Rattle.class_checks.specs.Patterns.{binds, binds_each, binds_maplets, binds_parts, binds_fields}
use Rattle.class_checks.specs.Scopes.{LocalForm}
use Rattle.check_patterns.specs.Shown.{local_view}
use Rattle.check_patterns.specs.declared.pending.Pending.{Pending}
use Rattle.check_patterns.specs.declared.pending.Pending.TheVariants.{One, Each, Parts, Fields, Maplets}
use Rattle.check_patterns.specs.declared.pending.Binding.{Binding}

module _ (spec : SpecTree) (class : Name) where
  abbrev pub pending_binds : Pending → List LocalForm
  pending_binds (One form p) = binds spec class form (pattern_view p.now.value)
  pending_binds (Each form ps) = binds_each spec class form (pattern_trees (pattern_views ps.now))
  pending_binds (Parts form n i ps) = binds_parts spec class form n i (pattern_trees (pattern_views ps.now))
  pending_binds (Fields forms i ps) = binds_fields spec class (drop i forms.items) (pattern_trees (pattern_views ps.now))
  pending_binds (Maplets keys values ms) = binds_maplets spec class keys values (maplet_pattern_trees (map maplet_pattern_view ms.now))

  -- the last of them is matched first
  unfoldable pub still : List Pending → List LocalForm
  still [] = []
  still (low ∷ above) = still above ++ pending_binds low

  abbrev pub all_found : Binding → List LocalForm
  all_found binding = map local_view binding.found.items ++ still binding.pending.items

  -- ... where these are bound before the rest
  abbrev pub found_before : Binding → List LocalForm → List LocalForm
  found_before binding next = map local_view binding.found.items ++ (next ++ still binding.pending.items)
