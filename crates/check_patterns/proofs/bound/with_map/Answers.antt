use Rattle.std.proofs.Common.{map}
use Rattle.expr_tree.specs.View.{maplet_pattern_view, maplet_pattern_trees}
use Rattle.class_checks.specs.Patterns.{binds_maplets}
use Rattle.check_types.specs.Below.check_scopes.specs.Told.{spec_in, types_in}
use Rattle.check_patterns.proofs.Waiting.{same_found}
use Rattle.check_patterns.proofs.bound.with_map.Goals as goal

pub returns : goal.returns
returns c =
    same_found (spec_in c.args.setting) (types_in c.args.setting) c.put.result c.args.binding _ _
    (λ i. binds_maplets (spec_in c.args.setting) (types_in c.args.setting) (c.in_ok-keys.ensures i) (c.in_ok-values.ensures i)
    (maplet_pattern_trees (map maplet_pattern_view c.args.maplets.now)))
    (c.put.ensures.only (spec_in c.args.setting) (types_in c.args.setting))
