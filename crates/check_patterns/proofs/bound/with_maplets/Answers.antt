use Rattle.std.proofs.Common.{rules, ◌++◌, ap, ◌∙◌}
use Rattle.expr_tree.specs.View.{pattern_view}
use Rattle.expr_tree.specs.declared.pattern.MapletPattern.{the_lemmas}
use Rattle.class_checks.specs.Patterns.{binds}
use Rattle.check_types.specs.Below.check_scopes.specs.Told.{spec_in, types_in}
use Rattle.check_patterns.specs.Pending.{found_before}
use Rattle.check_patterns.proofs.Shapes.{maplets_headed}
use Rattle.check_patterns.proofs.Waiting.{found_through}
use Rattle.check_patterns.proofs.bound.with_maplets.Goals as goal

pub returns : goal.returns
returns c =
    found_through (spec_in c.args.setting) (types_in c.args.setting) c.with_first.result c.in_ok-binding-in-len1-up.binding c.args.binding _ _
    (c.in_ok-binding-in-len1-up.ensures.behind (spec_in c.args.setting) (types_in c.args.setting)
    (binds (spec_in c.args.setting) (types_in c.args.setting) c.in_ok-key-in-len1-up.key (pattern_view c.deref.result.now)
    ++ binds (spec_in c.args.setting) (types_in c.args.setting) c.in_ok-value-in-len1-up.value (pattern_view c.maplet-item.result.value.value))
    ∙ ap (found_before (spec_in c.args.setting) (types_in c.args.setting) c.args.binding)
    (maplets_headed (spec_in c.args.setting) (types_in c.args.setting) c.args.maplets.now c.maplet-item.result c.in-len1-up.len_at_least c.maplet-item.is
    c.args.keys c.args.values c.in_ok-key-in-len1-up.key c.in_ok-value-in-len1-up.value
    (pattern_view c.deref.result.now) (pattern_view c.maplet-item.result.value.value)
    c.in_ok-key-in-len1-up.ensures c.in_ok-value-in-len1-up.ensures
    (search (rules, the_lemmas, c.deref.ensures)) (search (rules, the_lemmas))))
    c.with_first.ensures
