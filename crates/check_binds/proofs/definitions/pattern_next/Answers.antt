use Rattle.std.proofs.Common.{refl}
use Rattle.expr_tree.specs.View.{pattern_view}
use Rattle.shared_names.specs.Maps.{held}
use Rattle.check_steps.specs.Below.check_frames.specs.Steps.{onward}
use Rattle.check_binds.proofs.Bracketed.{pattern_first}
use Rattle.check_binds.proofs.definitions.pattern_next.Goals as goal

pub returns : goal.returns
returns c =
    onward c.args.here.setting c.givens_next.result _ _
    (pattern_first c.args.here.setting (held c.args.here.locals.now) (pattern_view c.args.pattern.now.value) c.args.form c.args.rest _ _ _ c.in_ok-exprs.ensures c.in_ok-locals.ensures refl)
    c.givens_next.ensures
