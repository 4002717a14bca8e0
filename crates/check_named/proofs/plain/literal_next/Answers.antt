use Rattle.std.proofs.Common.{ap, sym, ◌∙◌}
use Rattle.type_tree.specs.LiteralView.{literal_view}
use Rattle.class_checks.specs.Results.{gives}
use Rattle.check_steps.specs.Below.check_frames.specs.Meant.{scope_here}
use Rattle.check_named.proofs.Begun.{literal_begun}
use Rattle.check_named.proofs.plain.literal_next.Goals as goal

pub returns : goal.returns
returns c =
    λ place. literal_begun c.args.here.setting (scope_here c.args.here) (literal_view c.args.value.now) place ∙ ap gives (sym c.in_ok-form.ensures)
