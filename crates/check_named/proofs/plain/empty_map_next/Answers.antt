use Rattle.std.proofs.Common.{ap, sym, ◌∙◌}
use Rattle.class_checks.specs.Operators.{map_with}
use Rattle.class_checks.specs.Results.{gives}
use Rattle.check_steps.specs.Below.check_frames.specs.Meant.{scope_here}
use Rattle.check_named.proofs.Begun.{empty_map_begun}
use Rattle.check_named.proofs.plain.empty_map_next.Goals as goal

pub returns : goal.returns
returns c =
    λ place. empty_map_begun c.args.here.setting (scope_here c.args.here) place ∙ ap gives (sym (c.in_ok-form.ensures ∙ (λ i. map_with (c.any.ensures i) (c.any-2.ensures i))))
