use Rattle.std.proofs.Common.{ap, sym, ◌∙◌}
use Rattle.shared_names.specs.Maps.{held}
use Rattle.vdm_tree.specs.StmtView.{target_view}
use Rattle.vdm_tree.specs.declared.target.Target.{Target}
use Rattle.spec_checks.specs.Targets.{written}
use Rattle.target_steps.specs.Below.check_frames.specs.Meant.{spec_here}
use Rattle.target_steps.specs.Below.stmt_scopes.specs.Standing.{stands_here}
use Rattle.stmt_targets.proofs.targets.target_named.Goals as goal

pub returns-in-Qualified-clause-named : goal.returns-in-Qualified-clause-named
returns-in-Qualified-clause-named c =
    c.named_behind.ensures.named (held c.args.stands.here.locals.now) (stands_here c.args.stands)
    ∙ ap (λ (t : Target). written (spec_here c.args.stands.here) (stands_here c.args.stands) (target_view t)) (sym c.in-Qualified.is)
