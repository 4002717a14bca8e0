use Rattle.std.proofs.Common.{Bool, ap, not, ◌∙◌}
use Rattle.vdm_kinds.specs.declared.spec_kind.SpecKind.TheVariants.{NoCommonValue}
use Rattle.class_checks.specs.Expressions.{want_faults}
use Rattle.class_checks.specs.Operators.{any_set}
use Rattle.class_checks.specs.Patterns.{patterns_faults}
use Rattle.class_checks.specs.Results.{first_among, refused_if}
use Rattle.check_steps.specs.Below.check_scopes.specs.Told.{first_in, spec_in, types_in}
use Rattle.check_steps.specs.Below.check_patterns.specs.Shown.{patterns_of}
use Rattle.check_binds.proofs.Behinds.{on_both}
use Rattle.check_binds.proofs.sets.set_faults.Goals as goal

pub returns : goal.returns
returns c =
    on_both c.patterns_faults.result (first_in c.args.refusals.now) (first_in c.refuse_if.new.self) (first_in c.patterns_faults.new.refusals) (want_faults (spec_in c.args.here.setting) any_set c.args.place c.args.form.now) (patterns_faults (spec_in c.args.here.setting) (types_in c.args.here.setting) (patterns_of c.args.patterns))
    (c.refuse_if.ensures ∙ ap (λ (b : Bool). first_among (first_in c.args.refusals.now) (refused_if (not b) NoCommonValue c.args.place)) c.is_like-fits.ensures)
    c.patterns_faults.ensures
