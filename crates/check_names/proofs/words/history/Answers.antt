use Rattle.std.proofs.Common.{Option, ap, ◌∙◌}
use Rattle.vdm_kinds.specs.declared.spec_fault.SpecFault.{SpecFault}
use Rattle.class_checks.specs.Members.{uncounted}
use Rattle.class_checks.specs.Results.{first_among}
use Rattle.check_scopes.specs.Told.{scope_at, spec_in}
use Rattle.check_names.proofs.words.history.Goals as goal

pub returns : goal.returns
returns c =
    λ bound. c.uncounted.ensures bound
    ∙ ap (λ (o : Option SpecFault). first_among o (uncounted (spec_in c.args.setting) (scope_at c.args.setting bound) c.args.names.now))
    (c.may_not_count.ensures bound)
