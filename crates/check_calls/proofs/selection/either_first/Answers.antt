use Rattle.std.proofs.Common.{Option, ap, ◌∙◌}
use Rattle.vdm_kinds.specs.declared.spec_fault.SpecFault.{SpecFault}
use Rattle.check_names.specs.Noting.{first_of_both}
use Rattle.check_calls.proofs.Merging.{from_nothing}
use Rattle.check_calls.proofs.selection.either_first.Goals as goal

pub returns : goal.returns
returns c =
    c.first.ensures
    ∙ c.refuse_first-2.ensures
    ∙ ap (λ (o : Option SpecFault). first_of_both o c.args.other)
    (c.refuse_first.ensures ∙ ap (λ (o : Option SpecFault). first_of_both o c.args.first) c.new-refusals.ensures ∙ from_nothing c.args.first)
