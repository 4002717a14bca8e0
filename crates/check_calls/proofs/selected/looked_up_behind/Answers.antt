use Rattle.std.proofs.Common.{Option, None, ap, sym, ◌∙◌}
use Rattle.vdm_kinds.specs.declared.spec_fault.SpecFault.{SpecFault}
use Rattle.check_calls.specs.Calling.{made}
use Rattle.check_names.specs.Noting.{first_of_both}
use Rattle.check_calls.specs.Selecting.{found_as}
use Rattle.check_calls.proofs.Merging.{from_nothing}
use Rattle.check_calls.proofs.selected.looked_up_behind.Goals as goal

pub returns : goal.returns
returns c =
    λ earlier e known. ap found_as
    (c.in_ok-callee.ensures None earlier
    (e ∙ sym (c.refuse_first.ensures ∙ ap (λ (o : Option SpecFault). first_of_both o c.args.first) c.new-refusals.ensures ∙ from_nothing c.args.first))
    known
    ∙ ap (λ (o : Option SpecFault). made o c.in_ok-callee.callee) (sym c.first.ensures))
