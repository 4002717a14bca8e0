use Rattle.std.proofs.Common.{ap, option_map, sym, ◌∙◌}
use Rattle.record_names.specs.Names.{record_type_of_names}
use Rattle.check_steps.specs.Below.check_scopes.specs.Told.{spec_in}
use Rattle.check_steps.specs.Below.check_names.proofs.Notes.{if_ok}
use Rattle.check_called.specs.Offers.{offer_of}
use Rattle.check_called.proofs.made.made.Goals as goal

pub returns-in-Some : goal.returns-in-Some
returns-in-Some c =
    if_ok c.of_record.result c.of_record.ensures (λ callee told_so. told_so ∙ ap (offer_of (spec_in c.args.here.setting)) (ap (option_map record_type_of_names) (sym c.in-Some.is) ∙ c.in_ok-found.ensures))

pub returns-in-None : goal.returns-in-None
returns-in-None c =
    c.of_nothing.ensures ∙ ap (offer_of (spec_in c.args.here.setting)) (ap (option_map record_type_of_names) (sym c.in-None.is) ∙ c.in_ok-found.ensures)
