use Rattle.std.proofs.Common.{refl, sym, ◌∙◌}
use Rattle.class_meaning.specs.Classes.{class_number}
use Rattle.class_meaning.specs.declared.ask.Ask.TheVariants.{ByName}
use Rattle.member_meaning.specs.Meaning.{unknown, meaning}
use Rattle.spec_checks.specs.Definitions.{number_in, value_number}
use Rattle.part_checks.specs.Below.spec_table.specs.Meanings.{meant_view}
use Rattle.part_checks.specs.Below.check_scopes.specs.Told.{spec_in, types_in}
use Rattle.part_checks.specs.Below.check_names.proofs.ByNumber.{by_number}
use Rattle.sync_checks.proofs.numbers.number_in.Goals as goal

pub returns : goal.returns
returns c =
    let spec = spec_in c.args.setting in
    let here = types_in c.args.setting in
    c.value_number.ensures spec here
    ∙ sym (by_number (number_in spec here c.args.name) (value_number spec here) unknown (meant_view c.meaning-meant.result)
    (meaning spec (ByName c.args.name)) (class_number spec c.args.class) refl (λ k. refl) c.meaning-meant.ensures.some c.meaning-meant.ensures.none)
