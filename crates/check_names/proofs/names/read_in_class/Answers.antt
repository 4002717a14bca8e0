use Rattle.std.proofs.Common.{refl, ap, ◌∙◌}
use Rattle.class_meaning.specs.Classes.{class_number}
use Rattle.class_meaning.specs.declared.ask.Ask.TheVariants.{ByName}
use Rattle.member_meaning.specs.Meaning.{unknown, meaning}
use Rattle.class_checks.specs.Members.{read_in, read_meant}
use Rattle.check_scopes.specs.Below.spec_table.specs.Meanings.{meant_view}
use Rattle.check_scopes.specs.Told.{scope_at, spec_in, told}
use Rattle.check_names.proofs.ByNumber.{by_number}
use Rattle.check_names.proofs.Notes.{if_ok}
use Rattle.check_names.proofs.names.read_in_class.Goals as goal

pub returns : goal.returns
returns c =
    let spec = spec_in c.args.setting in
    if_ok c.read_meant.result c.read_meant.ensures (λ form is names.
    ap (told _)
    (by_number (read_in spec (scope_at c.args.setting names) c.args.place c.args.own c.args.name) (read_meant spec (scope_at c.args.setting names) c.args.place c.args.own) unknown (meant_view c.meaning-meant.result)
    (meaning spec (ByName c.args.name)) (class_number spec c.args.class) refl (λ k. refl) c.meaning-meant.ensures.some c.meaning-meant.ensures.none)
    ∙ is names)
