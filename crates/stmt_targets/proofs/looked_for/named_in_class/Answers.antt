use Rattle.std.proofs.Common.{refl, sym, ◌∙◌}
use Rattle.class_meaning.specs.Classes.{class_number}
use Rattle.class_meaning.specs.declared.ask.Ask.TheVariants.{ByName}
use Rattle.member_meaning.specs.Meaning.{unknown, meaning}
use Rattle.spec_checks.specs.Targets.{written_in, written_meant}
use Rattle.target_steps.specs.Below.spec_table.specs.Meanings.{meant_view}
use Rattle.target_steps.specs.Below.check_scopes.specs.Told.{spec_in}
use Rattle.target_steps.specs.Below.check_names.proofs.ByNumber.{by_number}
use Rattle.stmt_targets.specs.Naming.{stands_with}
use Rattle.stmt_targets.proofs.looked_for.named_in_class.Goals as goal

pub returns-clause-named : goal.returns-clause-named
returns-clause-named c = λ names other.
    let spec = spec_in c.args.setting in
    let scope = stands_with c.args.setting names other in
    c.named_by.ensures.named c.args.setting names other
    ∙ sym (by_number (written_in spec scope c.args.name c.args.place c.args.own) (written_meant spec scope c.args.place c.args.own) unknown
    (meant_view c.meaning-meant.result) (meaning spec (ByName c.args.name)) (class_number spec c.args.class) refl (λ k. refl)
    c.meaning-meant.ensures.some c.meaning-meant.ensures.none)

pub returns-clause-owned : goal.returns-clause-owned
returns-clause-owned c = c.named_by.ensures.owned (spec_in c.args.setting) c.meaning-meant.ensures.owned
