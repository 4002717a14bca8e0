use Rattle.std.proofs.Common.{ap, sym, ◌∙◌}
use Rattle.member_meaning.specs.Meaning.{Meant}
use Rattle.class_meaning.specs.Classes.{class_number}
use Rattle.class_checks.specs.TypeNames.{meant_faults}
use Rattle.check_scopes.specs.Told.{first_in, spec_in, types_in}
use Rattle.check_types.specs.Refusing.{refused_by}
use Rattle.check_types.proofs.names.refuse_there.Goals as goal

pub returns : goal.returns
returns c = λ k place e.
    ap (λ (m : Meant). refused_by (first_in c.args.refusals.now)
    (meant_faults (spec_in c.args.setting) (class_number (spec_in c.args.setting) (types_in c.args.setting)) c.args.name place c.args.or_class m))
    (sym (c.meaning-meant.ensures.some k e))
    ∙ c.refuse_meant.ensures place
