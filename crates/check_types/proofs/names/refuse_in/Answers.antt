use Rattle.std.proofs.Common.{ℕ, Option, ap, sym, ◌∙◌}
use Rattle.class_meaning.specs.Classes.{class_number}
use Rattle.class_checks.specs.TypeNames.{in_class_faults}
use Rattle.check_scopes.specs.Told.{first_in, spec_in, types_in}
use Rattle.check_types.specs.Refusing.{refused_by}
use Rattle.check_types.proofs.names.refuse_in.Goals as goal

pub returns-in-Some : goal.returns-in-Some
returns-in-Some c =
    ap (λ (k : Option ℕ). refused_by (first_in c.args.refusals.now)
    (in_class_faults (spec_in c.args.setting) (class_number (spec_in c.args.setting) (types_in c.args.setting)) c.args.name c.args.place c.args.or_class k))
    (sym c.in-Some.ensures)
    ∙ c.refuse_there.ensures c.in-Some.field-0 c.args.place (sym c.in-Some.ensures)
