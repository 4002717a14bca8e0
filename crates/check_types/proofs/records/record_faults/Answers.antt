use Rattle.std.proofs.Common.{Option, ap, sym, ◌∙◌, not, nat_eq, is_some, length}
use Rattle.vdm_kinds.specs.declared.spec_kind.SpecKind.TheVariants.{UnknownName, WrongArity}
use Rattle.pattern_meaning.specs.RecordTypes.{RecordType}
use Rattle.class_checks.specs.Results.{refused_if}
use Rattle.class_checks.specs.TypeNames.{fields_made, name_faults, record_type}
use Rattle.check_scopes.specs.Told.{first_in, spec_in, types_in}
use Rattle.check_types.specs.Refusing.{made_faults, refused_as, refused_by}
use Rattle.check_types.proofs.Faulted.{stays_refused, goes_on}
use Rattle.check_types.proofs.records.record_faults.Goals as goal

pub returns-then-refuse_name : goal.returns-then-refuse_name
returns-then-refuse_name c =
    stays_refused (first_in c.args.refusals.now) (first_in c.refuse_name.new.refusals)
    (name_faults (spec_in c.args.setting) (types_in c.args.setting) c.args.type_name c.args.place)
    (refused_if (not (is_some (record_type (spec_in c.args.setting) (types_in c.args.setting) c.args.type_name))) UnknownName c.args.type_name.name_place)
    (refused_if (not (nat_eq c.args.count (length (fields_made (spec_in c.args.setting) (record_type (spec_in c.args.setting) (types_in c.args.setting) c.args.type_name))))) WrongArity c.args.place)
    c.refuse_name.result c.if-refuse_name.true c.refuse_name.ensures

pub returns : goal.returns
returns c =
    goes_on (first_in c.args.refusals.now) (first_in c.refuse_name.new.refusals)
    (name_faults (spec_in c.args.setting) (types_in c.args.setting) c.args.type_name c.args.place)
    (refused_if (not (is_some (record_type (spec_in c.args.setting) (types_in c.args.setting) c.args.type_name))) UnknownName c.args.type_name.name_place)
    (refused_if (not (nat_eq c.args.count (length (fields_made (spec_in c.args.setting) (record_type (spec_in c.args.setting) (types_in c.args.setting) c.args.type_name))))) WrongArity c.args.place)
    c.refuse_name.result (refused_as (first_in c.refuse_made.new.refusals) c.refuse_made.result)
    c.if-refuse_name.false c.refuse_name.ensures
    (ap (λ (made : Option RecordType). refused_by (first_in c.refuse_name.new.refusals) (made_faults (spec_in c.args.setting) made c.args.type_name c.args.count c.args.place))
    (sym c.in_ok-made.ensures)
    ∙ c.refuse_made.ensures)
