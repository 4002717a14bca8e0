use Rattle.class_checks.specs.Expressions.{made_form, made_wants}
use Rattle.class_checks.specs.TypeNames.{record_faults, record_type}
use Rattle.check_steps.specs.Below.check_scopes.specs.Told.{first_in, spec_in, types_in}
use Rattle.check_steps.specs.Below.check_names.proofs.Notes.{if_ok}
use Rattle.check_called.proofs.Making.{by_record, known_callee, spoilt_callee}
use Rattle.check_called.proofs.made.record_callee.Goals as goal

pub returns-then-refused : goal.returns-then-refused
returns-then-refused c =
    spoilt_callee (spec_in c.args.here.setting) (first_in c.args.refusals.now) (first_in c.record_faults.new.refusals) (made_wants (spec_in c.args.here.setting) (record_type (spec_in c.args.here.setting) (types_in c.args.here.setting) c.args.type_name)) (made_form (spec_in c.args.here.setting) (record_type (spec_in c.args.here.setting) (types_in c.args.here.setting) c.args.type_name)) (record_faults (spec_in c.args.here.setting) (types_in c.args.here.setting) c.args.type_name c.args.count c.args.place) c.in_ok-refused.refused c.of_nothing.result
    c.if-refused.true (by_record (spec_in c.args.here.setting) (types_in c.args.here.setting) c.args.type_name c.args.place c.args.count) c.in_ok-refused.ensures c.of_nothing.ensures

pub returns : goal.returns
returns c =
    if_ok c.made.result c.made.ensures (λ callee told_so.
    known_callee (spec_in c.args.here.setting) (first_in c.args.refusals.now) (first_in c.record_faults.new.refusals) (made_wants (spec_in c.args.here.setting) (record_type (spec_in c.args.here.setting) (types_in c.args.here.setting) c.args.type_name)) (made_form (spec_in c.args.here.setting) (record_type (spec_in c.args.here.setting) (types_in c.args.here.setting) c.args.type_name)) (record_faults (spec_in c.args.here.setting) (types_in c.args.here.setting) c.args.type_name c.args.count c.args.place) c.in_ok-refused.refused callee
    c.if-refused.false c.in_ok-refused.ensures told_so)
