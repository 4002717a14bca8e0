use Rattle.check_scopes.specs.Told.{first_in, spec_in, types_in}
use Rattle.check_types.specs.Refusing.{refused_as}
use Rattle.check_types.proofs.Faulted.{name_alone}
use Rattle.check_types.proofs.names.refuse_name.Goals as goal

pub returns-in-None : goal.returns-in-None
returns-in-None c =
    name_alone (spec_in c.args.setting) (types_in c.args.setting) c.type_scope.result c.args.name c.args.place (first_in c.args.refusals.now)
    c.is_class-or_class.result (refused_as (first_in c.refuse_in-in-None.new.refusals) c.refuse_in-in-None.result)
    c.in-None.is c.is_class-or_class.ensures c.type_scope.ensures c.refuse_in-in-None.ensures
