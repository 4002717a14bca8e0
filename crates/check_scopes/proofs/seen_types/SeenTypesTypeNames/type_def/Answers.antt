use Rattle.std.proofs.Common.{ap, ◌∙◌}
use Rattle.class_meaning.specs.Found.{type_named}
use Rattle.class_checks.specs.TypeNames.{seen_from, types_stand}
use Rattle.spec_table.specs.Tables.{table_spec}
use Rattle.check_scopes.specs.Seen.{seen_of_found}
use Rattle.check_scopes.proofs.seen_types.SeenTypesTypeNames.type_def.Goals as goal

pub returns : goal.returns
returns c =
    c.seen.ensures
    ∙ ap (seen_from (table_spec c.args.self.now.table.now) c.args.scope) c.type_def.ensures
    ∙ seen_of_found (types_stand (table_spec c.args.self.now.table.now)) (table_spec c.args.self.now.table.now) c.args.scope
    (type_named (table_spec c.args.self.now.table.now) c.args.scope c.args.class c.args.name)
