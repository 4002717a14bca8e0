use Rattle.std.proofs.Common.{sym}
use Rattle.check_fields.specs.Below.check_scopes.specs.Told.{spec_in}
use Rattle.check_fields.specs.Below.spec_table.proofs.Meaning.{name_of_number}
use Rattle.check_calls.proofs.created.owner_of.Goals as goal

pub returns-clause-owns : goal.returns-clause-owns
returns-clause-owns c = record {
  named = sym (name_of_number (spec_in c.args.setting) c.args.class c.args.number c.requires);
  numbered = c.requires;
}
