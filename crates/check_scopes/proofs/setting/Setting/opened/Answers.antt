use Rattle.spec_table.specs.Tables.{table_spec}
use Rattle.check_scopes.specs.SeenAgain.{finds_again}
use Rattle.check_scopes.proofs.setting.Setting.opened.Goals as goal

pub returns : goal.returns
returns c = c.opened.ensures (λ scope class name found e. finds_again (table_spec c.args.self.now.table.now) c.args.self.now.table.now.fine scope class name found e)
