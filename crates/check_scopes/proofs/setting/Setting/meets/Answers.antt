use Rattle.class_meaning.specs.Classes.{class_names}
use Rattle.spec_table.proofs.Reaching.{known_class}
use Rattle.spec_table.specs.Tables.{table_spec}
use Rattle.check_scopes.proofs.setting.Setting.meets.Goals as goal

pub returns : goal.returns
returns c = c.meets.ensures (class_names (table_spec c.args.self.now.table.now))
    (λ class. known_class (table_spec c.args.self.now.table.now) c.args.self.now.table.now.fine class)
