use Rattle.spec_table.specs.Tables.{table_spec}
use Rattle.std.proofs.Common.{◌↔◌, Contains, IsTrue, sym, subst}
use Rattle.spec_table.specs.Members.{descends_from}
use Rattle.spec_table.proofs.Reaching.{known_class}
use Rattle.spec_table.proofs.type_names.ClassTableTypeNames.all_classes.Goals as goal

pub returns : goal.returns
returns c =
    λ class. subst (λ names. Contains names class ↔ IsTrue (descends_from (table_spec c.args.self.now) class class)) (sym c.classes.ensures)
    (known_class (table_spec c.args.self.now) c.args.self.now.fine class)
