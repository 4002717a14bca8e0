use Rattle.spec_table.specs.Tables.{table_spec}
use Rattle.std.proofs.Common.{◌∙◌, ap}
use Rattle.spec_table.specs.Members.{reached_through}
use Rattle.spec_table.proofs.Reaching.{reached_right}
use Rattle.spec_table.proofs.table.ClassTable.reached.Goals as goal

pub returns : goal.returns
returns c =
    λ k e. c.reached_through.ensures
    ∙ ap (λ o. reached_through (table_spec c.args.self.now) c.args.name c.args.arity o c.ancestors.result.now) c.keeper-keeper.ensures
    ∙ reached_right (table_spec c.args.self.now) c.args.self.now.fine c.args.from c.args.class k c.args.name c.args.arity e c.ancestors.result.now
    (c.ancestors.ensures.some k e)
