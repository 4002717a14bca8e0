use Rattle.std.proofs.Common.{ap, sym, ◌∙◌}
use Rattle.node_meaning.specs.Expressions.{member_value, read_found}
use Rattle.eval_data.specs.Parts.{here_of}
use Rattle.name_steps.specs.Settings.{set}
use Rattle.name_steps.proofs.Plans.{if_ok}
use Rattle.name_steps.proofs.reading.member_value.Goals as goal

pub returns-in-Some : goal.returns-in-Some
returns-in-Some c = if_ok c.class_value.result c.class_value.ensures (λ s plan asker scope name found.
    plan asker ∙
    ap (λ v. member_value (set c.args.table.now asker) (here_of c.args.here) c.args.place scope name v c.args.locals.now.items) (sym c.in-Some.is))

pub returns-in-None : goal.returns-in-None
returns-in-None c = if_ok c.read_found.result c.read_found.ensures (λ s plan asker scope name found.
    plan asker c.args.locals.now.items ∙
    ap (λ v. read_found (set c.args.table.now asker) (here_of c.args.here) c.args.place v c.args.locals.now.items) found ∙
    ap (λ v. member_value (set c.args.table.now asker) (here_of c.args.here) c.args.place scope name v c.args.locals.now.items) (sym c.in-None.is))
