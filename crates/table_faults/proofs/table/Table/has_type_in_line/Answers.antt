use Rattle.std.proofs.Common.{ℕ, ap, is_some, ◌∙◌}
use Rattle.std.specs.List.{list_any}
use Rattle.class_meaning.specs.declared.ask.Ask.TheVariants.{AsType}
use Rattle.class_meaning.specs.Found.{own_in}
use Rattle.table_faults.specs.Tables.{spec_in}
use Rattle.table_faults.proofs.Lines.{line_at}
use Rattle.table_faults.proofs.table.Table.has_type_in_line.Goals as goal

pub returns-in-Some : goal.returns-in-Some
returns-in-Some c =
    c.has_type_among.ensures
    ∙ ap (list_any (λ (a : ℕ). is_some (own_in (spec_in c.args.self.now) (AsType c.args.name) a)))
    (c.deref.ensures.value ∙ line_at c.args.self.now.lines.now c.args.k c.in-Some.line c.in-Some.ensures.lookup)
