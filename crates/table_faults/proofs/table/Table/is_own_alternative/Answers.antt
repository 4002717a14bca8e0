use Rattle.std.proofs.Common.{ap, sym, ◌∙◌}
use Rattle.expr_tree.specs.TypeDefView.{type_def_view}
use Rattle.class_meaning.specs.Faults.{in_circle}
use Rattle.class_meaning.specs.TypeGraph.{type_graph, type_number}
use Rattle.table_faults.specs.Tables.{spec_in}
use Rattle.table_faults.proofs.Lines.{circle_is, flag_is}
use Rattle.table_faults.proofs.table.Table.is_own_alternative.Goals as goal

pub returns-in-Some : goal.returns-in-Some
returns-in-Some c =
    let spec = spec_in c.args.self.now in
    circle_is spec (type_number spec (type_def_view c.args.definition.now)) c.in-Some.number c.flag_at.result
    (sym (c.number.ensures spec c.requires.numbers) ∙ c.in-Some.is)
    (c.flag_at.ensures ∙ flag_is (type_graph spec) c.args.self.now.type_cycles.now c.in-Some.number c.requires.type_cycles)

pub returns-in-None : goal.returns-in-None
returns-in-None c =
    let spec = spec_in c.args.self.now in
    sym (ap (in_circle spec) (sym (c.number.ensures spec c.requires.numbers) ∙ c.in-None.is))
