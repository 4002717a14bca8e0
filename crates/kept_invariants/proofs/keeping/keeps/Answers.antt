use Rattle.std.proofs.Common.{◌∙◌}
use Rattle.spec_table.specs.Tables.{table_spec}
use Rattle.stmt_meaning.specs.Keeping.{keeps}
use Rattle.kept_invariants.specs.Guarding.{line_holds, standing}
use Rattle.kept_invariants.proofs.Lines.{kept_unbound}
use Rattle.kept_invariants.proofs.Verdicts.{same_verdict}
use Rattle.kept_invariants.proofs.keeping.keeps.Goals as goal

pub returns : goal.returns
returns c =
    let spec = table_spec c.args.table.now in
    same_verdict c.line_holds.result (line_holds spec (record (standing c.args.class c.args.held) { locals = c.from_vec.result }) c.ancestors.result.now)
    (keeps spec c.args.class c.args.held.variables.items)
    (kept_unbound c.args.table.now c.args.class c.ancestors.result.now c.ancestors.ensures.some c.ancestors.ensures.none c.args.held c.from_vec.result
    (c.from_vec.ensures ∙ c.new.ensures.items))
    c.line_holds.ensures
