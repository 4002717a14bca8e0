use Rattle.std.proofs.Common.{Option, Some, Vec, Global, option_map, refl, ap, sym, ◌∙◌}
use Rattle.conform.specs.declared.test.Test.{Test}
use Rattle.conform.specs.Frames.{found_in}
use Rattle.conform.proofs.Judging.{fitting_says}
use Rattle.member_meaning.specs.TypeRanks.{finder, type_rank}
use Rattle.spec_table.specs.Tables.{table_spec}
use Rattle.type_meaning.specs.Tests.{fitting}
use Rattle.node_meaning.specs.Fitting.{descends, fit_then}
use Rattle.eval_data.specs.Parts.{nest_of}
use Rattle.eval_data.specs.Steps.{verdict_of}
use Rattle.fit_steps.specs.Tests.{wanted}
use Rattle.fit_steps.proofs.Results.{if_ok}
use Rattle.fit_steps.proofs.fitting.judged.Goals as goal

pub returns : goal.returns
returns c =
    let spec = table_spec c.args.table.now in
    let all = found_in (finder spec) (descends spec) (type_rank spec) c.in-Some.tests.items in
    if_ok c.begun.result c.begun.ensures (λ t is asker.
    is asker ∙ ap (fit_then spec (nest_of c.args.nest) c.args.place (verdict_of c.args.verdict c.args.place c.args.locals.now.items))
    (sym (fitting_says (Some all) all refl) ∙ ap (λ (o : Option (Vec Test Global)). fitting (wanted spec (option_map (λ (ts : Vec Test Global). ts.items) o))) (sym c.in-Some.is)))
