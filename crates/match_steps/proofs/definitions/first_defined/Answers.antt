use Rattle.std.proofs.Common.{Option, ap, ◌∙◌}
use Rattle.abstract_syntax.specs.Types.{TypeTree}
use Rattle.expr_tree.specs.View.{boxed_view}
use Rattle.node_meaning.specs.Fitting.{typed_maybe}
use Rattle.node_meaning.specs.Tasks.{evaluated}
use Rattle.eval_data.specs.declared.matching.Met.TheVariants.{Definition}
use Rattle.eval_data.specs.declared.matching.MetDefinition.{MetDefinition}
use Rattle.eval_data.specs.Parts.{here_of}
use Rattle.eval_data.specs.Steps.{meets_with}
use Rattle.match_steps.proofs.definitions.first_defined.Goals as goal

pub returns : goal.returns
returns c = λ setting locals.
    let here = here_of c.args.here in
    let met : MetDefinition = record { pattern = record { ref_ptr = c.args.definition.ref_ptr; now = c.args.definition.now.pattern }; more = c.args.more; body = c.args.body; count = c.args.count } in
    c.defining.ensures setting locals
    ∙ ap (λ (t : Option TypeTree). evaluated here locals (boxed_view c.args.definition.now.value) c.args.place
    (typed_maybe setting.spec here.nest here.scope t c.args.place (meets_with setting.spec (Definition c.args.here met) c.args.place))) c.declared_type-declared.ensures
