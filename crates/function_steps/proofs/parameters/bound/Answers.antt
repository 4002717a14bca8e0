use Rattle.std.proofs.Common.{List, Some, ap, ◌∙◌}
use Rattle.vdm_kinds.specs.declared.name.Name.{Name}
use Rattle.abstract_syntax.specs.Values.{ValueTree}
use Rattle.expr_tree.specs.View.{pattern_views}
use Rattle.expr_tree.specs.declared.pattern.Pattern.{Pattern}
use Rattle.node_meaning.specs.Expressions.{no_match}
use Rattle.node_meaning.specs.Functions.{pre_of}
use Rattle.node_meaning.specs.Matching.{met}
use Rattle.eval_data.specs.Parts.{applying_of}
use Rattle.eval_data.specs.declared.applying.Applying.{Applying}
use Rattle.spec_table.specs.Tables.{table_spec}
use Rattle.function_steps.proofs.parameters.bound.Goals as goal

pub returns : goal.returns
returns c = λ asker.
    let spec = table_spec c.args.table.now in
    let applying = applying_of c.args.applying.value in
    let place = c.args.applying.value.place in
    let locals = c.args.locals.now.items in
    let given = c.args.given.items in
    c.answered.ensures (record { spec = spec; asker = asker }) c.meet.new.locals.items
    ∙ c.in_ok-attempt.ensures place (pre_of spec applying applying.function.pre) (no_match place)
    ∙ ap (λ (x : Applying). met spec (Some x.class) place (pattern_views c.as_slice.result.now) c.as_slice-2.result.now (pre_of spec applying applying.function.pre) (no_match place) given locals)
    c.deref-2.ensures
    ∙ ap (λ (ps : List Pattern). met spec (Some c.args.applying.value.class) place (pattern_views ps) c.as_slice-2.result.now (pre_of spec applying applying.function.pre) (no_match place) given locals)
    (c.as_slice.ensures.value ∙ ap (λ (x : Applying). x.function.now.patterns.items) c.deref.ensures)
    ∙ ap (λ (vs : List ValueTree). met spec (Some c.args.applying.value.class) place applying.function.patterns vs (pre_of spec applying applying.function.pre) (no_match place) given locals)
    c.as_slice-2.ensures
