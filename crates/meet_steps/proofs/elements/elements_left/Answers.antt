use Rattle.std.proofs.Common.{Vec, Global, reverse, ap, ◌∙◌}
use Rattle.abstract_syntax.specs.Values.{ValueTree}
use Rattle.expr_tree.specs.View.{pattern_view}
use Rattle.vdm_tree.specs.StmtView.{boxed_stmt}
use Rattle.spec_table.specs.Tables.{table_spec}
use Rattle.stmt_meaning.specs.Loops.{each_element}
use Rattle.eval_data.specs.Parts.{here_of}
use Rattle.step_data.specs.declared.meeting.Elements.{Elements}
use Rattle.meet_steps.specs.Onwards.{onward_code}
use Rattle.meet_steps.proofs.Moving.{moved}
use Rattle.meet_steps.proofs.elements.elements_left.Goals as goal

pub returns-clause-same : goal.returns-clause-same
returns-clause-same c =
    let spec = table_spec c.args.table.now in
    let locals = c.args.locals.now.items in
    let e = c.args.elements.value in
    let body = c.deref-4.result.now in
    let count = c.deref-5.result.now in
    let values = c.into_values-values.result in
    let left = λ (h p m b n : Elements) (vs : Vec ValueTree Global). each_element spec (here_of h.here) p.place (pattern_view m.pattern.now) (boxed_stmt b.body.now) n.count (reverse vs.items) locals in
    moved spec c.followed.new.locals.items c.followed.result (onward_code spec locals c.element_behind-onward.result) (left e e e e e e.values)
    c.followed.ensures.same
    (c.element_behind-onward.ensures.same spec locals
    ∙ ap (λ (h : Elements). left h c.deref-2.result.now c.deref-3.result.now body count values) c.deref.ensures
    ∙ ap (λ (p : Elements). left e p c.deref-3.result.now body count values) c.deref-2.ensures
    ∙ ap (λ (m : Elements). left e e m body count values) c.deref-3.ensures
    ∙ ap (λ (b : Elements). left e e e b count values) c.deref-4.ensures
    ∙ ap (λ (n : Elements). left e e e e n values) c.deref-5.ensures
    ∙ ap (left e e e e e) (c.into_values-values.ensures ∙ ap (λ (x : Elements). x.values) c.into_inner.ensures))
