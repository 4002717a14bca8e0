use Rattle.std.proofs.Common.{ap, sym, ◌∙◌, option_map}
use Rattle.expr_tree.specs.TypeDefView.{type_def_view, type_body_view}
use Rattle.record_names.proofs.Following.{follow_next}
use Rattle.record_names.proofs.standing.record_type.Goals as goal

pub loop-step-preserved : goal.loop-step-preserved
loop-step-preserved g c =
    follow_next _ _ _ _ _ c.in-Some-2.next _ _ _ _ c.loop-step.invariant (ap (option_map (λ r. type_def_view r.now)) c.in-Some.is)
    (ap type_body_view c.in-Same.is) (sym c.in_ok-next.ensures ∙ c.in-Some-2.is) c.type_def-found-in-loop-step.ensures
