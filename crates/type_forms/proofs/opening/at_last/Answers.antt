use Rattle.vdm_kinds.specs.declared.name.Name.{Name}
use Rattle.form_meaning.specs.Types.{definition_form}
use Rattle.type_forms.proofs.Steps.{next_opened}
use Rattle.type_forms.proofs.opening.at_last.Goals as goal

pub loop-step-preserved : goal.loop-step-preserved
loop-step-preserved g c again =
    next_opened (g.N.TypeNames.found c.args.names.now) (λ (class : Name). g.N.TypeNames.descends c.args.names.now class class)
    (definition_form (g.N.TypeNames.found c.args.names.now) (λ (class : Name). g.N.TypeNames.descends c.args.names.now class class) (g.N.TypeNames.rank c.args.names.now))
    c.loop-step.opening.known c.loop-step.opening.pending.items c.pop.new.self.items c.in-Some.alternative _ _ c.in-Some.ensures.items
    (c.in_ok-opening.ensures again) (c.loop-step.invariant again)
