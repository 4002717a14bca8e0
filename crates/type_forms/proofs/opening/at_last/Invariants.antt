use Rattle.std.proofs.Common.{◌≡◌}
use Rattle.vdm_kinds.specs.declared.name.Name.{Name}
use Rattle.type_forms.specs.Again.{FindsAgain}
use Rattle.type_forms.specs.Pending.{opened_at_last}
use Rattle.type_forms.proofs.opening.at_last.Given as goal

abbrev pub invariant-loop-step : goal.invariant-loop-step
invariant-loop-step g l =
    FindsAgain (g.N.TypeNames.found l.names)
    → opened_at_last (g.N.TypeNames.found l.names) (λ (class : Name). g.N.TypeNames.descends l.names class class) (g.N.TypeNames.rank l.names) l.opening
    ≡ opened_at_last (g.N.TypeNames.found l.names) (λ (class : Name). g.N.TypeNames.descends l.names class class) (g.N.TypeNames.rank l.names) l.fn.opening
