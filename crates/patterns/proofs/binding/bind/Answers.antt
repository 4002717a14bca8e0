use Rattle.std.proofs.Common.{◌≡◌, Option, IfOk, IfSome, IsSomeAnd, Err, subst}
use Rattle.vdm_kinds.specs.declared.halt.Halt.TheVariants.{Of}
use Rattle.vdm_kinds.specs.declared.run_fault.RunFault.{RunFault}
use Rattle.vdm_kinds.specs.declared.run_fault.RunFault.TheVariants.{SizeLimit}
use Rattle.expr_tree.specs.View.{pattern_view}
use Rattle.pattern_meaning.specs.Bindings.{Binding, IsWithinLimits, IsPastLimits}
use Rattle.pattern_meaning.specs.RecordTypes.{stands_for}
use Rattle.patterns.proofs.Several.{of_one}
use Rattle.patterns.proofs.binding.bind.Goals as goal

pub returns-clause-bound : goal.returns-clause-bound
returns-clause-bound g c =
    subst (λ (answer : Option Binding). IfOk c.bind_all.result (λ found. (found ≡ answer) × IfSome found IsWithinLimits))
    (of_one (stands_for (g.N.TypeNames.found c.args.names.now) (g.N.TypeNames.rank c.args.names.now) c.args.scope)
    (pattern_view c.args.p.now) c.args.v.now c.args.given.now)
    c.bind_all.ensures.bound

pub returns-clause-refused : goal.returns-clause-refused
returns-clause-refused g c =
    subst
    (λ (answer : Option Binding). (fault : RunFault) → c.bind_all.result ≡ Err (Of fault) → (fault ≡ SizeLimit) × IsSomeAnd answer IsPastLimits)
    (of_one (stands_for (g.N.TypeNames.found c.args.names.now) (g.N.TypeNames.rank c.args.names.now) c.args.scope)
    (pattern_view c.args.p.now) c.args.v.now c.args.given.now)
    c.bind_all.ensures.refused
