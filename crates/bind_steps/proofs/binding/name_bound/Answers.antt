use Rattle.std.proofs.Common.{◌≡◌, Err}
use Rattle.vdm_kinds.specs.declared.halt.Halt.TheVariants.{Of}
use Rattle.bind_steps.proofs.Bounds.{name_past, name_within}
use Rattle.bind_steps.proofs.binding.name_bound.Goals as goal

pub returns-in_ok-push_shared-in-Ok : goal.returns-in_ok-push_shared-in-Ok
returns-in_ok-push_shared-in-Ok c = λ place matched missed.
    name_within place matched missed c.args.name c.args.value.now _ c.in-Ok.value c.args.locals.now.items c.push_shared.new.locals.items
    c.in_ok-copy.ensures c.in-Ok.ensures.made.0 c.in-Ok.ensures.made.1 c.in_ok-push_shared-in-Ok.ensures

pub returns-in-Err-Of : goal.returns-in-Err-Of
returns-in-Err-Of c = λ place matched missed.
    let is : c.within_limits.result ≡ Err (Of c.in-Err-Of.kind) = cc in
    let past = c.within_limits.ensures.refused c.in-Err-Of.kind is in
    rw c.in-Err-Of.field-0-is (name_past place matched missed c.args.name c.args.value.now _ c.in-Err-Of.kind c.args.locals.now.items c.in_ok-copy.ensures past.0 past.1)
