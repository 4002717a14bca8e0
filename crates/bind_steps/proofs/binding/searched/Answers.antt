use Rattle.std.proofs.Common.{◌≡◌, Err}
use Rattle.vdm_kinds.specs.declared.halt.Halt.TheVariants.{Of}
use Rattle.bind_steps.proofs.Bounds.{bound_past, bound_where_found}
use Rattle.bind_steps.proofs.binding.searched.Goals as goal

pub returns-in_ok-bound-in-Ok-Some : goal.returns-in_ok-bound-in-Ok-Some
returns-in_ok-bound-in-Ok-Some c = λ place matched missed.
    let found = rw c.in-Ok-Some.field-0-is at c.in-Ok-Some.ensures.bound in
    bound_where_found place matched missed _ c.in-Ok-Some.binding _ _ found.0 found.1 c.in_ok-bound-in-Ok-Some.ensures

pub returns-in-Err-Of : goal.returns-in-Err-Of
returns-in-Err-Of c = λ place matched missed.
    let is : c.first_match.result ≡ Err (Of c.in-Err-Of.fault) = cc in
    let past = c.first_match.ensures.refused c.in-Err-Of.fault is in
    rw c.in-Err-Of.field-0-is (bound_past place matched missed _ c.in-Err-Of.fault c.args.locals.now.items past.0 past.1)
