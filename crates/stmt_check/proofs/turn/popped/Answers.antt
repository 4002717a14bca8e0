use Rattle.std.proofs.Common.{List, [], ◌++◌, ◌-◌, take, ap, ◌∙◌}
use Rattle.spec_checks.specs.Statements.{done}
use Rattle.stmt_kinds.specs.Below.check_scopes.specs.Told.{first_in}
use Rattle.stmt_kinds.specs.Below.stmt_scopes.specs.Refused.{refused}
use Rattle.stmt_kinds.specs.Below.stmt_pending.specs.Meant.{next_check, under}
use Rattle.stmt_kinds.specs.Below.stmt_pending.specs.declared.pending.Pending.{Pending}
use Rattle.stmt_check.proofs.Turns.{refused_popped}
use Rattle.stmt_check.proofs.turn.popped.Goals as goal

pub returns-in-Some : goal.returns-in-Some
returns-in-Some c =
    refused_popped c.args.setting c.args.returned.now c.pop.new.self.items c.args.stack.items c.in-Some.pending (first_in c.args.refusals.now) (first_in c.pending_next.new.refusals) (next_check c.args.setting c.args.returned.now c.in_ok-next-in-Some.next) c.in-Some.ensures.items c.in_ok-next-in-Some.ensures

pub returns : goal.returns
returns c =
    ap (λ (s : List Pending). refused (first_in c.args.refusals.now) (under c.args.setting c.args.returned.now s done)) (c.in-None.ensures.items ∙ ap (λ (s : List Pending). s ++ []) (c.in-None.ensures.rest ∙ ap (λ n. take (n - 1) c.args.stack.items) c.in-None.ensures.cases.0))
