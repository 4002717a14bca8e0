use Rattle.std.proofs.Common.{List, [], ◌++◌, ◌-◌, take, ap, ◌∙◌}
use Rattle.class_checks.specs.Results.{gives}
use Rattle.check_named.specs.Below.check_scopes.specs.Told.{first_in, told}
use Rattle.check_named.specs.Below.check_frames.specs.Meant.{next_check, under}
use Rattle.check_named.specs.Below.check_frames.specs.declared.step.Frame.{Frame}
use Rattle.type_check.proofs.Turns.{told_popped}
use Rattle.type_check.proofs.turn.given.Goals as goal

pub returns-in-Some : goal.returns-in-Some
returns-in-Some c =
    told_popped c.args.setting c.pop.new.self.items c.args.frames.items c.in-Some.frame (first_in c.args.refusals.now) (first_in c.frame_next.new.refusals) c.args.form (next_check c.args.setting c.in_ok-next-in-Some.next) c.in-Some.ensures.items c.in_ok-next-in-Some.ensures

pub returns : goal.returns
returns c =
    ap (λ (fs : List Frame). told (first_in c.args.refusals.now) (under c.args.setting fs (gives c.args.form))) (c.in-None.ensures.items ∙ ap (λ (fs : List Frame). fs ++ []) (c.in-None.ensures.rest ∙ ap (λ n. take (n - 1) c.args.frames.items) c.in-None.ensures.cases.0))
