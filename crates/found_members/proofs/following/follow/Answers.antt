use Rattle.std.proofs.Common.{◌≡◌, ◌-◌, ◌+◌, ◌∙◌, suc, length, sym, subst, arith}
use Rattle.found_members.specs.declared.following.Step.TheVariants.{Found as StepFound, Above}
use Rattle.found_members.proofs.Placing.{IsStep, looked_right, follows_start, follows_next}
use Rattle.found_members.proofs.following.follow.Goals as goal

pub loop-turn-init : goal.loop-turn-init
loop-turn-init c = λ spec have fine placed.
    let all : length c.args.rows.now - 0 ≡ length c.args.rows.now = omega arith in
    follows_start spec c.args.rows.now c.args.ask c.args.k (length c.args.rows.now - 0) fine placed all

pub returns-in-Found : goal.returns-in-Found
returns-in-Found c = λ spec have fine placed.
    let here = c.loop-turn.invariant spec have fine placed in
    let step : IsStep spec c.args.ask c.loop-turn.at (StepFound c.in-Found.found) =
    subst (IsStep spec c.args.ask c.loop-turn.at) (sym c.looked.ensures ∙ c.in-Found.is)
    (looked_right c.args.own.now c.args.rows.now spec c.args.ask c.loop-turn.at have fine here.placed) in
    step ∙ here.same

pub loop-turn-preserved : goal.loop-turn-preserved
loop-turn-preserved c = λ spec have fine placed.
    let here = c.loop-turn.invariant spec have fine placed in
    let step : IsStep spec c.args.ask c.loop-turn.at (Above c.in-Above.class) =
    subst (IsStep spec c.args.ask c.loop-turn.at) (sym c.looked.ensures ∙ c.in-Above.is)
    (looked_right c.args.own.now c.args.rows.now spec c.args.ask c.loop-turn.at have fine here.placed) in
    let turn = c.loop-turn._turn in
    let sooner : length c.args.rows.now - turn ≡ suc (length c.args.rows.now - (turn + 1)) = omega arith in
    follows_next spec c.args.rows.now c.args.ask c.args.k c.loop-turn.at c.in-Above.class (length c.args.rows.now - (turn + 1))
    (length c.args.rows.now - turn) sooner fine here step
