use Rattle.std.proofs.Common.{◌<◌, ◌∙◌, length, take, get_or, refl, ap, sym, arith}
use Rattle.class_meaning.specs.Found.{agreed, found}
use Rattle.found_members.specs.Agreements.{agreed_at}
use Rattle.found_members.specs.Rows.{is_placed}
use Rattle.found_members.proofs.Covering.{agreed_more}
use Rattle.found_members.proofs.Placing.{all_here, one_further}
use Rattle.found_members.proofs.following.agreed_at.Goals as goal

pub loop-class-preserved : goal.loop-class-preserved
loop-class-preserved c = λ spec have fine placed.
    let nodes = c.args.classes.now in
    let i = c.loop-class.class-index in
    let within : i < length nodes = omega arith in
    let here = all_here (is_placed c.args.rows.now) nodes i 0 within placed in
    let node = get_or nodes i 0 in
    c.agreed-answer.ensures
    ∙ ap (λ a. agreed a c.follow.result) (c.loop-class.invariant spec have fine placed)
    ∙ ap (agreed (agreed_at spec (take i nodes) c.args.ask)) (c.follow.ensures spec have fine here)
    ∙ sym (agreed_more (found spec c.args.ask) (take i nodes) node)
    ∙ ap (λ xs. agreed_at spec xs c.args.ask) (sym (one_further nodes i node within refl))
