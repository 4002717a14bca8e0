use Rattle.std.proofs.Common.{◌<◌, length, take, get_or, refl, sym, subst, arith}
use Rattle.found_members.specs.Agreements.{agreed_at}
use Rattle.found_members.specs.Rows.{is_placed}
use Rattle.found_members.specs.Ways.{Covers}
use Rattle.found_members.proofs.Covering.{covers_one_more}
use Rattle.found_members.proofs.Placing.{all_here, one_further}
use Rattle.found_members.proofs.heirs.ways_of.Goals as goal

pub loop-class-preserved : goal.loop-class-preserved
loop-class-preserved c = λ spec trees fine placed.
    let nodes = c.args.superclasses.now in
    let i = c.loop-class.class-index in
    let within : i < length nodes = omega arith in
    let here = all_here (is_placed c.args.rows.now) nodes i 0 within placed in
    let node = get_or nodes i 0 in
    let both = c.in_ok-ways.ensures spec trees fine here in
    subst (λ xs. Covers c.in_ok-ways.ways.items (agreed_at spec xs)) (sym (one_further nodes i node within refl))
    (covers_one_more spec c.loop-class.ways.items c.in_ok-ways.ways.items (take i nodes) node both.0
    (c.loop-class.invariant spec trees fine placed) both.1)
