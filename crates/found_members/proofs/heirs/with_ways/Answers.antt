use Rattle.std.proofs.Common.{◌≡◌, ◌-◌, ◌+◌, ◌∙◌, ◌++◌, suc, length, slice_get, sym, ap, arith}
use Rattle.class_meaning.specs.Classes.{classes}
use Rattle.found_members.specs.Rows.{row_ways}
use Rattle.found_members.specs.Ways.{own_ways}
use Rattle.found_members.proofs.Placing.{gathers_start, gathers_done, gathers_next}
use Rattle.found_members.proofs.heirs.with_ways.Goals as goal

pub loop-turn-init : goal.loop-turn-init
loop-turn-init c = λ spec trees fine placed.
    let all : length c.args.rows.now - 0 ≡ length c.args.rows.now = omega arith in
    gathers_start spec c.args.rows.now c.args.ways.items c.args.k (length c.args.rows.now - 0) fine placed all

pub returns-in-None : goal.returns-in-None
returns-in-None c = λ spec trees fine placed.
    let rows = c.args.rows.now in
    let at = c.loop-turn.at in
    let here = c.loop-turn.invariant spec trees fine placed in
    let more : c.in_ok-ways.ways.items ≡ c.loop-turn.ways.items ++ own_ways (classes spec) at ++ row_ways (slice_get rows at) =
    c.in_ok-ways.ensures ∙ ap (λ ts. c.loop-turn.ways.items ++ own_ways ts at ++ row_ways (slice_get rows at)) trees in
    gathers_done spec rows c.args.ways.items c.loop-turn.ways.items c.in_ok-ways.ways.items c.args.k at (length rows - c.loop-turn._turn)
    fine here more (sym c.next_of.ensures ∙ c.in-None.is)

pub loop-turn-preserved : goal.loop-turn-preserved
loop-turn-preserved c = λ spec trees fine placed.
    let rows = c.args.rows.now in
    let at = c.loop-turn.at in
    let turn = c.loop-turn._turn in
    let here = c.loop-turn.invariant spec trees fine placed in
    let more : c.in_ok-ways.ways.items ≡ c.loop-turn.ways.items ++ own_ways (classes spec) at ++ row_ways (slice_get rows at) =
    c.in_ok-ways.ensures ∙ ap (λ ts. c.loop-turn.ways.items ++ own_ways ts at ++ row_ways (slice_get rows at)) trees in
    let sooner : length rows - turn ≡ suc (length rows - (turn + 1)) = omega arith in
    gathers_next spec rows c.args.ways.items c.loop-turn.ways.items c.in_ok-ways.ways.items c.args.k at c.in-Some.class (length rows - (turn + 1))
    (length rows - turn) sooner fine here more (sym c.next_of.ensures ∙ c.in-Some.is)
