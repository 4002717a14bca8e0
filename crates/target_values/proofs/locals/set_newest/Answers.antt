use Rattle.std.proofs.Common.{Some, ap, sym, ◌∙◌, arith}
use Rattle.stmt_meaning.specs.Targets.{set_newest}
use Rattle.target_values.specs.Places.{at_place}
use Rattle.target_values.proofs.Newest.{set_at}
use Rattle.target_values.proofs.locals.set_newest.Goals as goal

pub returns-in-Some : goal.returns-in-Some
returns-in-Some c =
    set_at c.args.locals.now.items c.args.slot c.in-Some.place c.index_mut.result.now (omega (arith, c.in-Some.ensures.there)) c.index_mut.ensures.value ∙
    ap (at_place (Some c.in-Some.place) c.args.slot) (sym c.as_slice.ensures.value) ∙ sym (c.in-Some.ensures.newest c.args.slot) ∙
    ap (set_newest c.args.name c.args.slot) c.as_slice.ensures.value
