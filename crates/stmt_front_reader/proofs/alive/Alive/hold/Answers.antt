use Rattle.stmt_front_reader.proofs.Holding.{held_back}
use Rattle.std.proofs.Common.{sym, ◌∙◌}
use Rattle.stmt_front_reader.proofs.alive.Alive.hold.Goals as goal

pub returns : goal.returns
returns c =
    let is = c.is_bracket.ensures c.if-not-is_bracket.false in
    held_back c.args.item c.args.self.now _ c.in-Some.reading is.0 is.1 (sym c.len.ensures ∙ c.if-len-ne2.false) c.in-Some.ensures.items
    c.in_ok-push_back-2.ensures.items
