use Rattle.std.proofs.Common.{sym}
use Rattle.type_forms.proofs.Nothing.{nothing_added}
use Rattle.type_forms.proofs.joining.joined.Goals as goal

pub returns-then-adds_nothing : goal.returns-then-adds_nothing
returns-then-adds_nothing c = nothing_added c.args.known c.args.other.now (sym c.if-adds_nothing.ensures)
