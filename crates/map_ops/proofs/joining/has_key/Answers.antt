use Rattle.std.proofs.Common.{ap, sym, ◌∙◌}
use Rattle.std.specs.Prelude.{is_some}
use Rattle.std.specs.Option.{option_copied}
use Rattle.map_ops.proofs.Keys.{found_key}
use Rattle.map_ops.proofs.joining.has_key.Goals as goal

pub returns-in-Some : goal.returns-in-Some
returns-in-Some c =
    ap is_some (sym (ap option_copied c.in-Some.is) ∙ c.found.ensures) ∙ found_key c.args.pairs.now c.args.key.now

pub returns-in-None : goal.returns-in-None
returns-in-None c =
    ap is_some (sym (ap option_copied c.in-None.is) ∙ c.found.ensures) ∙ found_key c.args.pairs.now c.args.key.now
