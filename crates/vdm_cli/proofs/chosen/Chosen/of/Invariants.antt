use Rattle.std.proofs.Common.{map, Option, None, false, length}
use Rattle.std.specs.String.{string_bytes}
use Rattle.vdm_cli.specs.declared.chosen.Chosen.{Chosen}
use Rattle.vdm_cli.proofs.Choosing.{choice, FindsChoice}
use Rattle.vdm_cli.proofs.chosen.Chosen.of.Given as goal

-- what the rest chooses behind what is chosen is what all words choose
abbrev pub invariant-loop-rest : goal.invariant-loop-rest
invariant-loop-rest l =
    (found : Option Chosen)
    → FindsChoice (map string_bytes l.rest) l.chosen found
    → FindsChoice (map string_bytes l.words) (choice None false) found

abbrev pub decreases-loop-rest : goal.decreases-loop-rest
decreases-loop-rest l = length l.rest
