use Rattle.std.proofs.Common.{ap, sym, ◌∙◌}
use Rattle.shared_names.specs.Held.{with_name}
use Rattle.shared_names.specs.Maps.{held, held_under}
use Rattle.shared_names.proofs.shared_map.SharedMap.with.Goals as goal

pub returns-in_ok-with_name-in-Some : goal.returns-in_ok-with_name-in-Some
unfolding held
returns-in_ok-with_name-in-Some g c =
    c.in_ok-with_name-in-Some.ensures ∙ ap (λ root. with_name c.args.name c.args.value (held_under root)) (sym c.in-Some.is)
