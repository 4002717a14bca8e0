use Rattle.std.proofs.Common.{◌≡◌, ℤ, Some, ap, sym, ◌∙◌, rules, to_z, of_z}
use Rattle.std.specs.Int.{w128}
use Rattle.std.proofs.lemmas.Int.{to_z-of_z}
use Rattle.spec_checks.specs.Definitions.{delay_most}
use Rattle.sync_checks.proofs.numbers.delay_most.Goals as goal

pub returns-in-Some : goal.returns-in-Some
returns-in-Some c = λ spec class.
    let same : to_z w128 (of_z w128 c.in-Some.number) ≡ c.in-Some.number = search (rules, to_z-of_z) in
    c.delay_within.ensures spec class
    ∙ ap (λ (n : ℤ). delay_most spec class (Some n)) same
    ∙ ap (delay_most spec class) (sym c.in-Some.is)
