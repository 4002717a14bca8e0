use Rattle.std.proofs.Common.{◌≡◌, ℤ, Bool, not, Option, ap, sym, ◌∙◌, rules, to_z, of_z}
use Rattle.std.specs.Int.{w128}
use Rattle.std.proofs.lemmas.Int.{to_z-of_z}
use Rattle.vdm_kinds.specs.declared.spec_kind.SpecKind.TheVariants.{NoCommonValue}
use Rattle.spec_checks.specs.Definitions.{in_range_faults, is_within}
use Rattle.class_checks.specs.Results.{first_among, refused_if}
use Rattle.part_checks.specs.Below.check_scopes.specs.Told.{first_in}
use Rattle.sync_checks.proofs.numbers.refuse_out_of_range.Goals as goal

pub returns-in-Some : goal.returns-in-Some
returns-in-Some c = λ spec class.
    let same : to_z w128 (of_z w128 c.in-Some.number) ≡ c.in-Some.number = search (rules, to_z-of_z) in
    c.refuse_if.ensures
    ∙ ap (λ (b : Bool). first_among (first_in c.args.refusals.now) (refused_if (not b) NoCommonValue c.args.place))
    (c.is_within-fits.ensures spec class ∙ ap (is_within spec class c.args.bounds.least c.args.bounds.greatest) same)
    ∙ ap (λ (o : Option ℤ). first_among (first_in c.args.refusals.now) (in_range_faults spec class c.args.bounds.least c.args.bounds.greatest c.args.place o))
    (sym c.in-Some.is)
