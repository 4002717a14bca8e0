use Rattle.std.proofs.Common.{ap, sym, subst, ◌∙◌, option_map}
use Rattle.conform.specs.Fits.{Judged}
use Rattle.conform.specs.Frames.{found_in}
use Rattle.conform.proofs.Judging.{fit_told}
use Rattle.conform.proofs.conforming.conform.Goals as goal

pub returns-in-Some-clause-fit : goal.returns-in-Some-clause-fit
returns-in-Some-clause-fit g c =
    subst (λ r. Judged c.fit_of.result r)
    (sym (fit_told (g.R.InvRunner.tells c.args.runner.now) _ (found_in (g.N.TypeNames.found c.args.names.now) (g.N.TypeNames.descends c.args.names.now) (g.N.TypeNames.rank c.args.names.now) c.in-Some.tests.items)
    (ap (option_map (λ tests. found_in (g.N.TypeNames.found c.args.names.now) (g.N.TypeNames.descends c.args.names.now) (g.N.TypeNames.rank c.args.names.now) tests.items)) (sym c.in-Some.is) ∙ c.in_ok-tests.ensures)))
    (c.fit_of.ensures _ c.all_tested.ensures.told)
