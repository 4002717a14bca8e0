use Rattle.std.proofs.Common.{ap, sym, ◌∙◌, option_map}
use Rattle.conform.specs.Frames.{found_in}
use Rattle.conform.proofs.Makings.{first_fits, first_misses}
use Rattle.conform.proofs.testing.Testing.try_types.Goals as goal

pub returns-in_ok-follow-in-Some-2 : goal.returns-in_ok-follow-in-Some-2
returns-in_ok-follow-in-Some-2 g c =
    first_fits (g.N.TypeNames.found c.args.names.now) (g.N.TypeNames.descends c.args.names.now) (g.N.TypeNames.rank c.args.names.now) c.args.self.now.waiting.items _ c.args.scope c.in-Some.declared.now c.in-Some.others c.args.types.now c.args.value
    (found_in (g.N.TypeNames.found c.args.names.now) (g.N.TypeNames.descends c.args.names.now) (g.N.TypeNames.rank c.args.names.now) c.in-Some-2.tests.items) _ c.in_ok-push-in-Some-2.ensures.items c.in-Some.ensures.cases.0
    (ap (option_map (λ tests. found_in (g.N.TypeNames.found c.args.names.now) (g.N.TypeNames.descends c.args.names.now) (g.N.TypeNames.rank c.args.names.now) tests.items)) (sym c.in-Some-2.is) ∙ c.in_ok-tests.ensures)
    (c.in_ok-follow-in-Some-2.ensures (g.N.TypeNames.found c.args.names.now) (g.N.TypeNames.descends c.args.names.now) (g.N.TypeNames.rank c.args.names.now))

pub returns-in_ok-push-in-None : goal.returns-in_ok-push-in-None
returns-in_ok-push-in-None g c =
    first_misses (g.N.TypeNames.found c.args.names.now) (g.N.TypeNames.descends c.args.names.now) (g.N.TypeNames.rank c.args.names.now) c.args.self.now.waiting.items _ c.args.scope c.in-Some.declared.now c.in-Some.others c.args.types.now c.args.value
    c.in_ok-push-in-None.ensures.items c.in-Some.ensures.cases.0
    (ap (option_map (λ tests. found_in (g.N.TypeNames.found c.args.names.now) (g.N.TypeNames.descends c.args.names.now) (g.N.TypeNames.rank c.args.names.now) tests.items)) (sym c.in-None.is) ∙ c.in_ok-tests.ensures)
