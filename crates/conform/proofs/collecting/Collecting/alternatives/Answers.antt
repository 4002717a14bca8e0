use Rattle.std.proofs.Common.{ap, ◌∙◌}
use Rattle.conform.proofs.Unions.{a_union}
use Rattle.conform.proofs.collecting.Collecting.alternatives.Goals as goal

pub returns-in_ok-push-in-Some : goal.returns-in_ok-push-in-Some
returns-in_ok-push-in-Some g c =
    a_union (g.N.TypeNames.found c.args.names.now) (g.N.TypeNames.descends c.args.names.now) (g.N.TypeNames.rank c.args.names.now) c.args.self.now.frames.items c.push.new.self.items c.args.self.now.found.items c.replace-before.new.dest.items c.args.scope
    c.in-Some.declared c.args.types _ c.args.value c.replace-before.result c.in_ok-push-in-Some.ensures.items
    (ap (λ (x : _). x.items) c.replace-before.ensures.value) (ap (λ (x : _). x.items) c.replace-before.ensures.after ∙ c.new.ensures.items)
    c.in-Some.ensures.cases.0
