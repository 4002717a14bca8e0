use Rattle.std.proofs.Common.{rules, ap, sym, ◌∙◌}
use Rattle.conform.proofs.Unions.{something_chosen}
use Rattle.conform.proofs.collecting.Collecting.chosen.Goals as goal

pub returns : goal.returns
returns g c =
    something_chosen (g.N.TypeNames.found c.args.names.now) (g.N.TypeNames.descends c.args.names.now) (g.N.TypeNames.rank c.args.names.now) c.args.self.now.frames.items c.args.before.items c.replace-found.new.dest.items c.args.self.now.found.items c.push.new.self.items
    c.args.scope c.args.types c.args.value.now c.in_ok-value.value c.in_ok-push.ensures.items (ap (λ (x : _). x.items) c.replace-found.ensures.after)
    c.in_ok-value.ensures (search rules)
