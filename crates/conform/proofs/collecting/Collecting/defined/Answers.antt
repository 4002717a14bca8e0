use Rattle.std.proofs.Common.{refl, ap, sym, ◌∙◌}
use Rattle.conform.proofs.OfTypes.{same_body, record_body}
use Rattle.conform.proofs.Turns.{moved}
use Rattle.conform.proofs.Unions.{own_behind}
use Rattle.conform.proofs.collecting.Collecting.defined.Goals as goal

pub returns-in-Same : goal.returns-in-Same
returns-in-Same g c =
    own_behind (g.N.TypeNames.found c.args.names.now) (g.N.TypeNames.descends c.args.names.now) (g.N.TypeNames.rank c.args.names.now) c.args.self.now.frames.items c.push.new.self.items c.args.self.now.found.items c.args.definition c.args.value _
    c.in_ok-push.ensures.items (same_body (g.N.TypeNames.found c.args.names.now) (g.N.TypeNames.descends c.args.names.now) (g.N.TypeNames.rank c.args.names.now) c.args.definition.now c.in-Same.declared c.args.value.now c.in-Same.is)

pub returns-in-Fields : goal.returns-in-Fields
returns-in-Fields g c =
    moved c.each_field.result _ _ _
    (own_behind (g.N.TypeNames.found c.args.names.now) (g.N.TypeNames.descends c.args.names.now) (g.N.TypeNames.rank c.args.names.now) c.args.self.now.frames.items c.push.new.self.items c.args.self.now.found.items c.args.definition c.args.value _
    c.in_ok-push.ensures.items
    (record_body (g.N.TypeNames.found c.args.names.now) (g.N.TypeNames.descends c.args.names.now) (g.N.TypeNames.rank c.args.names.now) c.args.definition.now c.in-Fields.wanted _ c.args.value.now _ c.in-Fields.is c.as_slice.ensures.value c.fields-found.ensures))
    c.each_field.ensures
