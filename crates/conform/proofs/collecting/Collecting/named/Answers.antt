use Rattle.std.proofs.Common.{ap, sym, ◌∙◌, option_map}
use Rattle.expr_tree.specs.TypeDefView.{type_def_view}
use Rattle.type_meaning.specs.Tests.{both}
use Rattle.conform.specs.Frames.{through}
use Rattle.conform.proofs.OfTypes.{by_definition, by_class}
use Rattle.conform.proofs.Turns.{Found, moved, by_next}
use Rattle.conform.proofs.collecting.Collecting.named.Goals as goal

pub returns-in-Some : goal.returns-in-Some
returns-in-Some g c =
    moved c.defined.result _ _ _
    (ap (λ r. through (g.N.TypeNames.found c.args.names.now) (g.N.TypeNames.descends c.args.names.now) (g.N.TypeNames.rank c.args.names.now) c.args.self.now.frames.items (both (Found (g.N.TypeNames.found c.args.names.now) (g.N.TypeNames.descends c.args.names.now) (g.N.TypeNames.rank c.args.names.now) c.args.self.now.found.items) r))
    (by_definition (g.N.TypeNames.found c.args.names.now) (g.N.TypeNames.descends c.args.names.now) (g.N.TypeNames.rank c.args.names.now) (g.met.N.TypeNames.ranked c.args.names.now) c.args.value.now c.args.scope c.args.name (type_def_view c.in-Some.definition.now)
    (sym c.type_def.ensures ∙ ap (option_map (λ d. type_def_view d.now)) c.in-Some.is)))
    c.defined.ensures

pub returns-in-None : goal.returns-in-None
returns-in-None g c =
    by_next (g.N.TypeNames.found c.args.names.now) (g.N.TypeNames.descends c.args.names.now) (g.N.TypeNames.rank c.args.names.now) c.args.self.now.frames.items c.args.self.now.found.items _ _
    (by_class (g.N.TypeNames.found c.args.names.now) (g.N.TypeNames.descends c.args.names.now) (g.N.TypeNames.rank c.args.names.now) c.args.value.now c.args.name _ _ (sym c.type_def.ensures ∙ ap (option_map (λ d. type_def_view d.now)) c.in-None.is) c.of_class.ensures)
