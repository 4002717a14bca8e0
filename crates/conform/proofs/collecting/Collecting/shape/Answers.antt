use Rattle.std.proofs.Common.{ap, sym, ◌∙◌}
use Rattle.type_meaning.specs.Tests.{both}
use Rattle.conform.specs.Frames.{plainly_next, through}
use Rattle.conform.proofs.OfTypes.{of_basic, of_quote, of_nil, of_set, of_seq, of_seq1, of_map, of_inmap, of_product}
use Rattle.conform.proofs.Turns.{Found, moved, by_next, at_end}
use Rattle.conform.proofs.collecting.Collecting.shape.Goals as goal

pub returns-in-Basic : goal.returns-in-Basic
returns-in-Basic g c =
    by_next (g.N.TypeNames.found c.args.names.now) (g.N.TypeNames.descends c.args.names.now) (g.N.TypeNames.rank c.args.names.now) c.args.self.now.frames.items c.args.self.now.found.items _ _
    (of_basic (g.N.TypeNames.found c.args.names.now) (g.N.TypeNames.descends c.args.names.now) (g.N.TypeNames.rank c.args.names.now) c.args.goal.value.now c.args.goal.scope c.args.goal.declared.now _ _ _ c.in-Basic.is (c.plainly.ensures ∙ ap plainly_next c.is_of_basic.ensures))

pub returns-in-Quote : goal.returns-in-Quote
returns-in-Quote g c =
    by_next (g.N.TypeNames.found c.args.names.now) (g.N.TypeNames.descends c.args.names.now) (g.N.TypeNames.rank c.args.names.now) c.args.self.now.frames.items c.args.self.now.found.items _ _
    (of_quote (g.N.TypeNames.found c.args.names.now) (g.N.TypeNames.descends c.args.names.now) (g.N.TypeNames.rank c.args.names.now) c.args.goal.value.now c.args.goal.scope c.args.goal.declared.now _ _ _ c.in-Quote.is (c.plainly-in-Quote.ensures ∙ ap plainly_next c.is_quote.ensures))

pub returns-then-is_nil : goal.returns-then-is_nil
returns-then-is_nil g c =
    at_end (g.N.TypeNames.found c.args.names.now) (g.N.TypeNames.descends c.args.names.now) (g.N.TypeNames.rank c.args.names.now) c.args.self.now.frames.items c.args.self.now.found.items _
    (of_nil (g.N.TypeNames.found c.args.names.now) (g.N.TypeNames.descends c.args.names.now) (g.N.TypeNames.rank c.args.names.now) c.args.goal.value.now c.args.goal.scope c.args.goal.declared.now _ _ c.in-Optional.is (sym c.is_nil.ensures ∙ c.if-is_nil.true))

pub returns-in-Set : goal.returns-in-Set
returns-in-Set g c =
    moved c.each_value.result _ _ _
    (ap (λ r. through (g.N.TypeNames.found c.args.names.now) (g.N.TypeNames.descends c.args.names.now) (g.N.TypeNames.rank c.args.names.now) c.args.self.now.frames.items (both (Found (g.N.TypeNames.found c.args.names.now) (g.N.TypeNames.descends c.args.names.now) (g.N.TypeNames.rank c.args.names.now) c.args.self.now.found.items) r))
    (of_set (g.N.TypeNames.found c.args.names.now) (g.N.TypeNames.descends c.args.names.now) (g.N.TypeNames.rank c.args.names.now) c.args.goal.value.now c.args.goal.scope c.args.goal.declared.now _ _ _ _ c.deref.ensures c.in-Set.is c.elements.ensures))
    c.each_value.ensures

pub returns-in-Seq : goal.returns-in-Seq
returns-in-Seq g c =
    moved c.each_value-in-Seq.result _ _ _
    (ap (λ r. through (g.N.TypeNames.found c.args.names.now) (g.N.TypeNames.descends c.args.names.now) (g.N.TypeNames.rank c.args.names.now) c.args.self.now.frames.items (both (Found (g.N.TypeNames.found c.args.names.now) (g.N.TypeNames.descends c.args.names.now) (g.N.TypeNames.rank c.args.names.now) c.args.self.now.found.items) r))
    (of_seq (g.N.TypeNames.found c.args.names.now) (g.N.TypeNames.descends c.args.names.now) (g.N.TypeNames.rank c.args.names.now) c.args.goal.value.now c.args.goal.scope c.args.goal.declared.now _ _ _ _ c.deref-in-Seq.ensures c.in-Seq.is c.items.ensures))
    c.each_value-in-Seq.ensures

pub returns-in-Seq1 : goal.returns-in-Seq1
returns-in-Seq1 g c =
    moved c.each_of_some.result _ _ _
    (ap (λ r. through (g.N.TypeNames.found c.args.names.now) (g.N.TypeNames.descends c.args.names.now) (g.N.TypeNames.rank c.args.names.now) c.args.self.now.frames.items (both (Found (g.N.TypeNames.found c.args.names.now) (g.N.TypeNames.descends c.args.names.now) (g.N.TypeNames.rank c.args.names.now) c.args.self.now.found.items) r))
    (of_seq1 (g.N.TypeNames.found c.args.names.now) (g.N.TypeNames.descends c.args.names.now) (g.N.TypeNames.rank c.args.names.now) c.args.goal.value.now c.args.goal.scope c.args.goal.declared.now _ _ _ _ c.deref-in-Seq1.ensures c.in-Seq1.is c.items-in-Seq1.ensures))
    c.each_of_some.ensures

pub returns-in-Map : goal.returns-in-Map
returns-in-Map g c =
    moved c.each_entry.result _ _ _
    (ap (λ r. through (g.N.TypeNames.found c.args.names.now) (g.N.TypeNames.descends c.args.names.now) (g.N.TypeNames.rank c.args.names.now) c.args.self.now.frames.items (both (Found (g.N.TypeNames.found c.args.names.now) (g.N.TypeNames.descends c.args.names.now) (g.N.TypeNames.rank c.args.names.now) c.args.self.now.found.items) r))
    (of_map (g.N.TypeNames.found c.args.names.now) (g.N.TypeNames.descends c.args.names.now) (g.N.TypeNames.rank c.args.names.now) c.args.goal.value.now c.args.goal.scope c.args.goal.declared.now _ _ _ _ _ _ c.deref-in-Map.ensures c.deref-in-Map-2.ensures c.in-Map.is c.entries.ensures))
    c.each_entry.ensures

pub returns-in-InMap : goal.returns-in-InMap
returns-in-InMap g c =
    moved c.each_distinct.result _ _ _
    (ap (λ r. through (g.N.TypeNames.found c.args.names.now) (g.N.TypeNames.descends c.args.names.now) (g.N.TypeNames.rank c.args.names.now) c.args.self.now.frames.items (both (Found (g.N.TypeNames.found c.args.names.now) (g.N.TypeNames.descends c.args.names.now) (g.N.TypeNames.rank c.args.names.now) c.args.self.now.found.items) r))
    (of_inmap (g.N.TypeNames.found c.args.names.now) (g.N.TypeNames.descends c.args.names.now) (g.N.TypeNames.rank c.args.names.now) c.args.goal.value.now c.args.goal.scope c.args.goal.declared.now _ _ _ _ _ c.deref-in-InMap.ensures c.deref-in-InMap-2.ensures c.in-InMap.is))
    c.each_distinct.ensures

pub returns-in-Product : goal.returns-in-Product
returns-in-Product g c =
    moved c.each_factor.result _ _ _
    (ap (λ r. through (g.N.TypeNames.found c.args.names.now) (g.N.TypeNames.descends c.args.names.now) (g.N.TypeNames.rank c.args.names.now) c.args.self.now.frames.items (both (Found (g.N.TypeNames.found c.args.names.now) (g.N.TypeNames.descends c.args.names.now) (g.N.TypeNames.rank c.args.names.now) c.args.self.now.found.items) r))
    (of_product (g.N.TypeNames.found c.args.names.now) (g.N.TypeNames.descends c.args.names.now) (g.N.TypeNames.rank c.args.names.now) c.args.goal.value.now c.args.goal.scope c.args.goal.declared.now _ _ _ _ c.in-Product.is c.as_slice.ensures.value c.components.ensures))
    c.each_factor.ensures
