use Rattle.std.proofs.Common.{ap, ◌∙◌, arith}
use Rattle.vdm_kinds.specs.declared.name.Name.{Name}
use Rattle.form_meaning.specs.Types.{with_type}
use Rattle.type_tree.specs.TypeView.{type_view}
use Rattle.type_forms.proofs.TypeSteps.{inner_form, set_form, seq_form, map_form, optional_form, product_form, union_form, factor_step, factor_end, union_end}
use Rattle.type_forms.proofs.typing.+with_type.Goals as goal

pub loop-factor-preserved : goal.loop-factor-preserved
loop-factor-preserved g t c =
    factor_step
    (g.N.TypeNames.found c.args.names.now) (λ (class : Name). g.N.TypeNames.descends c.args.names.now class class) c.args.scope
    c.deref-factor-items.result.now c.loop-factor.factor-index c.factor-item.result c.loop-factor.forms.items c.push.new.self.items
    c.in_ok-with_type-in-Product.field-0 _ c.factor-item.is c.loop-factor-test.true c.in_ok-push-in-Product.ensures.items
    (c.in_ok-with_type-in-Product.ensures
    ∙ ap (λ k. with_type (g.N.TypeNames.found c.args.names.now) (λ (class : Name). g.N.TypeNames.descends c.args.names.now class class)
    c.args.scope k (type_view c.factor-item.result)) c.nothing-in-loop-factor.ensures)
    c.loop-factor.invariant

pub returns-in_ok-element-in-Set : goal.returns-in_ok-element-in-Set
returns-in_ok-element-in-Set g t c =
    set_form
    (g.N.TypeNames.found c.args.names.now) (λ (class : Name). g.N.TypeNames.descends c.args.names.now class class) c.args.scope
    c.args.declared.now c.args.known c.with_alt-in-Set.result c.in-Set.element c.in-Set.field-1 c.nothing.result
    c.in_ok-element-in-Set.element c.deref.result.now c.in-Set.is c.nothing.ensures c.deref.ensures c.in_ok-element-in-Set.ensures
    c.with_alt-in-Set.ensures

pub returns-in_ok-known-in-Optional : goal.returns-in_ok-known-in-Optional
returns-in_ok-known-in-Optional g t c =
    optional_form
    (g.N.TypeNames.found c.args.names.now) (λ (class : Name). g.N.TypeNames.descends c.args.names.now class class) c.args.scope
    c.args.declared.now c.args.known c.with_type-in-Optional.result c.in-Optional.inner c.in-Optional.field-1
    c.in_ok-known-in-Optional.known c.deref-in-Optional.result.now c.in-Optional.is c.in_ok-known-in-Optional.ensures
    c.deref-in-Optional.ensures c.with_type-in-Optional.ensures

pub returns-after-loop-factor : goal.returns-after-loop-factor
returns-after-loop-factor g t c =
    product_form
    (g.N.TypeNames.found c.args.names.now) (λ (class : Name). g.N.TypeNames.descends c.args.names.now class class) c.args.scope
    c.args.declared.now c.args.known c.with_alt-in-Product.result c.in-Product.factors c.in-Product.field-1
    c.deref-factor-items.result.now _ c.in-Product.is c.deref-factor-items.ensures.value
    (factor_end
    (g.N.TypeNames.found c.args.names.now) (λ (class : Name). g.N.TypeNames.descends c.args.names.now class class) c.args.scope
    c.deref-factor-items.result.now c.loop-factor.factor-index c.loop-factor.forms.items _
    (omega (arith, c.loop-factor-test.false)) c.loop-factor.invariant)
    c.with_alt-in-Product.ensures

pub returns-after-loop-alternative : goal.returns-after-loop-alternative
returns-after-loop-alternative g t c =
    union_form
    (g.N.TypeNames.found c.args.names.now) (λ (class : Name). g.N.TypeNames.descends c.args.names.now class class) c.args.scope
    c.args.declared.now c.args.known c.loop-alternative.known c.in-Union.alternatives c.in-Union.field-1
    c.deref-alternative-items.result.now c.in-Union.is c.deref-alternative-items.ensures.value
    (union_end
    (g.N.TypeNames.found c.args.names.now) (λ (class : Name). g.N.TypeNames.descends c.args.names.now class class) c.args.scope
    c.deref-alternative-items.result.now c.loop-alternative.alternative-index c.loop-alternative.known _
    (omega (arith, c.loop-alternative-test.false)) c.loop-alternative.invariant)

pub returns-in_ok-value-in-Map : goal.returns-in_ok-value-in-Map
returns-in_ok-value-in-Map g t c =
    map_form
    (g.N.TypeNames.found c.args.names.now) (λ (class : Name). g.N.TypeNames.descends c.args.names.now class class) c.args.scope
    c.args.declared.now c.args.known c.with_alt-in-Map.result c.in-Map.key c.in-Map.value c.in_ok-key-in-Map.key
    c.in_ok-value-in-Map.value c.in-Map.is
    (inner_form
    (g.N.TypeNames.found c.args.names.now) (λ (class : Name). g.N.TypeNames.descends c.args.names.now class class) c.args.scope
    c.nothing-in-Map.result c.in_ok-key-in-Map.key c.deref-in-Map.result.now c.in-Map.key c.nothing-in-Map.ensures
    c.deref-in-Map.ensures c.in_ok-key-in-Map.ensures)
    (inner_form
    (g.N.TypeNames.found c.args.names.now) (λ (class : Name). g.N.TypeNames.descends c.args.names.now class class) c.args.scope
    c.nothing-in-Map-2.result c.in_ok-value-in-Map.value c.deref-in-Map-2.result.now c.in-Map.value c.nothing-in-Map-2.ensures
    c.deref-in-Map-2.ensures c.in_ok-value-in-Map.ensures)
    c.with_alt-in-Map.ensures

pub returns-in_ok-item-in-Seq : goal.returns-in_ok-item-in-Seq
returns-in_ok-item-in-Seq g t c =
    seq_form
    (g.N.TypeNames.found c.args.names.now) (λ (class : Name). g.N.TypeNames.descends c.args.names.now class class) c.args.scope
    c.args.declared.now c.args.known c.with_alt-in-Seq.result c.in-Seq.item c.nothing-in-Seq.result c.in_ok-item-in-Seq.item
    c.deref-in-Seq.result.now c.in-Seq.is c.nothing-in-Seq.ensures c.deref-in-Seq.ensures c.in_ok-item-in-Seq.ensures
    c.with_alt-in-Seq.ensures
