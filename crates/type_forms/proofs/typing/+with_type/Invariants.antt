use Rattle.std.proofs.Common.{◌≡◌, drop}
use Rattle.vdm_kinds.specs.declared.name.Name.{Name}
use Rattle.type_tree.specs.TypeView.{type_trees, type_views}
use Rattle.form_meaning.specs.Types.{with_types, factor_forms}
use Rattle.type_forms.specs.Tree.{form_trees}
use Rattle.type_forms.proofs.Lists.{forms_then}
use Rattle.type_forms.proofs.typing.+with_type.Given as goal

abbrev pub invariant-loop-factor : goal.invariant-loop-factor
invariant-loop-factor g l =
    forms_then (form_trees l.forms.items)
    (factor_forms (g.N.TypeNames.found l.names) (λ (class : Name). g.N.TypeNames.descends l.names class class) l.scope (type_trees (type_views (drop l.factor-index l.factor-items))))
    ≡ factor_forms (g.N.TypeNames.found l.names) (λ (class : Name). g.N.TypeNames.descends l.names class class) l.scope (type_trees (type_views l.factor-items))

abbrev pub invariant-loop-alternative : goal.invariant-loop-alternative
invariant-loop-alternative g l =
    with_types (g.N.TypeNames.found l.names) (λ (class : Name). g.N.TypeNames.descends l.names class class) l.scope l.known (type_trees (type_views (drop l.alternative-index l.alternative-items)))
    ≡ with_types (g.N.TypeNames.found l.names) (λ (class : Name). g.N.TypeNames.descends l.names class class) l.scope l.initial.known (type_trees (type_views l.alternative-items))
