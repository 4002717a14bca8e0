use Rattle.std.proofs.Common.{ap, sym}
use Rattle.vdm_kinds.specs.declared.name.Name.{Name}
use Rattle.expr_tree.specs.TypeDefView.{type_def_view}
use Rattle.form_meaning.specs.Forms.{no_alts}
use Rattle.form_meaning.specs.Types.{definition_form}
use Rattle.type_forms.specs.Pending.{turned, opened_at_last}
use Rattle.type_forms.specs.Tree.{alt_of}
use Rattle.type_forms.proofs.Below.{name_by_body}
use Rattle.type_forms.proofs.Steps.{if_made}
use Rattle.type_forms.proofs.opening.with_alternative.Goals as goal

pub returns-in-Some : goal.returns-in-Some
returns-in-Some g c again =
    if_made c.with_definition.result
    (opened_at_last (g.N.TypeNames.found c.args.names.now) (λ (class : Name). g.N.TypeNames.descends c.args.names.now class class) (g.N.TypeNames.rank c.args.names.now))
    _ _
    (name_by_body (g.N.TypeNames.found c.args.names.now) (λ (class : Name). g.N.TypeNames.descends c.args.names.now class class) (g.N.TypeNames.rank c.args.names.now) again (g.met.N.TypeNames.ranked c.args.names.now) c.in-Named.class c.in-Named.name
    (type_def_view c.in-Some.definition.now) (alt_of c.args.alternative) (ap alt_of c.in-Named.is) (sym c.in-Some.ensures)
    c.args.opening.known (turned c.args.opening.pending.items no_alts))
    (c.with_definition.ensures (definition_form (g.N.TypeNames.found c.args.names.now) (λ (class : Name). g.N.TypeNames.descends c.args.names.now class class) (g.N.TypeNames.rank c.args.names.now)))
