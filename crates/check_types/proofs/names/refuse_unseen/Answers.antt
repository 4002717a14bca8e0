use Rattle.vdm_kinds.specs.declared.spec_kind.SpecKind.TheVariants.{NotVisible}
use Rattle.check_scopes.specs.Told.{first_in, spec_in, types_in}
use Rattle.check_types.specs.Refusing.{refused_as}
use Rattle.check_types.proofs.Faulted.{as_seen}
use Rattle.check_types.proofs.names.refuse_unseen.Goals as goal

pub returns : goal.returns
returns c =
    as_seen (spec_in c.args.setting) c.type_scope.result (types_in c.args.setting) c.args.owner.number c.args.definition.now.access.level NotVisible
    c.args.place (first_in c.args.refusals.now) c.visible-seen.result (refused_as (first_in c.refuse_if.new.refusals) c.refuse_if.result)
    c.type_scope.ensures (c.visible-seen.ensures c.args.owner.number c.requires.numbered) c.refuse_if.ensures
