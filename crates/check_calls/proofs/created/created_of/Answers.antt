use Rattle.std.proofs.Common.{ap, ◌∙◌}
use Rattle.check_fields.specs.Below.check_scopes.specs.Told.{scope_at, spec_in}
use Rattle.check_calls.specs.Calling.{called}
use Rattle.check_calls.proofs.Callees.{made_of}
use Rattle.check_names.proofs.Notes.{if_ok}
use Rattle.check_calls.proofs.created.created_of.Goals as goal

pub returns : goal.returns
returns c =
    if_ok c.by_constructor.result c.by_constructor.ensures (λ callee is names.
    ap (called _)
    (made_of (spec_in c.args.setting) (scope_at c.args.setting names) c.args.at.class_place c.args.at.place c.args.at.count c.args.owner.number c.args.owner.name
    _ _ (c.class-class.ensures c.args.owner.number c.requires.numbered) c.member-own.ensures c.requires.numbered)
    ∙ is names)
