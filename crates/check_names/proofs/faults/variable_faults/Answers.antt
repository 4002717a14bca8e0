use Rattle.std.proofs.Common.{ap, sym, ◌∙◌}
use Rattle.class_checks.specs.Members.{unread, unseen, without_object}
use Rattle.check_scopes.specs.Told.{first_in, scope_at, spec_in}
use Rattle.check_names.specs.Noting.{noted_as}
use Rattle.check_names.proofs.Notes.{note_three}
use Rattle.check_names.proofs.faults.variable_faults.Goals as goal

pub returns : goal.returns
returns c =
    λ names. note_three (first_in c.args.refusals.now) _ _ _ _ _ (without_object (spec_in c.args.setting) (scope_at c.args.setting names) c.args.place c.args.own c.args.access)
    (unseen (spec_in c.args.setting) (scope_at c.args.setting names) c.args.place c.args.owner.number c.args.access)
    (unread (spec_in c.args.setting) (scope_at c.args.setting names) c.args.place c.args.setting.scope.now.reach c.args.access)
    (c.without_object-missing.ensures names) (c.unseen-hidden.ensures names) (c.unread.ensures names)
    ∙ ap (noted_as _) (sym c.either.ensures)
