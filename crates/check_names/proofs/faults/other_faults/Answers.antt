use Rattle.class_checks.specs.Members.{beyond, unseen}
use Rattle.check_scopes.specs.Told.{first_in, scope_at, spec_in}
use Rattle.check_names.proofs.Notes.{note_two}
use Rattle.check_names.proofs.faults.other_faults.Goals as goal

pub returns : goal.returns
returns c = λ names. note_two (first_in c.args.refusals.now) _ _ _ (unseen (spec_in c.args.setting) (scope_at c.args.setting names) c.args.place c.args.owner.number c.args.access)
    (beyond (spec_in c.args.setting) (scope_at c.args.setting names) c.args.place c.args.setting.scope.now.reach) (c.unseen-hidden.ensures names) (c.beyond.ensures names)
