use Rattle.std.proofs.Common.{not, List, ◌++◌}
use Rattle.vdm_kinds.specs.declared.spec_fault.SpecFault.{SpecFault}
use Rattle.vdm_kinds.specs.declared.spec_kind.SpecKind.TheVariants.{UnknownName}
use Rattle.class_checks.specs.Members.{beyond}
use Rattle.class_checks.specs.Results.{refused_if}
use Rattle.check_scopes.specs.Told.{first_in, scope_at, spec_in}
use Rattle.check_names.proofs.Notes.{if_ok, note_two, told_named}
use Rattle.check_names.proofs.words.read_self.Goals as goal

pub returns : goal.returns
returns c =
    if_ok c.self_form.result c.self_form.ensures (λ form is names.
    let missing : List SpecFault = refused_if (not c.args.setting.scope.now.object) UnknownName c.args.place in
    let reached : List SpecFault =
    beyond (spec_in c.args.setting) (scope_at c.args.setting names) c.args.place c.args.setting.scope.now.reach in
    told_named (first_in c.args.refusals.now) _ _ (missing ++ reached) _ _
    (note_two (first_in c.args.refusals.now) _ _ _ missing reached c.spoiled_if-missing.ensures (c.beyond.ensures names)) (is names c.args.place))
