use Rattle.std.proofs.Common.{ap, ◌∙◌}
use Rattle.class_meaning.specs.Members.{of_variable}
use Rattle.vdm_tree.specs.ClassView.{variable_view}
use Rattle.class_checks.specs.Members.{read_member}
use Rattle.class_checks.specs.Results.{gives, refusing}
use Rattle.target_steps.specs.Below.check_scopes.specs.Told.{first_in, scope_at, spec_in, told}
use Rattle.target_steps.specs.Below.stmt_scopes.specs.Refused.{if_ok}
use Rattle.stmt_targets.specs.Naming.{written_as}
use Rattle.stmt_targets.specs.declared.named.Named.{Named}
use Rattle.stmt_targets.proofs.Writing.{told_again}
use Rattle.stmt_targets.proofs.named.written_form.Goals as goal

pub returns-in-Variable : goal.returns-in-Variable
returns-in-Variable c =
    let m = c.in-Variable.member in
    if_ok c.member_form.result c.member_form.ensures (λ form is names.
    ap (λ (n : Named). told (first_in c.args.refusals.now) (refusing (written_as c.args.setting names n).refusals (gives (written_as c.args.setting names n).form))) c.in-Variable.is
    ∙ told_again (first_in c.args.refusals.now) (read_member (spec_in c.args.setting) (scope_at c.args.setting names) m.place m.own m.owner.number (of_variable (variable_view m.variable.now)))
    ∙ is names)
