use Rattle.std.proofs.Common.{ap, ◌∙◌}
use Rattle.vdm_kinds.specs.declared.name.Name.{Name}
use Rattle.type_tree.specs.TypeView.{type_view}
use Rattle.vdm_tree.specs.StmtView.{local_view}
use Rattle.class_checks.specs.TypeNames.{form_of}
use Rattle.stmt_scopes.specs.Below.check_scopes.specs.Told.{first_in}
use Rattle.stmt_scopes.specs.Below.check_frames.specs.Meant.{spec_here}
use Rattle.stmt_scopes.specs.Refused.{if_ok}
use Rattle.stmt_scopes.specs.Standing.{standing_of, stands_here}
use Rattle.stmt_exprs.proofs.Behinds.{local_told}
use Rattle.stmt_exprs.proofs.declarations.declared_here.Goals as goal

pub returns : goal.returns
returns c =
    if_ok c.inside_local.result c.inside_local.ensures (λ more is rest.
    local_told (spec_here c.args.stands.here) (stands_here c.args.stands) (standing_of c.args.stands more) (local_view c.args.local.now) c.in_ok-form.form
    (first_in c.args.refusals.now) (first_in c.type_faults.new.refusals) (first_in c.refuse_initial.new.refusals) rest
    c.type_faults.ensures
    (c.in_ok-form.ensures ∙ ap (λ (n : Name). form_of (spec_here c.args.stands.here) n (type_view c.args.local.now.declared)) c.type_scope.ensures)
    c.in_ok-refuse_initial.ensures is)
