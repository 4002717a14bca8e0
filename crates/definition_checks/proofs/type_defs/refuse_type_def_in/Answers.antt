use Rattle.std.proofs.Common.{option_map}
use Rattle.expr_tree.specs.TypeDefView.{invariant_view, type_body_view}
use Rattle.spec_checks.specs.Definitions.{body_form, body_type_faults}
use Rattle.part_checks.specs.Below.check_scopes.specs.Told.{first_in, scope_view}
use Rattle.part_checks.specs.Below.definition_scopes.specs.Standing.{spec_at}
use Rattle.part_checks.specs.Behind.{on_both}
use Rattle.definition_checks.specs.Parts.{class_of, maybe_invariant_in}
use Rattle.definition_checks.proofs.type_defs.refuse_type_def_in.Goals as goal

pub returns : goal.returns
returns c =
    on_both c.refuse_maybe_invariant.result (first_in c.args.refusals.now) (first_in c.refuse_body.new.refusals) (first_in c.refuse_maybe_invariant.new.refusals)
    (body_type_faults (spec_at c.args.site) (class_of c.args.scope.now) (type_body_view c.args.definition.now.body))
    (maybe_invariant_in (spec_at c.args.site) (scope_view c.args.scope.now)
    (body_form (spec_at c.args.site) (class_of c.args.scope.now) c.args.definition.now.name (type_body_view c.args.definition.now.body))
    (option_map invariant_view c.args.definition.now.invariant))
    c.refuse_body.ensures c.refuse_maybe_invariant.ensures
