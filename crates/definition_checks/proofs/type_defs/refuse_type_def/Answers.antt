use Rattle.std.proofs.Common.{ap, ◌∙◌}
use Rattle.expr_tree.specs.TypeDefView.{type_def_view}
use Rattle.spec_checks.specs.Definitions.{type_def_faults}
use Rattle.class_checks.specs.Scopes.{ScopeTree}
use Rattle.part_checks.specs.Below.check_scopes.specs.Told.{first_in, scope_view}
use Rattle.part_checks.specs.Below.definition_scopes.specs.Standing.{spec_at}
use Rattle.part_checks.specs.Behind.{on_same}
use Rattle.definition_checks.specs.Parts.{type_def_in}
use Rattle.definition_checks.proofs.Same.{type_def_same}
use Rattle.definition_checks.proofs.type_defs.refuse_type_def.Goals as goal

pub returns : goal.returns
returns c =
    on_same c.refuse_type_def_in.result (first_in c.args.refusals.now) (first_in c.refuse_type_def_in.new.refusals)
    (type_def_in (spec_at c.args.site) (scope_view c.in_class-scope.result) (type_def_view c.args.definition.now))
    (type_def_faults (spec_at c.args.site) c.args.site.class (type_def_view c.args.definition.now))
    (ap (λ (s : ScopeTree). type_def_in (spec_at c.args.site) s (type_def_view c.args.definition.now)) c.in_class-scope.ensures
    ∙ type_def_same (spec_at c.args.site) c.args.site.class (type_def_view c.args.definition.now))
    c.refuse_type_def_in.ensures
