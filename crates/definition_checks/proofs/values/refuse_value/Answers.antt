use Rattle.std.proofs.Common.{ap, option_map, ◌∙◌}
use Rattle.expr_tree.specs.View.{boxed_view}
use Rattle.type_tree.specs.TypeView.{type_view}
use Rattle.spec_checks.specs.Definitions.{value_faults}
use Rattle.class_checks.specs.Scopes.{ScopeTree}
use Rattle.part_checks.specs.Below.check_scopes.specs.Told.{first_in, scope_view}
use Rattle.part_checks.specs.Below.definition_scopes.specs.Standing.{spec_at}
use Rattle.part_checks.specs.Behind.{on_same}
use Rattle.definition_checks.specs.Parts.{value_in}
use Rattle.definition_checks.proofs.Same.{value_same}
use Rattle.definition_checks.proofs.values.refuse_value.Goals as goal

pub returns : goal.returns
returns c =
    on_same c.refuse_value_in.result (first_in c.args.refusals.now) (first_in c.refuse_value_in.new.refusals)
    (value_in (spec_at c.args.site) (scope_view c.in_class-scope.result) (option_map type_view c.args.value.now.declared) (boxed_view c.args.value.now.value))
    (value_faults (spec_at c.args.site) c.args.site.class (option_map type_view c.args.value.now.declared) (boxed_view c.args.value.now.value))
    (ap (λ (s : ScopeTree). value_in (spec_at c.args.site) s (option_map type_view c.args.value.now.declared) (boxed_view c.args.value.now.value)) c.in_class-scope.ensures
    ∙ value_same (spec_at c.args.site) c.args.site.class (option_map type_view c.args.value.now.declared) (boxed_view c.args.value.now.value))
    c.refuse_value_in.ensures
