use Rattle.std.proofs.Common.{ap, option_map, ◌∙◌}
use Rattle.abstract_syntax.specs.Classes.{variable_item}
use Rattle.expr_tree.specs.View.{boxed_view}
use Rattle.type_tree.specs.TypeView.{type_view}
use Rattle.vdm_tree.specs.ClassView.{variable_view}
use Rattle.spec_checks.specs.Definitions.{item_faults}
use Rattle.class_checks.specs.Scopes.{ScopeTree}
use Rattle.part_checks.specs.Below.check_scopes.specs.Told.{first_in, scope_view}
use Rattle.part_checks.specs.Below.definition_scopes.specs.Standing.{spec_at}
use Rattle.part_checks.specs.Behind.{on_same}
use Rattle.definition_checks.specs.Parts.{variable_in}
use Rattle.definition_checks.proofs.Same.{item_same}
use Rattle.definition_checks.proofs.variables.refuse_variable.Goals as goal

pub returns : goal.returns
returns c =
    on_same c.refuse_variable_in.result (first_in c.args.refusals.now) (first_in c.refuse_variable_in.new.refusals)
    (variable_in (spec_at c.args.site) (scope_view c.in_class-scope.result) (type_view c.args.variable.now.declared) (option_map boxed_view c.args.variable.now.initial))
    (item_faults (spec_at c.args.site) c.args.site.class (variable_item (variable_view c.args.variable.now)))
    (ap (λ (s : ScopeTree). variable_in (spec_at c.args.site) s (type_view c.args.variable.now.declared) (option_map boxed_view c.args.variable.now.initial)) c.in_class-scope.ensures
    ∙ item_same (spec_at c.args.site) c.args.site.class (variable_view c.args.variable.now))
    c.refuse_variable_in.ensures
