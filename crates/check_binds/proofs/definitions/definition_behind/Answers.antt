use Rattle.std.proofs.Common.{ap, option_map, sym}
use Rattle.type_tree.specs.TypeView.{type_view}
use Rattle.expr_tree.specs.View.{pattern_view}
use Rattle.form_meaning.specs.Forms.{FormTree}
use Rattle.class_checks.specs.Expressions.{definition_faults}
use Rattle.check_steps.specs.Below.check_scopes.specs.Told.{first_in, spec_in}
use Rattle.check_steps.specs.Below.check_frames.specs.Meant.{scope_here}
use Rattle.check_steps.specs.Below.check_frames.specs.Steps.{refused_next}
use Rattle.check_binds.specs.Behind.{pattern_then}
use Rattle.check_binds.proofs.definitions.definition_behind.Goals as goal

pub returns : goal.returns
returns c =
    refused_next c.args.here.setting c.pattern_next.result (first_in c.args.refusals.now) (first_in c.definition_faults.new.refusals) (definition_faults (spec_in c.args.here.setting) (scope_here c.args.here) (pattern_view c.args.definition.now.pattern.value) (option_map type_view c.args.definition.now.declared) c.args.place c.args.form) _ _ c.in_ok-definition_faults.ensures (ap (λ (f : FormTree). pattern_then c.args.here.setting (scope_here c.args.here) (pattern_view c.args.definition.now.pattern.value) f c.args.rest) (sym c.in_ok-form.ensures)) c.pattern_next.ensures
