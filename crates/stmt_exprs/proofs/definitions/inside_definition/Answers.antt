use Rattle.std.proofs.Common.{ap, option_map, ◌∙◌, ◌∷◌, []}
use Rattle.expr_tree.specs.View.{DefinedView, boxed_view, defined_trees, pattern_view}
use Rattle.type_tree.specs.TypeView.{type_view}
use Rattle.form_meaning.specs.Forms.{FormTree}
use Rattle.class_checks.specs.Expressions.{defined_in}
use Rattle.class_checks.specs.Patterns.{binds}
use Rattle.class_checks.specs.Scopes.{inside}
use Rattle.stmt_scopes.specs.Below.check_scopes.specs.Told.{first_in, types_in}
use Rattle.stmt_scopes.specs.Below.check_frames.specs.Meant.{at, scope_here, spec_here}
use Rattle.type_check.specs.Below.check_steps.specs.Viewed.{defined_parts}
use Rattle.stmt_scopes.specs.Refused.{if_ok, refused}
use Rattle.stmt_exprs.proofs.Behinds.{definition_told}
use Rattle.stmt_exprs.proofs.definitions.inside_definition.Goals as goal

pub returns : goal.returns
returns c =
    let spec = spec_here c.args.here in
    let scope = scope_here c.args.here in
    let d = c.args.definition.now in
    if_ok c.inside_pattern.result c.inside_pattern.ensures (λ more is rest.
    ap (λ (v : DefinedView). refused (first_in c.args.refusals.now) (defined_in spec scope (defined_trees (v ∷ [])) rest)) (defined_parts d)
    ∙ definition_told spec scope (at c.args.here.setting more)
    (record { pattern = pattern_view d.pattern.value; declared = option_map type_view d.declared; value = boxed_view d.value })
    c.place_of.result c.in_ok-form.form (first_in c.args.refusals.now) (first_in c.expr_form.new.refusals) (first_in c.definition_faults.new.refusals)
    (first_in c.refuse_given.new.refusals) rest c.in_ok-form.ensures c.place_of.ensures c.in_ok-definition_faults.ensures c.in_ok-refuse_given.ensures
    (is ∙ ap (λ (f : FormTree). inside scope (binds spec (types_in c.args.here.setting) f (pattern_view d.pattern.value))) c.in_ok-form-2.ensures))
