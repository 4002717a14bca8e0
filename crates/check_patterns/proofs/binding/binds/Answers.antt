use Rattle.std.proofs.Common.{ap}
use Rattle.expr_tree.specs.View.{pattern_view}
use Rattle.form_meaning.specs.Forms.{FormTree}
use Rattle.class_checks.specs.Patterns.{binds}
use Rattle.check_types.specs.Below.check_scopes.specs.Told.{spec_in, types_in}
use Rattle.check_patterns.proofs.Waiting.{found_alone}
use Rattle.check_patterns.proofs.binding.binds.Goals as goal

pub returns : goal.returns
returns c =
    found_alone (spec_in c.args.setting) (types_in c.args.setting) c.all_bound.result
    (record { found = c.new.result; pending = c.new-2.result }) c.in_ok-binding.binding _ _ c.new.ensures.items c.new-2.ensures.items
    c.in_ok-binding.ensures
    (ap (λ (form : FormTree). binds (spec_in c.args.setting) (types_in c.args.setting) form (pattern_view c.args.pattern.now)) c.in_ok-form.ensures)
    c.all_bound.ensures
