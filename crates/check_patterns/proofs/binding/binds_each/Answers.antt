use Rattle.std.proofs.Common.{ap, ◌∙◌}
use Rattle.form_meaning.specs.Forms.{FormTree}
use Rattle.class_checks.specs.Patterns.{binds_each}
use Rattle.check_types.specs.Below.check_scopes.specs.Told.{spec_in, types_in}
use Rattle.check_patterns.specs.Shown.{patterns_of}
use Rattle.check_patterns.proofs.Waiting.{found_whole}
use Rattle.check_patterns.proofs.binding.binds_each.Goals as goal

pub returns : goal.returns
returns c =
    found_whole (spec_in c.args.setting) (types_in c.args.setting) c.all_bound.result
    (record { found = c.args.found; pending = c.new.result }) c.in_ok-binding.binding _ _ c.new.ensures.items
    (c.in_ok-binding.ensures.only (spec_in c.args.setting) (types_in c.args.setting))
    (c.pending_of-pending.ensures (spec_in c.args.setting) (types_in c.args.setting)
    ∙ ap (λ (form : FormTree). binds_each (spec_in c.args.setting) (types_in c.args.setting) form (patterns_of c.args.patterns)) c.in_ok-copy.ensures)
    c.all_bound.ensures
