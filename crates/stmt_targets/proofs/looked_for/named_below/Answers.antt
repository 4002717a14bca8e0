use Rattle.std.proofs.Common.{sym, ◌∙◌}
use Rattle.class_meaning.specs.Classes.{class_number}
use Rattle.target_steps.specs.Below.check_scopes.specs.Told.{spec_in}
use Rattle.stmt_targets.specs.Naming.{stands_with}
use Rattle.stmt_targets.proofs.Writing.{written_behind}
use Rattle.stmt_targets.proofs.looked_for.named_below.Goals as goal

pub returns-clause-named : goal.returns-clause-named
returns-clause-named c = λ names other place k e.
    let spec = spec_in c.args.setting in
    c.named_in_class.ensures.named names other
    ∙ sym (written_behind spec (stands_with c.args.setting names other) c.args.name c.args.name_place place (class_number spec c.args.class) k
    c.is_below-own.result e (c.is_below-own.ensures names k e))
