use Rattle.std.proofs.Common.{ap, ◌∙◌}
use Rattle.check_scopes.specs.Told.{scope_at, spec_in, told}
use Rattle.check_names.proofs.Behind.{read_behind}
use Rattle.check_names.proofs.Notes.{if_ok}
use Rattle.check_names.proofs.names.read_behind.Goals as goal

pub returns : goal.returns
returns c =
    if_ok c.read_in_class.result c.read_in_class.ensures (λ form is names place k e.
    ap (told _)
    (read_behind (spec_in c.args.setting) (scope_at c.args.setting names) c.args.name c.args.name_place place _ k c.is_below-own.result e
    (c.is_below-own.ensures names k e))
    ∙ is names)
