use Rattle.std.proofs.Common.{ap, sym, ◌∙◌}
use Rattle.expr_tree.specs.View.{view_of}
use Rattle.spec_checks.specs.Definitions.{number_of}
use Rattle.part_checks.specs.Below.check_scopes.specs.Told.{spec_in, types_in}
use Rattle.part_checks.specs.Below.check_named.proofs.Views.{view-Literal}
use Rattle.sync_checks.proofs.numbers.number_of.Goals as goal

pub returns-in-Literal : goal.returns-in-Literal
returns-in-Literal c =
    c.whole_number.ensures (spec_in c.args.setting) (types_in c.args.setting) c.in-Literal.field-1
    ∙ ap (number_of (spec_in c.args.setting) (types_in c.args.setting)) (sym (ap view_of c.in-Literal.is ∙ view-Literal _ _))
