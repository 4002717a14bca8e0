use Rattle.std.proofs.Common.{map, sym}
use Rattle.abstract_syntax.specs.Classes.{variables_among}
use Rattle.expr_tree.specs.TypeDefView.{type_def_view}
use Rattle.vdm_tree.specs.ClassView.{value_def_view, variable_item_view}
use Rattle.check_names.proofs.Lines.{no_type, no_value, no_variable}
use Rattle.check_names.proofs.members.some_called_in.Goals as goal

pub returns-in-Types : goal.returns-in-Types
returns-in-Types c = rw c.in-Types.is (sym (no_type c.args.name (map type_def_view c.in-Types.field-0.items)))

pub returns-in-Values : goal.returns-in-Values
returns-in-Values c = rw c.in-Values.is (sym (no_value c.args.name (map value_def_view c.in-Values.field-0.items)))

pub returns-in-Variables : goal.returns-in-Variables
returns-in-Variables c =
    rw c.in-Variables.is (sym (no_variable c.args.name (variables_among (map variable_item_view c.in-Variables.field-0.items))))
