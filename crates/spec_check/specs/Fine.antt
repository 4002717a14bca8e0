-- What was checked, as its table and its tree.
use Rattle.abstract_syntax.specs.Expressions.{ExprTree}
use Rattle.expr_tree.specs.View.{view_of}
use Rattle.sync_checks.specs.Below.spec_table.specs.declared.table.ClassTable.{ClassTable}
use Rattle.spec_check.specs.declared.checked.Checked.{Checked}
use Rattle.spec_check.specs.declared.checked.CheckedExpr.{CheckedExpr}

abbrev pub checked_table : Checked → ClassTable
checked_table checked = checked.table

abbrev pub checked_tree : CheckedExpr → ExprTree
checked_tree checked = view_of checked.expr
