-- What tokens are read as, for laws that are worked out: token n stands at column n.
use Rattle.std.specs.Prelude.{ℕ, pos, List, length, Option, Some, None}
use Rattle.vdm_kinds.specs.declared.name.Name.{Name}
use Rattle.vdm_kinds.specs.declared.part.Part.TheVariants.{Spec}
use Rattle.vdm_kinds.specs.declared.place.Place.{Place}
use Rattle.abstract_syntax.specs.Literals.{whole_literal}
use Rattle.abstract_syntax.specs.Expressions.{ExprTree, literal}
use Rattle.abstract_syntax.specs.Statements.{StmtTree}
use Rattle.abstract_syntax.specs.Classes.{SpecTree}
use Rattle.stmt_fronts.specs.WorkedFronts.{Shown, placed}
use Rattle.stmt_reading.specs.Statements.{stmt_of}
use Rattle.stmt_reading.specs.Classes.{spec_of}

abbrev pub stmt_read : List Shown → Option StmtTree
stmt_read tokens = stmt_of (placed 1 tokens)

abbrev number_of_classes : Option SpecTree → Option ℕ
number_of_classes None = None
number_of_classes (Some spec) = Some (length spec.classes)

abbrev pub classes_read : List Shown → Option ℕ
classes_read tokens = number_of_classes (spec_of (placed 1 tokens))

abbrev pub name : ℕ → Name
name number = record { 0 = number }

abbrev pub col : ℕ → Place
col column = record { part = Spec; line = 1; column = column }

-- a whole literal at a column
abbrev pub lit : ℕ → ℕ → ExprTree
lit number column = literal (whole_literal (pos number)) (col column)
