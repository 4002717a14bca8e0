-- The operands whose parts a value has, as the program names them.
use Rattle.class_checks.specs.Operators.{Source, neither, left, right, both}
use Rattle.check_operators.specs.declared.signs.Operands.{Operands}
use Rattle.check_operators.specs.declared.signs.Operands.TheVariants.{Neither, Left, Right, Both}

abbrev pub source_of : Operands → Source
source_of Neither = neither
source_of Left = left
source_of Right = right
source_of Both = both
