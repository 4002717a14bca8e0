use Rattle.std.proofs.Common.{◌≡◌, Some, ◌∙◌, sym}
use Rattle.abstract_syntax.specs.Types.{TypeTree}
use Rattle.type_reading.proofs.Read.{type-read}
use Rattle.type_reading.proofs.Spelled.{read-type}
use Rattle.type_reading.proofs.laws.types_are_read.Goals as goal

same-tree : (a b : TypeTree) → Some a ≡ Some b → a ≡ b
same-tree a b e = cc

pub returns-clause-read : goal.returns-clause-read
returns-clause-read c = λ tokens tree. (read-type tokens tree, type-read tokens tree)

pub returns-clause-one : goal.returns-clause-one
returns-clause-one c = λ tokens a b h k. same-tree a b (sym (type-read tokens a h) ∙ type-read tokens b k)
