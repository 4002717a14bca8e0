-- That a definition is found again by its own class and name.
use Rattle.std.specs.Prelude.{◌≡◌, Option, Some, None}
use Rattle.vdm_kinds.specs.declared.name.Name.{Name}
use Rattle.abstract_syntax.specs.Classes.{TypeDefTree}
use Rattle.expr_tree.specs.Alternatives.{Finder}

abbrev pub FindsAgain : Finder → Type 0
FindsAgain find =
    (scope : Name) (class : Option Name) (name : Name) (found : TypeDefTree) → find scope class name ≡ Some found
    → find found.class None found.name ≡ Some found
