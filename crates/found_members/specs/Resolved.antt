-- What a table of names answers.
use Rattle.abstract_syntax.specs.Classes.{SpecTree}
use Rattle.class_meaning.specs.Classes.{classes}
use Rattle.found_members.specs.Rows.{HaveIndexes, Rows, IsWhole}
use Rattle.found_members.specs.declared.found_names.FoundNames.{FoundNames}

-- a table of the names of a specification's classes: each class has its own index and its row
pub record Resolves (names : FoundNames) (spec : SpecTree) : Type 0 where
  pub own : HaveIndexes names.own.items (classes spec)
  pub rows : Rows names.rows.items spec
  pub whole : IsWhole spec names.rows.items
