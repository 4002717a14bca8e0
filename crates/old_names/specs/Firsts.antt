-- Names that grow by one.
use Rattle.std.specs.Prelude.{List, [], ◌∷◌, ◌++◌, if◌then◌else◌}
use Rattle.std.specs.List.{list_any}
use Rattle.vdm_kinds.specs.declared.name.Name.{Name}
use Rattle.abstract_syntax.specs.Classes.{is_same_name}

-- the names with one more, which goes last where it is new
abbrev pub with_name : List Name → Name → List Name
with_name names name = if list_any (is_same_name name) names then names else names ++ name ∷ []
