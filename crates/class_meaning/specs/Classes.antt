-- The classes of a specification by their numbers: `IO`, which is there before any text, is 0, and then the classes as written, from
-- 1 on. The number of a class is that of its class object. ('Classes' of the VDM-10 Language Manual (Overture); the numbers are this
-- project's own.)
use Rattle.std.specs.Prelude.{ℕ, true, List, [], ◌∷◌, Option, Some, None, map, slice_get, get_or}
use Rattle.std.specs.List.{position}
use Rattle.vdm_kinds.specs.NameList.{io}
use Rattle.vdm_kinds.specs.declared.access.Level.TheVariants.{Public}
use Rattle.vdm_kinds.specs.declared.basic_type.BasicType.TheVariants.{Token}
use Rattle.vdm_kinds.specs.declared.name.Name.{Name}
use Rattle.vdm_kinds.specs.declared.name_at.NameAt.{NameAt}
use Rattle.vdm_kinds.specs.declared.part.Part.TheVariants.{Spec}
use Rattle.vdm_kinds.specs.declared.place.Place.{Place}
use Rattle.abstract_syntax.specs.Types.{basic_type}
use Rattle.abstract_syntax.specs.Expressions.{any_value}
use Rattle.abstract_syntax.specs.Statements.{skips}
use Rattle.abstract_syntax.specs.Classes.{written, OperationTree, operations, ClassTree, SpecTree, is_same_name}
use Rattle.graph_cycles.specs.Graphs.{Graph}

-- ---- the class `IO`

-- it stands in no text: all of it is at the beginning
abbrev pub nowhere : Place
nowhere = record { part = Spec; line = 1; column = 1 }

abbrev pub print : Name
print = record { 0 = 1 }

abbrev pub println : Name
println = record { 0 = 2 }

-- a public static operation without a result, of one parameter. The type of the parameter is never tested, and the body never runs
abbrev pub printing : Name → OperationTree
printing name = record {
  access = record { is_static = true; level = Public };
  name = name;
  name_place = nowhere;
  parameters = basic_type Token nowhere ∷ [];
  result_type = None;
  patterns = any_value nowhere ∷ [];
  body = written (skips nowhere);
  pre = None;
  post = None;
  place = nowhere;
}

abbrev pub io_class : ClassTree
io_class = record {
  name = io;
  name_place = nowhere;
  superclasses = [];
  blocks = operations (printing print ∷ printing println ∷ []) nowhere ∷ [];
  place = nowhere;
}

-- ---- numbers

abbrev pub classes : SpecTree → List ClassTree
classes spec = io_class ∷ spec.classes

abbrev pub class_at : SpecTree → ℕ → Option ClassTree
class_at spec k = slice_get (classes spec) k

-- the number of the first class of the name
abbrev pub class_number : SpecTree → Name → Option ℕ
class_number spec name = position (λ (class : ClassTree). is_same_name name class.name) (classes spec)

-- the names of the classes, that of number 0 first
abbrev pub class_names : SpecTree → List Name
class_names spec = map (λ (class : ClassTree). class.name) (classes spec)

-- the name of a class by its number
abbrev pub name_of_class : SpecTree → ℕ → Name
name_of_class spec k = get_or (class_names spec) k io

-- ---- superclasses

abbrev pub numbers_among : List (Option ℕ) → List ℕ
numbers_among [] = []
numbers_among (None ∷ found) = numbers_among found
numbers_among (Some k ∷ found) = k ∷ numbers_among found

-- the superclasses of a class as written; a name that is no class's stands for none
abbrev pub superclass_numbers : SpecTree → ClassTree → List ℕ
superclass_numbers spec class = numbers_among (map (λ (s : NameAt). class_number spec s.name) class.superclasses)

-- each class leads to its superclasses
abbrev pub class_graph : SpecTree → Graph
class_graph spec = map (superclass_numbers spec) (classes spec)
