-- Tests of the classes of objects. ('The isofclass expression' and its kin of the VDM-10 Language Manual (Overture).)
use Rattle.std.specs.Prelude.{Bool, true, false, ◌&&◌, List, [], ◌∷◌, Option, Some, None}
use Rattle.std.specs.List.{list_any}
use Rattle.std.specs.Option.{option_and_then}
use Rattle.vdm_kinds.specs.declared.name.Name.{Name}
use Rattle.vdm_kinds.specs.declared.name_at.NameAt.{NameAt}
use Rattle.abstract_syntax.specs.Classes.{ClassTree, SpecTree, is_same_name}
use Rattle.abstract_syntax.specs.Values.{ValueTree, boolean, object}
use Rattle.class_meaning.specs.Classes.{class_at, class_names, class_number}
use Rattle.node_meaning.specs.Envs.{Locals}
use Rattle.node_meaning.specs.Fitting.{descends}
use Rattle.node_meaning.specs.Tasks.{Code, value}

-- what is asked of the classes of values
pub data ClassTest : Type 0 where
  -- `isofclass(C, e)`
  in_class : Name → ClassTest
  -- `isofbaseclass(C, e)`
  in_base_class : Name → ClassTest
  -- `sameclass(a, b)`
  one_class : ClassTest
  -- `samebaseclass(a, b)`
  one_base_class : ClassTest

-- ---- classes

abbrev pub has_none : List NameAt → Bool
has_none [] = true
has_none (superclass ∷ superclasses) = false

abbrev pub stands_alone : Option ClassTree → Bool
stands_alone None = false
stands_alone (Some class) = has_none class.superclasses

-- whether it is a class without superclasses
abbrev pub is_base : SpecTree → Name → Bool
is_base spec class = stands_alone (option_and_then (class_at spec) (class_number spec class))

-- whether the first class is among the ancestors of the second one, and has no superclass
abbrev pub is_base_of : SpecTree → Name → Name → Bool
is_base_of spec class own = is_base spec class && descends spec own class

-- whether some class without superclasses is an ancestor of both
abbrev pub share_base : SpecTree → Name → Name → Bool
share_base spec own other = list_any (λ (class : Name). is_base_of spec class own && is_base_of spec class other) (class_names spec)

-- ---- values

-- the class of an object; no other value has one
abbrev pub class_of : ValueTree → Option Name
class_of (object number class) = Some class
class_of v = None

-- the class of the one value that there is, where that is an object
abbrev pub only_class : List ValueTree → Option Name
only_class (a ∷ []) = class_of a
only_class _ = None

abbrev pub both_of : Option Name → Option Name → Option (Name × Name)
both_of (Some own) (Some other) = Some (own, other)
both_of _ _ = None

-- the classes of the two values that there are, where both are objects
abbrev pub both_classes : List ValueTree → Option (Name × Name)
both_classes (a ∷ b ∷ []) = both_of (class_of a) (class_of b)
both_classes _ = None

-- of what is no object no test holds
abbrev pub holds_of_one : (Name → Bool) → Option Name → Bool
holds_of_one test None = false
holds_of_one test (Some own) = test own

abbrev pub holds_of_two : (Name → Name → Bool) → Option (Name × Name) → Bool
holds_of_two test None = false
holds_of_two test (Some pair) = test pair.0 pair.1

-- whether the test holds of the classes of these values
abbrev pub holds : SpecTree → ClassTest → List ValueTree → Bool
holds spec (in_class class) vs = holds_of_one (λ own. descends spec own class) (only_class vs)
holds spec (in_base_class class) vs = holds_of_one (is_base_of spec class) (only_class vs)
holds spec one_class vs = holds_of_two is_same_name (both_classes vs)
holds spec one_base_class vs = holds_of_two (share_base spec) (both_classes vs)

-- behind the values
abbrev pub class_told : SpecTree → ClassTest → List ValueTree → Locals → Code
class_told spec test vs locals = value (boolean (holds spec test vs)) locals
