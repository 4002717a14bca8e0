-- Classes for worked examples. A name is given by its number, and each thing that has a name stands in a line of its own.
use Rattle.std.specs.Prelude.{ℕ, zero, suc, false, List, [], ◌∷◌, Option, Some, None, map}
use Rattle.vdm_kinds.specs.declared.access.Access.{Access}
use Rattle.vdm_kinds.specs.declared.access.Level.{Level}
use Rattle.vdm_kinds.specs.declared.access.Level.TheVariants.{Private, Public}
use Rattle.vdm_kinds.specs.declared.basic_type.BasicType.TheVariants.{Nat}
use Rattle.vdm_kinds.specs.declared.member.OpRef.{OpRef}
use Rattle.vdm_kinds.specs.declared.member.VarRef.{VarRef}
use Rattle.vdm_kinds.specs.declared.name.Name.{Name}
use Rattle.vdm_kinds.specs.declared.name_at.NameAt.{NameAt}
use Rattle.vdm_kinds.specs.declared.part.Part.TheVariants.{Spec}
use Rattle.vdm_kinds.specs.declared.place.Place.{Place}
use Rattle.vdm_kinds.specs.declared.spec_fault.SpecFault.{SpecFault}
use Rattle.vdm_kinds.specs.declared.spec_kind.SpecKind.{SpecKind}
use Rattle.abstract_syntax.specs.Expressions.{any_value, self_object}
use Rattle.abstract_syntax.specs.Statements.{skips}
use Rattle.abstract_syntax.specs.Types.{TypeTree, basic_type, seq_type, optional_type, named_type, union_type, no_types, one_type}
use Rattle.abstract_syntax.specs.Classes.{FieldTree, TypeBody, TypeDefTree, VariableTree, variable_item, written, FunctionTree, OperationTree, BlockTree, types, variables, functions, operations, ClassTree, SpecTree}

-- the name of this number; those from 3 on stand in no list before a text is read
abbrev pub name : ℕ → Name
name n = record { 0 = n }

-- the beginning of a line
abbrev pub line : ℕ → Place
line n = record { part = Spec; line = n; column = 1 }

abbrev pub access : Level → Access
access level = record { is_static = false; level = level }

-- ---- names of classes

abbrev pub a : ℕ
a = 3

abbrev pub b : ℕ
b = 4

abbrev pub c : ℕ
c = 5

abbrev pub d : ℕ
d = 6

-- ---- names of members

abbrev pub f : ℕ
f = 7

abbrev pub v : ℕ
v = 8

abbrev pub t : ℕ
t = 9

abbrev pub u : ℕ
u = 10

-- ---- types

abbrev pub naturals : TypeTree
naturals = basic_type Nat (line 1)

-- the type of a name, which stands in a line
abbrev pub called : ℕ → ℕ → TypeTree
called n at = named_type (record { class = None; name = name n; name_place = line at }) (line at)

-- the type of a name behind that of a class
abbrev pub called_in : ℕ → ℕ → ℕ → ℕ → TypeTree
called_in class class_at n at = named_type (record { class = Some (name class); name = name n; name_place = line at }) (line class_at)

abbrev pub list_of : TypeTree → TypeTree
list_of element = seq_type element (line 1)

abbrev pub either : TypeTree → TypeTree → TypeTree
either one other = union_type (one_type one (one_type other no_types)) (line 1)

abbrev pub maybe : TypeTree → TypeTree
maybe inner = optional_type inner (line 1)

-- ---- members, each with the line of its name; a definition begins one line before

abbrev pub type_of : ℕ → ℕ → ℕ → TypeBody → TypeDefTree
type_of class n at body = record {
  access = access Private;
  class = name class;
  name = name n;
  name_place = line at;
  body = body;
  invariant = None;
  place = line at;
}

abbrev pub field : ℕ → ℕ → FieldTree
field n at = record { name = name n; name_place = line at; declared = naturals }

abbrev pub variable : ℕ → ℕ → VariableTree
variable n at =
    record { access = access Private; name = name n; name_place = line at; declared = naturals; initial = None; place = line at }

-- with so many types of parameters, and so many patterns
abbrev pub so_many : {A : Type 0} → ℕ → A → List A
so_many zero x = []
so_many (suc n) x = x ∷ so_many n x

abbrev pub operation_with : Level → ℕ → ℕ → ℕ → ℕ → OperationTree
operation_with level n at parameters patterns = record {
  access = access level;
  name = name n;
  name_place = line at;
  parameters = so_many parameters naturals;
  result_type = None;
  patterns = so_many patterns (any_value (line 1));
  body = written (skips (line 1));
  pre = None;
  post = None;
  place = line at;
}

abbrev pub operation : ℕ → ℕ → ℕ → OperationTree
operation n at arity = operation_with Public n at arity arity

abbrev pub function_with : ℕ → ℕ → ℕ → ℕ → ℕ → FunctionTree
function_with n at begins parameters patterns = record {
  access = access Private;
  name = name n;
  name_place = line at;
  parameters = so_many parameters naturals;
  result_type = naturals;
  patterns = so_many patterns (any_value (line 1));
  body = written (self_object (line 1));
  pre = None;
  post = None;
  measure = None;
  place = line begins;
}

abbrev pub function : ℕ → ℕ → ℕ → FunctionTree
function n at arity = function_with n at at arity arity

-- ---- blocks and classes

abbrev pub with_types : List TypeDefTree → BlockTree
with_types definitions = types definitions (line 1)

abbrev pub with_variables : List VariableTree → BlockTree
with_variables definitions = variables (map variable_item definitions) (line 1)

abbrev pub with_functions : List FunctionTree → BlockTree
with_functions definitions = functions definitions (line 1)

abbrev pub with_operations : List OperationTree → BlockTree
with_operations definitions = operations definitions (line 1)

-- a superclass, and its line
abbrev pub above : ℕ → ℕ → NameAt
above n at = record { name = name n; place = line at }

abbrev pub class_with : ℕ → ℕ → List NameAt → List BlockTree → ClassTree
class_with n at superclasses blocks =
    record { name = name n; name_place = line at; superclasses = superclasses; blocks = blocks; place = line at }

-- a class whose name stands in the line of its number, as do the names of its superclasses
abbrev pub class : ℕ → List ℕ → List BlockTree → ClassTree
class n superclasses blocks = class_with n n (map (λ s. above s s) superclasses) blocks

abbrev pub spec : List ClassTree → SpecTree
spec list = record { classes = list }

-- `D` has the superclasses `B` and `C`, and both have `A`. Their numbers are 4, 2, 3 and 1.
abbrev pub diamond : List BlockTree → List BlockTree → List BlockTree → List BlockTree → SpecTree
diamond in_a in_b in_c in_d = spec (class a [] in_a ∷ class b (a ∷ []) in_b ∷ class c (a ∷ []) in_c ∷ class d (b ∷ c ∷ []) in_d ∷ [])

-- a block with one variable `v`, and one with an operation `f` of one parameter
abbrev pub has_v : List BlockTree
has_v = with_variables (variable v 20 ∷ []) ∷ []

abbrev pub has_f : Level → List BlockTree
has_f level = with_operations (operation_with level f 21 1 1 ∷ []) ∷ []

-- `A`, and `B` below it
abbrev pub two : List BlockTree → List BlockTree → SpecTree
two in_a in_b = spec (class a [] in_a ∷ class b (a ∷ []) in_b ∷ [])

-- one class `A`
abbrev pub only : List BlockTree → SpecTree
only in_a = spec (class a [] in_a ∷ [])

-- ---- answers

abbrev pub fault : SpecKind → ℕ → Option SpecFault
fault kind at = Some (record { kind = kind; place = line at })

abbrev pub variable_in : ℕ → ℕ → VarRef
variable_in owner n = record { class = name owner; name = name n }

abbrev pub operation_in : ℕ → ℕ → ℕ → Option OpRef
operation_in owner n arity = Some (record { class = name owner; name = name n; arity = arity })
