-- What a name means in a class: the class's own definition, else the one that all direct superclasses which know one agree on. ('Inheritance'
-- of the VDM-10 Language Manual (Overture); that superclasses have to agree is this project's own.)
use Rattle.std.specs.Prelude.{ℕ, zero, suc, Bool, true, false, nat_eq, if◌then◌else◌, is_some, List, [], ◌∷◌, Option, Some, None, map, option_map, length}
use Rattle.std.specs.Option.{option_and_then}
use Rattle.vdm_kinds.specs.declared.name.Name.{Name}
use Rattle.abstract_syntax.specs.Classes.{TypeDefTree, SpecTree}
use Rattle.graph_cycles.specs.Graphs.{successors, leads_to_no_cycle}
use Rattle.class_meaning.specs.Classes.{class_at, class_number, class_graph, name_of_class}
use Rattle.class_meaning.specs.Members.{Member, of_type, kind_of, own}
use Rattle.class_meaning.specs.declared.ask.Ask.{Ask}
use Rattle.class_meaning.specs.declared.ask.Ask.TheVariants.{AsType, ByName, Called}
use Rattle.class_meaning.specs.declared.ask.MemberKind.{MemberKind}
use Rattle.class_meaning.specs.declared.ask.MemberKind.TheVariants.{TypeDef, Value, Variable, Function, Operation}
use Rattle.class_meaning.specs.declared.found.Found.{Found}
use Rattle.class_meaning.specs.declared.found.Found.TheVariants.{Nothing, One, Several}
use Rattle.class_meaning.specs.declared.found.OpFound.{OpFound}
use Rattle.class_meaning.specs.declared.found.OpFound.TheVariants.{One as OneOp, Several as SeveralOps, None as NoOp}
use Rattle.class_meaning.specs.declared.found.VarFound.{VarFound}
use Rattle.class_meaning.specs.declared.found.VarFound.TheVariants.{One as OneVar, Several as SeveralVars, None as NoVar}

-- ---- the class that defines a name

-- what two superclasses agree on
abbrev pub agreed : Found → Found → Found
agreed Nothing other = other
agreed Several other = Several
agreed (One k) Nothing = One k
agreed (One k) Several = Several
agreed (One k) (One other) = if nat_eq k other then One k else Several

abbrev pub all_agreed : List (Found) → Found
all_agreed [] = Nothing
all_agreed (found ∷ others) = agreed found (all_agreed others)

-- what a class itself answers with
abbrev pub own_in : SpecTree → Ask → ℕ → Option Member
own_in spec ask k = option_and_then (λ class. own class ask) (class_at spec k)

-- the class itself, or what its superclasses agree on, to so many levels
abbrev pub found_to : ℕ → SpecTree → Ask → ℕ → Found
found_to zero spec ask k = Nothing
found_to (suc n) spec ask k =
    if is_some (own_in spec ask k) then One k else all_agreed (map (found_to n spec ask) (successors (class_graph spec) k))

-- The class whose definition a name means in a class. Above a class that settles there is no circle, so no more levels are wanted than
-- there are classes. Where the superclasses of superclasses go in a circle nothing is found.
abbrev pub found : SpecTree → Ask → ℕ → Found
found spec ask k =
    if leads_to_no_cycle (class_graph spec) k then found_to (length (class_graph spec)) spec ask k else Nothing

-- ---- by kinds

abbrev pub is_same_kind : MemberKind → MemberKind → Bool
is_same_kind TypeDef TypeDef = true
is_same_kind Value Value = true
is_same_kind Variable Variable = true
is_same_kind Function Function = true
is_same_kind Operation Operation = true
is_same_kind _ _ = false

abbrev pub is_some_kind : MemberKind → Option MemberKind → Bool
is_some_kind kind None = false
is_some_kind kind (Some other) = is_same_kind kind other

-- whether a class's own answer is of a kind
abbrev pub has_own : SpecTree → Ask → MemberKind → ℕ → Bool
has_own spec ask kind k = is_some_kind kind (option_map kind_of (own_in spec ask k))

-- a definition of another kind is not what was asked for
abbrev pub operation_found : SpecTree → Name → ℕ → MemberKind → Found → OpFound
operation_found spec name n kind Nothing = NoOp
operation_found spec name n kind Several = SeveralOps
operation_found spec name n kind (One k) =
    if has_own spec (Called name n) kind k then OneOp (record { class = name_of_class spec k; name = name; arity = n }) else NoOp

abbrev pub variable_found : SpecTree → Name → MemberKind → Found → VarFound
variable_found spec name kind Nothing = NoVar
variable_found spec name kind Several = SeveralVars
variable_found spec name kind (One k) =
    if has_own spec (ByName name) kind k then OneVar (record { class = name_of_class spec k; name = name }) else NoVar

-- an operation, by its name and the number of its parameters; and so a function
abbrev pub found_operation : SpecTree → ℕ → Name → ℕ → OpFound
found_operation spec k name n = operation_found spec name n Operation (found spec (Called name n) k)

abbrev pub found_function : SpecTree → ℕ → Name → ℕ → OpFound
found_function spec k name n = operation_found spec name n Function (found spec (Called name n) k)

-- a class value, by its name; and so a variable
abbrev pub found_value : SpecTree → ℕ → Name → VarFound
found_value spec k name = variable_found spec name Value (found spec (ByName name) k)

abbrev pub found_variable : SpecTree → ℕ → Name → VarFound
found_variable spec k name = variable_found spec name Variable (found spec (ByName name) k)

-- ---- types

abbrev pub type_of : Member → Option TypeDefTree
type_of (of_type t) = Some t
type_of _ = None

-- the definition of a type by its name, in the class of a number
abbrev pub defined_type : SpecTree → Name → Found → Option TypeDefTree
defined_type spec name (One k) = option_and_then type_of (own_in spec (AsType name) k)
defined_type spec name _ = None

abbrev pub found_type : SpecTree → Name → ℕ → Option TypeDefTree
found_type spec name k = defined_type spec name (found spec (AsType name) k)

-- The definition of the type that is named in the class `scope`, behind the name of a class and a backquote where there is one.
abbrev pub type_named : SpecTree → Name → Option Name → Name → Option TypeDefTree
type_named spec scope None name = option_and_then (found_type spec name) (class_number spec scope)
type_named spec scope (Some class) name = option_and_then (found_type spec name) (class_number spec class)
