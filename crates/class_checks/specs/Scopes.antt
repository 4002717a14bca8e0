-- Where an expression stands: its class, what is bound there, and what it may reach.
use Rattle.std.specs.Prelude.{ℕ, Bool, false, if◌then◌else◌, List, [], ◌∷◌, Option, Some, None}
use Rattle.std.specs.Option.{option_and_then}
use Rattle.vdm_kinds.specs.NameList.{io}
use Rattle.vdm_kinds.specs.declared.name.Name.{Name}
use Rattle.abstract_syntax.specs.Classes.{SpecTree, is_same_name}
use Rattle.class_meaning.specs.Classes.{class_number}
use Rattle.form_meaning.specs.Forms.{FormTree}
use Rattle.class_checks.specs.declared.reach.Reach.{Reach}
use Rattle.class_checks.specs.declared.reach.Reach.TheVariants.{Free}

-- the form of each name that a pattern, a parameter or a declaration binds
abbrev pub Locals : Type 0
Locals = Name → Option FormTree

pub record LocalForm : Type 0 where
  pub name : Name
  pub form : FormTree

pub record ScopeTree : Type 0 where
  -- the class; the expression of a run has none
  pub class : Option Name
  pub locals : Locals
  -- the form of `RESULT`, where it may stand
  pub result : Option FormTree
  -- whether `x~` may stand, as in the `post` of an operation
  pub old : Bool
  -- whether there is an object: none in the expression of a run and in static operations
  pub object : Bool
  pub reach : Reach

abbrev pub nothing_bound : Locals
nothing_bound name = None

-- the newest of a name hides the others
abbrev pub bound_too : LocalForm → Locals → Locals
bound_too found locals = λ (name : Name). if is_same_name found.name name then Some found.form else locals name

abbrev pub all_bound : List LocalForm → Locals → Locals
all_bound [] locals = locals
all_bound (found ∷ others) locals = all_bound others (bound_too found locals)

-- inside what binds these, in text order
abbrev pub inside : ScopeTree → List LocalForm → ScopeTree
inside scope found = record {
  class = scope.class;
  locals = all_bound found scope.locals;
  result = scope.result;
  old = scope.old;
  object = scope.object;
  reach = scope.reach;
}

-- the number of its class
abbrev pub scope_number : SpecTree → ScopeTree → Option ℕ
scope_number spec scope = option_and_then (class_number spec) scope.class

-- the class in which names of types are looked up: the expression of a run has those that `IO` has
abbrev pub types_from : Option Name → Name
types_from None = io
types_from (Some class) = class

abbrev pub type_scope : ScopeTree → Name
type_scope scope = types_from scope.class

-- the expression of a run stands in no class
abbrev pub of_run : ScopeTree
of_run = record { class = None; locals = nothing_bound; result = None; old = false; object = false; reach = Free }
