-- What is kept of the superclasses of each class.
use Rattle.std.specs.Prelude.{◌≡◌, ℕ, ◌||◌, nat_eq, Bool, true, false, List, [], ◌∷◌, length, Option, Some, None, slice_get, is_some, if◌then◌else◌, IsSomeAnd}
use Rattle.std.specs.List.{list_all}
use Rattle.std.specs.Option.{option_and_then}
use Rattle.abstract_syntax.specs.Classes.{ClassTree, SpecTree}
use Rattle.graph_cycles.specs.Graphs.{Graph, successors, settles}
use Rattle.class_index.specs.Answers.{answer_of, Indexes}
use Rattle.class_index.specs.declared.member_at.MemberAt.{MemberAt}
use Rattle.class_index.specs.declared.own_members.OwnMembers.{OwnMembers}
use Rattle.class_meaning.specs.Classes.{classes, class_graph}
use Rattle.class_meaning.specs.Found.{found}
use Rattle.class_meaning.specs.declared.ask.Ask.{Ask}
use Rattle.class_meaning.specs.declared.found.Found.TheVariants.{Nothing as FoundNothing, One}
use Rattle.found_members.specs.Agreements.{Agrees, answered, found_above}
use Rattle.found_members.specs.declared.following.Step.{Step}
use Rattle.found_members.specs.declared.following.Step.TheVariants.{Found as StepFound, Above}
use Rattle.found_members.specs.declared.inherited.Inherited.{Inherited}
use Rattle.found_members.specs.declared.inherited.Inherited.TheVariants.{Nothing, From, Agreed, Circle}

-- each of these classes has its index
abbrev pub HaveIndexes : List OwnMembers → List ClassTree → Type 0
HaveIndexes own trees = (k : ℕ) (class : ClassTree) → slice_get trees k ≡ Some class → IsSomeAnd (slice_get own k) (λ members. Indexes members class)

abbrev pub is_no_circle : Option Inherited → Bool
is_no_circle None = false
is_no_circle (Some Nothing) = true
is_no_circle (Some (From class)) = true
is_no_circle (Some (Agreed agreement)) = true
is_no_circle (Some Circle) = false

-- there is a row for the class, by which it leads to no circle
abbrev pub is_placed : List Inherited → ℕ → Bool
is_placed rows k = is_no_circle (slice_get rows k)

abbrev pub Settles : SpecTree → ℕ → Type 0
Settles spec k = settles (length (class_graph spec)) (class_graph spec) k ≡ true

-- the row says what the class of the number inherits. Of a circle nothing is said yet
abbrev pub IsRight : SpecTree → ℕ → Inherited → Type 0
IsRight spec k Nothing = Settles spec k × (successors (class_graph spec) k ≡ [])
IsRight spec k (From class) = Settles spec k × (successors (class_graph spec) k ≡ class ∷ [])
IsRight spec k (Agreed agreement) = Settles spec k × Agrees agreement (found_above spec k)
IsRight spec k Circle = Unit {0}

-- right rows, where each superclass of a class that is placed is placed too
pub record Rows (rows : List Inherited) (spec : SpecTree) : Type 0 where
  pub count : length rows ≡ length (class_graph spec)
  pub right : (k : ℕ) (row : Inherited) → slice_get rows k ≡ Some row → IsRight spec k row
  pub closed : (k : ℕ) → is_placed rows k ≡ true → list_all (is_placed rows) (successors (class_graph spec) k) ≡ true

-- what the class of a number itself has
abbrev pub own_answer : List OwnMembers → Ask → ℕ → Option MemberAt
own_answer own ask k = option_and_then (λ members. answer_of members ask) (slice_get own k)

abbrev pub above_step : Ask → Option Inherited → Step
above_step ask None = StepFound FoundNothing
above_step ask (Some Nothing) = StepFound FoundNothing
above_step ask (Some (From class)) = Above class
above_step ask (Some (Agreed agreement)) = StepFound (answered agreement ask)
above_step ask (Some Circle) = StepFound FoundNothing

-- what is found in a class without a look at its one superclass
abbrev pub looked : List OwnMembers → List Inherited → Ask → ℕ → Step
looked own rows ask k = if is_some (own_answer own ask k) then StepFound (One k) else above_step ask (slice_get rows k)

abbrev pub row_ways : Option Inherited → List Ask
row_ways None = []
row_ways (Some Nothing) = []
row_ways (Some (From class)) = []
row_ways (Some (Agreed agreement)) = agreement.ways.items
row_ways (Some Circle) = []

-- the one superclass
abbrev pub next_of : Option Inherited → Option ℕ
next_of None = None
next_of (Some Nothing) = None
next_of (Some (From class)) = Some class
next_of (Some (Agreed agreement)) = None
next_of (Some Circle) = None

-- of a class that is not placed nothing is found
abbrev pub IsWhole : SpecTree → List Inherited → Type 0
IsWhole spec rows = (k : ℕ) → is_placed rows k ≡ false → (ask : Ask) → found spec ask k ≡ FoundNothing

-- so many circles
abbrev pub AreCircles : ℕ → List Inherited → Type 0
AreCircles count rows = (length rows ≡ count) × ((k : ℕ) → is_placed rows k ≡ false)

-- an inheritance that is known, and right
abbrev pub IsHeir : SpecTree → ℕ → Inherited → Type 0
IsHeir spec k row = IsRight spec k row × (is_no_circle (Some row) ≡ true)

-- the class is placed, and no other beside those that were
pub record Places (spec : SpecTree) (old : List Inherited) (new : List Inherited) (node : ℕ) : Type 0 where
  pub rows : Rows new spec
  pub placed : (k : ℕ) → is_placed new k ≡ (nat_eq k node || is_placed old k)

-- what rows are made from is that of a specification
pub record Builds (own : List OwnMembers) (trees : List ClassTree) (graph : Graph) (spec : SpecTree) : Type 0 where
  pub indexes : HaveIndexes own (classes spec)
  pub same_trees : trees ≡ classes spec
  pub same_graph : graph ≡ class_graph spec
