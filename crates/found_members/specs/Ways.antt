-- In which way each member is asked for, and how these ways are told apart.
use Rattle.std.specs.Prelude.{◌≡◌, ℕ, Bool, false, ◌&&◌, nat_eq, List, [], length, map, Option, Some, None, slice_get}
use Rattle.std.specs.List.{list_any}
use Rattle.abstract_syntax.specs.Classes.{ClassTree}
use Rattle.class_meaning.specs.Members.{Member, class_members, of_type, of_value, of_variable, of_function, of_operation}
use Rattle.class_meaning.specs.declared.ask.Ask.{Ask}
use Rattle.class_meaning.specs.declared.ask.Ask.TheVariants.{AsType, ByName, Called}
use Rattle.class_meaning.specs.declared.found.Found.{Found}
use Rattle.class_meaning.specs.declared.found.Found.TheVariants.{Nothing}

-- the one way in which a member answers, however it is called
abbrev pub way_of : Member → Ask
way_of (of_type t) = AsType t.name
way_of (of_value v) = ByName v.name
way_of (of_variable v) = ByName v.name
way_of (of_function f) = Called f.name (length f.patterns)
way_of (of_operation o) = Called o.name (length o.patterns)

-- a way of asking as numbers: its kind, the name, and how many arguments there are
abbrev pub key_of : Ask → ℕ × ℕ × ℕ
key_of (AsType name) = (0, name.0, 0)
key_of (ByName name) = (1, name.0, 0)
key_of (Called name n) = (2, name.0, n)

abbrev pub same_key : ℕ × ℕ × ℕ → ℕ × ℕ × ℕ → Bool
same_key a b = (nat_eq a.0 b.0 && nat_eq a.1 b.1) && nat_eq a.2 b.2

-- the way is among these
abbrev pub is_among : List Ask → Ask → Bool
is_among ways ask = list_any (λ way. same_key (key_of ask) (key_of way)) ways

-- the second list has each way that the first one has
abbrev pub HasAll : List Ask → List Ask → Type 0
HasAll ways more = (ask : Ask) → is_among more ask ≡ false → is_among ways ask ≡ false

-- what is found of a way that no member is asked for in: with so many arguments, what is found of the name alone
abbrev pub unlisted : (Ask → Found) → Ask → Found
unlisted f (AsType name) = Nothing
unlisted f (ByName name) = Nothing
unlisted f (Called name n) = f (ByName name)

-- all that is found is found in these ways
abbrev pub Covers : List Ask → (Ask → Found) → Type 0
Covers ways f = (ask : Ask) → is_among ways ask ≡ false → f ask ≡ unlisted f ask

abbrev pub ways_in : Option ClassTree → List Ask
ways_in None = []
ways_in (Some class) = map way_of (class_members class)

-- the ways of the members of the class of a number
abbrev pub own_ways : List ClassTree → ℕ → List Ask
own_ways trees k = ways_in (slice_get trees k)
