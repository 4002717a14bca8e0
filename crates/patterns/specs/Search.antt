-- What a search has found, and what it may still find.
use Rattle.std.specs.Prelude.{◌≡◌, ℕ, ◌≤◌, Bool, true, false, List, [], ◌∷◌, ◌++◌, map, take, length, reverse, Option, Some, None}
use Rattle.std.specs.Bool.{⊤}
use Rattle.std.specs.List.{filter_map}
use Rattle.vdm_kinds.specs.declared.name_at.TypeName.{TypeName}
use Rattle.abstract_syntax.specs.Values.{ValueTree}
use Rattle.pattern_meaning.specs.RecordTypes.{RecordType}
use Rattle.pattern_meaning.specs.Bindings.{Binding, with_way}
use Rattle.pattern_meaning.specs.Ways.{Way}
use Rattle.patterns.specs.Todos.{TodoTree, subject_tree, todo_of, all_ways}
use Rattle.patterns.specs.declared.bound.Bound.{Bound}
use Rattle.patterns.specs.declared.names.Names.{Names}
use Rattle.patterns.specs.declared.work.Work.{Work}
use Rattle.patterns.specs.declared.others.Other.{Other}
use Rattle.patterns.specs.declared.others.Others.{Others}
use Rattle.patterns.specs.declared.search.Search.{Search}
use Rattle.patterns.specs.declared.search.Turn.{Turn}
use Rattle.patterns.specs.declared.search.Turn.TheVariants.{Found, Nothing, On}

-- what is still to be matched, what comes next first
unfoldable pub to_come : Work → List TodoTree
to_come w = reverse (map todo_of w.todos.items)

-- the names that are bound so far
unfoldable pub binding_of : Names → Binding
binding_of names = map (λ (b : Bound). (b.name, subject_tree b.subject)) names.bounds.items

-- another choice: what is to be matched then, the values given for it, and how many names keep what they are bound to
pub record Choice : Type 0 where
  pub todos : List TodoTree
  pub given : List ValueTree
  pub kept : ℕ

abbrev pub choice_of : Other → Choice
choice_of o = record { todos = to_come o.work; given = o.given.now; kept = o.kept }

-- the other choices, the last one made first
unfoldable pub choices_in : Others → List Choice
choices_in o = reverse (map choice_of o.others.items)

abbrev pub choices_of : Search → List Choice
choices_of s = choices_in s.others

module _ (types : TypeName → Option RecordType) where
  -- the bindings that go on from what is bound
  unfoldable pub found_with : Binding → List ValueTree → List TodoTree → List Binding
  found_with b given todos = filter_map (with_way b) (all_ways types given todos)

  -- the bindings that other choices have
  unfoldable pub found_else : Binding → List Choice → List Binding
  found_else b [] = []
  found_else b (c ∷ cs) = found_with (take c.kept b) c.given c.todos ++ found_else (take c.kept b) cs

-- each choice keeps at most as many names as are bound at the one made after it
unfoldable pub IsNested : ℕ → List Choice → Type 0
IsNested n [] = ⊤
IsNested n (c ∷ cs) = (c.kept ≤ n) × IsNested c.kept cs

-- another choice waits, with this to be matched first
pub record Waits (todo : TodoTree) (old new : Search) : Type 0 where
  pub work : to_come new.work ≡ to_come old.work
  pub given : new.given.now ≡ old.given.now
  pub binding : binding_of new.names ≡ binding_of old.names
  pub others : choices_of new ≡ record {
    todos = todo ∷ to_come old.work;
    given = old.given.now;
    kept = length (binding_of old.names);
  } ∷ choices_of old

module _ (types : TypeName → Option RecordType) where
  -- the bindings that other choices have
  unfoldable pub left : Search → List Binding
  left s = found_else types (binding_of s.names) (choices_of s)

  -- all bindings that the search may still find, in the order in which they are tried
  unfoldable pub found : Search → List Binding
  found s = found_with types (binding_of s.names) s.given.now (to_come s.work) ++ left s

  -- those that it may still find where it goes on, or where what it tried came to nothing
  abbrev pub after : Bool → Search → List Binding
  after true s = found s
  after false s = left s

  abbrev pub where_it_goes : Bool → Search → List Binding
  where_it_goes true s = found s
  where_it_goes false s = []

  abbrev pub ends_with : Turn → Search → List Binding
  ends_with Found s = binding_of s.names ∷ left s
  ends_with Nothing s = []
  ends_with On s = found s

  -- a step passes over no binding that goes on from what is bound in one of these ways, and over none that another choice has
  pub record Goes (ways : List Way) (on : Bool) (old new : Search) : Type 0 where
    pub same : after on new ≡ filter_map (with_way (binding_of old.names)) ways ++ left old
    pub nested : IsNested (length (binding_of new.names)) (choices_of new)

  -- how a turn ends, where these were all bindings: nothing is left to be matched, there is none, or it goes on and passes over none
  pub record Ends (all : List Binding) (turn : Turn) (new : Search) : Type 0 where
    pub same : ends_with turn new ≡ all
    pub nested : IsNested (length (binding_of new.names)) (choices_of new)

  -- a step back goes on with the choice made last, where there is one
  pub record GoesBack (on : Bool) (old new : Search) : Type 0 where
    pub same : where_it_goes on new ≡ left old
    pub nested : IsNested (length (binding_of new.names)) (choices_of new)

-- what is bound, where a search found a binding
abbrev pub outcome : Bool → Search → Option Binding
outcome true s = Some (binding_of s.names)
outcome false s = None

-- a search before its first turn
pub record Begins (todos : List TodoTree) (given : List ValueTree) (s : Search) : Type 0 where
  pub work : to_come s.work ≡ todos
  pub values : s.given.now ≡ given
  pub names : binding_of s.names ≡ []
  pub others : choices_of s ≡ []
