-- What has to hold of a value that has the shape of a type: the invariants of the types that it is a value of.
use Rattle.std.specs.Prelude.{Option, Some, None}
use Rattle.abstract_syntax.specs.Classes.{TypeDefTree}
use Rattle.abstract_syntax.specs.Values.{ValueTree}

mutual
  pub data Tests : Type 0 where
    no_tests : Tests
    -- the invariant of this type has to hold of the value, and then the others have to
    holds : TypeDefTree → ValueTree → Tests → Tests
    -- of these alternatives one has to hold whole, and then the others have to
    one_holds : Choices → Tests → Tests

  -- alternatives in the order in which they are tried
  pub data Choices : Type 0 where
    no_choices : Choices
    choice : Tests → Choices → Choices

abbrev pub followed_by : Tests → Tests → Tests
followed_by no_tests others = others
followed_by (holds d v tests) others = holds d v (followed_by tests others)
followed_by (one_holds choices tests) others = one_holds choices (followed_by tests others)

-- An alternative behind others. One of another shape is none.
abbrev pub with_choice : Option Tests → Choices → Choices
with_choice None choices = choices
with_choice (Some tests) choices = choice tests choices

-- What has to hold of a value of one of several alternatives: nothing where that is so of the first one whose shape it has.
abbrev pub one_of : Choices → Option Tests
one_of no_choices = None
one_of (choice no_tests others) = Some no_tests
one_of (choice tests others) = Some (one_holds (choice tests others) no_tests)

abbrev pub both : Option Tests → Option Tests → Option Tests
both (Some tests) (Some others) = Some (followed_by tests others)
both _ _ = None

-- ---- how the tests are made

-- how a value fits a type
pub data Fitting : Type 0 where
  fits : Fitting
  wrong_type : Fitting
  wrong_invariant : Fitting

-- what is decided by asking whether invariants hold, one after the other
pub data Decision (A : Type 0) : Type 0 where
  decided : A → Decision A
  -- whether the invariant of this type holds of the value: what follows where it does, and where it does not
  asks : TypeDefTree → ValueTree → Decision A → Decision A → Decision A

module _ {A : Type 0} where
  -- the tests are made in order, up to the first that does not hold; alternatives are tried in order, up to the first that holds
  abbrev mutual
    pub tested : Tests → Decision A → Decision A → Decision A
    tested no_tests met unmet = met
    tested (holds d v tests) met unmet = asks d v (tested tests met unmet) unmet
    tested (one_holds alternatives tests) met unmet = tried alternatives (tested tests met unmet) unmet

    pub tried : Choices → Decision A → Decision A → Decision A
    tried no_choices met unmet = unmet
    tried (choice tests others) met unmet = tested tests met (tried others met unmet)

-- how a value fits, by what has to hold of it, where it has the shape
abbrev pub fitting : Option Tests → Decision Fitting
fitting None = decided wrong_type
fitting (Some tests) = tested tests (decided fits) (decided wrong_invariant)
