-- What tests that are being made come to.
use Rattle.std.specs.Prelude.{◌≡◌, ℕ, Bool, true, false, if◌then◌else◌, List, [], ◌∷◌, Option, Some, None}
use Rattle.std.specs.Borrow.{Bor}
use Rattle.vdm_kinds.specs.declared.name.Name.{Name}
use Rattle.abstract_syntax.specs.Classes.{TypeDefTree}
use Rattle.abstract_syntax.specs.Values.{ValueTree}
use Rattle.expr_tree.specs.Alternatives.{Finder}
use Rattle.expr_tree.specs.declared.type_def.TypeDef.{TypeDef}
use Rattle.expr_tree.specs.TypeDefView.{type_def_view}
use Rattle.type_tree.specs.TypeView.{type_views, type_trees}
use Rattle.type_meaning.specs.Tests.{Tests as Wanted, no_tests, Decision, decided, asks, tested, tried}
use Rattle.type_meaning.specs.Shapes.{choices_of}
use Rattle.conform.specs.declared.test.Test.{Test}
use Rattle.conform.specs.declared.testing.Turn.{Turn}
use Rattle.conform.specs.declared.testing.Turn.TheVariants.{Asks, Holds, Fails}
use Rattle.conform.specs.declared.testing.Waiting.{Waiting}
use Rattle.conform.specs.declared.testing.Waiting.TheVariants.{Tests, Others}
use Rattle.conform.specs.Frames.{with_found}

module _ (find : Finder) (descends : Name → Name → Bool) (rank : TypeDefTree → ℕ) where
  -- what has to hold of a list of tests whose first is the last
  abbrev pub left_in : List Test → Wanted → Wanted
  left_in [] wanted = wanted
  left_in (test ∷ tests) wanted = left_in tests (with_found find descends rank test wanted)

  -- what follows where what was tested holds, and where it does not
  abbrev pub when_met : Waiting → Decision Bool → Decision Bool → Decision Bool
  when_met (Tests tests) met unmet = tested (left_in tests.items no_tests) met unmet
  when_met (Others scope types v) met unmet = met

  abbrev pub when_unmet : Waiting → Decision Bool → Decision Bool → Decision Bool
  when_unmet (Tests tests) met unmet = unmet
  when_unmet (Others scope types v) met unmet = tried (choices_of find descends rank v scope (type_trees (type_views types.now))) met unmet

  -- ... behind all that waits, the next of which is last
  abbrev pub met_from : List Waiting → Decision Bool → Decision Bool → Decision Bool
  met_from [] met unmet = met
  met_from (w ∷ ws) met unmet = met_from ws (when_met w met unmet) (when_unmet w met unmet)

  abbrev pub unmet_from : List Waiting → Decision Bool → Decision Bool → Decision Bool
  unmet_from [] met unmet = unmet
  unmet_from (w ∷ ws) met unmet = unmet_from ws (when_met w met unmet) (when_unmet w met unmet)

  abbrev pub met_behind : List Waiting → Decision Bool
  met_behind ws = met_from ws (decided true) (decided false)

  abbrev pub unmet_behind : List Waiting → Decision Bool
  unmet_behind ws = unmet_from ws (decided true) (decided false)

  -- where tests stand
  abbrev pub stands_at : List Waiting → Bool → Decision Bool
  stands_at ws holds = if holds then met_behind ws else unmet_behind ws

  -- ... where this is what follows next
  abbrev pub follows : Waiting → List Waiting → Bool → Decision Bool
  follows w ws holds = if holds then when_met w (met_behind ws) (unmet_behind ws) else when_unmet w (met_behind ws) (unmet_behind ws)

  -- a step, which may come to an invariant
  abbrev pub Stepped : Option (Bor TypeDef × ValueTree) → Decision Bool → List Waiting → Bool → Type 0
  Stepped None old ws holds = stands_at ws holds ≡ old
  Stepped (Some test) old ws holds = asks (type_def_view test.0.now) test.1 (met_behind ws) (unmet_behind ws) ≡ old

  abbrev pub Turned : Turn → Decision Bool → List Waiting → Type 0
  Turned (Asks d v) old ws = asks (type_def_view d.now) v (met_behind ws) (unmet_behind ws) ≡ old
  Turned Holds old ws = decided true ≡ old
  Turned Fails old ws = decided false ≡ old
