-- What a test of a value against a type asks for.
use Rattle.std.specs.Prelude.{◌≡◌, Some}
use Rattle.abstract_syntax.specs.Classes.{InvariantTree, TypeDefTree}
use Rattle.type_meaning.specs.Tests.{Fitting, Decision, decided, asks}

abbrev pub HasInvariant : TypeDefTree → Type 0
HasInvariant d = (invariant : InvariantTree) × (d.invariant ≡ Some invariant)

-- each invariant that is asked for is there, whatever the others are found to be
abbrev pub AsksInvariants : Decision Fitting → Type 0
AsksInvariants (decided f) = Unit {0}
AsksInvariants (asks d v met unmet) = HasInvariant d × AsksInvariants met × AsksInvariants unmet
