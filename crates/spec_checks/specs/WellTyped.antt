-- What is well typed.
use Rattle.std.specs.Prelude.{◌≡◌, []}
use Rattle.abstract_syntax.specs.Classes.{SpecTree}
use Rattle.spec_checks.specs.Definitions.{spec_faults}

-- a specification of which nothing is refused
abbrev pub IsWellTypedSpec : SpecTree → Type 0
IsWellTypedSpec spec = spec_faults spec ≡ []
