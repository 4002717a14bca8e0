-- How a value fits, where it is told which invariants hold.
use Rattle.std.specs.Prelude.{◌≡◌, ℕ, Bool, true, false, Option, Some, None, Result, Ok, Err}
use Rattle.vdm_kinds.specs.declared.halt.Halt.{Halt}
use Rattle.vdm_kinds.specs.declared.halt.Halt.TheVariants.{Of, OutOfMemory}
use Rattle.vdm_kinds.specs.declared.name.Name.{Name}
use Rattle.vdm_kinds.specs.declared.run_fault.RunFault.{RunFault}
use Rattle.abstract_syntax.specs.Classes.{TypeDefTree}
use Rattle.abstract_syntax.specs.Values.{ValueTree}
use Rattle.expr_tree.specs.Alternatives.{Finder}
use Rattle.type_meaning.specs.Tests.{Fitting, fits, wrong_type, wrong_invariant, Decision, decided, asks}
use Rattle.conform.specs.declared.conforming.Fit.{Fit}
use Rattle.conform.specs.declared.conforming.Fit.TheVariants.{Fits, WrongType, WrongInvariant}
use Rattle.conform.specs.declared.testing.Testing.{Testing}
use Rattle.conform.specs.Testings.{stands_at}

-- what is told of the invariant of the type of a class and a name, and of a value
abbrev pub Telling : Type 0
Telling = Name → Name → ValueTree → Result Bool RunFault

abbrev pub Tells : Result Bool (Halt RunFault) → Result Bool RunFault → Type 0
Tells (Ok holds) told = told ≡ Ok holds
Tells (Err (Of kind)) told = told ≡ Err kind
Tells (Err OutOfMemory) told = Unit {0}

abbrev pub by_told : {A : Type 0} → Result Bool RunFault → Result A RunFault → Result A RunFault → Result A RunFault
by_told (Ok true) met unmet = met
by_told (Ok false) met unmet = unmet
by_told (Err kind) met unmet = Err kind

-- what is decided, or the first fault that was told
abbrev pub judged : {A : Type 0} → Telling → Decision A → Result A RunFault
judged tells (decided a) = Ok a
judged tells (asks d v met unmet) = by_told (tells d.class d.name v) (judged tells met) (judged tells unmet)

abbrev pub fit_of : Fit → Fitting
fit_of Fits = fits
fit_of WrongType = wrong_type
fit_of WrongInvariant = wrong_invariant

abbrev pub Judged : Result Fit (Halt RunFault) → Result Fitting RunFault → Type 0
Judged (Ok fit) result = result ≡ Ok (fit_of fit)
Judged (Err (Of kind)) result = result ≡ Err kind
Judged (Err OutOfMemory) result = Unit {0}

-- what a Boolean says of how a value fits that has the shape
abbrev pub said : Bool → Fitting
said true = fits
said false = wrong_invariant

-- ... as a decision
abbrev pub says : Decision Bool → Decision Fitting
says (decided b) = decided (said b)
says (asks d v met unmet) = asks d v (says met) (says unmet)

abbrev pub then_said : Result Bool RunFault → Result Fitting RunFault
then_said (Ok b) = Ok (said b)
then_said (Err kind) = Err kind

-- where tests stand
abbrev pub standing : Finder → (Name → Name → Bool) → (TypeDefTree → ℕ) → Testing → Decision Bool
standing find descends rank t = stands_at find descends rank t.waiting.items t.holds

-- one invariant more was told, or all is decided
abbrev pub Went : Result (Option Bool) (Halt RunFault) → Telling → Decision Bool → Decision Bool → Type 0
Went (Ok (Some holds)) tells before after = judged tells before ≡ Ok holds
Went (Ok None) tells before after = judged tells before ≡ judged tells after
Went (Err (Of kind)) tells before after = judged tells before ≡ Err kind
Went (Err OutOfMemory) tells before after = Unit {0}
