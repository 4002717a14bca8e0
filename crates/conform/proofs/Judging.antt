-- What is told of tests, and of how a value fits by them.
use Rattle.std.proofs.Common.{◌≡◌, Bool, true, false, Option, Some, None, Result, Ok, Err, refl, ap, sym, ◌∙◌}
use Rattle.vdm_kinds.specs.declared.run_fault.RunFault.{RunFault}
use Rattle.type_meaning.specs.Tests.{Tests, no_tests, holds, one_holds, Choices, no_choices, choice, Fitting, fits, wrong_invariant, Decision, decided, asks, tested, tried, fitting}
use Rattle.conform.specs.Fits.{Telling, by_told, judged, says, then_said}

mutual
  tested-says : (tests : Tests) (met unmet : Decision Bool) → tested tests (says met) (says unmet) ≡ says (tested tests met unmet)
  tested-says no_tests met unmet = refl
  tested-says (holds d v tests) met unmet = ap (λ m. asks d v m (says unmet)) (tested-says tests met unmet)
  tested-says (one_holds alternatives tests) met unmet =
      ap (λ m. tried alternatives m (says unmet)) (tested-says tests met unmet) ∙ tried-says alternatives (tested tests met unmet) unmet

  tried-says : (alternatives : Choices) (met unmet : Decision Bool) → tried alternatives (says met) (says unmet) ≡ says (tried alternatives met unmet)
  tried-says no_choices met unmet = refl
  tried-says (choice tests others) met unmet =
      ap (tested tests (says met)) (tried-says others met unmet) ∙ tested-says tests met (tried others met unmet)

by-told : (r : Result Bool RunFault) (met unmet : Result Bool RunFault) → by_told r (then_said met) (then_said unmet) ≡ then_said (by_told r met unmet)
by-told (Ok true) met unmet = refl
by-told (Ok false) met unmet = refl
by-told (Err kind) met unmet = refl

judged-says : (tells : Telling) (d : Decision Bool) → judged tells (says d) ≡ then_said (judged tells d)
judged-says tells (decided b) = refl
judged-says tells (asks d v met unmet) =
    ap (λ m. by_told (tells d.class d.name v) m (judged tells (says unmet))) (judged-says tells met)
    ∙ ap (by_told (tells d.class d.name v) (then_said (judged tells met))) (judged-says tells unmet)
    ∙ by-told (tells d.class d.name v) (judged tells met) (judged tells unmet)

-- how a value fits that has the shape
pub fitting_says : (o : Option Tests) (tests : Tests) → Some tests ≡ o → fitting o ≡ says (tested tests (decided true) (decided false))
fitting_says o tests e = ap fitting (sym e) ∙ tested-says tests (decided true) (decided false)

pub fit_told : (tells : Telling) (o : Option Tests) (tests : Tests) → Some tests ≡ o
    → judged tells (fitting o) ≡ then_said (judged tells (tested tests (decided true) (decided false)))
fit_told tells o tests e =
    ap (λ (x : Option Tests). judged tells (fitting x)) (sym e)
    ∙ ap (judged tells) (tested-says tests (decided true) (decided false)) ∙ judged-says tells (tested tests (decided true) (decided false))
