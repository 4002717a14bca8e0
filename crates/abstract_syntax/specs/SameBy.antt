-- The test whether two things are equal, of any type that has a code.
use Rattle.std.specs.Prelude.{◌≡◌, Bool, true, false, ◌&&◌, List, refl, nat_eq}
use Rattle.std.specs.Bool.{Decides}
use Rattle.std.specs.Coded.{Coded, coded_list}
use Rattle.std.specs.Cmp.{IsEquivalence, IsPartialEquivalence, decided, partial_equiv_from_equiv}
use Rattle.std.proofs.Common.{ap}
use Rattle.std.proofs.lemmas.Bool.Decides.{Decides-eqb, Decides-and, Decides-like, same_from_decides}
use Rattle.std.proofs.lemmas.Slice.Eq.{slice_eq-Decides}
use Rattle.std.specs.Cmp.Lexicographic.{pointwise}
use base.Stored.{Gv, gnil, gnum, gcons, num}

-- two codes are equal where their numbers are, place by place
abbrev same_code : Gv → Gv → Bool
same_code gnil gnil = true
same_code (gnum m) (gnum n) = nat_eq m n
same_code (gcons a b) (gcons c d) = same_code a c && same_code b d
same_code _ _ = false

same_code-decides : (g h : Gv) → Decides (same_code g h) (g ≡ h)
same_code-decides gnil gnil = (λ _. refl, λ _. refl)
same_code-decides (gnum m) (gnum n) = Decides-like _ (ap gnum) (ap num) (Decides-eqb m n)
same_code-decides (gcons a b) (gcons c d) = Decides-like _ (λ p i. gcons (p.0 i) (p.1 i))
    (λ e. (cc, cc)) (Decides-and _ _ (same_code-decides a c) (same_code-decides b d))
same_code-decides _ _ = (λ e. cc, λ e. cc)

-- whether two things have the same code
unfoldable pub same_by : {A : Type 0} → Coded A → A → A → Bool
same_by code x y = same_code (code.code x) (code.code y)

pub same_by-decides : {A : Type 0} (code : Coded A) (x y : A) → Decides (same_by code x y) (x ≡ y)
unfolding same_by
same_by-decides code x y = Decides-like _ (code.inj x y) (ap code.code) (same_code-decides (code.code x) (code.code y))

pub same_by-laws : {A : Type 0} (code : Coded A) → IsPartialEquivalence (same_by code)
same_by-laws code = partial_equiv_from_equiv (decided (same_by code) (same_by-decides code))

pub same_by-equivalence : {A : Type 0} (code : Coded A) → IsEquivalence (same_by code)
same_by-equivalence code = decided (same_by code) (same_by-decides code)

-- `==` of two slices or vectors, whose elements are compared so
pub pointwise-same_by : {A : Type 0} (code : Coded A) (xs ys : List A) → pointwise (same_by code) xs ys ≡ same_by (coded_list code) xs ys
pointwise-same_by code xs ys =
    same_from_decides _ _ (slice_eq-Decides (same_by-decides code) xs ys _ refl) (same_by-decides (coded_list code) xs ys)

-- for goals about `==` at types of which it is this test
pub ruleset sameness = (same_by-decides, pointwise-same_by)
