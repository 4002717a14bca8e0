-- Lists of passes: the last one taken off, and the numbers of all.
use Rattle.std.proofs.Common.{◌≡◌, ℕ, ◌+◌, List, [], ◌∷◌, ◌++◌, length, get_or, sym, refl, ap, ◌∙◌, subst, arith, append_assoc, length-append}
use Rattle.std.specs.Prelude.{All}
use Rattle.std.proofs.Math.ListN.{get_or-append}
use Rattle.std.proofs.Math.Seq.{get_or-append_seam}
use mathlib.Core.List.{append-nil}
use Rattle.pass_sums.specs.Counting.{total, same, below}
use Rattle.pass_sums.proofs.Sums.{total_append}
use Rattle.stamp_source.specs.declared.pass.StampPass.{StampPass}
use Rattle.stamp_source.specs.Numbers.{times}
use Rattle.stamp_source.specs.Passes.{numbers, all_numbers, DrewEachOnce}

pub all_popped : {X : Type 0} (P : X → Type 0) (xs : List X) (x : X) → All P (xs ++ x ∷ []) → All P xs × P x
all_popped P xs x all = (
  (λ k d h. subst P (get_or-append xs (x ∷ []) d k h) (all k d (omega (arith, length-append xs (x ∷ []))))),
  subst P (get_or-append_seam xs x [] x) (all (length xs) x (omega (arith, length-append xs (x ∷ [])))),
)

pub numbers_push : (xs : List StampPass) (p : StampPass) → all_numbers (xs ++ p ∷ []) ≡ all_numbers xs ++ numbers p
numbers_push [] p = append-nil (numbers p)
numbers_push (x ∷ xs) p = ap (λ l. numbers x ++ l) (numbers_push xs p) ∙ sym (append_assoc (numbers x) (all_numbers xs) (numbers p))

-- where the numbers of the last pass were put before those of the passes that are joined
pub numbers_joined : (xs : List StampPass) (p : StampPass) (joined : List ℕ) → all_numbers xs ++ (numbers p ++ joined) ≡ all_numbers (xs ++ p ∷ []) ++ joined
numbers_joined xs p joined = sym (append_assoc (all_numbers xs) (numbers p) joined) ∙ ap (λ l. l ++ joined) (sym (numbers_push xs p))

total_numbers : (x : ℕ) (passes : List StampPass) → times x (all_numbers passes) ≡ total (λ p. times x (numbers p)) passes
total_numbers x [] = refl
total_numbers x (p ∷ ps) = omega (arith, total_append (same x) (numbers p) (all_numbers ps), total_numbers x ps)

-- the numbers of the joined pass are those of all passes
pub once : (first next : ℕ) (passes : List StampPass) (joined : List ℕ) → joined ≡ all_numbers passes → ((x : ℕ) → times x joined + below first x ≡ below next x) → DrewEachOnce first passes
once first next passes joined is drew = record {
  next = next;
  numbers_are = λ x. ap (λ k. k + below first x) (sym (ap (times x) is ∙ total_numbers x passes)) ∙ drew x;
  rise = λ k d h. (get_or passes k d).rising;
}
