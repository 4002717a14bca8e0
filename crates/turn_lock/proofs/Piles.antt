-- Lists of passes: the last one taken off, and the notes of all.
use Rattle.std.proofs.Common.{◌≡◌, ℕ, zero, suc, List, [], ◌∷◌, ◌++◌, length, get_or, sym, refl, ap, ◌∙◌, subst, arith, append_assoc, length-append}
use Rattle.std.specs.Prelude.{All}
use Rattle.std.proofs.Math.ListN.{get_or-append}
use Rattle.std.proofs.Math.Seq.{get_or-append_seam}
use mathlib.Core.List.{append-nil}
use Rattle.turn_lock.specs.declared.storied.Storied.{Ghosts}
use Rattle.turn_lock.specs.declared.pass.TurnPass.{TurnPass}
use Rattle.pass_sums.specs.Counting.{total, same}
use Rattle.turn_lock.specs.Views.{Stand}
use Rattle.turn_lock.specs.Passes.{own, all_own}
use Rattle.turn_lock.specs.Whole.{IsWhole, HasAllNotes}
use Rattle.pass_sums.proofs.Sums.{total_append}

pub all_popped : {X : Type 0} (P : X → Type 0) (xs : List X) (x : X) → All P (xs ++ x ∷ []) → All P xs × P x
all_popped P xs x all = (
  (λ k d h. subst P (get_or-append xs (x ∷ []) d k h) (all k d (omega (arith, length-append xs (x ∷ []))))),
  subst P (get_or-append_seam xs x [] x) (all (length xs) x (omega (arith, length-append xs (x ∷ [])))),
)

module _ {V E : Type 0} {g : Ghosts V E} where
  pub own_push : (xs : List (TurnPass V E g)) (p : TurnPass V E g) → all_own (xs ++ p ∷ []) ≡ all_own xs ++ own p
  own_push [] p = append-nil (own p)
  own_push (x ∷ xs) p = ap (λ l. own x ++ l) (own_push xs p) ∙ sym (append_assoc (own x) (all_own xs) (own p))

  -- where the notes of the last pass were put before the others that are joined
  pub own_joined : (xs : List (TurnPass V E g)) (p : TurnPass V E g) (joined : List (ℕ × E)) → all_own xs ++ (own p ++ joined) ≡ all_own (xs ++ p ∷ []) ++ joined
  own_joined xs p joined = sym (append_assoc (all_own xs) (own p) joined) ∙ ap (λ l. l ++ joined) (sym (own_push xs p))

module _ {E : Type 0} where
  stand_split : (start : ℕ) (list : List E) (xs ys : List (ℕ × E)) → Stand start list (xs ++ ys) → Stand start list xs × Stand start list ys
  stand_split start list [] ys st = (tt, st)
  stand_split start list (p ∷ ps) ys st = let rest = stand_split start list ps ys st.1 in ((st.0, rest.0), rest.1)

module _ {V E : Type 0} {g : Ghosts V E} where
  all_stand : (start : ℕ) (list : List E) (passes : List (TurnPass V E g)) → Stand start list (all_own passes) → All (λ p. Stand start list (own p)) passes
  all_stand start list [] st k d h = absurd (omega arith)
  all_stand start list (p ∷ ps) st zero d h = (stand_split start list (own p) (all_own ps) st).0
  all_stand start list (p ∷ ps) st (suc k) d h = all_stand start list ps (stand_split start list (own p) (all_own ps) st).1 k d (omega arith)

  total_own : (f : ℕ × E → ℕ) (passes : List (TurnPass V E g)) → total f (all_own passes) ≡ total (λ p. total f (own p)) passes
  total_own f [] = refl
  total_own f (p ∷ ps) = omega (arith, total_append f (own p) (all_own ps), total_own f ps)

  -- the notes of the joined pass are those of all passes
  pub all_notes : (first : List E) (passes : List (TurnPass V E g)) (joined : List (ℕ × E)) (list : List E) → joined ≡ all_own passes → IsWhole first joined list → HasAllNotes first passes list
  all_notes first passes joined list is w = record {
    noted = w.noted;
    list_is = w.list_is;
    own_stand = all_stand (length first) list passes (subst (Stand (length first) list) is w.own_stand);
    own_rise = λ k d h. (get_or passes k d).rising;
    places_are = λ x. sym (ap (total (λ q. same x q.0)) is ∙ total_own (λ q. same x q.0) passes) ∙ w.places_are x;
    weights_are = λ f. sym (ap (total (λ q. f q.1)) is ∙ total_own (λ q. f q.1) passes) ∙ w.weights_are f;
  }
