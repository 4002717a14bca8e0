-- The passes of a lane, after a change of one, with one more, and without the last.
use Rattle.std.proofs.Common.{◌≡◌, ◌≢◌, ℕ, ◌+◌, ◌<◌, List, [], ◌∷◌, ◌++◌, length, get_or, set, sym, refl, ap, ◌∙◌, subst, arith, length-append, length-set, get_or-set_other, get_or-set_same}
use Rattle.std.proofs.Math.ListN.{get_or-append}
use Rattle.std.proofs.Math.Seq.{get_or-append_seam}
use mathlib.Core.Logic.{dite}
use native.Mathlib.Decide.{ℕ_discrete, dec_lt}
use Rattle.turn_lock.specs.declared.storied.Storied.{Ghosts}
use Rattle.turn_lock.specs.declared.lock.TurnLock.{TurnLock}
use Rattle.turn_lock.specs.declared.pass.TurnPass.{TurnPass}
use Rattle.turn_lock.specs.Passes.{IsPassOf}
use Rattle.lock_lanes.specs.Lanes.{ArePassesOf}

module _ {V E : Type 0} {g : Ghosts V E} where
  pub pass_at : (locks : List (TurnLock V E)) (passes : List (TurnPass V E g)) (k : ℕ) (l : TurnLock V E) (p : TurnPass V E g) → ArePassesOf locks passes → k < length locks
      → l ≡ get_or locks k l → p ≡ get_or passes k p → IsPassOf l p
  pass_at locks passes k l p are h el ep = subst (λ (y : TurnLock V E × TurnPass V E g). IsPassOf y.0 y.1) (λ i. (sym el i, sym ep i)) (are.each k l p h)

  pub passes_set : (locks : List (TurnLock V E)) (passes : List (TurnPass V E g)) (at : ℕ) (l : TurnLock V E) (q : TurnPass V E g) → ArePassesOf locks passes → at < length locks
      → l ≡ get_or locks at l → IsPassOf l q → ArePassesOf locks (set passes at q)
  passes_set locks passes at l q are h el is = record {
    as_many = length-set passes at q ∙ are.as_many;
    each = λ k m p h'. dite (ℕ_discrete k at)
        (λ (e : k ≡ at). let near : at < length passes = omega (arith, are.as_many) in
        subst (λ (n : ℕ). IsPassOf (get_or locks n m) (get_or (set passes at q) n p)) (sym e)
        (subst (λ (r : TurnPass V E g). IsPassOf (get_or locks at m) r) (sym (get_or-set_same passes at q p near))
        (subst (λ (r : TurnLock V E). IsPassOf r q) (el ∙ same_at locks at l m h) is)))
        (λ (n : k ≢ at). subst (λ (r : TurnPass V E g). IsPassOf (get_or locks k m) r) (sym (get_or-set_other passes at k q p n)) (are.each k m p h'));
  }
    where
      same_at : {X : Type 0} (xs : List X) (k : ℕ) (a b : X) → k < length xs → get_or xs k a ≡ get_or xs k b
      same_at [] k a b h = absurd (omega arith)
      same_at (x ∷ xs) Rattle.std.proofs.Common.zero a b h = refl
      same_at (x ∷ xs) (Rattle.std.proofs.Common.suc k) a b h = same_at xs k a b (omega arith)

  pub passes_push : (locks : List (TurnLock V E)) (passes : List (TurnPass V E g)) (l : TurnLock V E) (q : TurnPass V E g) → ArePassesOf locks passes → IsPassOf l q → ArePassesOf (locks ++ l ∷ []) (passes ++ q ∷ [])
  passes_push locks passes l q are is = record {
    as_many = omega (arith, length-append passes (q ∷ []), length-append locks (l ∷ []), are.as_many);
    each = λ k m p h. dite (dec_lt k (length locks))
        (λ (lt : k < length locks). let lt' : k < length passes = omega (arith, are.as_many) in
        subst (λ (y : TurnLock V E × TurnPass V E g). IsPassOf y.0 y.1) (λ i. (sym (get_or-append locks (l ∷ []) m k lt) i, sym (get_or-append passes (q ∷ []) p k lt') i)) (are.each k m p lt))
        (λ n. let e : k ≡ length locks = omega (arith, length-append locks (l ∷ [])) in let e' : k ≡ length passes = e ∙ sym are.as_many in
        subst (λ (y : TurnLock V E × TurnPass V E g). IsPassOf y.0 y.1)
        (λ i. ((sym (get_or-append_seam locks l [] m) ∙ ap (λ n. get_or (locks ++ l ∷ []) n m) (sym e)) i, (sym (get_or-append_seam passes q [] p) ∙ ap (λ n. get_or (passes ++ q ∷ []) n p) (sym e')) i)) is);
  }

  pub passes_pop : (locks : List (TurnLock V E)) (all passes : List (TurnPass V E g)) (l : TurnLock V E) (q : TurnPass V E g) → all ≡ passes ++ q ∷ [] → ArePassesOf (locks ++ l ∷ []) all → IsPassOf l q × ArePassesOf locks passes
  passes_pop locks all passes l q is are =
      let long : length locks ≡ length passes = omega (arith, ap length is, length-append passes (q ∷ []), length-append locks (l ∷ []), are.as_many) in
      let each : (k : ℕ) (m : TurnLock V E) (p : TurnPass V E g) → k < length (locks ++ l ∷ []) → IsPassOf (get_or (locks ++ l ∷ []) k m) (get_or (passes ++ q ∷ []) k p) =
      subst (λ (xs : List (TurnPass V E g)). (k : ℕ) (m : TurnLock V E) (p : TurnPass V E g) → k < length (locks ++ l ∷ []) → IsPassOf (get_or (locks ++ l ∷ []) k m) (get_or xs k p)) is are.each in (
        subst (λ (y : TurnLock V E × TurnPass V E g). IsPassOf y.0 y.1)
            (λ i. (get_or-append_seam locks l [] l i, (ap (λ n. get_or (passes ++ q ∷ []) n q) long ∙ get_or-append_seam passes q [] q) i))
            (each (length locks) l q (omega (arith, length-append locks (l ∷ [])))),
        record {
          as_many = sym long;
          each = λ k m p h. let h' : k < length passes = omega arith in
              subst (λ (y : TurnLock V E × TurnPass V E g). IsPassOf y.0 y.1) (λ i. (get_or-append locks (l ∷ []) m k h i, get_or-append passes (q ∷ []) p k h' i))
              (each k m p (omega (arith, length-append locks (l ∷ []))));
        },
      )

  pub none_of : ArePassesOf {V = V} {E = E} {g = g} [] []
  none_of = record { as_many = refl; each = λ k l p h. absurd (omega arith) }
