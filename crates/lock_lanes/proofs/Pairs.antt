-- Two passes at the end of a list, and what they noted together.
use Rattle.std.proofs.Common.{◌≡◌, ◌+◌, List, [], ◌∷◌, ◌++◌, length, sym, refl, ap, ◌∙◌, subst, arith, length-append}
use Rattle.std.specs.Prelude.{All}
use Rattle.std.proofs.lemmas.List.Elements.{All-push}
use mathlib.Core.List.{append_assoc}
use Rattle.atomic_table.specs.Seated.{TableId}
use Rattle.pass_sums.specs.Counting.{total}
use Rattle.turn_lock.specs.declared.storied.Storied.{Ghosts}
use Rattle.turn_lock.specs.declared.pass.TurnPass.{TurnPass}
use Rattle.turn_lock.specs.Views.{weight}
use Rattle.turn_lock.specs.declared.lock.TurnLock.{TurnLock}
use Rattle.turn_lock.specs.Passes.{IsAt, IsIdle, IsNewPass, IsPassOf, AreAll, lock_passes, own}
use Rattle.turn_lock.specs.Whole.{HasAllNotes}
use Rattle.turn_lock.proofs.Piles.{all_popped}

pub both_of : {X : Type 0} (P : X → Type 0) (all rest : List X) (a b : X) → all ≡ rest ++ a ∷ b ∷ [] → All P all → P a × P b
both_of P all rest a b is each =
    let two = all_popped P (rest ++ a ∷ []) b (subst (All P) (is ∙ sym (append_assoc rest (a ∷ []) (b ∷ []))) each) in
    ((all_popped P rest a two.0).1, two.1)

pub none_left : {X : Type 0} (all rest : List X) (a b : X) → all ≡ rest ++ a ∷ b ∷ [] → length all ≡ 2 → rest ≡ []
none_left all [] a b is two = refl
none_left all (x ∷ xs) a b is two = absurd (omega (arith, ap length is, length-append xs (a ∷ b ∷ [])))

all_two : {X : Type 0} (P : X → Type 0) (all : List X) (a b : X) → all ≡ a ∷ b ∷ [] → P a → P b → All P all
all_two P all a b is pa pb = subst (All P) (sym is) (All-push P (a ∷ []) b (All-push P [] a (λ k d h. absurd (omega arith)) pa) pb)

ones : {A : Type 0} (xs : List A) → total (λ _. 1) xs ≡ length xs
ones [] = refl
ones (x ∷ xs) = omega (arith, ones xs)

module _ {V E : Type 0} {g : Ghosts V E} where
  pub new_two : (id : TableId) (list : List E) (all rest : List (TurnPass V E g)) (a b : TurnPass V E g) → all ≡ rest ++ a ∷ b ∷ [] → All (IsNewPass id list) all
      → ((IsAt id a × IsIdle a) × (own a ≡ [])) × ((IsAt id b × IsIdle b) × (own b ≡ []))
  new_two id list all rest a b is each = let new = both_of (IsNewPass id list) all rest a b is each in (((new.0.at, new.0.idle), new.0.own_none), ((new.1.at, new.1.idle), new.1.own_none))

  pub all_back : (lock : TurnLock V E) (all rest : List (TurnPass V E g)) (a b : TurnPass V E g) → all ≡ rest ++ a ∷ b ∷ [] → rest ≡ [] → lock_passes lock ≡ 2
      → IsPassOf lock a → IsPassOf lock b → AreAll lock all
  all_back lock all rest a b is none two pa pb =
      let pair : all ≡ a ∷ b ∷ [] = is ∙ ap (λ l. l ++ a ∷ b ∷ []) none in (all_two (IsPassOf lock) all a b pair pa pb, ap length pair ∙ sym two)

  -- where nothing stood before, the list is as long as what both passes noted
  pub noted_by_two : (first : List E) (all rest : List (TurnPass V E g)) (a b : TurnPass V E g) (list : List E) → all ≡ rest ++ a ∷ b ∷ [] → rest ≡ [] → first ≡ []
      → HasAllNotes first all list → length list ≡ length (own a) + length (own b)
  noted_by_two first all rest a b list is none bare has =
      let two : all ≡ a ∷ b ∷ [] = is ∙ ap (λ l. l ++ a ∷ b ∷ []) none in
      let sum = ap (total (λ p. weight (λ _. 1) (own p))) (sym two) ∙ has.weights_are (λ _. 1) in
      let long = ap length has.list_is ∙ ap (λ l. length (l ++ has.noted)) bare in
      omega (arith, ones (own a), ones (own b), ones has.noted)
