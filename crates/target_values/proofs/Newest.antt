-- The newest of the locals of a name, which stands at the end.
use Rattle.std.proofs.Common.{◌≡◌, ℕ, zero, suc, ◌-◌, ◌<◌, ◌≤◌, Bool, true, [], ◌∷◌, ◌++◌, Some, length, take, drop, get_or, reverse, ap, sym, ◌∙◌, arith}
use Rattle.std.specs.Prelude.{set, if◌then◌else◌}
use Rattle.std.proofs.lemmas.List.{reverse-append, reverse-reverse}
use Rattle.vdm_kinds.specs.declared.name.Name.{Name}
use Rattle.vdm_values.specs.declared.slot.Slot.{Slot}
use Rattle.abstract_syntax.specs.Classes.{is_same_name}
use Rattle.node_meaning.specs.Envs.{Locals}
use Rattle.stmt_meaning.specs.Targets.{set_first, set_newest}
use Rattle.target_values.specs.Places.{at_place}

module _ (name : Name) (slot : Slot) where
  -- the last one has the name
  at_end : (xs : Locals) (x : Name × Slot) → is_same_name name x.0 ≡ true → set_newest name slot (xs ++ x ∷ []) ≡ xs ++ (x.0, slot) ∷ []
  at_end xs x is =
      ap (λ (ys : Locals). reverse (set_first name slot ys)) (reverse-append xs (x ∷ [])) ∙
      ap (λ (b : Bool). reverse (if b then (x.0, slot) ∷ reverse xs else x ∷ set_first name slot (reverse xs))) is ∙
      ap reverse (sym (reverse-append xs ((x.0, slot) ∷ []))) ∙ reverse-reverse (xs ++ (x.0, slot) ∷ [])

  split : (xs : Locals) (n : ℕ) (x : Name × Slot) → n < length xs → x ≡ get_or xs n x → take (suc n) xs ≡ take n xs ++ x ∷ []
  split [] n x h e = absurd (omega arith)
  split (y ∷ ys) zero x h e = ap (λ (z : Name × Slot). z ∷ []) (sym e)
  split (y ∷ ys) (suc n) x h e = ap (λ (zs : Locals). y ∷ zs) (split ys n x (omega arith) e)

  joined : (xs : Locals) (n : ℕ) (x : Name × Slot) → n < length xs → x ≡ get_or xs n x →
      (take n xs ++ (x.0, slot) ∷ []) ++ drop (suc n) xs ≡ at_place (Some n) slot xs
  joined [] n x h e = absurd (omega arith)
  joined (y ∷ ys) zero x h e = ap (λ (z : Name × Slot). (z.0, slot) ∷ ys) e
  joined (y ∷ ys) (suc n) x h e = ap (λ (zs : Locals). y ∷ zs) (joined ys n x (omega arith) e)

  behind : (xs : Locals) (n : ℕ) (x : Name × Slot) → n < length xs → x ≡ get_or xs n x → is_same_name name x.0 ≡ true →
      set_newest name slot (take (suc n) xs) ++ drop (suc n) xs ≡ at_place (Some n) slot xs
  behind xs n x h e is =
      ap (λ (zs : Locals). set_newest name slot zs ++ drop (suc n) xs) (split xs n x h e) ∙
      ap (λ (zs : Locals). zs ++ drop (suc n) xs) (at_end (take n xs) x is) ∙ joined xs n x h e

  -- the last of the first so many has the name
  pub newest_there : (xs : Locals) (n : ℕ) (x : Name × Slot) → 0 < n → n ≤ length xs → x ≡ get_or xs (n - 1) x → is_same_name name x.0 ≡ true →
      set_newest name slot (take n xs) ++ drop n xs ≡ at_place (Some (n - 1)) slot xs
  newest_there xs n x some h e is =
      let on : n ≡ suc (n - 1) = omega arith in
      ap (λ k. set_newest name slot (take k xs) ++ drop k xs) on ∙ behind xs (n - 1) x (omega arith) e is

pub set_at : (xs : Locals) (slot : Slot) (n : ℕ) (x : Name × Slot) → n < length xs → x ≡ get_or xs n x → set xs n (x.0, slot) ≡ at_place (Some n) slot xs
set_at [] slot n x h e = absurd (omega arith)
set_at (y ∷ ys) slot zero x h e = ap (λ (z : Name × Slot). (z.0, slot) ∷ ys) e
set_at (y ∷ ys) slot (suc n) x h e = ap (λ (zs : Locals). y ∷ zs) (set_at ys slot n x (omega arith) e)
