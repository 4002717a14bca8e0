-- The part of a tuple that has a number, from 1.
use Rattle.std.proofs.Common.{◌≡◌, zero, suc, ℤ, pos, negsuc, List, [], ◌∷◌, Option, None, slice_get, refl, ℕ, Bool, false, nat_lt, length, ap}
use Rattle.form_meaning.specs.Forms.{FormTree, form_count, tuple_alt}
use Rattle.form_meaning.specs.Parts.{form_at}
use Rattle.class_checks.specs.Shapes.{has_part, part_numbered}
use Rattle.type_forms.specs.Taking.{form_or_none}
use Rattle.type_forms.specs.Tree.{form_trees}

abbrev pub numbered : List FormTree → ℤ → Option FormTree
numbered forms (pos zero) = None
numbered forms (pos (suc n)) = slice_get forms n
numbered forms (negsuc n) = None

form_found : (forms : List FormTree) (n : ℕ) → form_or_none (slice_get forms n) ≡ form_at n (form_trees forms)
form_found [] n = refl
form_found (form ∷ forms) zero = refl
form_found (form ∷ forms) (suc n) = form_found forms n

pub numbered_is : (forms : List FormTree) (number : ℤ) → form_or_none (numbered forms number) ≡ part_numbered number (tuple_alt (form_trees forms))
numbered_is forms (pos zero) = refl
numbered_is forms (pos (suc n)) = form_found forms n
numbered_is forms (negsuc n) = refl

abbrev pub is_within : ℕ → ℤ → Bool
is_within count (pos (suc n)) = nat_lt n count
is_within count _ = false

count_of : (forms : List FormTree) → length forms ≡ form_count (form_trees forms)
count_of [] = refl
count_of (form ∷ forms) = ap suc (count_of forms)

pub within_is : (forms : List FormTree) (number : ℤ) → is_within (length forms) number ≡ has_part number (tuple_alt (form_trees forms))
within_is forms (pos zero) = refl
within_is forms (pos (suc n)) = ap (nat_lt n) (count_of forms)
within_is forms (negsuc n) = refl
