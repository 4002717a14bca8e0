-- Keys and values stand in turn; and the first part is the left one.
use Rattle.std.proofs.Common.{◌≡◌, ℕ, zero, suc, ◌<◌, ◌≤◌, true, false, List, [], ◌∷◌, length, map, refl, ap, arith}
use Rattle.form_meaning.specs.Forms.{no_form}
use Rattle.class_checks.specs.Operators.{is_source, left}
use Rattle.class_checks.specs.Shapes.{Seen as SeenTree, all_but_first, all_seen, every_other, parts_seen, takes_first}
use Rattle.check_shapes.specs.declared.shape.Seen.{Seen}
use Rattle.check_shapes.specs.InTurn.{in_turn}
use Rattle.check_shapes.specs.ShapeView.{seen_view}

every_in_turn : (xs : List SeenTree) → every_other xs ≡ in_turn true xs
every_in_turn [] = refl
every_in_turn (x ∷ []) = refl
every_in_turn (x ∷ y ∷ xs) = ap (λ (ys : List SeenTree). x ∷ ys) (every_in_turn xs)

pub some_keys : (seen : List Seen) → 0 < length seen
    → parts_seen (every_other (map seen_view seen)) ≡ all_seen no_form (in_turn true (map seen_view seen))
some_keys [] some = absurd (omega (arith, some))
some_keys (x ∷ []) some = refl
some_keys (x ∷ y ∷ xs) some = ap (all_seen x.form) (every_in_turn (map seen_view xs))

pub some_values : (seen : List Seen) → 2 ≤ length seen
    → parts_seen (every_other (all_but_first (map seen_view seen))) ≡ all_seen no_form (in_turn false (map seen_view seen))
some_values [] more = absurd (omega (arith, more))
some_values (x ∷ []) more = absurd (omega (arith, more))
some_values (x ∷ y ∷ xs) more = some_keys (y ∷ xs) (omega arith)

is_first : (i : ℕ) → is_source left i ≡ takes_first i
is_first zero = refl
is_first (suc i) = refl

-- the left operand is the first part
pub left_first : is_source left ≡ takes_first
left_first = λ i n. is_first n i

pub some_parts : (seen : List Seen) → 0 < length seen
    → parts_seen (map seen_view seen) ≡ all_seen no_form (map seen_view seen)
some_parts [] some = absurd (omega (arith, some))
some_parts (x ∷ xs) some = refl
