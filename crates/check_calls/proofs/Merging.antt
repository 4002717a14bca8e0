-- The first refusal of two lists, from the first of each.
use Rattle.std.proofs.Common.{◌≡◌, ℕ, ◌<◌, Bool, true, false, List, [], ◌∷◌, ◌++◌, Option, Some, None, nat_eq, nat_lt, cond, if◌then◌else◌, refl, ap, sym, ◌∙◌, arith}
use Rattle.std.proofs.lemmas.Bool.Decides.{nat_tests}
use Rattle.vdm_kinds.specs.SpecKinds.{spec_number}
use Rattle.vdm_kinds.specs.declared.spec_fault.SpecFault.{SpecFault}
use Rattle.class_checks.specs.Results.{is_before, first_of, first_among}
use Rattle.check_fields.specs.Below.check_scopes.specs.Told.{first_among-++}
use Rattle.check_names.specs.Noting.{first_of_both}

-- ---- one number, and where these are the same what else there is

abbrev by_number : ℕ → ℕ → Bool → Bool
by_number m n rest = if nat_eq m n then rest else nat_lt m n

of_same : (m n : ℕ) (r b : Bool) → m ≡ n → r ≡ b → by_number m n r ≡ b
of_same m n r b e f =
    let same : nat_eq m n ≡ true = grind (arith, nat_tests) in
    ap (λ (t : Bool). cond t r (nat_lt m n)) same ∙ f

of_less : (m n : ℕ) (r : Bool) → m < n → by_number m n r ≡ true
of_less m n r h =
    let apart : nat_eq m n ≡ false = grind (arith, nat_tests) in
    let less : nat_lt m n ≡ true = grind (arith, nat_tests) in
    ap (λ (t : Bool). cond t r (nat_lt m n)) apart ∙ less

of_more : (m n : ℕ) (r : Bool) → n < m → by_number m n r ≡ false
of_more m n r h =
    let apart : nat_eq m n ≡ false = grind (arith, nat_tests) in
    let more : nat_lt m n ≡ false = grind (arith, nat_tests) in
    ap (λ (t : Bool). cond t r (nat_lt m n)) apart ∙ more

same_of : (m n : ℕ) → nat_eq m n ≡ true → m ≡ n
same_of m n e = grind (arith, nat_tests)

rest_of : (m n : ℕ) (r b : Bool) → nat_eq m n ≡ true → by_number m n r ≡ b → r ≡ b
rest_of m n r b e f = sym (ap (λ (t : Bool). cond t r (nat_lt m n)) e) ∙ f

test_of : (m n : ℕ) (r b : Bool) → nat_eq m n ≡ false → by_number m n r ≡ b → nat_lt m n ≡ b
test_of m n r b e f = sym (ap (λ (t : Bool). cond t r (nat_lt m n)) e) ∙ f

less_of : (m n : ℕ) → nat_lt m n ≡ true → m < n
less_of m n e = grind (arith, nat_tests)

more_of : (m n : ℕ) → nat_eq m n ≡ false → nat_lt m n ≡ false → n < m
more_of m n e f = grind (arith, nat_tests)

chain_lt : (m n k : ℕ) → nat_lt m n ≡ true → nat_lt n k ≡ true → nat_lt m k ≡ true
chain_lt m n k e f = grind (arith, nat_tests)

apart_lt : (m n k : ℕ) → nat_lt m n ≡ false → nat_lt n k ≡ false → nat_lt m k ≡ false
apart_lt m n k e f = grind (arith, nat_tests)

chain_by : (m n k : ℕ) (p q r : Bool) → (p ≡ true → q ≡ true → r ≡ true) → by_number m n p ≡ true → by_number n k q ≡ true → by_number m k r ≡ true
chain_by m n k p q r h e f = by (nat_eq m n) refl (nat_eq n k) refl
  where
    by : (a : Bool) → nat_eq m n ≡ a → (b : Bool) → nat_eq n k ≡ b → by_number m k r ≡ true
    by true x true y = of_same m k r true (same_of m n x ∙ same_of n k y) (h (rest_of m n p true x e) (rest_of n k q true y f))
    by true x false y = let s = same_of m n x in let l = less_of n k (test_of n k q true y f) in of_less m k r (omega arith)
    by false x true y = let s = same_of n k y in let l = less_of m n (test_of m n p true x e) in of_less m k r (omega arith)
    by false x false y =
        let l = less_of m n (test_of m n p true x e) in let o = less_of n k (test_of n k q true y f) in of_less m k r (omega arith)

apart_by : (m n k : ℕ) (p q r : Bool) → (p ≡ false → q ≡ false → r ≡ false) → by_number m n p ≡ false → by_number n k q ≡ false → by_number m k r ≡ false
apart_by m n k p q r h e f = by (nat_eq m n) refl (nat_eq n k) refl
  where
    by : (a : Bool) → nat_eq m n ≡ a → (b : Bool) → nat_eq n k ≡ b → by_number m k r ≡ false
    by true x true y = of_same m k r false (same_of m n x ∙ same_of n k y) (h (rest_of m n p false x e) (rest_of n k q false y f))
    by true x false y = let s = same_of m n x in let l = more_of n k y (test_of n k q false y f) in of_more m k r (omega arith)
    by false x true y = let s = same_of n k y in let l = more_of m n x (test_of m n p false x e) in of_more m k r (omega arith)
    by false x false y =
        let l = more_of m n x (test_of m n p false x e) in let o = more_of n k y (test_of n k q false y f) in of_more m k r (omega arith)

-- ---- the order in the text

chain_before : (a b c : SpecFault) → is_before a b ≡ true → is_before b c ≡ true → is_before a c ≡ true
chain_before a b c = chain_by a.place.line b.place.line c.place.line _ _ _
    (chain_by a.place.column b.place.column c.place.column _ _ _
    (chain_lt (spec_number a.kind) (spec_number b.kind) (spec_number c.kind)))

apart_before : (a b c : SpecFault) → is_before a b ≡ false → is_before b c ≡ false → is_before a c ≡ false
apart_before a b c = apart_by a.place.line b.place.line c.place.line _ _ _
    (apart_by a.place.column b.place.column c.place.column _ _ _
    (apart_lt (spec_number a.kind) (spec_number b.kind) (spec_number c.kind)))

-- the lesser one by a test; the earlier one where neither is less
abbrev lesser : {A : Type 0} → (A → A → Bool) → A → A → A
lesser less l r = if less r l then r else l

-- of three, from the left or from the right
of_three : {A : Type 0} (less : A → A → Bool)
    → ((a b c : A) → less a b ≡ true → less b c ≡ true → less a c ≡ true)
    → ((a b c : A) → less a b ≡ false → less b c ≡ false → less a c ≡ false)
    → (l a b : A) → lesser less (lesser less l a) b ≡ lesser less l (lesser less a b)
of_three less chain apart l a b = by (less a l) refl (less b a) refl
  where
    by : (p : Bool) → less a l ≡ p → (q : Bool) → less b a ≡ q
        → lesser less (cond p a l) b ≡ lesser less l (cond q b a)
    by true e true f =
        ap (λ (t : Bool). cond t b a) f ∙ sym (ap (λ (t : Bool). cond t b l) (chain b a l f e))
    by true e false f = ap (λ (t : Bool). cond t b a) f ∙ sym (ap (λ (t : Bool). cond t a l) e)
    by false e true f = refl
    by false e false f = ap (λ (t : Bool). cond t b l) (apart b a l f e) ∙ sym (ap (λ (t : Bool). cond t a l) e)

-- ---- the first of more and more

some_if : (b : Bool) (r l : SpecFault) → (if b then Some r else Some l) ≡ Some (cond b r l)
some_if true r l = refl
some_if false r l = refl

first_lesser : (l r : SpecFault) → first_of (Some l) r ≡ Some (lesser is_before l r)
first_lesser l r = some_if (is_before r l) r l

pub from_nothing : (o : Option SpecFault) → first_of_both None o ≡ o
from_nothing None = refl
from_nothing (Some r) = refl

both_later : (f g : Option SpecFault) (y : SpecFault) → first_of_both (first_of f y) g ≡ first_of_both f (first_of_both (Some y) g)
both_later f None y = refl
both_later None (Some z) y = sym (from_nothing (first_of (Some y) z))
both_later (Some l) (Some z) y =
    ap (λ (o : Option SpecFault). first_of o z) (first_lesser l y)
    ∙ first_lesser (lesser is_before l y) z
    ∙ ap Some (of_three is_before chain_before apart_before l y z)
    ∙ sym (first_lesser l (lesser is_before y z))
    ∙ ap (first_of_both (Some l)) (sym (first_lesser y z))

pub later_first : (f : Option SpecFault) (ys : List SpecFault) → first_among f ys ≡ first_of_both f (first_among None ys)
later_first f [] = refl
later_first f (y ∷ ys) =
    later_first (first_of f y) ys ∙ both_later f (first_among None ys) y ∙ ap (first_of_both f) (sym (later_first (Some y) ys))

pub first_of_lists : (xs ys : List SpecFault) → first_of_both (first_among None xs) (first_among None ys) ≡ first_among None (xs ++ ys)
first_of_lists xs ys = sym (later_first (first_among None xs) ys) ∙ sym (first_among-++ None xs ys)

-- where something is refused there is a first one
if_none : (b : Bool) (y x : SpecFault) (ys : List SpecFault) → (first_among (Some y) ys ≡ None → ⊥) → (first_among (Some x) ys ≡ None → ⊥)
    → first_among (if b then Some y else Some x) ys ≡ None → ⊥
if_none true y x ys later earlier e = later e
if_none false y x ys later earlier e = earlier e

never_none : (x : SpecFault) (xs : List SpecFault) → first_among (Some x) xs ≡ None → ⊥
never_none x [] e = cc
never_none x (y ∷ ys) e = if_none (is_before y x) y x ys (never_none y ys) (never_none x ys) e

pub none_refused : (xs : List SpecFault) → first_among None xs ≡ None → xs ≡ []
none_refused [] e = refl
none_refused (x ∷ xs) e = absurd (never_none x xs e)
