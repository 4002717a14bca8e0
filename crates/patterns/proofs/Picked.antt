-- The choices from one on.
use Rattle.std.proofs.Common.{◌≡◌, ℕ, zero, suc, ◌+◌, ◌-◌, ◌<◌, ◌≤◌, List, [], ◌∷◌, ◌++◌, map, length, take, drop, get_or, refl, ap, sym, ◌∙◌, arith}
use Rattle.std.proofs.Math.ListN.{drop_of_length-le}
use Rattle.std.specs.Borrow.{Bor}
use Rattle.patterns.specs.Todos.{at}
use Rattle.patterns.proofs.Lists.{map-take}
use Rattle.pattern_meaning.specs.Choices.{choices, splits}

pub map-drop : {A B : Type 0} (f : A → B) (n : ℕ) (xs : List A) → map f (drop n xs) ≡ drop n (map f xs)
map-drop f zero xs = refl
map-drop f (suc n) [] = refl
map-drop f (suc n) (x ∷ xs) = map-drop f n xs

pub length-map : {A B : Type 0} (f : A → B) (xs : List A) → length (map f xs) ≡ length xs
length-map f [] = refl
length-map f (x ∷ xs) = ap suc (length-map f xs)

pub drop_more : {A : Type 0} (m n : ℕ) (xs : List A) → drop (m + n) xs ≡ drop n (drop m xs)
drop_more zero n xs = let e : zero + n ≡ n = omega arith in ap (λ k. drop k xs) e
drop_more (suc m) zero [] = let e : suc m + zero ≡ suc m = omega arith in ap (λ k. drop k []) e
drop_more (suc m) (suc n) [] = let e : suc m + suc n ≡ suc (m + suc n) = omega arith in ap (λ k. drop k []) e
drop_more (suc m) n (x ∷ xs) = let e : suc m + n ≡ suc (m + n) = omega arith in ap (λ k. drop k (x ∷ xs)) e ∙ drop_more m n xs

pub length-choices : {A : Type 0} (xs : List A) → length (choices xs) ≡ length xs
length-choices [] = refl
length-choices (x ∷ xs) = ap suc (length-map (λ c. (c.0, x ∷ c.1)) (choices xs) ∙ length-choices xs)

pub length-splits : {A : Type 0} (xs : List A) → length (splits xs) ≡ suc (length xs)
length-splits [] = refl
length-splits (x ∷ xs) = ap suc (length-map (λ s. (x ∷ s.0, s.1)) (splits xs) ∙ length-splits xs)

pub choices_at : {A : Type 0} (xs : List A) (n : ℕ) (x : A) → n < length xs → x ≡ get_or xs n x →
    drop n (choices xs) ≡ (x, take n xs ++ drop (suc n) xs) ∷ drop (suc n) (choices xs)
choices_at [] n x h e = absurd (omega arith)
choices_at (y ∷ ys) zero x h e = λ i. (sym e i, ys) ∷ map (λ c. (c.0, y ∷ c.1)) (choices ys)
choices_at (y ∷ ys) (suc n) x h e =
    sym (map-drop (λ c. (c.0, y ∷ c.1)) n (choices ys)) ∙
    ap (map (λ c. (c.0, y ∷ c.1))) (choices_at ys n x (omega arith) e) ∙
    ap (λ rest. (x, y ∷ (take n ys ++ drop (suc n) ys)) ∷ rest) (map-drop (λ c. (c.0, y ∷ c.1)) (suc n) (choices ys))

pub choices_past : {A : Type 0} (xs : List A) (n : ℕ) → length xs ≤ n → drop n (choices xs) ≡ []
choices_past xs n h = drop_of_length-le (choices xs) (let e : length (choices xs) ≡ length xs = length-choices xs in omega arith)

pub splits_at : {A : Type 0} (xs : List A) (n : ℕ) → n ≤ length xs →
    drop n (splits xs) ≡ (take n xs, drop n xs) ∷ drop (suc n) (splits xs)
splits_at [] zero h = refl
splits_at [] (suc n) h = absurd (omega arith)
splits_at (y ∷ ys) zero h = refl
splits_at (y ∷ ys) (suc n) h =
    sym (map-drop (λ s. (y ∷ s.0, s.1)) n (splits ys)) ∙
    ap (map (λ s. (y ∷ s.0, s.1))) (splits_at ys n (omega arith)) ∙
    ap (λ rest. (y ∷ take n ys, drop n ys) ∷ rest) (map-drop (λ s. (y ∷ s.0, s.1)) (suc n) (splits ys))

pub splits_past : {A : Type 0} (xs : List A) (n : ℕ) → length xs < n → drop n (splits xs) ≡ []
splits_past xs n h = drop_of_length-le (splits xs) (let e : length (splits xs) ≡ suc (length xs) = length-splits xs in omega arith)

pub take_all : {A : Type 0} (xs : List A) → take (length xs) xs ≡ xs
take_all [] = refl
take_all (x ∷ xs) = ap (λ rest. x ∷ rest) (take_all xs)

pub take_front : {A : Type 0} (n : ℕ) (xs ys : List A) → n ≤ length xs → take n (xs ++ ys) ≡ take n xs
take_front zero xs ys h = refl
take_front (suc n) [] ys h = absurd (omega arith)
take_front (suc n) (x ∷ xs) ys h = ap (λ rest. x ∷ rest) (take_front n xs ys (omega arith))

pub length-take_le : {A : Type 0} (n : ℕ) (xs : List A) → n ≤ length xs → length (take n xs) ≡ n
length-take_le zero xs h = refl
length-take_le (suc n) [] h = absurd (omega arith)
length-take_le (suc n) (x ∷ xs) h = ap suc (length-take_le n xs (omega arith))

-- a list with an item at its head
pub headed : {A : Type 0} (xs : List A) (x : A) → 1 ≤ length xs → x ≡ get_or xs 0 x → xs ≡ x ∷ drop 1 xs
headed [] x h e = absurd (omega arith)
headed (y ∷ ys) x h e = λ i. sym e i ∷ ys

pub no_items : {A : Type 0} (xs : List A) → length xs < 1 → xs ≡ []
no_items [] h = refl
no_items (x ∷ xs) h = absurd (omega arith)

-- and with the slice of the others
pub headed_slice : {A : Type 0} (xs : List A) (x : A) → 1 ≤ length xs → x ≡ get_or xs 0 x → xs ≡ x ∷ take (length xs - 1) (drop 1 xs)
headed_slice [] x h e = absurd (omega arith)
headed_slice (y ∷ ys) x h e =
    let n : length ys ≡ suc (length ys) - 1 = omega arith in
    (λ i. sym e i ∷ sym (take_all ys) i) ∙ ap (λ k. x ∷ take k ys) n

-- what a reference of a list is to
pub referred : {A : Type 0} (rs : List (Bor A)) (n : ℕ) (r : Bor A) → r ≡ get_or rs n r → r.now ≡ get_or (at rs) n r.now
referred [] n r e = refl
referred (s ∷ rs) zero r e = ap (λ q. q.now) e
referred (s ∷ rs) (suc n) r e = referred rs n r e

pub length-at : {A : Type 0} (rs : List (Bor A)) → length (at rs) ≡ length rs
length-at rs = length-map (λ r. r.now) rs

map-append : {A B : Type 0} (f : A → B) (xs ys : List A) → map f (xs ++ ys) ≡ map f xs ++ map f ys
map-append f [] ys = refl
map-append f (x ∷ xs) ys = ap (λ rest. f x ∷ rest) (map-append f xs ys)

pub at_without : {A : Type 0} (rs xs ys : List (Bor A)) (n m : ℕ) → rs ≡ take n xs ++ drop m xs → xs ≡ ys →
    at rs ≡ take n (at ys) ++ drop m (at ys)
at_without rs xs ys n m e f =
    ap at e ∙ map-append (λ r. r.now) (take n xs) (drop m xs) ∙
    (λ i. map-take (λ r. r.now) n xs i ++ map-drop (λ r. r.now) m xs i) ∙ ap (λ zs. take n (at zs) ++ drop m (at zs)) f

pub length-drop_add : {A : Type 0} (k : ℕ) (xs : List A) → k ≤ length xs → k + length (drop k xs) ≡ length xs
length-drop_add zero xs h = let e : zero + length xs ≡ length xs = omega arith in e
length-drop_add (suc k) [] h = absurd (omega arith)
length-drop_add (suc k) (x ∷ xs) h = let e : k + length (drop k xs) ≡ length xs = length-drop_add k xs (omega arith) in omega arith
