-- Ways of asking: their keys, and which members answer to them.
use Rattle.std.proofs.Common.{◌≡◌, ℕ, Bool, true, false, ◌&&◌, ◌||◌, nat_eq, eqb-true, List, [], ◌∷◌, ◌++◌, map, Option, Some, None, slice_get, length, cond, refl, sym, ap, ◌∙◌}
use Rattle.std.specs.List.{list_any, find}
use Rattle.std.specs.Borrow.{Bor}
use Rattle.std.specs.Option.{option_and_then, option_copied}
use Rattle.std.specs.Slice.{IsItemAt}
use Rattle.std.proofs.lemmas.Option.{slice_get_past, slice_get_read}
use Rattle.std.proofs.lemmas.List.{append-nil}
use Rattle.std.proofs.lemmas.List.Folds.{list_any-append}
use Rattle.vdm_kinds.specs.declared.name.Name.{Name}
use Rattle.abstract_syntax.specs.Classes.{ClassTree}
use Rattle.class_meaning.specs.Members.{Member, of_type, of_value, of_variable, of_function, of_operation, class_members, answers, first_answer, or_else, own}
use Rattle.class_meaning.specs.declared.ask.Ask.{Ask}
use Rattle.class_meaning.specs.declared.ask.Ask.TheVariants.{AsType, ByName, Called}
use Rattle.class_meaning.proofs.Numbers.{not_both, or_not_left, or_not_right, or_none, and_left, and_right, itself, flipped}
use Rattle.found_members.specs.Ways.{way_of, ways_in, key_of, same_key, is_among, HasAll}

and_true : (b : Bool) → (b && true) ≡ b
and_true true = refl
and_true false = refl

-- ---- keys

pub key_itself : (ask : Ask) → same_key (key_of ask) (key_of ask) ≡ true
key_itself (AsType name) = ap (λ b. b && true) (itself name.0)
key_itself (ByName name) = ap (λ b. b && true) (itself name.0)
key_itself (Called name n) = ap (λ b. b && nat_eq n n) (itself name.0) ∙ itself n

pub key_flipped : (a b : ℕ × ℕ × ℕ) → same_key a b ≡ same_key b a
key_flipped a b = ap (λ t. (t && nat_eq a.1 b.1) && nat_eq a.2 b.2) (flipped a.0 b.0)
    ∙ ap (λ t. (nat_eq b.0 a.0 && t) && nat_eq a.2 b.2) (flipped a.1 b.1)
    ∙ ap (λ t. (nat_eq b.0 a.0 && nat_eq b.1 a.1) && t) (flipped a.2 b.2)

same_name : (a b : Name) → nat_eq a.0 b.0 ≡ true → a ≡ b
same_name a b t = ap (λ n. record { 0 = n }) (eqb-true a.0 b.0 t)

-- ways of one key are the same
pub one_key : (a b : Ask) → same_key (key_of a) (key_of b) ≡ true → a ≡ b
one_key (AsType a) (AsType b) t = ap AsType (same_name a b (and_left (nat_eq a.0 b.0) true t))
one_key (AsType a) (ByName b) t = not_both t refl
one_key (AsType a) (Called b n) t = not_both t refl
one_key (ByName a) (AsType b) t = not_both t refl
one_key (ByName a) (ByName b) t = ap ByName (same_name a b (and_left (nat_eq a.0 b.0) true t))
one_key (ByName a) (Called b n) t = not_both t refl
one_key (Called a m) (AsType b) t = not_both t refl
one_key (Called a m) (ByName b) t = not_both t refl
one_key (Called a m) (Called b n) t =
    ap (λ name. Called name m) (same_name a b (and_left (nat_eq a.0 b.0) (nat_eq m n) t))
    ∙ ap (Called b) (eqb-true m n (and_right (nat_eq a.0 b.0) (nat_eq m n) t))

-- ---- lists of ways

pub among_append : (xs ys : List Ask) (ask : Ask) → is_among (xs ++ ys) ask ≡ (is_among xs ask || is_among ys ask)
among_append xs ys ask = list_any-append (λ way. same_key (key_of ask) (key_of way)) xs ys

pub more_left : (xs ys : List Ask) → HasAll xs (xs ++ ys)
more_left xs ys ask f = or_not_left (is_among xs ask) (is_among ys ask) (sym (among_append xs ys ask) ∙ f)

pub more_right : (xs ys : List Ask) → HasAll ys (xs ++ ys)
more_right xs ys ask f = or_not_right (is_among xs ask) (is_among ys ask) (sym (among_append xs ys ask) ∙ f)

pub among_more : (xs : List Ask) (way ask : Ask) → is_among (xs ++ way ∷ []) ask ≡ (is_among xs ask || same_key (key_of ask) (key_of way))
among_more xs way ask = among_append xs (way ∷ []) ask ∙ ap (λ t. is_among xs ask || t) (or_none (same_key (key_of ask) (key_of way)))

-- ---- which members answer

answers_way : (ask : Ask) (m : Member) → answers ask m ≡ same_key (key_of ask) (key_of (way_of m))
answers_way (AsType name) (of_type t) = sym (and_true (nat_eq name.0 t.name.0))
answers_way (AsType name) (of_value v) = refl
answers_way (AsType name) (of_variable v) = refl
answers_way (AsType name) (of_function f) = refl
answers_way (AsType name) (of_operation o) = refl
answers_way (ByName name) (of_type t) = refl
answers_way (ByName name) (of_value v) = sym (and_true (nat_eq name.0 v.name.0))
answers_way (ByName name) (of_variable v) = sym (and_true (nat_eq name.0 v.name.0))
answers_way (ByName name) (of_function f) = refl
answers_way (ByName name) (of_operation o) = refl
answers_way (Called name n) (of_type t) = refl
answers_way (Called name n) (of_value v) = refl
answers_way (Called name n) (of_variable v) = refl
answers_way (Called name n) (of_function f) = refl
answers_way (Called name n) (of_operation o) = refl

find_none : {A : Type 0} (p : A → Bool) (xs : List A) → list_any p xs ≡ false → find p xs ≡ None
find_none p [] f = refl
find_none p (x ∷ xs) f = by (p x) (or_not_left (p x) (list_any p xs) f) (find_none p xs (or_not_right (p x) (list_any p xs) f))
  where
    by : (t : Bool) → t ≡ false → find p xs ≡ None → cond t (Some x) (find p xs) ≡ None
    by true e rest = not_both refl e
    by false e rest = rest

any_answers : (ask : Ask) (ms : List Member) → list_any (answers ask) ms ≡ is_among (map way_of ms) ask
any_answers ask [] = refl
any_answers ask (m ∷ ms) = ap (λ t. t || list_any (answers ask) ms) (answers_way ask m)
    ∙ ap (λ t. same_key (key_of ask) (key_of (way_of m)) || t) (any_answers ask ms)

no_answer : (class : ClassTree) (ask : Ask) → is_among (map way_of (class_members class)) ask ≡ false → first_answer class ask ≡ None
no_answer class ask f = find_none (answers ask) (class_members class) (any_answers ask (class_members class) ∙ f)

abbrev pub own_at : Option ClassTree → Ask → Option Member
own_at o ask = option_and_then (λ class. own class ask) o

-- a class of whose members none is asked for so has no answer
pub own_type : (o : Option ClassTree) (name : Name) → is_among (ways_in o) (AsType name) ≡ false → own_at o (AsType name) ≡ None
own_type None name f = refl
own_type (Some class) name f = no_answer class (AsType name) f

pub own_name : (o : Option ClassTree) (name : Name) → is_among (ways_in o) (ByName name) ≡ false → own_at o (ByName name) ≡ None
own_name None name f = refl
own_name (Some class) name f = no_answer class (ByName name) f

-- with so many arguments it is asked for the name alone
pub own_called : (o : Option ClassTree) (name : Name) (n : ℕ) → is_among (ways_in o) (Called name n) ≡ false
    → own_at o (Called name n) ≡ own_at o (ByName name)
own_called None name n f = refl
own_called (Some class) name n f = ap (λ first. or_else first (first_answer class (ByName name))) (no_answer class (Called name n) f)

pub none_more : (xs ys : List Ask) → ys ≡ [] → xs ≡ xs ++ ys
none_more xs ys none = sym (append-nil xs) ∙ ap (λ zs. xs ++ zs) (sym none)

-- what is found at an index
pub item_at : {A : Type 0} (xs : List A) (i : ℕ) (r : Option (Bor A)) → IsItemAt xs i r → slice_get xs i ≡ option_copied r
item_at xs i None h = slice_get_past xs i h.3
item_at xs i (Some x) h = slice_get_read xs (length xs) i x.now refl h.3.0 h.1
