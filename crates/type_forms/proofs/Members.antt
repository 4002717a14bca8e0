-- Which classes are given does not matter to whether forms meet, where all are.
use Rattle.std.proofs.Common.{◌≡◌, ◌↔◌, ℕ, zero, suc, ◌<◌, Bool, true, false, ◌||◌, ◌&&◌, List, [], ◌∷◌, length, get_or, Contains, IsTrue, refl, ap, sym, ◌∙◌, arith}
use Rattle.std.specs.List.{list_any}
use Rattle.vdm_kinds.specs.declared.name.Name.{Name}
use Rattle.form_meaning.specs.Forms.{FormTree, any_form, no_form, one_of, AltTree, object_alt, AltTrees, no_alts, one_alt}
use Rattle.form_meaning.specs.Meeting.{classes_meet, alternatives_meet, meets_one, some_meet, meets}

or_right : (a b : Bool) → b ≡ true → (a || b) ≡ true
or_right true b is = refl
or_right false b is = is

same_test : (a b : Bool) → (a ≡ true → b ≡ true) → (b ≡ true → a ≡ true) → a ≡ b
same_test true b to from = sym (to refl)
same_test false true to from = from refl
same_test false false to from = refl

module _ {A : Type 0} (p : A → Bool) where
  any_at : (xs : List A) (x : A) (k : ℕ) → k < length xs → get_or xs k x ≡ x → p x ≡ true → list_any p xs ≡ true
  any_at [] x k below is passes = absurd (omega arith)
  any_at (y ∷ ys) x zero below is passes = ap (λ (b : Bool). b || list_any p ys) (ap p is ∙ passes)
  any_at (y ∷ ys) x (suc k) below is passes = or_right (p y) (list_any p ys) (any_at ys x k (omega arith) is passes)

  any_in : (xs : List A) (x : A) → Contains xs x → p x ≡ true → list_any p xs ≡ true
  any_in xs x stands passes = any_at xs x stands.0 stands.1 stands.2 passes

  in_any : (xs : List A) → list_any p xs ≡ true → (x : A) × (Contains xs x × (p x ≡ true))
  in_any [] some = absurd (cc)
  in_any (y ∷ ys) some = by (p y) refl some (in_any ys)
    where
      by : (b : Bool) → p y ≡ b → (b || list_any p ys) ≡ true
          → (list_any p ys ≡ true → (x : A) × (Contains ys x × (p x ≡ true))) → (x : A) × (Contains (y ∷ ys) x × (p x ≡ true))
      by true passes e later = (y, ((0, omega arith, refl), passes))
      by false fails e later = let r = later e in (r.0, ((suc r.1.0.0, omega (arith, r.1.0.1), r.1.0.2), r.1.1))

  same_any : (xs ys : List A) → ((x : A) → Contains xs x → Contains ys x) → ((x : A) → Contains ys x → Contains xs x) → list_any p xs ≡ list_any p ys
  same_any xs ys to from = same_test (list_any p xs) (list_any p ys)
      (λ some. let r = in_any xs some in any_in ys r.0 (to r.0 r.1.0) r.1.1)
      (λ some. let r = in_any ys some in any_in xs r.0 (from r.0 r.1.0) r.1.1)

module _ (descends : Name → Name → Bool) (xs ys : List Name) (same : (a b : Name) → classes_meet descends xs a b ≡ classes_meet descends ys a b) where
  same_alternatives : (a b : AltTree) → alternatives_meet descends xs a b ≡ alternatives_meet descends ys a b
  same_alternatives (object_alt a) (object_alt b) = same a b
  same_alternatives a b = refl

  same_one : (a : AltTree) (others : AltTrees) → meets_one descends xs a others ≡ meets_one descends ys a others
  same_one a no_alts = refl
  same_one a (one_alt b others) = λ i. same_alternatives a b i || same_one a others i

  same_some : (alternatives others : AltTrees) → some_meet descends xs alternatives others ≡ some_meet descends ys alternatives others
  same_some no_alts others = refl
  same_some (one_alt a alternatives) others = λ i. same_one a others i || same_some alternatives others i

  same_meets : (form other : FormTree) → meets descends xs form other ≡ meets descends ys form other
  same_meets any_form other = refl
  same_meets no_form any_form = refl
  same_meets no_form _ = refl
  same_meets (one_of alternatives) any_form = refl
  same_meets (one_of alternatives) no_form = refl
  same_meets (one_of alternatives) (one_of others) = same_some alternatives others

-- both lists are all classes
pub meets_by_all : (descends : Name → Name → Bool) (xs ys : List Name) (form other : FormTree)
    → ((class : Name) → Contains xs class ↔ IsTrue (descends class class)) → ((class : Name) → Contains ys class ↔ IsTrue (descends class class))
    → meets descends xs form other ≡ meets descends ys form other
meets_by_all descends xs ys form other all others =
    same_meets descends xs ys
    (λ a b. same_any (λ (class : Name). descends class a && descends class b) xs ys
    (λ class c. (others class).1 ((all class).0 c)) (λ class c. (all class).1 ((others class).0 c)))
    form other
