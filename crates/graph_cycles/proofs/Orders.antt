-- Nodes that are placed once all that they lead to are placed.
use Rattle.std.proofs.Common.{◌≡◌, ℕ, zero, suc, ◌+◌, ◌<◌, ◌≤◌, Bool, true, false, cond, ◌||◌, ◌&&◌, ◌⊎◌, inl, inr, ⊎_elim, List, [], ◌∷◌, ◌++◌, length, get_or, take, nat_eq, nat_lt, eqb-true, refl, sym, ap, subst, ◌∙◌, arith, lt-ltb, ltb-true}
use Rattle.std.specs.List.{list_all, fold, AllByRecursion, IsDistinct, range_with_len, count_by}
use Rattle.std.proofs.lemmas.Bool.{cases_Bool}
use Rattle.std.proofs.lemmas.List.{take-append-le, get_or_append_left, get_or-take}
use Rattle.std.proofs.lemmas.List.Sums.{sum_by-cons}
use Rattle.std.proofs.Math.Seq.{take-append_seam, get_or-append_seam}
use Rattle.std.proofs.lemmas.Map.Keys.{IsDistinct-head, IsDistinct-tail}
use Rattle.std.proofs.lemmas.Map.Steps.{length-le_from_distinct_below, le-length_from_below}
use Rattle.graph_cycles.specs.Graphs.{Graph, successors, InRange, is_in, settles, leads_to_no_cycle, StandBehind, IsOrder}
use Rattle.graph_cycles.specs.Growing.{is_ready, with_ready, with_all_ready}
use Rattle.graph_cycles.proofs.Members.{not_both, or_left, or_right, or_cases, and_both, and_left, and_right, same_test, itself, all_from, each_of, some_not, not_all, place_of}
use Rattle.graph_cycles.proofs.Paths.{successor_in_range}

pub at_or_before : (k n : ℕ) → k < suc n → (k < n) ⊎ (k ≡ n)
at_or_before zero zero l = inr refl
at_or_before zero (suc n) l = inl (omega arith)
at_or_before (suc k) zero l = absurd (omega arith)
at_or_before (suc k) (suc n) l = ⊎_elim (λ (m : k < n). inl (omega arith)) (λ (e : k ≡ n). inr (ap suc e)) (at_or_before k n (omega arith))

pub nothing_behind : (g : Graph) → StandBehind g []
nothing_behind g k d l = absurd (omega arith)

-- ---- one node more

pub length-push : (nodes : List ℕ) (a : ℕ) → length (nodes ++ a ∷ []) ≡ suc (length nodes)
length-push [] a = refl
length-push (x ∷ nodes) a = ap suc (length-push nodes a)

behind-push : (g : Graph) (nodes : List ℕ) (a : ℕ) → StandBehind g nodes → is_ready g nodes a ≡ true → StandBehind g (nodes ++ a ∷ [])
behind-push g nodes a b ready k d l = ⊎_elim
    (λ (m : k < length nodes).
    subst (λ (xs : List ℕ). list_all (is_in xs) (successors g (get_or (nodes ++ a ∷ []) k d)) ≡ true) (sym (take-append-le k nodes (a ∷ []) (omega arith)))
    (subst (λ (x : ℕ). list_all (is_in (take k nodes)) (successors g x) ≡ true) (sym (get_or_append_left nodes (a ∷ []) d k m)) (b k d m)))
    (λ (e : k ≡ length nodes).
    subst (λ (j : ℕ). list_all (is_in (take j (nodes ++ a ∷ []))) (successors g (get_or (nodes ++ a ∷ []) j d)) ≡ true) (sym e)
    (subst (λ (xs : List ℕ). list_all (is_in xs) (successors g (get_or (nodes ++ a ∷ []) (length nodes) d)) ≡ true) (sym (take-append_seam nodes (a ∷ [])))
    (subst (λ (x : ℕ). list_all (is_in nodes) (successors g x) ≡ true) (sym (get_or-append_seam nodes a [] d)) ready)))
    (at_or_before k (length nodes) (omega (arith, length-push nodes a)))

-- what `with_ready` gives: the nodes as they were, where the node isn't ready or stands there; else one more
pub record Kept (g : Graph) (nodes : List ℕ) (a : ℕ) (more : List ℕ) : Type 0 where
  pub same : more ≡ nodes
  pub why : is_in nodes a ≡ false → is_ready g nodes a ≡ false

pub record Placed (g : Graph) (nodes : List ℕ) (a : ℕ) (more : List ℕ) : Type 0 where
  pub last : more ≡ nodes ++ a ∷ []
  pub ready : is_ready g nodes a ≡ true

ready_cases : (g : Graph) (nodes : List ℕ) (a : ℕ) → Kept g nodes a (with_ready g nodes a) ⊎ Placed g nodes a (with_ready g nodes a)
ready_cases g nodes a = by (is_ready g nodes a) (is_in nodes a) refl refl
  where
    by : (r i : Bool) → is_ready g nodes a ≡ r → is_in nodes a ≡ i
        → Kept g nodes a (cond r (cond i nodes (nodes ++ a ∷ [])) nodes) ⊎ Placed g nodes a (cond r (cond i nodes (nodes ++ a ∷ [])) nodes)
    by false i r is = inl (record { same = refl; why = λ _. r })
    by true true r is = inl (record { same = refl; why = λ f. not_both is f })
    by true false r is = inr (record { last = refl; ready = r })

pub behind-with_ready : (g : Graph) (nodes : List ℕ) (a : ℕ) → StandBehind g nodes → StandBehind g (with_ready g nodes a)
behind-with_ready g nodes a b = ⊎_elim
    (λ (k : Kept g nodes a (with_ready g nodes a)). subst (StandBehind g) (sym k.same) b)
    (λ (p : Placed g nodes a (with_ready g nodes a)). subst (StandBehind g) (sym p.last) (behind-push g nodes a b p.ready))
    (ready_cases g nodes a)

length-with_ready : (g : Graph) (nodes : List ℕ) (a : ℕ) → length nodes ≤ length (with_ready g nodes a)
length-with_ready g nodes a = ⊎_elim
    (λ (k : Kept g nodes a (with_ready g nodes a)). omega (arith, ap length k.same))
    (λ (p : Placed g nodes a (with_ready g nodes a)). omega (arith, ap length p.last, length-push nodes a))
    (ready_cases g nodes a)

-- ---- all nodes in turn

behind-fold : (g : Graph) (nodes later : List ℕ) → StandBehind g nodes → StandBehind g (fold (with_ready g) nodes later)
behind-fold g nodes [] b = b
behind-fold g nodes (a ∷ later) b = behind-fold g (with_ready g nodes a) later (behind-with_ready g nodes a b)

length-fold : (g : Graph) (nodes later : List ℕ) → length nodes ≤ length (fold (with_ready g) nodes later)
length-fold g nodes [] = omega arith
length-fold g nodes (a ∷ later) = omega (arith, length-with_ready g nodes a, length-fold g (with_ready g nodes a) later)

-- where no node more was placed, the nodes are as before, and no other was ready
record Stays (g : Graph) (nodes later more : List ℕ) : Type 0 where
  same : more ≡ nodes
  stuck : (a : ℕ) → is_in later a ≡ true → is_in nodes a ≡ false → is_ready g nodes a ≡ false

stays : (g : Graph) (nodes later : List ℕ) → length (fold (with_ready g) nodes later) ≡ length nodes → Stays g nodes later (fold (with_ready g) nodes later)
stays g nodes [] e = record { same = refl; stuck = λ a is. not_both is refl }
stays g nodes (a ∷ later) e = ⊎_elim
    (λ (k : Kept g nodes a (with_ready g nodes a)).
    let rest : Stays g nodes later (fold (with_ready g) nodes later) = stays g nodes later (ap (λ (ns : List ℕ). length (fold (with_ready g) ns later)) (sym k.same) ∙ e) in
    record {
      same = ap (λ (ns : List ℕ). fold (with_ready g) ns later) k.same ∙ rest.same;
      stuck = λ b is new. ⊎_elim
          (λ (here : nat_eq b a ≡ true). let eq : a ≡ b = sym (eqb-true b a here) in
          subst (λ (x : ℕ). is_ready g nodes x ≡ false) eq (k.why (subst (λ (x : ℕ). is_in nodes x ≡ false) (sym eq) new)))
          (λ (t : is_in later b ≡ true). rest.stuck b t new)
          (or_cases (nat_eq b a) (is_in later b) is);
    })
    (λ (p : Placed g nodes a (with_ready g nodes a)).
    absurd (omega (arith, ap length p.last, length-push nodes a, length-fold g (with_ready g nodes a) later, e)))
    (ready_cases g nodes a)

is_in-range : (n a b : ℕ) → a ≤ b → b < a + n → is_in (range_with_len a n) b ≡ true
is_in-range zero a b l m = absurd (omega arith)
is_in-range (suc n) a b l m = ⊎_elim
    (λ t. or_left (nat_eq b a) (is_in (range_with_len (a + 1) n) b) t)
    (λ f. or_right (nat_eq b a) (is_in (range_with_len (a + 1) n) b) (is_in-range n (a + 1) b (further f) (omega arith)))
    (cases_Bool (nat_eq b a))
  where
    further : nat_eq b a ≡ false → a + 1 ≤ b
    further f = ⊎_elim (λ (less : a < b). omega arith) (λ (e : a ≡ b). not_both (subst (λ (x : ℕ). nat_eq b x ≡ true) (sym e) (itself b)) f) (at_or_before a b (omega arith))

pub behind-all : (g : Graph) (nodes : List ℕ) → StandBehind g nodes → StandBehind g (with_all_ready g nodes)
behind-all g nodes = behind-fold g nodes (range_with_len 0 (length g))

pub length-all : (g : Graph) (nodes : List ℕ) → length nodes ≤ length (with_all_ready g nodes)
length-all g nodes = length-fold g nodes (range_with_len 0 (length g))

-- ---- what settles

-- what stands behind all that it leads to settles
settles-at : (g : Graph) (nodes : List ℕ) → StandBehind g nodes → (m k d : ℕ) → k < length nodes → k < m → settles m g (get_or nodes k d) ≡ true
settles-at g nodes b zero k d l s = absurd (omega arith)
settles-at g nodes b (suc m) k d l s = all_from (settles m g) (successors g (get_or nodes k d)) (λ c is.
    let at = place_of (take k nodes) c (each_of (is_in (take k nodes)) (successors g (get_or nodes k d)) c (b k d l) is) in
    let before : at.0 < k = omega (arith, at.1, length-take-le k nodes) in
    let same : get_or nodes at.0 d ≡ c = sym (get_or-take k nodes at.0 d before) ∙ at.2 d in
    subst (λ (x : ℕ). settles m g x ≡ true) same (settles-at g nodes b m at.0 d (omega arith) (omega arith)))
  where
    length-take-le : (n : ℕ) (xs : List ℕ) → length (take n xs) ≤ n
    length-take-le zero xs = omega arith
    length-take-le (suc n) [] = omega arith
    length-take-le (suc n) (x ∷ xs) = omega (arith, length-take-le n xs)

-- what never is ready doesn't settle
never_settles : (g : Graph) (nodes : List ℕ) → InRange g → ((a : ℕ) → a < length g → is_in nodes a ≡ false → is_ready g nodes a ≡ false)
    → (n a : ℕ) → a < length g → is_in nodes a ≡ false → settles n g a ≡ false
never_settles g nodes in_range stuck zero a l new = refl
never_settles g nodes in_range stuck (suc n) a l new =
    let r = some_not (is_in nodes) (successors g a) (stuck a l new) in
    not_all (settles n g) (successors g a) r.0 r.1 (never_settles g nodes in_range stuck n r.0 (successor_in_range g a r.0 in_range r.1) r.2)

settles-here : (g : Graph) (nodes : List ℕ) → StandBehind g nodes → length nodes ≤ length g → (a : ℕ) → is_in nodes a ≡ true → leads_to_no_cycle g a ≡ true
settles-here g nodes b few a is =
    let at = place_of nodes a is in
    subst (λ (x : ℕ). leads_to_no_cycle g x ≡ true) (at.2 0) (settles-at g nodes b (length g) at.0 0 at.1 (omega (arith, at.1)))

-- nodes that stand behind all that they lead to, where no further one does, are an order
pub is_order : (g : Graph) (nodes more : List ℕ) → InRange g → IsDistinct nat_eq nodes → ((a : ℕ) → is_in nodes a ≡ true → a < length g)
    → StandBehind g nodes → more ≡ with_all_ready g nodes → length more ≡ length nodes → IsOrder g more
is_order g nodes more in_range apart below behind is e =
    let r = stays g nodes (range_with_len 0 (length g)) (sym (ap length is) ∙ e) in
    let few : length nodes ≤ length g = length-le_from_distinct_below nodes (length g) apart below in
    subst (IsOrder g) (sym (is ∙ r.same)) (record {
      has = λ a. same_test (is_in nodes a) (nat_lt a (length g) && leads_to_no_cycle g a)
          (λ t. and_both (nat_lt a (length g)) (leads_to_no_cycle g a) (lt-ltb a (length g) (below a t)) (settles-here g nodes behind few a t))
          (λ t. ⊎_elim (λ h. h)
          (λ new. not_both (and_right (nat_lt a (length g)) (leads_to_no_cycle g a) t)
          (never_settles g nodes in_range (λ b l. r.stuck b (is_in-range (length g) 0 b (omega arith) (omega arith))) (length g) a
          (ltb-true a (length g) (and_left (nat_lt a (length g)) (leads_to_no_cycle g a) t)) new))
          (cases_Bool (is_in nodes a)));
      apart = apart;
      behind = behind;
    })

-- ---- laws of orders

zero_more : (n : ℕ) → 0 + n ≡ n
zero_more n = omega arith

absent : (xs : List ℕ) (x : ℕ) → AllByRecursion (λ y. nat_eq x y ≡ false) xs → is_in xs x ≡ false
absent [] x all = refl
absent (y ∷ xs) x all = ap (λ (b : Bool). b || is_in xs x) all.0 ∙ absent xs x all.1

count_distinct : (xs : List ℕ) (a : ℕ) → IsDistinct nat_eq xs → count_by (nat_eq a) xs ≡ cond (is_in xs a) 1 0
count_distinct [] a apart = refl
count_distinct (x ∷ xs) a apart =
    let cons : count_by (nat_eq a) (x ∷ xs) ≡ cond (nat_eq a x) 1 0 + count_by (nat_eq a) xs = sum_by-cons (λ (y : ℕ). cond (nat_eq a y) 1 0) x xs in
    let later : count_by (nat_eq a) xs ≡ cond (is_in xs a) 1 0 = count_distinct xs a (IsDistinct-tail nat_eq x xs apart) in
    ⊎_elim
    (λ (t : nat_eq a x ≡ true).
    let none : is_in xs a ≡ false = subst (λ (b : ℕ). is_in xs b ≡ false) (sym (eqb-true a x t)) (absent xs x (IsDistinct-head nat_eq x xs apart)) in
    let rest : count_by (nat_eq a) xs ≡ 0 = later ∙ ap (λ (b : Bool). cond b 1 0) none in
    cons ∙ ap (λ (b : Bool). cond b 1 0 + count_by (nat_eq a) xs) t ∙ ap (λ (n : ℕ). 1 + n) rest ∙ ap (λ (b : Bool). cond (b || is_in xs a) 1 0) (sym t))
    (λ (f : nat_eq a x ≡ false).
    cons ∙ ap (λ (b : Bool). cond b 1 0 + count_by (nat_eq a) xs) f ∙ zero_more (count_by (nat_eq a) xs) ∙ later ∙ ap (λ (b : Bool). cond (b || is_in xs a) 1 0) (sym f))
    (cases_Bool (nat_eq a x))

pub once : (g : Graph) (nodes : List ℕ) → IsOrder g nodes → (a : ℕ) → count_by (nat_eq a) nodes ≡ cond (nat_lt a (length g) && leads_to_no_cycle g a) 1 0
once g nodes o a = count_distinct nodes a o.apart ∙ ap (λ (b : Bool). cond b 1 0) (o.has a)

pub most : (g : Graph) (nodes : List ℕ) → IsOrder g nodes → length nodes ≤ length g
most g nodes o = length-le_from_distinct_below nodes (length g) o.apart
    (λ a is. ltb-true a (length g) (and_left (nat_lt a (length g)) (leads_to_no_cycle g a) (sym (o.has a) ∙ is)))

pub all : (g : Graph) (nodes : List ℕ) → IsOrder g nodes → ((a : ℕ) → a < length g → leads_to_no_cycle g a ≡ true) → length nodes ≡ length g
all g nodes o settle =
    let least : length g ≤ length nodes = le-length_from_below nodes (length g)
    (λ a l. o.has a ∙ and_both (nat_lt a (length g)) (leads_to_no_cycle g a) (lt-ltb a (length g) l) (settle a l)) in
    omega (arith, most g nodes o, least)
