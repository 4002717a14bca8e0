-- How many nodes the set of all subsets has.
use Rattle.std.proofs.Common.{◌≡◌, ◌⊎◌, ℕ, zero, suc, ◌+◌, ◌*◌, ◌^◌, ◌<◌, ◌≤◌, List, [], ◌∷◌, ◌++◌, map, length, get_or, take, min, add-one, refl, ap, sym, ◌∙◌, subst, inl, inr, arith}
use Rattle.std.specs.declared.cmp.Ordering.{Ordering}
use Rattle.std.specs.declared.cmp.Ordering.TheVariants.{Less, Equal, Greater}
use Rattle.std.specs.Ordering.{match_ordering}
use Rattle.std.specs.List.{All}
use Rattle.std.specs.List.Sorted.{IsStrictlySortedBy}
use Rattle.std.proofs.lemmas.List.Elements.{Contains-get_or}
use Rattle.std.proofs.lemmas.Grind.{pow_more}
use Rattle.std.proofs.Math.Nat.{pow-le-pow_right, mul-le-mul, mul-add, add-mul, le_refl}
use Rattle.abstract_syntax.specs.Values.{nil, boolean, number, character, quote, token, tuple, record_of, sequence, map_of, object}
use Rattle.abstract_syntax.specs.Values.{ValueTree, nodes_of, nodes_of_values, value_trees, set_of, value_list-value_trees}
use Rattle.abstract_syntax.specs.ValueOrder.{value_order}
use Rattle.abstract_syntax.specs.ValueOrderTotal.{value_order_total, same_from_order}
use Rattle.abstract_syntax.specs.Rising.{insert_rising, rising}
use Rattle.abstract_syntax.specs.ValueSets.{set_value}
use Rattle.abstract_syntax.proofs.RisingLaws.{In, in_from_contains, all_at, all_from, not_below_itself}
use Rattle.value_operators.specs.Sets.{sublists, power_set, members_of}
use Rattle.value_operators.proofs.Lists.{from_append, set_rising}

-- ---- sums over lists

module _ {X : Type 0} (f : X → ℕ) where
  abbrev pub total : List X → ℕ
  total [] = 0
  total (x ∷ xs) = f x + total xs

  pub total_joined : (xs ys : List X) → total (xs ++ ys) ≡ total xs + total ys
  total_joined [] ys = omega arith
  total_joined (x ∷ xs) ys = omega (arith, total_joined xs ys)

-- ---- lists without repeats, which insertion keeps whole

abbrev pub IsApart : {X : Type 0} → List X → Type 0
IsApart [] = Unit {0}
IsApart (x ∷ xs) = (In xs x → ⊥) × IsApart xs

module _ {X : Type 0} {cmp : X → X → Ordering} (same : (x y : X) → cmp x y ≡ Equal → x ≡ y) (f : X → ℕ) where
  inserted : (x : X) (ys : List X) → (In ys x → ⊥) → total f (insert_rising cmp x ys) ≡ f x + total f ys
  inserted x [] h = refl
  inserted x (y ∷ ys) h = by (cmp x y) refl (inserted x ys (λ i. h (inr i)))
    where
      by : (r : Ordering) → cmp x y ≡ r → total f (insert_rising cmp x ys) ≡ f x + total f ys
          → total f (match_ordering r (x ∷ y ∷ ys) (y ∷ ys) (y ∷ insert_rising cmp x ys)) ≡ f x + (f y + total f ys)
      by Less e i = refl
      by Equal e i = absurd (h (inl (sym (same x y e))))
      by Greater e i = omega (arith, i)

  from_insert : (x : X) (ys : List X) (z : X) → In (insert_rising cmp x ys) z → (x ≡ z) ⊎ In ys z
  from_insert x [] z i = i
  from_insert x (y ∷ ys) z i = by (cmp x y) (from_insert x ys z) i
    where
      by : (r : Ordering) → (In (insert_rising cmp x ys) z → (x ≡ z) ⊎ In ys z)
          → In (match_ordering r (x ∷ y ∷ ys) (y ∷ ys) (y ∷ insert_rising cmp x ys)) z → (x ≡ z) ⊎ In (y ∷ ys) z
      by Less g i = i
      by Equal g i = inr i
      by Greater g (inl e) = inr (inl e)
      by Greater g (inr i) = elim (g i) [ inl e ↦ inl e | inr j ↦ inr (inr j) ]

  from_rising : (xs : List X) (z : X) → In (rising cmp xs) z → In xs z
  from_rising [] z i = i
  from_rising (x ∷ xs) z i = elim (from_insert x (rising cmp xs) z i) [ inl e ↦ inl e | inr j ↦ inr (from_rising xs z j) ]

  pub total_rising : (xs : List X) → IsApart xs → total f (rising cmp xs) ≡ total f xs
  total_rising [] a = refl
  total_rising (x ∷ xs) a = inserted x (rising cmp xs) (λ i. a.0 (from_rising xs x i)) ∙ ap (λ n. f x + n) (total_rising xs a.1)

-- ---- the sublists of a list without repeats are apart

from_map : {X Y : Type 0} (g : X → Y) (xs : List X) (y : Y) → In (map g xs) y → (x : X) × In xs x × (g x ≡ y)
from_map g [] y i = absurd i
from_map g (x ∷ xs) y (inl e) = (x, inl refl, e)
from_map g (x ∷ xs) y (inr i) = let h = from_map g xs y i in (h.0, inr h.1, h.2)

apart_map : {X Y : Type 0} (g : X → Y) (xs : List X) → ((x z : X) → In xs x → In xs z → g x ≡ g z → x ≡ z) → IsApart xs → IsApart (map g xs)
apart_map g [] h a = tt
apart_map g (x ∷ xs) h a = (
  λ i. let found = from_map g xs (g x) i in a.0 (subst (In xs) (h found.0 x (inr found.1) (inl refl) found.2) found.1),
  apart_map g xs (λ u w i j e. h u w (inr i) (inr j) e) a.1,
)

apart_joined : {X : Type 0} (xs ys : List X) → IsApart xs → IsApart ys → ((x : X) → In xs x → In ys x → ⊥) → IsApart (xs ++ ys)
apart_joined [] ys a b h = b
apart_joined (x ∷ xs) ys a b h = (
  λ i. elim (from_append xs ys x i) [ inl j ↦ a.0 j | inr j ↦ h x (inl refl) j ],
  apart_joined xs ys a.1 b (λ z i j. h z (inr i) j),
)

-- ---- what a sublist has, the list has

in_longer : (u : ValueTree) (us : List ValueTree) → ((xs : List ValueTree) → In (sublists us) xs → (v : ValueTree) → In xs v → In us v)
    → (ws : List ValueTree) (v : ValueTree) → (xs : List ValueTree) × In (sublists us) xs × (u ∷ xs ≡ ws) → In ws v → In (u ∷ us) v
in_longer u us rec ws v h j = put (subst (λ zs. In zs v) (sym h.2) j)
  where
    put : In (u ∷ h.0) v → In (u ∷ us) v
    put (inl e) = inl e
    put (inr m) = inr (rec h.0 h.1 v m)

sublist_in : (vs ws : List ValueTree) → In (sublists vs) ws → (v : ValueTree) → In ws v → In vs v
sublist_in [] ws (inl e) v i = subst (λ us. In us v) (sym e) i
sublist_in [] ws (inr i) v j = absurd i
sublist_in (u ∷ us) ws i v j =
    elim (from_append (map (λ xs. u ∷ xs) (sublists us)) (sublists us) ws i) [ inl k ↦ in_longer u us (sublist_in us) ws v (from_map (λ xs. u ∷ xs) (sublists us) ws k) j | inr k ↦ inr (sublist_in us ws k v j) ]

rises_longer : (u : ValueTree) (us : List ValueTree) → IsStrictlySortedBy value_order (u ∷ us) → ((xs : List ValueTree) → In (sublists us) xs → IsStrictlySortedBy value_order xs)
    → (ws : List ValueTree) → (xs : List ValueTree) × In (sublists us) xs × (u ∷ xs ≡ ws) → IsStrictlySortedBy value_order ws
unfolding IsStrictlySortedBy
rises_longer u us s rec ws h =
    subst (IsStrictlySortedBy value_order) h.2
    (all_from (λ z. value_order u z ≡ Less) h.0 (λ z i. all_at (λ y. value_order u y ≡ Less) us z s.0 (sublist_in us h.0 h.1 z i)), rec h.0 h.1)

pub sublist_rises : (vs : List ValueTree) → IsStrictlySortedBy value_order vs → (ws : List ValueTree) → In (sublists vs) ws → IsStrictlySortedBy value_order ws
unfolding IsStrictlySortedBy
sublist_rises [] s ws (inl e) = subst (IsStrictlySortedBy value_order) e tt
sublist_rises [] s ws (inr i) = absurd i
sublist_rises (u ∷ us) s ws i =
    elim (from_append (map (λ xs. u ∷ xs) (sublists us)) (sublists us) ws i) [ inl k ↦ rises_longer u us s (sublist_rises us s.1) ws (from_map (λ xs. u ∷ xs) (sublists us) ws k) | inr k ↦ sublist_rises us s.1 ws k ]

abbrev rest : List ValueTree → List ValueTree
rest [] = []
rest (v ∷ vs) = vs

not_with : (u : ValueTree) (us : List ValueTree) → IsStrictlySortedBy value_order (u ∷ us) → (ws : List ValueTree)
    → (xs : List ValueTree) × In (sublists us) xs × (u ∷ xs ≡ ws) → In (sublists us) ws → ⊥
unfolding IsStrictlySortedBy
not_with u us s ws h j =
    not_below_itself value_order_total same_from_order u u refl
    (all_at (λ y. value_order u y ≡ Less) us u s.0 (sublist_in us ws j u (subst (λ zs. In zs u) h.2 (inl refl))))

apart_sublists : (vs : List ValueTree) → IsStrictlySortedBy value_order vs → IsApart (sublists vs)
unfolding IsStrictlySortedBy
apart_sublists [] s = (λ i. i, tt)
apart_sublists (u ∷ us) s =
    apart_joined (map (λ xs. u ∷ xs) (sublists us)) (sublists us)
    (apart_map (λ xs. u ∷ xs) (sublists us) (λ x z i j e. ap rest e) (apart_sublists us s.1))
    (apart_sublists us s.1)
    (λ ws i j. not_with u us s ws (from_map (λ xs. u ∷ xs) (sublists us) ws i) j)

same_set : (vs : List ValueTree) → IsStrictlySortedBy value_order vs → (x z : List ValueTree) → In (sublists vs) x → In (sublists vs) z → set_value x ≡ set_value z → x ≡ z
same_set vs s x z i j e =
    sym (value_list-value_trees x)
    ∙ ap members_of (sym (set_rising x (sublist_rises vs s x i)) ∙ e ∙ set_rising z (sublist_rises vs s z j))
    ∙ value_list-value_trees z

apart_subsets : (vs : List ValueTree) → IsStrictlySortedBy value_order vs → IsApart (map set_value (sublists vs))
apart_subsets vs s = apart_map set_value (sublists vs) (same_set vs s) (apart_sublists vs s)

-- ---- how many nodes they have

abbrev weight : List ValueTree → ℕ
weight ws = 1 + nodes_of_values (value_trees ws)

nodes_total : (vs : List ValueTree) → nodes_of_values (value_trees vs) ≡ total nodes_of vs
nodes_total [] = refl
nodes_total (v ∷ vs) = omega (arith, nodes_total vs)

total_mapped : {X Y : Type 0} (g : X → Y) (f : Y → ℕ) (h : X → ℕ) (xs : List X) → ((x : X) → In xs x → f (g x) ≡ h x) → total f (map g xs) ≡ total h xs
total_mapped g f h [] e = refl
total_mapped g f h (x ∷ xs) e = omega (arith, e x (inl refl), total_mapped g f h xs (λ y i. e y (inr i)))

weight_longer : (u : ValueTree) (ls : List (List ValueTree)) → total weight (map (λ xs. u ∷ xs) ls) ≡ total weight ls + total (λ ws. nodes_of u) ls
weight_longer u [] = refl
weight_longer u (l ∷ ls) = omega (arith, weight_longer u ls)

constant_longer : (n : ℕ) (u : ValueTree) (ls : List (List ValueTree)) → total (λ ws. n) (map (λ xs. u ∷ xs) ls) ≡ total (λ ws. n) ls
constant_longer n u [] = refl
constant_longer n u (l ∷ ls) = omega (arith, constant_longer n u ls)

-- 2^(n+1) of anything is twice 2^n of it
twice : (k x : ℕ) → 2 ^ suc k * x ≡ 2 ^ k * x + 2 ^ k * x
twice k x =
    let next : suc k ≡ k + 1 = omega arith in
    let double : 2 ^ k * 2 ≡ 2 ^ k + 2 ^ k = omega arith in
    ap (λ j. 2 ^ j * x) next ∙ ap (λ y. y * x) (pow_more 2 k ∙ double) ∙ add-mul (2 ^ k) (2 ^ k) x

constant_total : (n : ℕ) (vs : List ValueTree) → total (λ ws. n) (sublists vs) ≡ 2 ^ length vs * n
constant_total n [] = omega arith
constant_total n (u ∷ us) =
    total_joined (λ ws. n) (map (λ xs. u ∷ xs) (sublists us)) (sublists us)
    ∙ (λ i. constant_longer n u (sublists us) i + total (λ ws. n) (sublists us))
    ∙ (λ i. constant_total n us i + constant_total n us i)
    ∙ sym (twice (length us) n)

weight_total : (vs : List ValueTree) → 2 * total weight (sublists vs) ≡ 2 ^ length vs * (nodes_of_values (value_trees vs) + 2)
weight_total [] = refl
weight_total (u ∷ us) =
    let whole : total weight (sublists (u ∷ us)) ≡ total weight (map (λ xs. u ∷ xs) (sublists us)) + total weight (sublists us) =
    total_joined weight (map (λ xs. u ∷ xs) (sublists us)) (sublists us) in
    let longer : total weight (map (λ xs. u ∷ xs) (sublists us)) ≡ total weight (sublists us) + total (λ ws. nodes_of u) (sublists us) = weight_longer u (sublists us) in
    let each : total (λ ws. nodes_of u) (sublists us) ≡ 2 ^ length us * nodes_of u = constant_total (nodes_of u) us in
    let before : 2 * total weight (sublists us) ≡ 2 ^ length us * (nodes_of_values (value_trees us) + 2) = weight_total us in
    let regroup : nodes_of u + nodes_of_values (value_trees us) + 2 ≡ nodes_of u + (nodes_of_values (value_trees us) + 2) = omega arith in
    let split : 2 ^ length us * (nodes_of u + nodes_of_values (value_trees us) + 2) ≡ 2 ^ length us * nodes_of u + 2 ^ length us * (nodes_of_values (value_trees us) + 2) =
    ap (λ x. 2 ^ length us * x) regroup ∙ mul-add (2 ^ length us) (nodes_of u) (nodes_of_values (value_trees us) + 2) in
    omega (arith, whole, longer, each, before, split, twice (length us) (nodes_of u + nodes_of_values (value_trees us) + 2))

pub power_nodes : (vs : List ValueTree) → IsStrictlySortedBy value_order vs → 2 * nodes_of (power_set vs) ≡ 2 + 2 ^ length vs * (nodes_of_values (value_trees vs) + 2)
power_nodes vs s =
    let listed : nodes_of_values (value_trees (rising value_order (map set_value (sublists vs)))) ≡ total nodes_of (rising value_order (map set_value (sublists vs))) = nodes_total _ in
    let kept : total nodes_of (rising value_order (map set_value (sublists vs))) ≡ total nodes_of (map set_value (sublists vs)) = total_rising same_from_order nodes_of (map set_value (sublists vs)) (apart_subsets vs s) in
    let each : total nodes_of (map set_value (sublists vs)) ≡ total weight (sublists vs) =
    total_mapped set_value nodes_of weight (sublists vs) (λ ws i. ap nodes_of (set_rising ws (sublist_rises vs s ws i))) in
    omega (arith, listed, kept, each, weight_total vs)

-- ---- what is too large

some_node : (w : ValueTree) → 1 ≤ nodes_of w
some_node nil = omega arith
some_node (boolean b) = omega arith
some_node (number z) = omega arith
some_node (character c) = omega arith
some_node (quote q) = omega arith
some_node (token v) = omega arith
some_node (tuple vs) = omega arith
some_node (record_of c m vs) = omega arith
some_node (sequence vs) = omega arith
some_node (set_of vs) = omega arith
some_node (map_of ps) = omega arith
some_node (object n c) = omega arith

short_nodes : (vs : List ValueTree) → length vs ≤ nodes_of_values (value_trees vs)
short_nodes [] = omega arith
short_nodes (v ∷ vs) = omega (arith, short_nodes vs, some_node v)

pub many_members : (vs : List ValueTree) → IsStrictlySortedBy value_order vs → 14 < length vs → 200000 < nodes_of (power_set vs)
many_members vs s h =
    let power : 2 ^ 15 ≤ 2 ^ length vs = pow-le-pow_right {n = 2} (omega arith) h in
    let members : 17 ≤ nodes_of_values (value_trees vs) + 2 = omega (arith, short_nodes vs, h) in
    let large : 2 ^ 15 * 17 ≤ 2 ^ length vs * (nodes_of_values (value_trees vs) + 2) = mul-le-mul power members in
    omega (arith, large, power_nodes vs s)

below_product : (power n doubled : ℕ) → doubled ≡ min (power * min (n + 1) 18446744073709551615) 18446744073709551615 → doubled ≤ power * (n + 1)
below_product power n doubled e =
    let less : min (n + 1) 18446744073709551615 ≤ n + 1 = omega arith in
    let product : power * min (n + 1) 18446744073709551615 ≤ power * (n + 1) = mul-le-mul (le_refl power) less in
    omega (arith, e, product)

pub many_nodes : (vs : List ValueTree) (nodes doubled : ℕ) → IsStrictlySortedBy value_order vs → nodes ≡ min (1 + nodes_of_values (value_trees vs)) 18446744073709551615
    → doubled ≡ min (2 ^ length vs * min (nodes + 1) 18446744073709551615) 18446744073709551615 → 399998 < doubled → 200000 < nodes_of (power_set vs)
many_nodes vs nodes doubled s e d l =
    let more : nodes + 1 ≤ nodes_of_values (value_trees vs) + 2 = omega (arith, e) in
    let up : 2 ^ length vs * (nodes + 1) ≤ 2 ^ length vs * (nodes_of_values (value_trees vs) + 2) = mul-le-mul (le_refl (2 ^ length vs)) more in
    omega (arith, up, l, below_product (2 ^ length vs) nodes doubled d, power_nodes vs s)

-- ---- lists that rise, one after another

mapped_next : {Y Z : Type 0} (f : Y → Z) (ys : List Y) (i : ℕ) (y : Y) → i < length ys → map f (take (suc i) ys) ≡ map f (take i ys) ++ f (get_or ys i y) ∷ []
mapped_next f [] i y h = absurd (omega arith)
mapped_next f (z ∷ zs) zero y h = refl
mapped_next f (z ∷ zs) (suc i) y h = ap (λ us. f z ∷ us) (mapped_next f zs i y (omega arith))

pub mapped_more : {Y Z : Type 0} (f : Y → Z) (ys : List Y) (i : ℕ) (y : Y) → i < length ys → y ≡ get_or ys i y → map f (take (i + 1) ys) ≡ map f (take i ys) ++ f y ∷ []
mapped_more f ys i y h e = ap (λ j. map f (take j ys)) (add-one i) ∙ mapped_next f ys i y h ∙ ap (λ z. map f (take i ys) ++ f z ∷ []) (sym e)

pub sublists_rise : (vs : List ValueTree) → IsStrictlySortedBy value_order vs → (lists : List (List ValueTree)) → lists ≡ sublists vs → All (IsStrictlySortedBy value_order) lists
sublists_rise vs s lists e =
    subst (All (IsStrictlySortedBy value_order)) (sym e)
    (λ k d h. sublist_rises vs s (get_or (sublists vs) k d) (in_from_contains (sublists vs) (get_or (sublists vs) k d) (Contains-get_or (sublists vs) k d h)))
