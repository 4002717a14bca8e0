-- The order of values is a total order, and answers `Equal` of a value and itself alone.
-- Each value has a key: a tree of numbers, of which the first that differs decides.
use Rattle.std.specs.Prelude.{◌≡◌, ℕ, ℤ, ◌<◌, ◌<ℤ◌, Bool, true, false, refl, ◌↔◌}
use Rattle.std.proofs.Common.{ap, sym, ◌∙◌, subst, arith, true≢false}
use Rattle.std.specs.declared.cmp.Ordering.{Ordering}
use Rattle.std.specs.declared.cmp.Ordering.TheVariants.{Less, Equal, Greater}
use Rattle.std.specs.Ordering.{nat_cmp, int_cmp, bool_cmp, ordering_then, ordering_reverse, is_eq, MatchOrdering}
use Rattle.std.specs.Cmp.{IsTotalOrder, nat_cmp_total, int_cmp_total, ranks, int_ranks, then_flip, tied_itself}
use Rattle.std.specs.Bool.{Decides}
use Rattle.std.specs.Ordering.{eq_by_cmp}
use Rattle.std.specs.Cmp.{Equal-is}
use Rattle.std.proofs.lemmas.Bool.Decides.{same_from_decides}
use Rattle.abstract_syntax.specs.SameBy.{same_by, same_by-decides}
use Rattle.abstract_syntax.specs.ValueCode.{value_code}
use Rattle.vdm_kinds.specs.declared.name.Name.{Name}
use Rattle.abstract_syntax.specs.Values.{ValueTree, ValueTrees, PairTrees, nil, boolean, number, character, quote, token, tuple}
use Rattle.abstract_syntax.specs.Values.{record_of, sequence, set_of, map_of, object, no_values, one_value, no_pairs, one_pair}
use Rattle.abstract_syntax.specs.ValueOrder.{value_order, items_order, pair_items_order, count_of, count_of_pairs, name_order}

-- ---- two numbers

nat_level : (m n : ℕ) → nat_cmp m n ≡ Equal → m ≡ n
nat_level m n e = subst (λ r. MatchOrdering r (m < n) (m ≡ n) (n < m)) e (ranks m n)

int_level : (a b : ℤ) → int_cmp a b ≡ Equal → a ≡ b
int_level a b e = subst (λ r. MatchOrdering r (a <ℤ b) (a ≡ b) (b <ℤ a)) e (int_ranks a b)

bool_level : (a b : Bool) → bool_cmp a b ≡ Equal → a ≡ b
bool_level false false e = refl
bool_level false true e = cc
bool_level true false e = cc
bool_level true true e = refl

name_level : (a b : Name) → name_order a b ≡ Equal → a ≡ b
name_level a b e = λ i. record { 0 = nat_level a.0 b.0 e i }

-- ---- one answer, then another

first_level : (r s : Ordering) → ordering_then r s ≡ Equal → r ≡ Equal
first_level Less s e = e
first_level Equal s e = refl
first_level Greater s e = e

second_level : (r s : Ordering) → ordering_then r s ≡ Equal → s ≡ Equal
second_level Less s e = cc
second_level Equal s e = e
second_level Greater s e = cc

both_level : (r s : Ordering) → r ≡ Equal → s ≡ Equal → ordering_then r s ≡ Equal
both_level r s p q = ap (λ k. ordering_then k s) p ∙ q

-- the second answer counts only where the first is `Equal`
then_where_level : (r s t : Ordering) → (r ≡ Equal → s ≡ t) → ordering_then r s ≡ ordering_then r t
then_where_level Less s t f = refl
then_where_level Equal s t f = f refl
then_where_level Greater s t f = refl

-- `Less` of two steps is `Less` of both in one
chained : (r s t p q u : Ordering) → (r ≡ Less → s ≡ Less → t ≡ Less) → (r ≡ Equal → t ≡ s) → (s ≡ Equal → t ≡ r)
    → (p ≡ Less → q ≡ Less → u ≡ Less) → ordering_then r p ≡ Less → ordering_then s q ≡ Less → ordering_then t u ≡ Less
chained Less Less t p q u f g h k d e = ap (λ o. ordering_then o u) (f refl refl)
chained Less Equal t p q u f g h k d e = ap (λ o. ordering_then o u) (h refl)
chained Less Greater t p q u f g h k d e = cc
chained Equal Less t p q u f g h k d e = ap (λ o. ordering_then o u) (g refl)
chained Equal Equal t p q u f g h k d e = ap (λ o. ordering_then o u) (g refl) ∙ k d e
chained Equal Greater t p q u f g h k d e = cc
chained Greater s t p q u f g h k d e = cc

-- ---- keys

data Key : Type 0 where
  count : ℕ → Key
  whole : ℤ → Key
  pair : Key → Key → Key

abbrev shape : Key → ℕ
shape (count n) = 0
shape (whole z) = 1
shape (pair a b) = 2

abbrev key_order : Key → Key → Ordering
key_order (count m) (count n) = nat_cmp m n
key_order (whole a) (whole b) = int_cmp a b
key_order (pair a b) (pair c d) = ordering_then (key_order a c) (key_order b d)
key_order a b = nat_cmp (shape a) (shape b)

key_itself : (a : Key) → key_order a a ≡ Equal
key_itself (count n) = tied_itself nat_cmp_total n
key_itself (whole z) = tied_itself int_cmp_total z
key_itself (pair a b) = both_level _ _ (key_itself a) (key_itself b)

key_level : (a b : Key) → key_order a b ≡ Equal → a ≡ b
key_level (count m) (count n) e = ap count (nat_level m n e)
key_level (whole a) (whole b) e = ap whole (int_level a b e)
key_level (pair a b) (pair c d) e = λ i. pair (key_level a c (first_level _ _ e) i) (key_level b d (second_level (key_order a c) _ e) i)
key_level a b e = cc

key_turns : (a b : Key) → key_order a b ≡ ordering_reverse (key_order b a)
key_turns (count m) (count n) = nat_cmp_total.antisymm m n
key_turns (whole a) (whole b) = int_cmp_total.antisymm a b
key_turns (pair a b) (pair c d) = (λ i. ordering_then (key_turns a c i) (key_turns b d i)) ∙ then_flip (key_order c a) (key_order d b)
key_turns a b = nat_cmp_total.antisymm (shape a) (shape b)

key_chains : (a b c : Key) → key_order a b ≡ Less → key_order b c ≡ Less → key_order a c ≡ Less
key_chains (count m) (count n) (count o) p q = nat_cmp_total.trans m n o p q
key_chains (whole a) (whole b) (whole c) p q = int_cmp_total.trans a b c p q
key_chains (pair a b) (pair c d) (pair e f) p q =
    chained (key_order a c) (key_order c e) (key_order a e) _ _ _ (key_chains a c e)
    (λ l. ap (λ k. key_order k e) (key_level a c l))
    (λ l. ap (key_order a) (sym (key_level c e l)))
    (key_chains b d f) p q
key_chains (count m) b (whole z) p q = refl
key_chains (count m) b (pair e f) p q = refl
key_chains (whole z) b (pair e f) p q = refl
key_chains (count m) (whole b) (count o) p q = cc
key_chains (count m) (pair c d) (count o) p q = cc
key_chains (whole a) (count n) (whole c) p q = cc
key_chains (whole a) (pair c d) (whole e) p q = cc
key_chains (whole a) (count n) (count o) p q = cc
key_chains (whole a) (whole b) (count o) p q = cc
key_chains (whole a) (pair c d) (count o) p q = cc
key_chains (pair a b) (count n) (pair e f) p q = cc
key_chains (pair a b) (whole z) (pair e f) p q = cc
key_chains (pair a b) (count n) (count o) p q = cc
key_chains (pair a b) (count n) (whole z) p q = cc
key_chains (pair a b) (whole c) (count o) p q = cc
key_chains (pair a b) (whole c) (whole z) p q = cc
key_chains (pair a b) (pair c d) (count o) p q = cc
key_chains (pair a b) (pair c d) (whole z) p q = cc

-- ---- the key of a value

abbrev bit : Bool → ℕ
bit false = 0
bit true = 1

abbrev mutual
  key_of : ValueTree → Key
  key_of nil = pair (count 0) (count 0)
  key_of (boolean b) = pair (count 1) (count (bit b))
  key_of (number z) = pair (count 2) (whole z)
  key_of (character c) = pair (count 3) (count c)
  key_of (quote q) = pair (count 4) (count q.0)
  key_of (token v) = pair (count 5) (key_of v)
  key_of (tuple vs) = pair (count 6) (pair (count (count_of vs)) (items_key vs))
  key_of (record_of class name vs) = pair (count 7) (pair (count class.0) (pair (count name.0) (pair (count (count_of vs)) (items_key vs))))
  key_of (sequence vs) = pair (count 8) (pair (count (count_of vs)) (items_key vs))
  key_of (set_of vs) = pair (count 9) (pair (count (count_of vs)) (items_key vs))
  key_of (map_of ps) = pair (count 10) (pair (count (count_of_pairs ps)) (pairs_key ps))
  key_of (object n class) = pair (count 11) (pair (count n) (count class.0))

  items_key : ValueTrees → Key
  items_key no_values = count 0
  items_key (one_value v vs) = pair (key_of v) (items_key vs)

  pairs_key : PairTrees → Key
  pairs_key no_pairs = count 0
  pairs_key (one_pair k v ps) = pair (key_of k) (pair (key_of v) (pairs_key ps))

bool_by_bit : (a b : Bool) → bool_cmp a b ≡ nat_cmp (bit a) (bit b)
bool_by_bit false false = refl
bool_by_bit false true = refl
bool_by_bit true false = refl
bool_by_bit true true = refl

mutual
  order_by_key : (v w : ValueTree) → value_order v w ≡ key_order (key_of v) (key_of w)
  order_by_key nil nil = refl
  order_by_key (boolean a) (boolean b) = bool_by_bit a b
  order_by_key (number a) (number b) = refl
  order_by_key (character a) (character b) = refl
  order_by_key (quote a) (quote b) = refl
  order_by_key (token a) (token b) = order_by_key a b
  order_by_key (tuple a) (tuple b) = then_where_level _ _ _ (λ e. items_by_key a b (nat_level _ _ e))
  order_by_key (record_of c m a) (record_of d n b) =
      ap (λ o. ordering_then (name_order c d) (ordering_then (name_order m n) o))
      (then_where_level _ _ _ (λ e. items_by_key a b (nat_level _ _ e)))
  order_by_key (sequence a) (sequence b) = then_where_level _ _ _ (λ e. items_by_key a b (nat_level _ _ e))
  order_by_key (set_of a) (set_of b) = then_where_level _ _ _ (λ e. items_by_key a b (nat_level _ _ e))
  order_by_key (map_of a) (map_of b) = then_where_level _ _ _ (λ e. pairs_by_key a b (nat_level _ _ e))
  order_by_key (object m c) (object n d) = refl
  order_by_key a b = refl

  items_by_key : (vs ws : ValueTrees) → count_of vs ≡ count_of ws → items_order vs ws ≡ key_order (items_key vs) (items_key ws)
  items_by_key no_values no_values e = refl
  items_by_key no_values (one_value w ws) e = absurd (omega arith)
  items_by_key (one_value v vs) no_values e = absurd (omega arith)
  items_by_key (one_value v vs) (one_value w ws) e = λ i. ordering_then (order_by_key v w i) (items_by_key vs ws (omega arith) i)

  pairs_by_key : (ps qs : PairTrees) → count_of_pairs ps ≡ count_of_pairs qs
      → pair_items_order ps qs ≡ key_order (pairs_key ps) (pairs_key qs)
  pairs_by_key no_pairs no_pairs e = refl
  pairs_by_key no_pairs (one_pair l w qs) e = absurd (omega arith)
  pairs_by_key (one_pair k v ps) no_pairs e = absurd (omega arith)
  pairs_by_key (one_pair k v ps) (one_pair l w qs) e =
      λ i. ordering_then (order_by_key k l i) (ordering_then (order_by_key v w i) (pairs_by_key ps qs (omega arith) i))

-- ---- the laws

mutual
  -- values of which neither is less are the same
  pub same_from_order : (v w : ValueTree) → value_order v w ≡ Equal → v ≡ w
  same_from_order nil nil e = refl
  same_from_order (boolean a) (boolean b) e = ap boolean (bool_level a b e)
  same_from_order (number a) (number b) e = ap number (int_level a b e)
  same_from_order (character a) (character b) e = ap character (nat_level a b e)
  same_from_order (quote a) (quote b) e = ap quote (name_level a b e)
  same_from_order (token a) (token b) e = ap token (same_from_order a b e)
  same_from_order (tuple a) (tuple b) e = ap tuple
      (same_items a b (nat_level _ _ (first_level _ _ e)) (second_level (nat_cmp (count_of a) (count_of b)) _ e))
  same_from_order (record_of c m a) (record_of d n b) e =
      λ i. record_of (name_level c d (first_level _ _ e) i) (name_level m n (first_level _ _ (second_level (name_order c d) _ e)) i)
      ((same_items a b (nat_level _ _ (first_level _ _ (second_level (name_order m n) _ (second_level (name_order c d) _ e))))
      (second_level (nat_cmp (count_of a) (count_of b)) _ (second_level (name_order m n) _ (second_level (name_order c d) _ e)))) i)
  same_from_order (sequence a) (sequence b) e = ap sequence
      (same_items a b (nat_level _ _ (first_level _ _ e)) (second_level (nat_cmp (count_of a) (count_of b)) _ e))
  same_from_order (set_of a) (set_of b) e = ap set_of
      (same_items a b (nat_level _ _ (first_level _ _ e)) (second_level (nat_cmp (count_of a) (count_of b)) _ e))
  same_from_order (map_of a) (map_of b) e = ap map_of
      (same_pairs a b (nat_level _ _ (first_level _ _ e)) (second_level (nat_cmp (count_of_pairs a) (count_of_pairs b)) _ e))
  same_from_order (object m c) (object n d) e = λ i. object (nat_level m n (first_level _ _ e) i)
      (name_level c d (second_level (nat_cmp m n) _ e) i)
  same_from_order a b e = absurd (true≢false (sym (ap is_eq e)))

  same_items : (vs ws : ValueTrees) → count_of vs ≡ count_of ws → items_order vs ws ≡ Equal → vs ≡ ws
  same_items no_values no_values h e = refl
  same_items no_values (one_value w ws) h e = absurd (omega arith)
  same_items (one_value v vs) no_values h e = absurd (omega arith)
  same_items (one_value v vs) (one_value w ws) h e =
      λ i. one_value (same_from_order v w (first_level _ _ e) i) (same_items vs ws (omega arith) (second_level (value_order v w) _ e) i)

  same_pairs : (ps qs : PairTrees) → count_of_pairs ps ≡ count_of_pairs qs → pair_items_order ps qs ≡ Equal → ps ≡ qs
  same_pairs no_pairs no_pairs h e = refl
  same_pairs no_pairs (one_pair l w qs) h e = absurd (omega arith)
  same_pairs (one_pair k v ps) no_pairs h e = absurd (omega arith)
  same_pairs (one_pair k v ps) (one_pair l w qs) h e =
      λ i. one_pair (same_from_order k l (first_level _ _ e) i)
      (same_from_order v w (first_level _ _ (second_level (value_order k l) _ e)) i)
      (same_pairs ps qs (omega arith) (second_level (value_order v w) _ (second_level (value_order k l) _ e)) i)

pub order_of_itself : (v : ValueTree) → value_order v v ≡ Equal
order_of_itself v = order_by_key v v ∙ key_itself (key_of v)

pub order_turns : (v w : ValueTree) → value_order v w ≡ ordering_reverse (value_order w v)
order_turns v w = order_by_key v w ∙ key_turns (key_of v) (key_of w) ∙ ap ordering_reverse (sym (order_by_key w v))

pub order_chains : (u v w : ValueTree) → value_order u v ≡ Less → value_order v w ≡ Less → value_order u w ≡ Less
order_chains u v w p q =
    order_by_key u w ∙ key_chains (key_of u) (key_of v) (key_of w) (sym (order_by_key u v) ∙ p) (sym (order_by_key v w) ∙ q)

pub value_order_total : IsTotalOrder value_order
value_order_total = record {
  antisymm = order_turns;
  trans = order_chains;
  congr =
      λ v w u e. ap (λ x. value_order x u) (same_from_order v w e);
}

pub equal_where_same : (v w : ValueTree) → value_order v w ≡ Equal ↔ v ≡ w
equal_where_same v w = (same_from_order v w, λ e. ap (value_order v) (sym e) ∙ order_of_itself v)

level-decides : (v w : ValueTree) → Decides (eq_by_cmp value_order v w) (v ≡ w)
level-decides v w = (
  λ t. same_from_order v w ((Equal-is (value_order v w)).0 t),
  λ e. (Equal-is (value_order v w)).1
      ((equal_where_same v w).1 e),
)

-- `==` holds of what the order does not tell apart
pub same_by-order : (v w : ValueTree) → same_by value_code v w ≡ eq_by_cmp value_order v w
same_by-order v w = same_from_decides _ _ (same_by-decides value_code v w) (level-decides v w)
