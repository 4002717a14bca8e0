-- Operands whose node is of the kind that is wanted, and parts that are.
use Rattle.std.proofs.Common.{◌≡◌, ℕ, zero, suc, ◌+◌, ◌<◌, Bool, true, false, ◌&&◌, List, [], ◌∷◌, ◌++◌, map, length, get_or, take, refl, ap, sym, ◌∙◌, arith, add-one, rules}
use Rattle.std.specs.List.{list_all, flat_map}
use Rattle.vdm_values.specs.declared.value.Node.{Node}
use Rattle.vdm_values.specs.declared.value.Node.TheVariants.{Set, Seq, Map}
use Rattle.vdm_values.specs.Tree.{tree_of}
use Rattle.abstract_syntax.specs.Values.{ValueTree, value_list-value_trees, pair_list-pair_trees}
use Rattle.abstract_syntax.specs.ValueSets.{Entry}
use Rattle.value_operators.specs.Outcomes.{Outcome, on_set, on_sets, on_sequence, on_sequences, on_map, on_maps}
use Rattle.value_operators.specs.Sets.{is_set, members_of}
use Rattle.value_operators.specs.Maps.{on_set_and_map, is_map, pairs_of}
use Rattle.value_operators.specs.Sequences.{on_sequence_and_map, is_sequence, items_of}

pub on_set_is : (f : List ValueTree → Outcome) (v : ValueTree) (n : Node) (vs : _) → v ≡ tree_of n → n ≡ Set vs → on_set f v ≡ f vs.items
on_set_is f v n vs e h = ap (on_set f) (e ∙ ap tree_of h) ∙ ap f (value_list-value_trees vs.items)

pub on_sets_is : (f : List ValueTree → List ValueTree → Outcome) (v w : ValueTree) (m n : Node) (vs ws : _) → v ≡ tree_of m → m ≡ Set vs → w ≡ tree_of n → n ≡ Set ws → on_sets f v w ≡ f vs.items ws.items
on_sets_is f v w m n vs ws e h i k =
    (λ j. on_sets f ((e ∙ ap tree_of h) j) ((i ∙ ap tree_of k) j))
    ∙ (λ j. f (value_list-value_trees vs.items j) (value_list-value_trees ws.items j))

pub on_sequence_is : (f : List ValueTree → Outcome) (v : ValueTree) (n : Node) (vs : _) → v ≡ tree_of n → n ≡ Seq vs → on_sequence f v ≡ f vs.items
on_sequence_is f v n vs e h = ap (on_sequence f) (e ∙ ap tree_of h) ∙ ap f (value_list-value_trees vs.items)

pub on_sequences_is : (f : List ValueTree → List ValueTree → Outcome) (v w : ValueTree) (m n : Node) (vs ws : _) → v ≡ tree_of m → m ≡ Seq vs → w ≡ tree_of n → n ≡ Seq ws → on_sequences f v w ≡ f vs.items ws.items
on_sequences_is f v w m n vs ws e h i k =
    (λ j. on_sequences f ((e ∙ ap tree_of h) j) ((i ∙ ap tree_of k) j))
    ∙ (λ j. f (value_list-value_trees vs.items j) (value_list-value_trees ws.items j))

pub on_map_is : (f : List Entry → Outcome) (v : ValueTree) (n : Node) (ps : _) → v ≡ tree_of n → n ≡ Map ps → on_map f v ≡ f ps.items
on_map_is f v n ps e h = ap (on_map f) (e ∙ ap tree_of h) ∙ ap f (pair_list-pair_trees ps.items)

pub on_maps_is : (f : List Entry → List Entry → Outcome) (v w : ValueTree) (m n : Node) (ps qs : _) → v ≡ tree_of m → m ≡ Map ps → w ≡ tree_of n → n ≡ Map qs → on_maps f v w ≡ f ps.items qs.items
on_maps_is f v w m n ps qs e h i k =
    (λ j. on_maps f ((e ∙ ap tree_of h) j) ((i ∙ ap tree_of k) j))
    ∙ (λ j. f (pair_list-pair_trees ps.items j) (pair_list-pair_trees qs.items j))

pub on_set_and_map_is : (f : List ValueTree → List Entry → Outcome) (v w : ValueTree) (m n : Node) (vs ps : _) → v ≡ tree_of m → m ≡ Set vs → w ≡ tree_of n → n ≡ Map ps → on_set_and_map f v w ≡ f vs.items ps.items
on_set_and_map_is f v w m n vs ps e h i k =
    (λ j. on_set_and_map f ((e ∙ ap tree_of h) j) ((i ∙ ap tree_of k) j))
    ∙ (λ j. f (value_list-value_trees vs.items j) (pair_list-pair_trees ps.items j))

pub on_sequence_and_map_is : (f : List ValueTree → List Entry → Outcome) (v w : ValueTree) (m n : Node) (vs ps : _) → v ≡ tree_of m → m ≡ Seq vs → w ≡ tree_of n → n ≡ Map ps → on_sequence_and_map f v w ≡ f vs.items ps.items
on_sequence_and_map_is f v w m n vs ps e h i k =
    (λ j. on_sequence_and_map f ((e ∙ ap tree_of h) j) ((i ∙ ap tree_of k) j))
    ∙ (λ j. f (value_list-value_trees vs.items j) (pair_list-pair_trees ps.items j))

-- ---- parts that are all of one kind, and what is in them

pub members_is : (v : ValueTree) (n : Node) (vs : _) → v ≡ tree_of n → n ≡ Set vs → members_of v ≡ vs.items
members_is v n vs e h = ap members_of (e ∙ ap tree_of h) ∙ value_list-value_trees vs.items

pub is_set_is : (v : ValueTree) (n : Node) (vs : _) → v ≡ tree_of n → n ≡ Set vs → is_set v ≡ true
is_set_is v n vs e h = ap is_set (e ∙ ap tree_of h)

pub items_is : (v : ValueTree) (n : Node) (vs : _) → v ≡ tree_of n → n ≡ Seq vs → items_of v ≡ vs.items
items_is v n vs e h = ap items_of (e ∙ ap tree_of h) ∙ value_list-value_trees vs.items

pub is_sequence_is : (v : ValueTree) (n : Node) (vs : _) → v ≡ tree_of n → n ≡ Seq vs → is_sequence v ≡ true
is_sequence_is v n vs e h = ap is_sequence (e ∙ ap tree_of h)

pub pairs_is : (v : ValueTree) (n : Node) (ps : _) → v ≡ tree_of n → n ≡ Map ps → pairs_of v ≡ ps.items
pairs_is v n ps e h = ap pairs_of (e ∙ ap tree_of h) ∙ pair_list-pair_trees ps.items

pub is_map_is : (v : ValueTree) (n : Node) (ps : _) → v ≡ tree_of n → n ≡ Map ps → is_map v ≡ true
is_map_is v n ps e h = ap is_map (e ∙ ap tree_of h)

joins : {X : Type 0} (xs ys zs : List X) → xs ++ (ys ++ zs) ≡ (xs ++ ys) ++ zs
joins [] ys zs = refl
joins (x ∷ xs) ys zs = ap (λ us. x ∷ us) (joins xs ys zs)

module _ {X : Type 0} (test : ValueTree → Bool) (inside : ValueTree → List X) where
  gathered_next : (vs : List ValueTree) (i : ℕ) (v : ValueTree) → i < length vs → flat_map (λ xs. xs) (map inside (take (suc i) vs)) ≡ flat_map (λ xs. xs) (map inside (take i vs)) ++ inside (get_or vs i v)
  gathered_next [] i v h = absurd (omega arith)
  gathered_next (w ∷ ws) zero v h = search rules
  gathered_next (w ∷ ws) (suc i) v h = ap (λ xs. inside w ++ xs) (gathered_next ws i v (omega arith)) ∙ joins (inside w) _ _

  pub gathered_more : (vs : List ValueTree) (i : ℕ) (v : ValueTree) → i < length vs → v ≡ get_or vs i v → flat_map (λ xs. xs) (map inside (take (i + 1) vs)) ≡ flat_map (λ xs. xs) (map inside (take i vs)) ++ inside v
  gathered_more vs i v h e =
      ap (λ j. flat_map (λ xs. xs) (map inside (take j vs))) (add-one i) ∙ gathered_next vs i v h
      ∙ ap (λ w. flat_map (λ xs. xs) (map inside (take i vs)) ++ inside w) (sym e)

  all_next : (vs : List ValueTree) (i : ℕ) (v : ValueTree) → i < length vs → list_all test (take (suc i) vs) ≡ list_all test (take i vs) && test (get_or vs i v)
  all_next [] i v h = absurd (omega arith)
  all_next (w ∷ ws) zero v h = by (test w)
    where
      by : (r : Bool) → r && true ≡ true && r
      by true = refl
      by false = refl
  all_next (w ∷ ws) (suc i) v h = by (test w) (all_next ws i v (omega arith))
    where
      by : (r : Bool) → list_all test (take (suc i) ws) ≡ list_all test (take i ws) && test (get_or ws i v) → r && list_all test (take (suc i) ws) ≡ (r && list_all test (take i ws)) && test (get_or ws i v)
      by true e = e
      by false e = refl

  pub all_more : (vs : List ValueTree) (i : ℕ) (v : ValueTree) → i < length vs → v ≡ get_or vs i v → list_all test (take i vs) ≡ true → test v ≡ true → list_all test (take (i + 1) vs) ≡ true
  all_more vs i v h e a t =
      ap (λ j. list_all test (take j vs)) (add-one i) ∙ all_next vs i v h ∙ ap (λ r. r && test (get_or vs i v)) a ∙ ap test (sym e) ∙ t

  pub not_all : (vs : List ValueTree) (i : ℕ) (v : ValueTree) → i < length vs → v ≡ get_or vs i v → test v ≡ false → list_all test vs ≡ false
  not_all [] i v h e t = absurd (omega arith)
  not_all (w ∷ ws) zero v h e t = ap (λ r. r && list_all test ws) (ap test (sym e) ∙ t)
  not_all (w ∷ ws) (suc i) v h e t = by (test w) (not_all ws i v (omega arith) e t)
    where
      by : (r : Bool) → list_all test ws ≡ false → r && list_all test ws ≡ false
      by true a = a
      by false a = refl

pub mapped_not_all : {Y : Type 0} (test : Y → Bool) (inside : ValueTree → Y) (vs : List ValueTree) (i : ℕ) (v : ValueTree) → i < length vs → v ≡ get_or vs i v → test (inside v) ≡ false → list_all test (map inside vs) ≡ false
mapped_not_all test inside [] i v h e t = absurd (omega arith)
mapped_not_all test inside (w ∷ ws) zero v h e t = ap (λ r. r && list_all test (map inside ws)) (ap (λ u. test (inside u)) (sym e) ∙ t)
mapped_not_all test inside (w ∷ ws) (suc i) v h e t = by (test (inside w)) (mapped_not_all test inside ws i v (omega arith) e t)
  where
    by : (r : Bool) → list_all test (map inside ws) ≡ false → r && list_all test (map inside ws) ≡ false
    by true a = a
    by false a = refl
