-- The lists of the nodes that lead to no cycle, one after the other.
use Rattle.std.proofs.Common.{◌≡◌, ℕ, ◌+◌, ◌<◌, ◌≤◌, Bool, true, false, ◌||◌, ◌&&◌, if◌then◌else◌, List, [], ◌∷◌, ◌++◌, length, get_or, set, take, nat_eq, nat_lt, eqb-true, refl, ap, sym, subst, ◌∙◌, arith, All, Vec}
use Rattle.std.specs.List.{flat_map, list_all}
use Rattle.std.proofs.lemmas.Bool.{ltb-true, lt-ltb}
use Rattle.std.proofs.lemmas.List.{get_or_default, length-set, get_or-set_same, get_or-set_other, map-set, take_more, take_all}
use Rattle.std.proofs.lemmas.List.Elements.{All-nil, All-set}
use Rattle.graph_cycles.specs.Graphs.{Graph, graph_of, successors, InRange, IsOrder, is_in, leads_to_no_cycle}
use Rattle.graph_cycles.specs.Growing.{with_nodes}
use Rattle.graph_cycles.proofs.Finding.{or_none}
use Rattle.graph_cycles.proofs.Members.{not_both, itself, and_left, and_right, or_right, is_in-at, is_in-append, each_of}
use Rattle.class_meaning.specs.Ancestors.{ancestors_in}
use Rattle.ancestor_lines.specs.Lines.{AreSettled}
use Rattle.ancestor_lines.proofs.Growth.{line_is}

-- these nodes have their lists, and no others
pub record SettledSoFar (g : Graph) (nodes : List ℕ) (lines : List (List ℕ)) : Type 0 where
  pub count : length lines ≡ length g
  pub in_range : InRange lines
  pub each : (a : ℕ) → get_or lines a [] ≡ (if is_in nodes a then ancestors_in g a else [])

or_false : (a : Bool) → a ≡ (a || false)
or_false true = refl
or_false false = refl

pub settled_starts : (g : Graph) (lines : List (List ℕ)) → length lines ≡ length g → ((a : ℕ) → successors lines a ≡ []) → SettledSoFar g [] lines
settled_starts g lines count none = record {
  count = count;
  in_range = λ k d l.
      subst (λ (xs : List ℕ). All (λ (b : ℕ). b < length lines) xs) (sym (get_or_default lines k d [] l ∙ none k)) (All-nil (λ (b : ℕ). b < length lines));
  each = none;
}

-- a node of an order settles, and is one of the graph
module _ (g : Graph) (nodes : List ℕ) (o : IsOrder g nodes) (i node : ℕ) (l : i < length nodes) (at : node ≡ get_or nodes i node) where
  stands : (nat_lt node (length g) && leads_to_no_cycle g node) ≡ true
  stands = sym (o.has node) ∙ subst (λ (x : ℕ). is_in nodes x ≡ true) (sym at) (is_in-at nodes i node l)

  pub node_below : node < length g
  node_below = ltb-true node (length g) (and_left (nat_lt node (length g)) (leads_to_no_cycle g node) stands)

  node_settles : leads_to_no_cycle g node ≡ true
  node_settles = and_right (nat_lt node (length g)) (leads_to_no_cycle g node) stands

  now_in : (a : ℕ) → is_in (take (i + 1) nodes) a ≡ (is_in (take i nodes) a || nat_eq a node)
  now_in a =
      ap (λ (ns : List ℕ). is_in ns a) (take_more nodes i node l ∙ ap (λ (x : ℕ). take i nodes ++ x ∷ []) (sym at))
      ∙ is_in-append (take i nodes) (node ∷ []) a
      ∙ or_none (is_in (take i nodes) a) (nat_eq a node)

  module _ (lines : List (List ℕ)) (line : List ℕ) (s : SettledSoFar g (take i nodes) lines)
      (is : line ≡ with_nodes (node ∷ []) (flat_map (successors lines) (successors g node))) (below : All (λ (b : ℕ). b < length g) line) where
    before : (b : ℕ) → is_in (successors g node) b ≡ true → successors lines b ≡ ancestors_in g b
    before b among =
        s.each b
        ∙ ap (λ (t : Bool). if t then ancestors_in g b else [])
        (each_of (is_in (take i nodes)) (successors g node) b
        (subst (λ (x : ℕ). list_all (is_in (take i nodes)) (successors g x) ≡ true) (sym at) (o.behind i node l)) among)

    line_now : line ≡ ancestors_in g node
    line_now = is ∙ line_is g lines node node_settles before

    each_now : (a : ℕ) (e : Bool) → nat_eq a node ≡ e → get_or (set lines node line) a [] ≡ (if is_in (take i nodes) a || e then ancestors_in g a else [])
    each_now a true t =
        ap (λ (x : ℕ). get_or (set lines node line) x []) (eqb-true a node t)
        ∙ get_or-set_same lines node line [] (omega (arith, s.count, node_below))
        ∙ line_now
        ∙ ap (ancestors_in g) (sym (eqb-true a node t))
        ∙ ap (λ (b : Bool). if b then ancestors_in g a else []) (sym (or_right (is_in (take i nodes) a) true refl))
    each_now a false f =
        get_or-set_other lines node a line [] (λ same. not_both (subst (λ (x : ℕ). nat_eq a x ≡ true) same (itself a)) f)
        ∙ s.each a
        ∙ ap (λ (b : Bool). if b then ancestors_in g a else []) (or_false (is_in (take i nodes) a))

    more : SettledSoFar g (take (i + 1) nodes) (set lines node line)
    more = record {
      count = length-set lines node line ∙ s.count;
      in_range = subst (λ (n : ℕ). All (λ (xs : List ℕ). All (λ (b : ℕ). b < n) xs) (set lines node line)) (sym (length-set lines node line))
          (All-set (λ (xs : List ℕ). All (λ (b : ℕ). b < length lines) xs) lines node line
          (subst (λ (n : ℕ). All (λ (b : ℕ). b < n) line) (sym s.count) below) s.in_range);
      each = λ a. each_now a (nat_eq a node) refl ∙ ap (λ (b : Bool). if b then ancestors_in g a else []) (sym (now_in a));
    }

pub settled_more : {A : Type 0} (g : Graph) (nodes : List ℕ) (o : IsOrder g nodes) (i node : ℕ) (l : i < length nodes) (at : node ≡ get_or nodes i node)
    (lines : List (Vec ℕ A)) (line : Vec ℕ A) → SettledSoFar g (take i nodes) (graph_of lines)
    → line.items ≡ with_nodes (node ∷ []) (flat_map (successors (graph_of lines)) (successors g node)) → All (λ (b : ℕ). b < length g) line.items
    → SettledSoFar g (take (i + 1) nodes) (graph_of (set lines node line))
settled_more {A} g nodes o i node l at lines line s is below =
    subst (SettledSoFar g (take (i + 1) nodes)) (sym (map-set (λ (list : Vec ℕ A). list.items) lines node line))
    (more g nodes o i node l at (graph_of lines) line.items s is below)

pub settled_ends : (g : Graph) (nodes : List ℕ) → IsOrder g nodes → (i : ℕ) (lines : List (List ℕ)) → length nodes ≤ i → SettledSoFar g (take i nodes) lines → AreSettled g lines
settled_ends g nodes o i lines m s = record {
  count = s.count;
  each = λ a l.
      s.each a
      ∙ ap (λ (b : Bool). if b then ancestors_in g a else [])
      (ap (λ (ns : List ℕ). is_in ns a) (take_all i nodes m) ∙ o.has a ∙ ap (λ (b : Bool). b && leads_to_no_cycle g a) (lt-ltb a (length g) l));
}
