-- As many steps as there are nodes are enough.
use Rattle.std.proofs.Common.{◌≡◌, ℕ, zero, suc, ◌+◌, ◌<◌, ◌≤◌, Bool, true, false, cond, ⊎_elim, List, [], ◌∷◌, ◌++◌, length, get_or, nat_eq, refl, sym, ◌∙◌, arith}
use Rattle.std.specs.List.{IsDistinct}
use Rattle.std.proofs.lemmas.Bool.{cases_lt}
use Rattle.std.proofs.lemmas.Cmp.{nat_eq_equiv}
use Rattle.std.proofs.lemmas.Map.Keys.{IsDistinct-push}
use Rattle.std.proofs.lemmas.Map.Steps.{length-le_from_distinct_below}
use Rattle.graph_cycles.specs.Graphs.{Graph, successors, InRange, is_in, leads}
use Rattle.graph_cycles.specs.Growing.{with_node, with_nodes}
use Rattle.graph_cycles.proofs.Members.{or_cases}
use Rattle.graph_cycles.proofs.Paths.{successor_in_range, nothing_apart}
use Rattle.graph_cycles.proofs.Finding.{Searched, is_in-with_nodes, search_starts, search_follows, search_ends, all_found}

apart-with_node : (nodes : List ℕ) (a : ℕ) → IsDistinct nat_eq nodes → IsDistinct nat_eq (with_node nodes a)
apart-with_node nodes a apart = by (is_in nodes a) refl
  where
    by : (i : Bool) → is_in nodes a ≡ i → IsDistinct nat_eq (cond i nodes (nodes ++ a ∷ []))
    by true is = apart
    by false is = IsDistinct-push nat_eq_equiv nodes a apart is

apart-with_nodes : (nodes more : List ℕ) → IsDistinct nat_eq nodes → IsDistinct nat_eq (with_nodes nodes more)
apart-with_nodes nodes [] apart = apart
apart-with_nodes nodes (a ∷ more) apart = apart-with_nodes (with_node nodes a) more (apart-with_node nodes a apart)

module _ (g : Graph) (in_range : InRange g) (start : ℕ) where
  -- a search that is under way, at nodes of the graph that differ
  record Searching (nodes : List ℕ) (next : ℕ) : Type 0 where
    pub searched : Searched g start nodes next
    pub apart : IsDistinct nat_eq nodes
    pub below : (q : ℕ) → is_in nodes q ≡ true → q < length g

  -- a search that is done
  record Ended : Type 0 where
    pub nodes : List ℕ
    pub next : ℕ
    pub searched : Searched g start nodes next
    pub done : length nodes ≤ next
    pub few : length nodes ≤ length g

  most : (nodes : List ℕ) (next : ℕ) → Searching nodes next → length nodes ≤ length g
  most nodes next s = length-le_from_distinct_below nodes (length g) s.apart s.below

  goes_on : (nodes : List ℕ) (next : ℕ) → Searching nodes next → next < length nodes
      → Searching (with_nodes nodes (successors g (get_or nodes next 0))) (next + 1)
  goes_on nodes next s l = record {
    searched = search_follows g start nodes next (get_or nodes next 0) (with_nodes nodes (successors g (get_or nodes next 0))) s.searched l
        (same nodes next l) refl;
    apart = apart-with_nodes nodes (successors g (get_or nodes next 0)) s.apart;
    below = λ q is. ⊎_elim (s.below q) (successor_in_range g (get_or nodes next 0) q in_range)
        (or_cases (is_in nodes q) (is_in (successors g (get_or nodes next 0)) q) (sym (is_in-with_nodes nodes (successors g (get_or nodes next 0)) q) ∙ is));
  }
    where
      same : (xs : List ℕ) (k : ℕ) → k < length xs → get_or xs k 0 ≡ get_or xs k (get_or xs k 0)
      same [] k l = absurd (omega arith)
      same (x ∷ xs) zero l = refl
      same (x ∷ xs) (suc k) l = same xs k (omega arith)

  ends : (n : ℕ) (nodes : List ℕ) (next : ℕ) → Searching nodes next → n + next ≡ length g → Ended
  ends zero nodes next s e =
      record { nodes = nodes; next = next; searched = s.searched; done = omega (arith, most nodes next s); few = most nodes next s }
  ends (suc n) nodes next s e = ⊎_elim
      (λ (l : next < length nodes). ends n (with_nodes nodes (successors g (get_or nodes next 0))) (next + 1) (goes_on nodes next s l) (omega arith))
      (λ (m : length nodes ≤ next). record { nodes = nodes; next = next; searched = s.searched; done = m; few = most nodes next s })
      (cases_lt next (length nodes))

  ended : Ended
  ended = ends (length g) (with_nodes [] (successors g start)) 0
      (record {
        searched = search_starts g start [] (with_nodes [] (successors g start)) refl refl;
        apart = apart-with_nodes [] (successors g start) nothing_apart;
        below = λ q is. successor_in_range g start q in_range (sym (is_in-with_nodes [] (successors g start) q) ∙ is);
      })
      (omega arith)

  pub enough : (n b : ℕ) → leads n g start b ≡ true → leads (length g) g start b ≡ true
  enough n b t =
      sym (search_ends g start ended.nodes ended.next ended.searched ended.done ended.few b)
      ∙ all_found g start ended.nodes ended.next ended.searched ended.done n start b ended.searched.starts t
