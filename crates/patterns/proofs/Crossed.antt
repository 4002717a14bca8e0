-- Ways crossed with ways.
use Rattle.std.proofs.Common.{◌≡◌, List, [], ◌∷◌, ◌++◌, map, flat_map, refl, ap, sym, ◌∙◌, append_assoc, Some, None}
use Rattle.std.specs.Option.{option_and_then}
use Rattle.std.specs.List.{filter_map}
use Rattle.std.proofs.lemmas.Grind.{flat_map-append}
use Rattle.vdm_kinds.specs.declared.name.Name.{Name}
use Rattle.abstract_syntax.specs.Values.{ValueTree}
use Rattle.pattern_meaning.specs.Ways.{Way, plainly, crossed}
use Rattle.pattern_meaning.specs.Bindings.{Binding, with_pair, with_way}

pub crossed-plainly : (ws : List Way) → crossed plainly ws ≡ ws
crossed-plainly [] = refl
crossed-plainly (w ∷ ws) = ap (λ rest. w ∷ rest) (crossed-plainly ws)

pub crossed-one : (p : Name × ValueTree) (ws : List Way) → crossed ((p ∷ []) ∷ []) ws ≡ map (λ way. p ∷ way) ws
crossed-one p [] = refl
crossed-one p (w ∷ ws) = ap (λ rest. (p ∷ w) ∷ rest) (crossed-one p ws)

map_both : (a b : Way) (cs : List Way) → map (λ c. (a ++ b) ++ c) cs ≡ map (λ d. a ++ d) (map (λ c. b ++ c) cs)
map_both a b [] = refl
map_both a b (c ∷ cs) = λ i. append_assoc a b c i ∷ map_both a b cs i

map_onto : (a : Way) (bs cs : List Way) → map (λ d. a ++ d) (bs ++ cs) ≡ map (λ d. a ++ d) bs ++ map (λ d. a ++ d) cs
map_onto a [] cs = refl
map_onto a (b ∷ bs) cs = ap (λ rest. (a ++ b) ∷ rest) (map_onto a bs cs)

crossed_under : (a : Way) (bs cs : List Way) → crossed (map (λ b. a ++ b) bs) cs ≡ map (λ d. a ++ d) (crossed bs cs)
crossed_under a [] cs = refl
crossed_under a (b ∷ bs) cs =
    (λ i. map_both a b cs i ++ crossed_under a bs cs i) ∙ sym (map_onto a (map (λ c. b ++ c) cs) (crossed bs cs))

pub crossed-append : (ws bs cs : List Way) → crossed (ws ++ bs) cs ≡ crossed ws cs ++ crossed bs cs
crossed-append ws bs cs = flat_map-append (λ first. map (λ second. first ++ second) cs) ws bs

pub crossed-crossed : (ws bs cs : List Way) → crossed (crossed ws bs) cs ≡ crossed ws (crossed bs cs)
crossed-crossed [] bs cs = refl
crossed-crossed (a ∷ ws) bs cs =
    crossed-append (map (λ b. a ++ b) bs) (crossed ws bs) cs ∙ (λ i. crossed_under a bs cs i ++ crossed-crossed ws bs cs i)

pub crossed-flat_map : {A : Type 0} (f : A → List Way) (xs : List A) (cs : List Way) →
    crossed (flat_map f xs) cs ≡ flat_map (λ x. crossed (f x) cs) xs
crossed-flat_map f [] cs = refl
crossed-flat_map f (x ∷ xs) cs = crossed-append (f x) (flat_map f xs) cs ∙ ap (λ rest. crossed (f x) cs ++ rest) (crossed-flat_map f xs cs)

-- a pair in front of each way is a step of the binding
pub found_behind : (b c : Binding) (p : Name × ValueTree) (ws : List Way) → with_pair b p ≡ Some c →
    filter_map (with_way b) (map (λ way. p ∷ way) ws) ≡ filter_map (with_way c) ws
found_behind b c p [] e = refl
found_behind b c p (w ∷ ws) e =
    λ i. Rattle.std.specs.List.cons_option (option_and_then (λ d. with_way d w) (e i)) (found_behind b c p ws e i)

pub nothing_behind : (b : Binding) (p : Name × ValueTree) (ws : List Way) → with_pair b p ≡ None →
    filter_map (with_way b) (map (λ way. p ∷ way) ws) ≡ []
nothing_behind b p [] e = refl
nothing_behind b p (w ∷ ws) e =
    λ i. Rattle.std.specs.List.cons_option (option_and_then (λ d. with_way d w) (e i)) (nothing_behind b p ws e i)
