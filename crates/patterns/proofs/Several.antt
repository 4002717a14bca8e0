-- The ways of several patterns, each with a value of its own.
use Rattle.std.proofs.Common.{◌≡◌, ◌<◌, ◌≤◌, List, [], ◌∷◌, map, length, drop, refl, ap, sym, ◌∙◌, arith, append-nil, Option, None}
use Rattle.std.specs.List.{filter_map}
use Rattle.vdm_kinds.specs.declared.name_at.TypeName.{TypeName}
use Rattle.abstract_syntax.specs.Expressions.{PatternTree}
use Rattle.abstract_syntax.specs.Values.{ValueTree}
use Rattle.pattern_meaning.specs.Bindings.{first_of, first_binding, with_way}
use Rattle.pattern_meaning.specs.Lists.{ways_of_list, binding_of_list}
use Rattle.pattern_meaning.specs.RecordTypes.{RecordType}
use Rattle.pattern_meaning.specs.Ways.{Way, plainly, crossed, brackets, ways}
use Rattle.patterns.specs.Todos.{to_match_each, all_ways}
use Rattle.patterns.proofs.Picked.{length-map}

crossed_plainly : (ws : List Way) → crossed ws plainly ≡ ws
crossed_plainly [] = refl
crossed_plainly (w ∷ ws) = λ i. append-nil w i ∷ crossed_plainly ws i

crossed_nowhere : (ws : List Way) → crossed ws [] ≡ []
crossed_nowhere [] = refl
crossed_nowhere (w ∷ ws) = crossed_nowhere ws

-- as many for each as there are
pub enough_mapped : {A B C D : Type 0} (f : A → C) (g : B → D) (xs : List A) (ys : List B) → length xs ≤ length ys →
    length (map f xs) ≤ length (map g ys)
enough_mapped f g xs ys h =
    let e : length (map f xs) ≡ length xs = length-map f xs in let k : length (map g ys) ≡ length ys = length-map g ys in omega arith

pub fewer_mapped : {A B C D : Type 0} (f : A → C) (g : B → D) (xs : List A) (ys : List B) → length ys < length xs →
    length (map g ys) < length (map f xs)
fewer_mapped f g xs ys h =
    let e : length (map f xs) ≡ length xs = length-map f xs in let k : length (map g ys) ≡ length ys = length-map g ys in omega arith

module _ (types : TypeName → Option RecordType) where
  -- the ways of what is to be matched first are those of the patterns
  pub pairs_ways : (ps : List PatternTree) (vs given : List ValueTree) → length ps ≤ length vs →
      all_ways types given (to_match_each ps vs) ≡ ways_of_list types ps given vs
  unfolding all_ways
  pairs_ways [] vs given h = refl
  pairs_ways (p ∷ ps) [] given h = absurd (omega arith)
  pairs_ways (p ∷ ps) (v ∷ vs) given h = ap (crossed (ways types p given v)) (pairs_ways ps vs (drop (brackets p) given) (omega arith))

  -- where values are missing there is no way
  no_ways : (ps : List PatternTree) (vs given : List ValueTree) → length vs < length ps → ways_of_list types ps given vs ≡ []
  no_ways [] vs given h = absurd (omega arith)
  no_ways (p ∷ ps) [] given h = refl
  no_ways (p ∷ ps) (v ∷ vs) given h =
      ap (crossed (ways types p given v)) (no_ways ps vs (drop (brackets p) given) (omega arith)) ∙ crossed_nowhere (ways types p given v)

  -- ... and no binding
  pub too_few : (ps : List PatternTree) (vs given : List ValueTree) → length vs < length ps → None ≡ binding_of_list types ps given vs
  too_few ps vs given h = λ i. first_of (filter_map (with_way []) (sym (no_ways ps vs given h) i))

  -- the binding of one pattern is its first binding
  pub of_one : (p : PatternTree) (v : ValueTree) (given : List ValueTree) → binding_of_list types (p ∷ []) given (v ∷ []) ≡ first_binding types p given v
  of_one p v given = ap (λ ws. first_of (filter_map (with_way []) ws)) (crossed_plainly (ways types p given v))
