-- A binding invents no object.
use Rattle.std.proofs.Common.{ℕ, Bool, true, false, List, [], ◌∷◌, drop, filter_map, Option, Some, None, option_and_then, IfSome}
use Rattle.std.specs.Prelude.{if◌then◌else◌}
use Rattle.std.specs.List.{AllByRecursion as Each}
use Rattle.vdm_kinds.specs.declared.name.Name.{Name}
use Rattle.vdm_kinds.specs.declared.name_at.TypeName.{TypeName}
use Rattle.abstract_syntax.specs.Expressions.{PatternTree}
use Rattle.abstract_syntax.specs.Values.{ValueTree}
use Rattle.pattern_meaning.specs.RecordTypes.{RecordType}
use Rattle.pattern_meaning.specs.Ways.{Way, is_same, brackets, ways}
use Rattle.pattern_meaning.specs.Bindings.{Binding, value_in, put, with_pair, with_way, first_of, first_binding}
use Rattle.pattern_meaning.specs.Lists.{ways_of_list, binding_of_list}
use Rattle.value_parts.specs.Objects.{EachObject}
use Rattle.value_parts.specs.BoundObjects.{EachObjectBound}
use Rattle.value_parts.proofs.Everywhere.{each_append, each_filter_map}
use Rattle.value_parts.proofs.WayObjects.{crossed_keeps, ways_keep}

first_of_each : {X : Type 0} (Q : X → Type 0) (xs : List X) → Each Q xs → IfSome (first_of xs) Q
first_of_each Q [] h = tt
first_of_each Q (x ∷ xs) h = h.0

module _ (P : ℕ → Name → Type 0) where
  -- ---- pairs of a way, one after the other

  same_by : (b : Binding) → EachObjectBound P b → (r : Bool) → IfSome (if r then Some b else None) (EachObjectBound P)
  same_by b h true = h
  same_by b h false = tt

  put_keeps : (b : Binding) (p : Name × ValueTree) (o : Option ValueTree) → EachObjectBound P b → EachObject P p.1 → IfSome (put b p o) (EachObjectBound P)
  put_keeps b p None h k = each_append (λ (q : Name × ValueTree). EachObject P q.1) b (p ∷ []) h (k, tt)
  put_keeps b p (Some v) h k = same_by b h (is_same v p.1)

  and_then_keeps : (f : Binding → Option Binding) → ((b : Binding) → EachObjectBound P b → IfSome (f b) (EachObjectBound P))
      → (o : Option Binding) → IfSome o (EachObjectBound P) → IfSome (option_and_then f o) (EachObjectBound P)
  and_then_keeps f k None h = tt
  and_then_keeps f k (Some b) h = k b h

  with_way_keeps : (w : Way) → EachObjectBound P w → (b : Binding) → EachObjectBound P b → IfSome (with_way b w) (EachObjectBound P)
  with_way_keeps [] k b h = h
  with_way_keeps (p ∷ w) k b h =
      and_then_keeps (λ c. with_way c w) (with_way_keeps w k.1) (with_pair b p) (put_keeps b p (value_in b p.0) h k.0)

  first_keeps : (ws : List Way) → Each (EachObjectBound P) ws → IfSome (first_of (filter_map (with_way []) ws)) (EachObjectBound P)
  first_keeps ws h =
      first_of_each (EachObjectBound P) (filter_map (with_way []) ws)
      (each_filter_map (EachObjectBound P) (EachObjectBound P) (with_way []) (λ w k. with_way_keeps w k [] tt) ws h)

  module _ (types : TypeName → Option RecordType) where
    -- ---- one pattern, and several

    pub first_binding_keeps : (p : PatternTree) (given : List ValueTree) (v : ValueTree) → EachObject P v → IfSome (first_binding types p given v) (EachObjectBound P)
    first_binding_keeps p given v h = first_keeps (ways types p given v) (ways_keep P types p given v h)

    ways_of_list_keep : (ps : List PatternTree) (given vs : List ValueTree) → Each (EachObject P) vs → Each (EachObjectBound P) (ways_of_list types ps given vs)
    ways_of_list_keep [] given vs h = (tt, tt)
    ways_of_list_keep (p ∷ ps) given [] h = tt
    ways_of_list_keep (p ∷ ps) given (v ∷ vs) h =
        crossed_keeps P (ways types p given v) (ways_of_list types ps (drop (brackets p) given) vs)
        (ways_keep P types p given v h.0) (ways_of_list_keep ps (drop (brackets p) given) vs h.1)

    -- the values of bracketed expressions may be anything: no name stands for one
    pub binding_of_list_keeps : (ps : List PatternTree) (given vs : List ValueTree) → Each (EachObject P) vs
        → IfSome (binding_of_list types ps given vs) (EachObjectBound P)
    binding_of_list_keeps ps given vs h = first_keeps (ways_of_list types ps given vs) (ways_of_list_keep ps given vs h)
