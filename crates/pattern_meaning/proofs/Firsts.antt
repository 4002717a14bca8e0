-- The first binding is that of the first way that comes to one.
use Rattle.std.proofs.Common.{◌≡◌, ℕ, zero, suc, ⊎_elim, Bool, true, false, List, [], ◌∷◌, ◌++◌, refl, ap, sym, ◌∙◌, arith, All, Contains, Option, Some, None, nat_eq, unwrap_or, cond, if◌then◌else◌}
use Rattle.std.specs.Option.{option_and_then}
use Rattle.std.specs.List.{filter_map}
use Rattle.std.specs.Map.{lookup}
use Rattle.std.proofs.lemmas.Bool.Decides.{nat_tests}
use Rattle.vdm_kinds.specs.declared.name.Name.{Name}
use Rattle.abstract_syntax.specs.Values.{ValueTree}
use Rattle.abstract_syntax.specs.ValueCode.{value_code}
use Rattle.abstract_syntax.specs.SameBy.{same_by-decides}
use Rattle.pattern_meaning.specs.Ways.{Way, is_same}
use Rattle.pattern_meaning.specs.Bindings.{Binding, value_in, put, with_pair, with_way, first_of}
use Rattle.pattern_meaning.specs.First.{IsFirst}
use Rattle.pattern_meaning.proofs.Members.{at_head_or, in_nothing}

all_more : (w : Way) (ws : List Way) → with_way [] w ≡ None → All (λ u. with_way [] u ≡ None) ws → All (λ u. with_way [] u ≡ None) (w ∷ ws)
all_more w ws e h zero d l = e
all_more w ws e h (suc k) d l = h k d (omega arith)

all_none : All (λ (u : Way). with_way [] u ≡ None) []
all_none k d l = absurd (omega arith)

no_value : {A : Type 0} {x : A} → None ≡ Some x → ⊥
no_value e = cc

value_of : {A : Type 0} {x y : A} → Some x ≡ Some y → x ≡ y
value_of {x = x} e = ap (λ o. unwrap_or o x) e

first_by : (w : Way) (ws : List Way) (b : Binding) (o : Option Binding) → with_way [] w ≡ o →
    first_of (Rattle.std.specs.List.cons_option o (filter_map (with_way []) ws)) ≡ Some b →
    (first_of (filter_map (with_way []) ws) ≡ Some b → IsFirst ws b) → IsFirst (w ∷ ws) b
first_by w ws b (Some c) e f next = record { before = []; way = w; behind = ws; whole = refl; comes_to = e ∙ f; none_before = all_none }
first_by w ws b None e f next =
    let r = next f in
    record {
      before = w ∷ r.before;
      way = r.way;
      behind = r.behind;
      whole = ap (λ us. w ∷ us) r.whole;
      comes_to = r.comes_to;
      none_before = all_more w r.before e r.none_before;
    }

pub first_is_first : (ws : List Way) (b : Binding) → first_of (filter_map (with_way []) ws) ≡ Some b → IsFirst ws b
first_is_first [] b e = absurd (no_value e)
first_is_first (w ∷ ws) b e = first_by w ws b (with_way [] w) refl e (first_is_first ws b)

none_by : (w : Way) (ws : List Way) (o : Option Binding) → with_way [] w ≡ o →
    first_of (Rattle.std.specs.List.cons_option o (filter_map (with_way []) ws)) ≡ None →
    (first_of (filter_map (with_way []) ws) ≡ None → (u : Way) → Contains ws u → with_way [] u ≡ None) →
    (u : Way) → Contains (w ∷ ws) u → with_way [] u ≡ None
none_by w ws (Some c) e f next u h = absurd (no_value (sym f))
none_by w ws None e f next u h = ⊎_elim (λ s. ap (with_way []) s ∙ e) (λ k. next f u k) (at_head_or w u ws h)

-- where there is no first binding, no way comes to one
pub none_is_none : (ws : List Way) → first_of (filter_map (with_way []) ws) ≡ None → (u : Way) → Contains ws u → with_way [] u ≡ None
none_is_none [] e u h = absurd (in_nothing u h)
none_is_none (w ∷ ws) e u h = none_by w ws (with_way [] w) refl e (none_is_none ws) u h

-- ---- what a way comes to

same_name : (n : ℕ) → nat_eq n n ≡ true
same_name n = grind (arith, nat_tests)

by_test : (t : Bool) (q : Name × ValueTree) (b : Binding) (p : Name × ValueTree) (name : Name) (v : ValueTree) →
    (value_in b name ≡ Some v → value_in (b ++ p ∷ []) name ≡ Some v) → cond t (Some q.1) (value_in b name) ≡ Some v →
    cond t (Some q.1) (value_in (b ++ p ∷ []) name) ≡ Some v
by_test true q b p name v next e = e
by_test false q b p name v next e = next e

looked_past : (b : Binding) (p : Name × ValueTree) (name : Name) (v : ValueTree) → value_in b name ≡ Some v → value_in (b ++ p ∷ []) name ≡ Some v
looked_past [] p name v e = absurd (no_value e)
looked_past (q ∷ b) p name v e = by_test (nat_eq q.0.0 name.0) q b p name v (λ f. looked_past b p name v f) e

last_by_test : (t : Bool) (q : Name × ValueTree) (b : Binding) (p : Name × ValueTree) → (value_in b p.0 ≡ None → value_in (b ++ p ∷ []) p.0 ≡ Some p.1) →
    cond t (Some q.1) (value_in b p.0) ≡ None → cond t (Some q.1) (value_in (b ++ p ∷ []) p.0) ≡ Some p.1
last_by_test true q b p next e = absurd (no_value (sym e))
last_by_test false q b p next e = next e

put_last : (b : Binding) (p : Name × ValueTree) → value_in b p.0 ≡ None → value_in (b ++ p ∷ []) p.0 ≡ Some p.1
put_last [] p e = ap (λ t. cond t (Some p.1) None) (same_name p.0.0)
put_last (q ∷ b) p e = last_by_test (nat_eq q.0.0 p.0.0) q b p (λ f. put_last b p f) e

-- one pair more: what was bound stays, and the pair is bound
pub record Puts (b c : Binding) (p : Name × ValueTree) : Type 0 where
  pub kept : (name : Name) (v : ValueTree) → value_in b name ≡ Some v → value_in c name ≡ Some v
  pub there : value_in c p.0 ≡ Some p.1

puts_same : (b c : Binding) (p : Name × ValueTree) (v : ValueTree) (t : Bool) → value_in b p.0 ≡ Some v → is_same v p.1 ≡ t →
    (if t then Some b else None) ≡ Some c → Puts b c p
puts_same b c p v true e s f = record {
  kept = λ name u g. ap (λ d. value_in d name) (sym (value_of f)) ∙ g;
  there = ap (λ d. value_in d p.0) (sym (value_of f)) ∙ e ∙ ap Some ((same_by-decides value_code v p.1).0 s);
}
puts_same b c p v false e s f = absurd (no_value f)

puts_by : (b c : Binding) (p : Name × ValueTree) (o : Option ValueTree) → value_in b p.0 ≡ o → put b p o ≡ Some c → Puts b c p
puts_by b c p None e f = record {
  kept = λ name v g. ap (λ d. value_in d name) (sym (value_of f)) ∙ looked_past b p name v g;
  there = ap (λ d. value_in d p.0) (sym (value_of f)) ∙ put_last b p e;
}
puts_by b c p (Some v) e f = puts_same b c p v (is_same v p.1) e refl f

-- a whole way: what was bound stays, and each pair is bound
pub record PutsAll (b c : Binding) (w : Way) : Type 0 where
  pub kept : (name : Name) (v : ValueTree) → value_in b name ≡ Some v → value_in c name ≡ Some v
  pub there : (p : Name × ValueTree) → Contains w p → value_in c p.0 ≡ Some p.1

puts_more : (b c : Binding) (p : Name × ValueTree) (w : Way) (o : Option Binding) → with_pair b p ≡ o → option_and_then (λ d. with_way d w) o ≡ Some c →
    ((d : Binding) → with_way d w ≡ Some c → PutsAll d c w) → PutsAll b c (p ∷ w)
puts_more b c p w None e f next = absurd (no_value f)
puts_more b c p w (Some d) e f next =
    let one = puts_by b d p (value_in b p.0) refl e in
    let more = next d f in
    record {
      kept = λ name v g. more.kept name v (one.kept name v g);
      there = λ q h. ⊎_elim (λ s. ap (λ r. value_in c r.0) s ∙ more.kept p.0 p.1 one.there ∙ ap (λ r. Some r.1) (sym s)) (λ k. more.there q k)
          (at_head_or p q w h);
    }

pub puts_all : (w : Way) (b c : Binding) → with_way b w ≡ Some c → PutsAll b c w
puts_all [] b c e = record {
  kept = λ name v g. ap (λ d. value_in d name) (sym (value_of e)) ∙ g;
  there = λ p h. absurd (in_nothing p h);
}
puts_all (p ∷ w) b c e = puts_more b c p w (with_pair b p) refl e (λ d f. puts_all w d c f)
