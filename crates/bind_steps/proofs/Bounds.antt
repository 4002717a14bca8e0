-- What is bound, by the limits of size.
use Rattle.std.proofs.Common.{◌≡◌, ℕ, zero, suc, ◌<◌, ◌&&◌, Bool, true, false, if◌then◌else◌, ⊎_elim, [], ◌∷◌, ◌++◌, length, get_or, Option, Some, None, IsSomeAnd, refl, ap, sym, subst, ◌∙◌, le-leb, arith}
use Rattle.std.proofs.lemmas.Bool.{lt-leb}
use Rattle.vdm_kinds.specs.declared.name.Name.{Name}
use Rattle.vdm_kinds.specs.declared.place.Place.{Place}
use Rattle.vdm_kinds.specs.declared.run_fault.RunFault.{RunFault}
use Rattle.vdm_kinds.specs.declared.run_fault.RunFault.TheVariants.{SizeLimit}
use Rattle.abstract_syntax.specs.Values.{ValueTree, nodes_of, depth_of}
use Rattle.abstract_syntax.specs.ValueSets.{IsWithinLimits as IsValueWithinLimits, IsTooLarge}
use Rattle.pattern_meaning.specs.Bindings.{Binding, IsWithinLimits, IsPastLimits}
use Rattle.value_operators.specs.Outcomes.{is_within_limits}
use Rattle.node_meaning.specs.Envs.{Locals, bound_locals}
use Rattle.node_meaning.specs.Matching.{are_within_limits, bound_or}
use Rattle.node_meaning.specs.Tasks.{Code, fault}

-- ---- past the limits of size

left_fails : (a b : Bool) → a ≡ false → (a && b) ≡ false
left_fails true b p = absurd (cc)
left_fails false b p = refl

right_fails : (a b : Bool) → b ≡ false → (a && b) ≡ false
right_fails true b p = p
right_fails false b p = refl

past : (v : ValueTree) → IsTooLarge v → is_within_limits v ≡ false
past v large = ⊎_elim
    (λ (l : 200000 < nodes_of v). left_fails _ _ (lt-leb (nodes_of v) 200000 l))
    (λ (l : 500 < depth_of v). right_fails _ _ (lt-leb (depth_of v) 500 l))
    large

one_past : (b : Binding) (k : ℕ) (p : Name × ValueTree) → k < length b → get_or b k p ≡ p → IsTooLarge p.1 → are_within_limits b ≡ false
one_past [] k p l e large = absurd (omega arith)
one_past (q ∷ qs) zero p l e large = left_fails _ _ (past q.1 (subst (λ (x : Name × ValueTree). IsTooLarge x.1) (sym e) large))
one_past (q ∷ qs) (suc k) p l e large = right_fails _ _ (one_past qs k p (omega arith) e large)

if_false : {A : Type 0} (b : Bool) (x y : A) → b ≡ false → y ≡ (if b then x else y)
if_false true x y e = absurd (cc)
if_false false x y e = refl

-- where one was found that is past the limits, the node fails
pub bound_past : (place : Place) (matched missed : Locals → Code) (found : Option Binding) (kind : RunFault) (locals : Locals) → kind ≡ SizeLimit
    → IsSomeAnd found IsPastLimits → fault kind place ≡ bound_or place found matched missed locals
bound_past place matched missed None kind locals is p = absurd p
bound_past place matched missed (Some b) kind locals is p =
    ap (λ (k : RunFault). fault k place) is
    ∙ if_false (are_within_limits b) (matched (locals ++ bound_locals b)) (fault SizeLimit place)
    (one_past b p.there.0 p.pair p.there.1 p.there.2 p.large)

-- ---- within them

both : (a b : Bool) → a ≡ true → b ≡ true → (a && b) ≡ true
both true b p q = q
both false b p q = p

within : (v : ValueTree) → IsValueWithinLimits v → is_within_limits v ≡ true
within v w = both _ _ (le-leb (nodes_of v) 200000 w.0) (le-leb (depth_of v) 500 w.1)

all_within : (b : Binding) → IsWithinLimits b → are_within_limits b ≡ true
all_within [] w = refl
all_within (p ∷ ps) w = both _ _ (within p.1 (w 0 p (omega arith))) (all_within ps (λ k d l. w (suc k) d (omega arith)))

if_true : {A : Type 0} (b : Bool) (x y : A) → b ≡ true → x ≡ (if b then x else y)
if_true true x y e = refl
if_true false x y e = absurd (cc)

-- where a binding was found, what it binds stands behind the locals
pub bound_where_found : (place : Place) (matched missed : Locals → Code) (found : Option Binding) (b : Binding) (old new : Locals) → Some b ≡ found
    → IsWithinLimits b → new ≡ old ++ bound_locals b → matched new ≡ bound_or place found matched missed old
bound_where_found place matched missed found b old new is w e =
    ap matched e ∙ if_true (are_within_limits b) (matched (old ++ bound_locals b)) (fault SizeLimit place) (all_within b w)
    ∙ ap (λ (o : Option Binding). bound_or place o matched missed old) is

-- ---- a name alone, which is bound to a copy of the value

pub name_past : (place : Place) (matched missed : Locals → Code) (name : Name) (v u : ValueTree) (kind : RunFault) (locals : Locals) → u ≡ v → kind ≡ SizeLimit
    → IsTooLarge u → fault kind place ≡ bound_or place (Some ((name, v) ∷ [])) matched missed locals
name_past place matched missed name v u kind locals copied is large =
    ap (λ (k : RunFault). fault k place) is
    ∙ if_false (are_within_limits ((name, u) ∷ [])) (matched (locals ++ bound_locals ((name, u) ∷ []))) (fault SizeLimit place)
    (left_fails (is_within_limits u) true (past u large))
    ∙ ap (λ (x : ValueTree). bound_or place (Some ((name, x) ∷ [])) matched missed locals) copied

pub name_within : (place : Place) (matched missed : Locals → Code) (name : Name) (v u w : ValueTree) (old new : Locals) → u ≡ v → w ≡ u → IsValueWithinLimits u
    → new ≡ old ++ bound_locals ((name, w) ∷ []) → matched new ≡ bound_or place (Some ((name, v) ∷ [])) matched missed old
name_within place matched missed name v u w old new copied is small e =
    ap matched e
    ∙ ap (λ (x : ValueTree). matched (old ++ bound_locals ((name, x) ∷ []))) is
    ∙ if_true (are_within_limits ((name, u) ∷ [])) (matched (old ++ bound_locals ((name, u) ∷ []))) (fault SizeLimit place)
    (both (is_within_limits u) true (within u small) refl)
    ∙ ap (λ (x : ValueTree). bound_or place (Some ((name, x) ∷ [])) matched missed old) copied
