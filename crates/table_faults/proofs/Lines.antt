-- The ancestors of classes, and flags of nodes.
use Rattle.std.proofs.Common.{◌≡◌, ℕ, zero, suc, ◌+◌, ◌<◌, ◌≤◌, ◌⊎◌, inl, inr, ⊎_elim, Bool, true, false, ◌||◌, nat_eq, eqb-true, eq-eqb, is_some, List, [], ◌∷◌, flat_map, length, get_or, Option, Some, None, option_map, slice_get, refl, ap, sym, subst, ◌∙◌, arith}
use Rattle.std.specs.List.{list_any}
use Rattle.std.specs.Option.{option_and_then}
use Rattle.std.proofs.lemmas.List.{get_or_past, length-map}
use Rattle.std.proofs.lemmas.List.FromFn.{get_or-map-range_with_len, length-map-range_with_len}
use Rattle.std.proofs.lemmas.Option.{slice_get_past, slice_get_read, slice_get-map, get_or_from_slice_get}
use Rattle.std.specs.Borrow.{Bor}
use Rattle.std.specs.Prelude.{Vec}
use Rattle.std.specs.Slice.{IsItemAt}
use Rattle.vdm_kinds.specs.declared.name.Name.{Name}
use Rattle.abstract_syntax.specs.Classes.{ClassTree, SpecTree}
use Rattle.graph_cycles.specs.Graphs.{Graph, graph_of, successors, leads, is_on_cycle, is_in, cycles_of}
use Rattle.class_meaning.specs.declared.ask.Ask.TheVariants.{AsType}
use Rattle.class_meaning.specs.Classes.{classes, class_at, class_graph, superclass_numbers}
use Rattle.class_meaning.specs.Ancestors.{walk, firsts, ancestors}
use Rattle.class_meaning.specs.Members.{Member, kind_of, own}
use Rattle.class_meaning.specs.declared.ask.MemberKind.{MemberKind}
use Rattle.class_index.specs.declared.member_at.MemberAt.{MemberAt}
use Rattle.class_index.specs.Answers.{IsAnswer}
use Rattle.class_meaning.specs.Found.{own_in}
use Rattle.class_meaning.specs.Faults.{has_type, in_circle}
use Rattle.class_meaning.specs.TypeGraph.{type_graph}
use Rattle.ancestor_lines.specs.Lines.{AreLines}

below_or_not : (a b : ℕ) → (a < b) ⊎ (b ≤ a)
below_or_not a zero = inr (omega arith)
below_or_not zero (suc b) = inl (omega arith)
below_or_not (suc a) (suc b) = ⊎_elim (λ (h : a < b). inl (omega arith)) (λ (h : b ≤ a). inr (omega arith)) (below_or_not a b)

-- ---- flags

no_way : (n : ℕ) (g : Graph) (a b : ℕ) → successors g a ≡ [] → leads n g a b ≡ false
no_way zero g a b none = refl
no_way (suc n) g a b none = ap (list_any (λ (next : ℕ). nat_eq next b || leads n g next b)) none

pub flag_is : (g : Graph) (flags : List Bool) (k : ℕ) → flags ≡ cycles_of g → get_or flags k false ≡ is_on_cycle g k
flag_is g flags k are = ap (λ (bs : List Bool). get_or bs k false) are ∙ ⊎_elim
    (λ (h : k < length g).
    let same : 0 + k ≡ k = omega arith in
    get_or-map-range_with_len (is_on_cycle g) 0 (length g) k k false h same)
    (λ (h : length g ≤ k).
    let past : length (cycles_of g) ≤ k = subst (λ (n : ℕ). n ≤ k) (sym (length-map-range_with_len (is_on_cycle g) 0 (length g))) h in
    get_or_past (cycles_of g) k false past ∙ sym (no_way (length g) g k k (get_or_past g k [] h)))
    (below_or_not k (length g))

-- ---- lines of ancestors

not_both : {b : Bool} {A : Type 0} → b ≡ true → b ≡ false → A
not_both t f = let e : true ≡ false = sym t ∙ f in absurd (cc)

or_left : (a b : Bool) → a ≡ true → (a || b) ≡ true
or_left true b t = refl
or_left false b t = not_both t refl

or_right : (a b : Bool) → b ≡ true → (a || b) ≡ true
or_right true b t = refl
or_right false b t = t

or_cases : (a b : Bool) → (a || b) ≡ true → (a ≡ true) ⊎ (b ≡ true)
or_cases true b t = inl refl
or_cases false b t = inr t

same_test : (a b : Bool) → (a ≡ true → b ≡ true) → (b ≡ true → a ≡ true) → a ≡ b
same_test true b to from = sym (to refl)
same_test false true to from = from refl
same_test false false to from = refl

some_in : (p : ℕ → Bool) (xs : List ℕ) → list_any p xs ≡ true → (x : ℕ) × (list_any (nat_eq x) xs ≡ true) × (p x ≡ true)
some_in p [] t = not_both t refl
some_in p (x ∷ xs) t = ⊎_elim
    (λ here. (x, or_left (nat_eq x x) (list_any (nat_eq x) xs) (eq-eqb x x refl), here))
    (λ later. let r = some_in p xs later in (r.0, or_right (nat_eq r.0 x) (list_any (nat_eq r.0) xs) r.1, r.2))
    (or_cases (p x) (list_any p xs) t)

any_from : (p : ℕ → Bool) (xs : List ℕ) (a : ℕ) → list_any (nat_eq a) xs ≡ true → p a ≡ true → list_any p xs ≡ true
any_from p [] a is t = is
any_from p (x ∷ xs) a is t = ⊎_elim
    (λ here. or_left (p x) (list_any p xs) (subst (λ (y : ℕ). p y ≡ true) (eqb-true a x here) t))
    (λ later. or_right (p x) (list_any p xs) (any_from p xs a later t))
    (or_cases (nat_eq a x) (list_any (nat_eq a) xs) is)

within : (p : ℕ → Bool) (xs ys : List ℕ) → ((b : ℕ) → is_in xs b ≡ is_in ys b) → list_any p xs ≡ true → list_any p ys ≡ true
within p xs ys same t = let r = some_in p xs t in any_from p ys r.0 (sym (same r.0) ∙ r.1) r.2

any_same : (p : ℕ → Bool) (xs ys : List ℕ) → ((b : ℕ) → is_in xs b ≡ is_in ys b) → list_any p xs ≡ list_any p ys
any_same p xs ys same = same_test (list_any p xs) (list_any p ys) (within p xs ys same) (within p ys xs (λ b. sym (same b)))

-- past the last class there is nothing
nothing_past : (spec : SpecTree) (name : Name) (k : ℕ) → length (class_graph spec) ≤ k → has_type spec name k ≡ false
nothing_past spec name k past =
    let few : length (classes spec) ≤ k = subst (λ (n : ℕ). n ≤ k) (length-map (classes spec) (superclass_numbers spec)) past in
    let none : is_some (own_in spec (AsType name) k) ≡ false =
    ap (λ (o : Option ClassTree). is_some (option_and_then (λ class. own class (AsType name)) o)) (slice_get_past (classes spec) k few) in
    let alone : ancestors spec k ≡ k ∷ [] =
    ap (λ (next : List ℕ). firsts (k ∷ flat_map (walk (length (class_graph spec)) (class_graph spec)) next)) (get_or_past (class_graph spec) k [] past) in
    ap (list_any (λ (a : ℕ). is_some (own_in spec (AsType name) a))) alone ∙ ap (λ (b : Bool). b || false) none

pub line_has : (spec : SpecTree) (lines : List (List ℕ)) (name : Name) (k : ℕ) → AreLines (class_graph spec) lines
    → list_any (λ (a : ℕ). is_some (own_in spec (AsType name) a)) (get_or lines k []) ≡ has_type spec name k
line_has spec lines name k are = ⊎_elim
    (λ (h : k < length (class_graph spec)).
    any_same (λ (a : ℕ). is_some (own_in spec (AsType name) a)) (get_or lines k []) (ancestors spec k) (λ b. are.members k b h))
    (λ (h : length (class_graph spec) ≤ k).
    let past : length lines ≤ k = subst (λ (n : ℕ). n ≤ k) (sym are.count) h in
    ap (list_any (λ (a : ℕ). is_some (own_in spec (AsType name) a))) (get_or_past lines k [] past) ∙ sym (nothing_past spec name k h))
    (below_or_not k (length (class_graph spec)))

-- ---- the circle of a type

pub circle_is : (spec : SpecTree) (number : Option ℕ) (i : ℕ) (flag : Bool) → number ≡ Some i → flag ≡ is_on_cycle (type_graph spec) i
    → flag ≡ in_circle spec number
circle_is spec number i flag some is = is ∙ ap (in_circle spec) (sym some)

-- ---- what a class itself has

some_kind : (o : Option Member) (kind : MemberKind) → option_map kind_of o ≡ Some kind → true ≡ is_some o
some_kind None kind e = ap is_some (sym e)
some_kind (Some m) kind e = refl

pub own_is : (spec : SpecTree) (name : Name) (k : ℕ) (class : ClassTree) (found : Option MemberAt) → class_at spec k ≡ Some class
    → IsAnswer class (AsType name) found → is_some found ≡ is_some (own_in spec (AsType name) k)
own_is spec name k class None at is =
    ap is_some (sym is) ∙ ap (λ (o : Option ClassTree). is_some (option_and_then (λ c. own c (AsType name)) o)) (sym at)
own_is spec name k class (Some place) at is =
    some_kind (own class (AsType name)) place.kind is.1
    ∙ ap (λ (o : Option ClassTree). is_some (option_and_then (λ c. own c (AsType name)) o)) (sym at)

-- the line of a number
pub line_at : {A : Type 0} (lines : List (Vec ℕ A)) (k : ℕ) (line : Bor (Vec ℕ A)) → IsItemAt lines k (Some line)
    → line.now.items ≡ get_or (graph_of lines) k []
line_at {A} lines k line h =
    let one : slice_get lines k ≡ Some line.now = slice_get_read lines (length lines) k line.now refl h.3.0 h.1 in
    let all : slice_get (graph_of lines) k ≡ Some line.now.items =
    slice_get-map (λ (list : Vec ℕ A). list.items) lines k ∙ ap (option_map (λ (list : Vec ℕ A). list.items)) one in
    sym (get_or_from_slice_get (graph_of lines) k line.now.items [] all)
