-- Names that hide what was declared, one behind the other.
use Rattle.std.proofs.Common.{◌≡◌, ℕ, ◌+◌, ◌<◌, ◌≤◌, Bool, true, false, ◌||◌, if◌then◌else◌, nat_eq, List, [], ◌∷◌, length, get_or, drop, Option, Some, refl, arith, ap, sym, ◌∙◌}
use Rattle.std.proofs.lemmas.Bool.Decides.{nat_tests}
use Rattle.std.proofs.lemmas.List.{drop_more, drop_all}
use Rattle.vdm_kinds.specs.declared.name.Name.{Name}
use Rattle.abstract_syntax.specs.Classes.{is_same_name}
use Rattle.class_meaning.specs.Faults.{is_among}
use Rattle.spec_checks.specs.Targets.{hidden_by}
use Rattle.shared_names.specs.Held.{Held, is_same, with_name}
use Rattle.stmt_scopes.specs.Standing.{is_held}

equal_either_way : (m n : ℕ) → nat_eq m n ≡ nat_eq n m
equal_either_way m n = grind (arith, nat_tests)

first_or_others : (s t b : Bool) → (if s || t then false else b) ≡ (if t then false else (if s || false then false else b))
first_or_others true true b = refl
first_or_others true false b = refl
first_or_others false true b = refl
first_or_others false false b = refl

-- the first name, and then the others
pub hidden_first : (name : Name) (names : List Name) (declared : Name → Bool)
    → hidden_by (name ∷ names) declared ≡ hidden_by names (hidden_by (name ∷ []) declared)
hidden_first name names declared = λ i other. first_or_others (is_same_name other name) (is_among other names) (declared other) i

held_or_hidden : (s t : Bool) (o : Option Bool) → s ≡ t → is_held (if s then Some false else o) ≡ (if t || false then false else is_held o)
held_or_hidden s true o e = ap (λ (b : Bool). is_held (if b then Some false else o)) e
held_or_hidden s false o e = ap (λ (b : Bool). is_held (if b then Some false else o)) e

-- a name that was not declared hides one that was
pub hidden_in : (name : Name) (held : Held Bool)
    → (λ (other : Name). is_held (with_name name false held other)) ≡ hidden_by (name ∷ []) (λ (other : Name). is_held (held other))
hidden_in name held = λ i other. held_or_hidden (is_same name other) (is_same_name other name) (held other) (equal_either_way name.0 other.0) i

-- ---- one name behind the other

pub hidden_turn : (names : List Name) (i : ℕ) (any : Name) (held later : Held Bool) (whole : Name → Bool) → i < length names
    → later ≡ with_name (get_or names i any) false held
    → hidden_by (drop i names) (λ (other : Name). is_held (held other)) ≡ whole
    → hidden_by (drop (i + 1) names) (λ (other : Name). is_held (later other)) ≡ whole
hidden_turn names i any held later whole below is so_far =
    ap (λ (h : Held Bool). hidden_by (drop (i + 1) names) (λ (other : Name). is_held (h other))) is
    ∙ ap (hidden_by (drop (i + 1) names)) (hidden_in (get_or names i any) held)
    ∙ sym (hidden_first (get_or names i any) (drop (i + 1) names) (λ (other : Name). is_held (held other)))
    ∙ ap (λ (left : List Name). hidden_by left (λ (other : Name). is_held (held other))) (sym (drop_more names i any below))
    ∙ so_far

pub hidden_past : (names : List Name) (i : ℕ) (held : Held Bool) (whole : Name → Bool) → length names ≤ i
    → hidden_by (drop i names) (λ (other : Name). is_held (held other)) ≡ whole → (λ (other : Name). is_held (held other)) ≡ whole
hidden_past names i held whole past so_far =
    ap (λ (left : List Name). hidden_by left (λ (other : Name). is_held (held other))) (sym (drop_all i names past)) ∙ so_far
