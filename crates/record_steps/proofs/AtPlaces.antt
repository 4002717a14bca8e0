-- Values by the places of fields.
use Rattle.std.proofs.Common.{◌≡◌, ℕ, zero, suc, ◌+◌, ◌<◌, ◌≤◌, Bool, true, false, Option, Some, None, option_map, Ok, Err, List, [], ◌∷◌, map, length, drop, get_or, refl, ap, sym, ◌∙◌, arith, add-one, Bor}
use Rattle.std.specs.Prelude.{if◌then◌else◌, set, MatchOption}
use Rattle.vdm_kinds.specs.declared.name.Name.{Name}
use Rattle.vdm_kinds.specs.declared.run_fault.RunFault.TheVariants.{TypeFault}
use Rattle.abstract_syntax.specs.Classes.{FieldTree, is_same_name}
use Rattle.abstract_syntax.specs.Values.{ValueTree}
use Rattle.expr_tree.specs.declared.parts.FieldValue.{FieldValue}
use Rattle.expr_tree.specs.declared.type_def.Field.{Field}
use Rattle.expr_tree.specs.TypeDefView.{field_view}
use Rattle.expr_tree.specs.View.{field_value_trees, field_value_view}
use Rattle.value_operators.specs.Outcomes.{Outcome}
use Rattle.node_meaning.specs.Records.{field_in, field_names, with_field, with_fields_named}
use Rattle.record_steps.specs.Places.{place_from, value_at, with_value}

-- ---- the search for a place

first_dropped : {A B : Type 0} (f : A → B) (xs : List A) (n : ℕ) (x : A) → n < length xs → x ≡ get_or xs n x →
    drop n (map f xs) ≡ f x ∷ drop (n + 1) (map f xs)
first_dropped f [] n x h e = absurd (omega arith)
first_dropped f (y ∷ ys) zero x h e = ap (λ z. f z ∷ map f ys) (sym e)
first_dropped f (y ∷ ys) (suc n) x h e =
    first_dropped f ys n x (omega arith) e ∙ ap (λ k. f x ∷ drop k (map f ys)) (add-one n) ∙
    ap (λ k. f x ∷ drop k (map f (y ∷ ys))) (sym (add-one (suc n)))

module _ (name : Name) where
  next_place : (fields : List Field) (n : ℕ) (f : Field) (b : Bool) → n < length fields → f ≡ get_or fields n f →
      is_same_name name (get_or fields n f).name ≡ b →
      place_from name n (drop n (map field_view fields)) ≡ (if b then Some n else place_from name (n + 1) (drop (n + 1) (map field_view fields)))
  next_place fields n f b h e is =
      ap (place_from name n) (first_dropped field_view fields n f h e) ∙
      ap (λ c. if c then Some n else place_from name (n + 1) (drop (n + 1) (map field_view fields)))
      (ap (λ (g : Field). is_same_name name g.name) e ∙ is)

  pub found_here : (fields : List Field) (n : ℕ) (f : Field) → n < length fields → f ≡ get_or fields n f →
      is_same_name name (get_or fields n f).name ≡ true → place_from name n (drop n (map field_view fields)) ≡ Some n
  found_here fields n f h e is = next_place fields n f true h e is

  pub found_later : (fields : List Field) (n : ℕ) (f : Field) → n < length fields → f ≡ get_or fields n f →
      is_same_name name (get_or fields n f).name ≡ false →
      place_from name n (drop n (map field_view fields)) ≡ place_from name (n + 1) (drop (n + 1) (map field_view fields))
  found_later fields n f h e is = next_place fields n f false h e is

  -- ---- the place, where the first field has the number 0

  abbrev place_in : List FieldTree → Option ℕ
  place_in [] = None
  place_in (field ∷ fields) = if is_same_name name field.name then Some zero else option_map suc (place_in fields)

  shifted : (n : ℕ) (o : Option ℕ) → option_map (λ k. (n + 1) + k) o ≡ option_map (λ k. n + k) (option_map suc o)
  shifted n None = refl
  shifted n (Some k) = ap Some (omega arith)

  from_in : (n : ℕ) (fields : List FieldTree) → place_from name n fields ≡ option_map (λ k. n + k) (place_in fields)
  from_in n [] = refl
  from_in n (field ∷ fields) = by (from_in (n + 1) fields ∙ shifted n (place_in fields)) (is_same_name name field.name)
    where
      by : place_from name (n + 1) fields ≡ option_map (λ k. n + k) (option_map suc (place_in fields)) → (b : Bool) →
          (if b then Some n else place_from name (n + 1) fields) ≡ option_map (λ k. n + k) (if b then Some zero else option_map suc (place_in fields))
      by others true = ap Some (omega arith)
      by others false = others

  from_first : (fields : List FieldTree) → place_from name 0 fields ≡ place_in fields
  from_first fields = from_in 0 fields ∙ same (place_in fields)
    where
      same : (o : Option ℕ) → option_map (λ k. 0 + k) o ≡ o
      same None = refl
      same (Some k) = ap Some (omega arith)

  -- ---- the value at it

  found_value : (fields : List FieldTree) (ws : List ValueTree) → field_in name fields ws ≡ value_at (place_in fields) ws
  found_value [] ws = refl
  found_value (field ∷ fields) [] = none (place_in (field ∷ fields))
    where
      none : (o : Option ℕ) → Err TypeFault ≡ value_at o []
      none None = refl
      none (Some i) = refl
  found_value (field ∷ fields) (w ∷ ws) = by (found_value fields ws) (is_same_name name field.name)
    where
      further : (o : Option ℕ) → value_at o ws ≡ value_at (option_map suc o) (w ∷ ws)
      further None = refl
      further (Some i) = refl

      by : field_in name fields ws ≡ value_at (place_in fields) ws → (b : Bool) →
          (if b then Ok w else field_in name fields ws) ≡ value_at (if b then Some zero else option_map suc (place_in fields)) (w ∷ ws)
      by others true = refl
      by others false = others ∙ further (place_in fields)

  pub field_placed : (fields : List FieldTree) (ws : List ValueTree) (o : Option ℕ) → o ≡ place_from name 0 fields →
      value_at o ws ≡ field_in name fields ws
  field_placed fields ws o e = sym (found_value fields ws ∙ ap (λ p. value_at p ws) (sym (e ∙ from_first fields)))

  -- ---- another value at it

  set_found : (v : ValueTree) (fields : List FieldTree) (ws : List ValueTree) → with_field name v fields ws ≡ with_value v (place_in fields) ws
  set_found v [] ws = refl
  set_found v (field ∷ fields) [] = none (place_in (field ∷ fields))
    where
      none : (o : Option ℕ) → None ≡ with_value v o []
      none None = refl
      none (Some i) = refl
  set_found v (field ∷ fields) (w ∷ ws) = by (set_found v fields ws) (is_same_name name field.name)
    where
      further : (o : Option ℕ) → option_map (λ (vs : List ValueTree). w ∷ vs) (with_value v o ws) ≡ with_value v (option_map suc o) (w ∷ ws)
      further None = refl
      further (Some i) = refl

      by : with_field name v fields ws ≡ with_value v (place_in fields) ws → (b : Bool) →
          (if b then Some (v ∷ ws) else option_map (λ (vs : List ValueTree). w ∷ vs) (with_field name v fields ws)) ≡
          with_value v (if b then Some zero else option_map suc (place_in fields)) (w ∷ ws)
      by others true = refl
      by others false = ap (option_map (λ (vs : List ValueTree). w ∷ vs)) others ∙ further (place_in fields)

  pub with_placed : (v : ValueTree) (fields : List FieldTree) (ws : List ValueTree) (o : Option ℕ) → o ≡ place_from name 0 fields →
      with_value v o ws ≡ with_field name v fields ws
  with_placed v fields ws o e = sym (set_found v fields ws ∙ ap (λ p. with_value v p ws) (sym (e ∙ from_first fields)))

-- what is found at the place is found by the name
pub at_place : (found : Option (Bor ValueTree)) (a b : Outcome) → a ≡ b → MatchOption found (a ≡ Err TypeFault) (λ (v : Bor ValueTree). a ≡ Ok v.now) →
    MatchOption found (b ≡ Err TypeFault) (λ (v : Bor ValueTree). b ≡ Ok v.now)
at_place None a b e h = sym e ∙ h
at_place (Some v) a b e h = sym e ∙ h

-- ---- values by their numbers

pub value_there : (ws : List ValueTree) (i : ℕ) (w : ValueTree) → i < length ws → w ≡ get_or ws i w → value_at (Some i) ws ≡ Ok w
value_there [] i w h e = absurd (omega arith)
value_there (x ∷ xs) zero w h e = ap Ok (sym e)
value_there (x ∷ xs) (suc i) w h e = value_there xs i w (omega arith) e

pub value_past : (ws : List ValueTree) (i : ℕ) → length ws ≤ i → value_at (Some i) ws ≡ Err TypeFault
value_past [] i h = refl
value_past (x ∷ xs) zero h = absurd (omega arith)
value_past (x ∷ xs) (suc i) h = value_past xs i (omega arith)

pub set_there : (v : ValueTree) (ws : List ValueTree) (i : ℕ) → i < length ws → Some (set ws i v) ≡ with_value v (Some i) ws
set_there v [] i h = absurd (omega arith)
set_there v (x ∷ xs) zero h = refl
set_there v (x ∷ xs) (suc i) h = ap (option_map (λ (vs : List ValueTree). x ∷ vs)) (set_there v xs i (omega arith))

pub set_past : (v : ValueTree) (ws : List ValueTree) (i : ℕ) → length ws ≤ i → None ≡ with_value v (Some i) ws
set_past v [] i h = refl
set_past v (x ∷ xs) zero h = absurd (omega arith)
set_past v (x ∷ xs) (suc i) h = ap (option_map (λ (vs : List ValueTree). x ∷ vs)) (set_past v xs i (omega arith))

-- ---- changes that are left, for which nothing is given

pub more_left : (changes : List FieldValue) (fields : List FieldTree) (ws : List ValueTree) → 1 ≤ length changes →
    None ≡ with_fields_named fields (field_names (field_value_trees (map field_value_view changes))) [] ws
more_left [] fields ws h = absurd (omega arith)
more_left (change ∷ changes) fields ws h = refl
