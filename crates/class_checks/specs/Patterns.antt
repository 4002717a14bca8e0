-- What patterns bind, with its forms, and what is refused of the records in them.
use Rattle.std.specs.Prelude.{ℕ, zero, suc, Bool, true, false, nat_eq, if◌then◌else◌, List, [], ◌∷◌, ◌++◌, Option, Some, None, map}
use Rattle.vdm_kinds.specs.declared.name.Name.{Name}
use Rattle.vdm_kinds.specs.declared.name_at.TypeName.{TypeName}
use Rattle.vdm_kinds.specs.declared.spec_fault.SpecFault.{SpecFault}
use Rattle.abstract_syntax.specs.Expressions.{
  PatternTree,
  PatternTrees,
  MapletPatterns,
  any_value,
  bound,
  literal_pattern,
  equal_to,
  set_pattern,
  sequence_pattern,
  map_pattern,
  empty_map_pattern,
  tuple_pattern,
  record_pattern,
  concatenation_pattern,
  no_patterns,
  one_pattern,
  no_maplet_patterns,
  one_maplet_pattern,
}
use Rattle.abstract_syntax.specs.Classes.{FieldTree, SpecTree}
use Rattle.pattern_meaning.specs.RecordTypes.{RecordType}
use Rattle.form_meaning.specs.Forms.{FormTree, any_form, no_form, AltTree, tuple_alt, record_alt, FormTrees, no_forms, one_form, form_count, only}
use Rattle.form_meaning.specs.Parts.{element, item, key, value, form_at, taken}
use Rattle.class_checks.specs.Operators.{any_set, any_sequence, any_map, sequence_with}
use Rattle.class_checks.specs.Scopes.{LocalForm, ScopeTree, inside}
use Rattle.class_checks.specs.TypeNames.{form_of, opened, meets, record_type, fields_made, record_faults}

abbrev pub pattern_count : PatternTrees → ℕ
pattern_count no_patterns = 0
pattern_count (one_pattern p ps) = suc (pattern_count ps)

-- a part of a tuple of this length
abbrev pub part_of_length : ℕ → ℕ → AltTree → FormTree
part_of_length n i (tuple_alt parts) = if nat_eq n (form_count parts) then form_at i parts else no_form
part_of_length n i _ = no_form

-- a tuple of so many parts of any form
abbrev pub any_parts : ℕ → FormTrees
any_parts zero = no_forms
any_parts (suc n) = one_form any_form (any_parts n)

abbrev pub tuple_of : ℕ → FormTree
tuple_of n = only (tuple_alt (any_parts n))

-- ---- lists of forms and of bindings

abbrev pub first_form : List FormTree → FormTree
first_form [] = any_form
first_form (form ∷ forms) = form

abbrev pub later_forms : List FormTree → List FormTree
later_forms [] = []
later_forms (form ∷ forms) = forms

abbrev pub with_each : ScopeTree → List (List LocalForm) → List ScopeTree
with_each scope [] = []
with_each scope ([] ∷ others) = with_each scope others
with_each scope ((found ∷ more) ∷ others) = inside scope (found ∷ more) ∷ with_each scope others

abbrev pub scope_if : Bool → ScopeTree → List ScopeTree
scope_if true scope = scope ∷ []
scope_if false scope = []

abbrev pub some_empty : List (List LocalForm) → Bool
some_empty [] = false
some_empty ([] ∷ others) = true
some_empty ((found ∷ more) ∷ others) = some_empty others

-- The scopes in which what stands behind several patterns is checked: one for all that bind nothing, and one for each other.
abbrev pub scopes_behind : ScopeTree → List (List LocalForm) → List ScopeTree
scopes_behind scope bindings = scope_if (some_empty bindings) scope ++ with_each scope bindings

module _ (spec : SpecTree) where
  -- the parts of what is matched, where some of it fits; where nothing does they may have any form
  abbrev pub parts_if : Bool → (AltTree → FormTree) → FormTree → FormTree
  parts_if true take form = opened spec (taken take form)
  parts_if false take form = any_form

  abbrev pub parts_of : FormTree → (AltTree → FormTree) → FormTree → FormTree
  parts_of want take form = parts_if (meets spec form want) take form

  abbrev pub elements_of : FormTree → FormTree
  elements_of form = parts_of any_set element form

  abbrev pub items_of : FormTree → FormTree
  items_of form = parts_of any_sequence item form

  -- ---- records

  abbrev pub fields_if : Bool → List FieldTree → Name → List FormTree
  fields_if true fields class = map (λ (f : FieldTree). form_of spec class f.declared) fields
  fields_if false fields class = []

  abbrev pub made_fields : FormTree → Option RecordType → List FormTree
  made_fields form None = []
  made_fields form (Some made) =
      fields_if (meets spec form (only (record_alt made.class made.name))) (fields_made spec (Some made)) made.class

  -- the forms of the fields of a record pattern; what no field stands for may have any form
  abbrev pub record_parts : Name → FormTree → TypeName → List FormTree
  record_parts class form t = made_fields form (record_type spec class t)

  -- ---- what is bound, in text order

  abbrev mutual
    pub binds : Name → FormTree → PatternTree → List LocalForm
    binds class form (any_value place) = []
    binds class form (bound name place) = record { name = name; form = form } ∷ []
    binds class form (literal_pattern value place) = []
    binds class form (equal_to inner place) = []
    binds class form (set_pattern elements place) = binds_each class (elements_of form) elements
    binds class form (sequence_pattern items place) = binds_each class (items_of form) items
    binds class form (map_pattern maplets place) = binds_maplets class (parts_of any_map key form) (parts_of any_map value form) maplets
    binds class form (empty_map_pattern place) = []
    binds class form (tuple_pattern parts place) = binds_parts class form (pattern_count parts) 0 parts
    binds class form (record_pattern t fields place) = binds_fields class (record_parts class form t) fields
    binds class form (concatenation_pattern parts place) = binds_each class (sequence_with (items_of form)) parts

    -- all of them of one form
    pub binds_each : Name → FormTree → PatternTrees → List LocalForm
    binds_each class form no_patterns = []
    binds_each class form (one_pattern p ps) = binds class form p ++ binds_each class form ps

    pub binds_maplets : Name → FormTree → FormTree → MapletPatterns → List LocalForm
    binds_maplets class keys values no_maplet_patterns = []
    binds_maplets class keys values (one_maplet_pattern p q rest) =
        binds class keys p ++ (binds class values q ++ binds_maplets class keys values rest)

    -- the parts of a tuple of so many, behind so many others
    pub binds_parts : Name → FormTree → ℕ → ℕ → PatternTrees → List LocalForm
    binds_parts class form n i no_patterns = []
    binds_parts class form n i (one_pattern p ps) =
        binds class (parts_of (tuple_of n) (part_of_length n i) form) p ++ binds_parts class form n (suc i) ps

    -- each of its own form
    pub binds_fields : Name → List FormTree → PatternTrees → List LocalForm
    binds_fields class forms no_patterns = []
    binds_fields class forms (one_pattern p ps) = binds class (first_form forms) p ++ binds_fields class (later_forms forms) ps

  -- ---- what is refused of the names of records

  abbrev mutual
    pub pattern_faults : Name → PatternTree → List SpecFault
    pattern_faults class (any_value place) = []
    pattern_faults class (bound name place) = []
    pattern_faults class (literal_pattern value place) = []
    pattern_faults class (equal_to inner place) = []
    pattern_faults class (set_pattern elements place) = patterns_faults class elements
    pattern_faults class (sequence_pattern items place) = patterns_faults class items
    pattern_faults class (map_pattern maplets place) = maplets_faults class maplets
    pattern_faults class (empty_map_pattern place) = []
    pattern_faults class (tuple_pattern parts place) = patterns_faults class parts
    pattern_faults class (record_pattern t fields place) =
        record_faults spec class t (pattern_count fields) place ++ patterns_faults class fields
    pattern_faults class (concatenation_pattern parts place) = patterns_faults class parts

    pub patterns_faults : Name → PatternTrees → List SpecFault
    patterns_faults class no_patterns = []
    patterns_faults class (one_pattern p ps) = pattern_faults class p ++ patterns_faults class ps

    pub maplets_faults : Name → MapletPatterns → List SpecFault
    maplets_faults class no_maplet_patterns = []
    maplets_faults class (one_maplet_pattern p q rest) = pattern_faults class p ++ (pattern_faults class q ++ maplets_faults class rest)

  -- ---- several patterns for one value

  -- what each binds, where it binds something
  abbrev pub bindings_of : Name → FormTree → PatternTrees → List (List LocalForm)
  bindings_of class form no_patterns = []
  bindings_of class form (one_pattern p ps) = binds class form p ∷ bindings_of class form ps
