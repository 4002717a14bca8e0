-- What is selected, from what was noted of each kind of values.
use Rattle.std.proofs.Common.{◌≡◌, ℕ, ◌+◌, ◌<◌, ◌≤◌, true, false, if◌then◌else◌, List, [], ◌∷◌, get_or, length, drop, Option, Some, None, option_map, refl, ap, sym, ◌∙◌}
use Rattle.std.proofs.lemmas.List.{drop_more, drop_all}
use Rattle.std.specs.List.{list_any}
use Rattle.vdm_kinds.specs.declared.name.Name.{Name}
use Rattle.vdm_kinds.specs.declared.place.Place.{Place}
use Rattle.vdm_kinds.specs.declared.spec_fault.SpecFault.{SpecFault}
use Rattle.abstract_syntax.specs.Classes.{SpecTree}
use Rattle.form_meaning.specs.Forms.{FormTree, any_form, no_forms, AltTrees, no_alts, one_alt, joined}
use Rattle.type_forms.specs.Tree.{alt_of, alt_trees, form_trees}
use Rattle.type_forms.specs.declared.form.Alt.{Alt}
use Rattle.class_checks.specs.Callees.{
  Callee as CalleeTree,
  Selected as SelectedTree,
  no_member,
  no_field,
  refused_member,
  selected,
  refused_callee,
  selected_unless,
  wants_joined,
  callees_joined,
  Use as UseTree,
  Selection as SelectionTree,
  with_selected,
  unless_refused,
  of_selection,
  settled,
  only_selected,
  refused_too,
  of_alternative,
  among_alternatives,
  selected_callee,
}
use Rattle.class_checks.specs.Results.{spoils, form_unless, first_among}
use Rattle.class_checks.specs.Scopes.{ScopeTree}
use Rattle.check_fields.specs.Below.check_scopes.specs.Told.{first_among-++}
use Rattle.check_calls.specs.Calling.{Called, called, made, Calls}
use Rattle.check_names.specs.Noting.{Note, note, noted_as, first_of_both}
use Rattle.check_calls.specs.Selecting.{Shown, absent, refused_by, found_as, shown_of, ShownAll, all_of, both_called, with_shown, among_shown}
use Rattle.check_calls.specs.declared.callee.Callee.{Callee}
use Rattle.check_calls.proofs.Merging.{first_of_lists, later_first, none_refused}
use Rattle.check_names.proofs.Notes.{unless_any}

-- ---- one kind of values

pub may_not : (first : Option SpecFault) (xs : List SpecFault) (found : CalleeTree) → note None xs ≡ noted_as first true
    → shown_of (selected_unless xs found) ≡ refused_by first
may_not first xs found e =
    ap (λ (n : Note). shown_of (if n.spoiled then refused_member xs else selected found)) e ∙ ap (λ (n : Note). refused_by n.first) e

pub may : (first : Option SpecFault) (xs : List SpecFault) (found : CalleeTree) (c : Callee) → note None xs ≡ noted_as first false
    → Calls None first c found → shown_of (selected_unless xs found) ≡ found_as (made first c)
may first xs found c e calls =
    ap (λ (n : Note). shown_of (if n.spoiled then refused_member xs else selected found)) e ∙ ap found_as calls

-- ---- several

joined_called : (known : Option CalleeTree) (found : CalleeTree)
    → both_called (option_map (called None) known) (called None found) ≡ called None (callees_joined known found)
joined_called None found = refl
joined_called (Some known) found = λ i. record {
  wants = wants_joined known.wants found.wants;
  gives = joined known.result found.result;
  first = first_of_lists known.refusals found.refusals i;
}

one_more : (known : SelectionTree) (more : SelectedTree) → with_shown (all_of known) (shown_of more) ≡ all_of (with_selected known more)
one_more known no_member = refl
one_more known no_field = refl
one_more known (refused_member refusals) = λ i. record {
  found = option_map (called None) known.found;
  refused = first_of_lists known.refusals refusals i;
}
one_more known (selected found) = λ i. record {
  found = Some (joined_called known.found found i);
  refused = first_among None known.refusals;
}

pub all_among : (spec : SpecTree) (scope : ScopeTree) (way : UseTree) (name : Name) (place : Place) (known : SelectionTree) (alternatives : AltTrees)
    → all_of (among_alternatives spec scope way name place known alternatives) ≡ among_shown spec scope way name place (all_of known) alternatives
all_among spec scope way name place known no_alts = refl
all_among spec scope way name place known (one_alt a alternatives) =
    all_among spec scope way name place (with_selected known (of_alternative spec scope way name place a)) alternatives
    ∙ ap (λ (k : ShownAll). among_shown spec scope way name place k alternatives) (sym (one_more known (of_alternative spec scope way name place a)))

-- one alternative after the other
next_alts : (xs : List Alt) (i : ℕ) (x : Alt) → x ≡ get_or xs i x → i < length xs
    → alt_trees (drop i xs) ≡ one_alt (alt_of x) (alt_trees (drop (i + 1) xs))
next_alts xs i x is below = ap alt_trees (drop_more xs i x below) ∙ ap (λ (y : Alt). one_alt (alt_of y) (alt_trees (drop (i + 1) xs))) (sym is)

module _ (spec : SpecTree) (scope : ScopeTree) (way : UseTree) (name : Name) (place : Place) where
  pub among_step : (known next : ShownAll) (xs : List Alt) (i : ℕ) (x : Alt) (whole : ShownAll) → x ≡ get_or xs i x → i < length xs
      → with_shown known (shown_of (of_alternative spec scope way name place (alt_of x))) ≡ next
      → among_shown spec scope way name place known (alt_trees (drop i xs)) ≡ whole
      → among_shown spec scope way name place next (alt_trees (drop (i + 1) xs)) ≡ whole
  among_step known next xs i x whole is below e before =
      ap (λ (s : ShownAll). among_shown spec scope way name place s (alt_trees (drop (i + 1) xs))) (sym e)
      ∙ ap (among_shown spec scope way name place known) (sym (next_alts xs i x is below))
      ∙ before

  pub among_end : (known : ShownAll) (xs : List Alt) (i : ℕ) (whole : ShownAll) → length xs ≤ i
      → among_shown spec scope way name place known (alt_trees (drop i xs)) ≡ whole → whole ≡ known
  among_end known xs i whole past before =
      sym before ∙ ap (λ (ys : List Alt). among_shown spec scope way name place known (alt_trees ys)) (drop_all i xs past)

-- by what the form is known to be
pub selected_known : (spec : SpecTree) (scope : ScopeTree) (way : UseTree) (target_place : Place) (name : Name) (place : Place)
    (form known : FormTree) (before after : Option SpecFault) (c : Callee) → form ≡ known
    → Calls before after c (selected_callee spec scope way target_place name place known)
    → Calls before after c (selected_callee spec scope way target_place name place form)
selected_known spec scope way target_place name place form known before after c e calls =
    ap (λ (f : FormTree). called before (selected_callee spec scope way target_place name place f)) e ∙ calls

-- ---- what is noted of it in the end

abbrev behind : Option SpecFault → Called → Called
behind before found = record { wants = found.wants; gives = found.gives; first = first_of_both before found.first }

later_called : (before : Option SpecFault) (found : CalleeTree) → called before found ≡ behind before (called None found)
later_called before found = λ i. record { wants = found.wants; gives = found.result; first = later_first before found.refusals i }

pub found_calls : (before first after : Option SpecFault) (c : Callee) (found : CalleeTree) → called None found ≡ made first c
    → after ≡ first_of_both before first → Calls before after c found
found_calls before first after c found e f =
    later_called before found ∙ ap (behind before) e ∙ ap (λ (o : Option SpecFault). made o c) (sym f)

pub refused_first : (before first after : Option SpecFault) (c : Callee) (xs : List SpecFault) → first_among None xs ≡ first
    → after ≡ first_of_both before first → form_trees c.wants.items ≡ no_forms → c.result ≡ any_form → Calls before after c (refused_callee xs)
refused_first before first after c xs e f w r = λ i. record {
  wants = sym w i;
  gives = (unless_any (list_any (λ (r : SpecFault). spoils r.kind) xs) ∙ sym r) i;
  first = (later_first before xs ∙ ap (first_of_both before) e ∙ sym f) i;
}

abbrev value_of : {A : Type 0} → A → Option A → A
value_of a None = a
value_of a (Some b) = b

same_some : {A : Type 0} (a b : A) → Some a ≡ Some b → a ≡ b
same_some a b e = ap (value_of a) e

some_apart : {A : Type 0} (a : A) → Some a ≡ None → ⊥
some_apart a e = cc

pub settled_some : (before after : Option SpecFault) (place : Place) (c : Callee) (f : Called) (refused : Option SpecFault) (known : SelectionTree)
    → all_of known ≡ record { found = Some f; refused = refused }
    → ((found : CalleeTree) → called None found ≡ f → Calls before after c found) → Calls before after c (settled place known)
settled_some before after place c f refused known e from = by known.found (ap (λ (s : ShownAll). s.found) e)
  where
    by : (o : Option CalleeTree) → option_map (called None) o ≡ Some f → Calls before after c (of_selection place known o)
    by None x = absurd (some_apart f (sym x))
    by (Some found) x = from found (same_some (called None found) f x)

pub settled_none : (before after : Option SpecFault) (place : Place) (c : Callee) (refused : Option SpecFault) (known : SelectionTree)
    → all_of known ≡ record { found = None; refused = refused }
    → ((others : List SpecFault) → first_among None others ≡ refused → Calls before after c (unless_refused place others))
    → Calls before after c (settled place known)
settled_none before after place c refused known e from = by known.found (ap (λ (s : ShownAll). s.found) e)
  where
    by : (o : Option CalleeTree) → option_map (called None) o ≡ None → Calls before after c (of_selection place known o)
    by None x = from known.refusals (ap (λ (s : ShownAll). s.refused) e)
    by (Some found) x = absurd (some_apart (called None found) x)

-- nothing was refused
pub unless_none : (before after : Option SpecFault) (place : Place) (c : Callee) (others : List SpecFault) → first_among None others ≡ None
    → Calls before after c (unless_refused place []) → Calls before after c (unless_refused place others)
unless_none before after place c others e calls =
    ap (λ (xs : List SpecFault). called before (unless_refused place xs)) (none_refused others e) ∙ calls

-- this was refused first
pub unless_first : (before after : Option SpecFault) (place : Place) (c : Callee) (first : SpecFault) (others : List SpecFault)
    → first_among None others ≡ Some first → ((xs : List SpecFault) → first_among None xs ≡ Some first → Calls before after c (refused_callee xs))
    → Calls before after c (unless_refused place others)
unless_first before after place c first [] e from = absurd (some_apart first (sym e))
unless_first before after place c first (x ∷ xs) e from = from (x ∷ xs) e

-- ---- what is selected of one class

not_found : (k : Called) → found_as k ≡ absent → ⊥
not_found k e = cc

not_refused : (o : Option SpecFault) → refused_by o ≡ absent → ⊥
not_refused o e = cc

found_apart : (k : Called) (o : Option SpecFault) → found_as k ≡ refused_by o → ⊥
found_apart k o e = cc

abbrev first_shown : Option SpecFault → Shown → Option SpecFault
first_shown o (refused_by first) = first
first_shown o absent = o
first_shown o (found_as k) = o

abbrev found_shown : Called → Shown → Called
found_shown k (found_as found) = found
found_shown k absent = k
found_shown k (refused_by first) = k

pub only_refused : (before after : Option SpecFault) (c : Callee) (first : Option SpecFault) (tree : SelectedTree) → shown_of tree ≡ refused_by first
    → ((xs : List SpecFault) → first_among None xs ≡ first → Calls before after c (refused_callee xs)) → Calls before after c (only_selected tree)
only_refused before after c first no_member e from = absurd (not_refused first (sym e))
only_refused before after c first no_field e from = absurd (not_refused first (sym e))
only_refused before after c first (refused_member xs) e from = from xs (ap (first_shown first) e)
only_refused before after c first (selected found) e from = absurd (found_apart (called None found) first e)

pub only_found : (before after : Option SpecFault) (c : Callee) (f : Called) (tree : SelectedTree) → shown_of tree ≡ found_as f
    → ((found : CalleeTree) → called None found ≡ f → Calls before after c found) → Calls before after c (only_selected tree)
only_found before after c f no_member e from = absurd (not_found f (sym e))
only_found before after c f no_field e from = absurd (not_found f (sym e))
only_found before after c f (refused_member xs) e from = absurd (found_apart f (first_among None xs) (sym e))
only_found before after c f (selected found) e from = from found (ap (found_shown f) e)

-- behind what was refused before
pub too_calls : (before middle after : Option SpecFault) (c : Callee) (xs : List SpecFault) (found : CalleeTree) → middle ≡ first_among before xs
    → Calls middle after c found → Calls before after c (refused_too xs found)
too_calls before middle after c xs found e calls = λ i. record {
  wants = ap (λ (k : Called). k.wants) calls i;
  gives = ap (λ (k : Called). k.gives) calls i;
  first = (first_among-++ before xs found.refusals ∙ ap (λ (o : Option SpecFault). first_among o found.refusals) (sym e) ∙ ap (λ (k : Called). k.first) calls) i;
}

-- a member that may be named
pub may_be : (first : Option SpecFault) (xs : List SpecFault) (found : CalleeTree) → note None xs ≡ noted_as first false
    → shown_of (selected_unless xs found) ≡ found_as (called None found)
may_be first xs found e = ap (λ (n : Note). shown_of (if n.spoiled then refused_member xs else selected found)) e

-- its form is known
pub form_kept : (first : Option SpecFault) (xs : List SpecFault) (form : FormTree) → note None xs ≡ noted_as first false → form_unless xs form ≡ form
form_kept first xs form e = ap (λ (n : Note). if n.spoiled then any_form else form) e
