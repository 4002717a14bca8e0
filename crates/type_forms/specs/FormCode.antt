-- The code of a form, by which a proof tells forms apart: a tree of numbers with the kind's number first.
use Rattle.std.specs.Prelude.{◌≡◌, ℕ, zero, suc, refl}
use Rattle.std.specs.Coded.{Coded, code_by}
use Rattle.std.proofs.Common.{ap}
use Rattle.vdm_kinds.specs.declared.name.Name.{Name}
use Rattle.form_meaning.specs.Forms.{
  FormTree,
  any_form,
  no_form,
  one_of,
  AltTree,
  nil_alt,
  boolean_alt,
  number_alt,
  character_alt,
  quote_alt,
  token_alt,
  tuple_alt,
  record_alt,
  sequence_alt,
  set_alt,
  map_alt,
  object_alt,
  named_alt,
  AltTrees,
  no_alts,
  one_alt,
  FormTrees,
  no_forms,
  one_form,
}
use base.Stored.{Gv, gnil, gnum, gcons}

abbrev names_to_code : Name → Name → Gv
names_to_code class name = gcons (gnum class.0) (gnum name.0)

abbrev mutual
  to_code : FormTree → Gv
  to_code any_form = gcons (gnum 0) gnil
  to_code no_form = gcons (gnum 1) gnil
  to_code (one_of alternatives) = gcons (gnum 2) (alts_to_code alternatives)

  alt_to_code : AltTree → Gv
  alt_to_code nil_alt = gcons (gnum 0) gnil
  alt_to_code boolean_alt = gcons (gnum 1) gnil
  alt_to_code number_alt = gcons (gnum 2) gnil
  alt_to_code character_alt = gcons (gnum 3) gnil
  alt_to_code (quote_alt name) = gcons (gnum 4) (gnum name.0)
  alt_to_code token_alt = gcons (gnum 5) gnil
  alt_to_code (tuple_alt parts) = gcons (gnum 6) (forms_to_code parts)
  alt_to_code (record_alt class name) = gcons (gnum 7) (names_to_code class name)
  alt_to_code (sequence_alt items) = gcons (gnum 8) (gcons (to_code items) gnil)
  alt_to_code (set_alt elements) = gcons (gnum 9) (gcons (to_code elements) gnil)
  alt_to_code (map_alt keys values) = gcons (gnum 10) (gcons (to_code keys) (gcons (to_code values) gnil))
  alt_to_code (object_alt class) = gcons (gnum 11) (gnum class.0)
  alt_to_code (named_alt class name) = gcons (gnum 12) (names_to_code class name)

  alts_to_code : AltTrees → Gv
  alts_to_code no_alts = gnil
  alts_to_code (one_alt alternative alternatives) = gcons (alt_to_code alternative) (alts_to_code alternatives)

  forms_to_code : FormTrees → Gv
  forms_to_code no_forms = gnil
  forms_to_code (one_form form forms) = gcons (to_code form) (forms_to_code forms)

-- ---- and back

abbrev number_at : Gv → ℕ
number_at gnil = 0
number_at (gnum n) = n
number_at (gcons a b) = 0

abbrev first : Gv → Gv
first gnil = gnil
first (gnum n) = gnil
first (gcons a b) = a

abbrev rest : Gv → Gv
rest gnil = gnil
rest (gnum n) = gnil
rest (gcons a b) = b

abbrev name_at : Gv → Name
name_at g = record { 0 = number_at g }

abbrev first_form : FormTrees → FormTree
first_form no_forms = no_form
first_form (one_form form forms) = form

abbrev later_forms : FormTrees → FormTrees
later_forms no_forms = no_forms
later_forms (one_form form forms) = forms

-- by the kind's number, from the alternatives that the rest of the code has
abbrev form_of_kind : ℕ → AltTrees → FormTree
form_of_kind zero alternatives = any_form
form_of_kind (suc zero) alternatives = no_form
form_of_kind (suc (suc n)) alternatives = one_of alternatives

-- by the kind's number, from the rest of the code, and from that rest as a list of forms
abbrev alt_of_kind : ℕ → Gv → FormTrees → AltTree
alt_of_kind zero g forms = nil_alt
alt_of_kind (suc zero) g forms = boolean_alt
alt_of_kind (suc (suc zero)) g forms = number_alt
alt_of_kind (suc (suc (suc zero))) g forms = character_alt
alt_of_kind (suc (suc (suc (suc zero)))) g forms = quote_alt (name_at g)
alt_of_kind (suc (suc (suc (suc (suc zero))))) g forms = token_alt
alt_of_kind (suc (suc (suc (suc (suc (suc zero)))))) g forms = tuple_alt forms
alt_of_kind (suc (suc (suc (suc (suc (suc (suc zero))))))) g forms = record_alt (name_at (first g)) (name_at (rest g))
alt_of_kind (suc (suc (suc (suc (suc (suc (suc (suc zero)))))))) g forms = sequence_alt (first_form forms)
alt_of_kind (suc (suc (suc (suc (suc (suc (suc (suc (suc zero))))))))) g forms = set_alt (first_form forms)
alt_of_kind (suc (suc (suc (suc (suc (suc (suc (suc (suc (suc zero)))))))))) g forms = map_alt (first_form forms) (first_form (later_forms forms))
alt_of_kind (suc (suc (suc (suc (suc (suc (suc (suc (suc (suc (suc zero))))))))))) g forms = object_alt (name_at g)
alt_of_kind (suc (suc (suc (suc (suc (suc (suc (suc (suc (suc (suc (suc n)))))))))))) g forms =
    named_alt (name_at (first g)) (name_at (rest g))

-- what a code may be of
record Meant : Type 0 where
  form : FormTree
  alternative : AltTree
  forms : FormTrees
  alternatives : AltTrees

abbrev from_code : Gv → Meant
from_code gnil = record { form = any_form; alternative = nil_alt; forms = no_forms; alternatives = no_alts }
from_code (gnum n) = record { form = any_form; alternative = nil_alt; forms = no_forms; alternatives = no_alts }
from_code (gcons a b) = record {
  form = form_of_kind (number_at a) (from_code b).alternatives;
  alternative = alt_of_kind (number_at a) b (from_code b).forms;
  forms = one_form (from_code a).form (from_code b).forms;
  alternatives = one_alt (from_code a).alternative (from_code b).alternatives;
}

mutual
  pub from_code-to_code : (form : FormTree) → (from_code (to_code form)).form ≡ form
  from_code-to_code any_form = refl
  from_code-to_code no_form = refl
  from_code-to_code (one_of alternatives) = ap one_of (from_code-alts_to_code alternatives)

  from_code-alt_to_code : (alternative : AltTree) → (from_code (alt_to_code alternative)).alternative ≡ alternative
  from_code-alt_to_code nil_alt = refl
  from_code-alt_to_code boolean_alt = refl
  from_code-alt_to_code number_alt = refl
  from_code-alt_to_code character_alt = refl
  from_code-alt_to_code (quote_alt name) = refl
  from_code-alt_to_code token_alt = refl
  from_code-alt_to_code (tuple_alt parts) = ap tuple_alt (from_code-forms_to_code parts)
  from_code-alt_to_code (record_alt class name) = refl
  from_code-alt_to_code (sequence_alt items) = ap sequence_alt (from_code-to_code items)
  from_code-alt_to_code (set_alt elements) = ap set_alt (from_code-to_code elements)
  from_code-alt_to_code (map_alt keys values) = λ i. map_alt (from_code-to_code keys i) (from_code-to_code values i)
  from_code-alt_to_code (object_alt class) = refl
  from_code-alt_to_code (named_alt class name) = refl

  from_code-alts_to_code : (alternatives : AltTrees) → (from_code (alts_to_code alternatives)).alternatives ≡ alternatives
  from_code-alts_to_code no_alts = refl
  from_code-alts_to_code (one_alt alternative alternatives) =
      λ i. one_alt (from_code-alt_to_code alternative i) (from_code-alts_to_code alternatives i)

  from_code-forms_to_code : (forms : FormTrees) → (from_code (forms_to_code forms)).forms ≡ forms
  from_code-forms_to_code no_forms = refl
  from_code-forms_to_code (one_form form forms) =
      λ i. one_form (from_code-to_code form i) (from_code-forms_to_code forms i)

-- a tree of numbers is its own code
abbrev code_of_codes : Coded Gv
code_of_codes = record { code = λ g. g; inj = λ x y p. p }

abbrev pub form_code : Coded FormTree
form_code = code_by Gv code_of_codes to_code (λ g. (from_code g).form) from_code-to_code
