-- Settings and scopes as their trees; and what is told of a check: its form and the first refusal.
use Rattle.std.specs.Prelude.{◌≡◌, List, [], ◌∷◌, ◌++◌, Option}
use Rattle.std.proofs.Common.{refl, ap, sym, ◌∙◌}
use Rattle.vdm_kinds.specs.declared.spec_fault.SpecFault.{SpecFault}
use Rattle.abstract_syntax.specs.Classes.{SpecTree}
use Rattle.form_meaning.specs.Forms.{FormTree}
use Rattle.shared_names.specs.Maps.{held}
use Rattle.spec_table.specs.Tables.{table_spec}
use Rattle.class_checks.specs.Results.{Checked, gives, refusing, after, first_of, first_among}
use Rattle.class_checks.specs.Scopes.{ScopeTree, types_from}
use Rattle.check_scopes.specs.declared.refusals.Refusals.{Refusals}
use Rattle.check_scopes.specs.declared.scope.Scope.{Scope}
use Rattle.check_scopes.specs.declared.setting.Setting.{Setting}

abbrev pub first_in : Refusals → Option SpecFault
first_in refusals = refusals.first

abbrev pub spec_in : Setting → SpecTree
spec_in setting = table_spec setting.table.now

abbrev pub scope_view : Scope → ScopeTree
scope_view scope = record {
  class = scope.class;
  locals = held scope.locals;
  result = scope.result;
  old = scope.old;
  object = scope.object;
  reach = scope.reach;
}

-- the class in which names of types are looked up
abbrev pub types_in : Setting → Rattle.vdm_kinds.specs.declared.name.Name.Name
types_in setting = types_from setting.scope.now.class

-- with other locals
abbrev pub scope_at : Setting → (Rattle.vdm_kinds.specs.declared.name.Name.Name → Option FormTree) → ScopeTree
scope_at setting locals = record {
  class = setting.scope.now.class;
  locals = locals;
  result = setting.scope.now.result;
  old = setting.scope.now.old;
  object = setting.scope.now.object;
  reach = setting.scope.now.reach;
}

-- the form, and the first refusal
pub record Told : Type 0 where
  pub form : FormTree
  pub first : Option SpecFault

-- what is told of a check where this was the first refusal before it
abbrev pub told : Option SpecFault → Checked → Told
told first checked = record { form = checked.form; first = first_among first checked.refusals }

pub first_among-++ : (first : Option SpecFault) (xs ys : List SpecFault) → first_among first (xs ++ ys) ≡ first_among (first_among first xs) ys
first_among-++ first [] ys = refl
first_among-++ first (x ∷ xs) ys = first_among-++ (first_of first x) xs ys

abbrev tell : FormTree → Option SpecFault → Told
tell form first = record { form = form; first = first }

-- what was refused before it is told of no more
pub told_refusing : (first later : Option SpecFault) (refusals : List SpecFault) (checked : Checked) → later ≡ first_among first refusals
    → told first (refusing refusals checked) ≡ told later checked
told_refusing first later refusals checked e = ap (tell checked.form)
    (first_among-++ first refusals checked.refusals ∙ ap (λ (f : Option SpecFault). first_among f checked.refusals) (sym e))

-- what is told of a part and of the rest behind it
abbrev pub told_then : (FormTree → Checked) → Told → Told
told_then next part = record { form = (next part.form).form; first = first_among part.first (next part.form).refusals }

pub after_told : (first : Option SpecFault) (part : Checked) (next : FormTree → Checked) → told first (after part next) ≡ told_then next (told first part)
unfolding after
after_told first part next = ap (tell (next part.form).form) (first_among-++ first part.refusals (next part.form).refusals)

pub told_after : (first later : Option SpecFault) (part other : Checked) (next : FormTree → Checked) → told first part ≡ told later other
    → told first (after part next) ≡ told later (after other next)
told_after first later part other next e = after_told first part next ∙ ap (told_then next) e ∙ sym (after_told later other next)

-- the form of a part is known: what is told is what is told of the rest
pub told_given : (first : Option SpecFault) (form : FormTree) (next : FormTree → Checked) → told first (after (gives form) next) ≡ told first (next form)
told_given first form next = after_told first (gives form) next
