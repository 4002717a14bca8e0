-- What is noted of refusals behind one another, and what is told of a name.
use Rattle.std.proofs.Common.{◌≡◌, Bool, true, false, ◌||◌, if◌then◌else◌, List, [], ◌∷◌, ◌++◌, Option, Result, Ok, Err, IfOk, refl, ap, sym, ◌∙◌}
use Rattle.std.specs.List.{list_any}
use Rattle.vdm_kinds.specs.declared.place.Place.{Place}
use Rattle.vdm_kinds.specs.declared.spec_fault.SpecFault.{SpecFault}
use Rattle.vdm_kinds.specs.declared.spec_kind.SpecKind.{SpecKind}
use Rattle.class_meaning.proofs.Numbers.{any_append}
use Rattle.form_meaning.specs.Forms.{FormTree, any_form}
use Rattle.class_checks.specs.Results.{refusal, refused_if, spoils, form_unless, first_of, first_among, gives, named_as}
use Rattle.check_scopes.specs.Told.{told, first_among-++}
use Rattle.check_names.specs.Noting.{Note, note, noted_as}

abbrev does_spoil : SpecFault → Bool
does_spoil refused = spoils refused.kind

pub note_both : (a b c : Option SpecFault) (s t : Bool) (xs ys : List SpecFault) → note a xs ≡ noted_as b s → note b ys ≡ noted_as c t
    → note a (xs ++ ys) ≡ noted_as c (s || t)
note_both a b c s t xs ys e f = λ i. record {
  first = (first_among-++ a xs ys ∙ ap (λ (n : Note). first_among n.first ys) e ∙ ap (λ (n : Note). n.first) f) i;
  spoiled = (any_append does_spoil xs ys ∙ ap (λ (n : Note). n.spoiled || list_any does_spoil ys) e ∙ ap (λ (n : Note). s || n.spoiled) f) i;
}

or_nothing : (s t : Bool) → (s || (t || false)) ≡ (s || t)
or_nothing true t = refl
or_nothing false true = refl
or_nothing false false = refl

-- three behind one another, of which the last spoils nothing
pub note_three : (a b c d : Option SpecFault) (s t : Bool) (xs ys zs : List SpecFault) → note a xs ≡ noted_as b s → note b ys ≡ noted_as c t
    → note c zs ≡ noted_as d false → note a (xs ++ (ys ++ zs)) ≡ noted_as d (s || t)
note_three a b c d s t xs ys zs e f g =
    note_both a b d s (t || false) xs (ys ++ zs) e (note_both b c d t false ys zs f g) ∙ ap (noted_as d) (or_nothing s t)

or_none : (s : Bool) → (s || false) ≡ s
or_none true = refl
or_none false = refl

-- two, of which the second spoils nothing
pub note_two : (a b c : Option SpecFault) (s : Bool) (xs ys : List SpecFault) → note a xs ≡ noted_as b s → note b ys ≡ noted_as c false
    → note a (xs ++ ys) ≡ noted_as c s
note_two a b c s xs ys e f = note_both a b c s false xs ys e f ∙ ap (noted_as c) (or_none s)

-- a name with what was noted of it
pub told_named : (a b : Option SpecFault) (s : Bool) (xs : List SpecFault) (form f : FormTree) → note a xs ≡ noted_as b s
    → form ≡ (if s then any_form else f) → told a (named_as xs f) ≡ told b (gives form)
told_named a b s xs form f e is = λ i. record {
  form = (ap (λ (n : Note). if n.spoiled then any_form else f) e ∙ sym is) i;
  first = (first_among-++ a xs [] ∙ ap (λ (n : Note). n.first) e) i;
}

pub unless_any : (s : Bool) → (if s then any_form else any_form) ≡ any_form
unless_any true = refl
unless_any false = refl

-- ---- one refusal

pub note_if : (a b : Option SpecFault) (c : Bool) (kind : SpecKind) (place : Place) → spoils kind ≡ true → b ≡ first_among a (refused_if c kind place)
    → note a (refused_if c kind place) ≡ noted_as b c
note_if a b c kind place spoiling e = λ i. record { first = sym e i; spoiled = by c i }
  where
    by : (c : Bool) → list_any does_spoil (refused_if c kind place) ≡ c
    by true = ap (λ (s : Bool). s || false) spoiling
    by false = refl

pub told_refused : (a b : Option SpecFault) (kind : SpecKind) (place : Place) (form : FormTree) → b ≡ first_of a (refusal kind place) → form ≡ any_form
    → told a (named_as (refusal kind place ∷ []) any_form) ≡ told b (gives form)
told_refused a b kind place form e is = λ i. record {
  form = (unless_any (spoils kind || false) ∙ sym is) i;
  first = sym e i;
}

-- the same of what may be given
pub if_ok : {A E : Type 0} {P Q : A → Type 0} (r : Result A E) → IfOk r P → ((a : A) → P a → Q a) → IfOk r Q
if_ok (Ok a) h from = from a h
if_ok (Err e) h from = tt

-- ---- a name whose refusals spoil it is of any form

not_again : (s t : Bool) (f : FormTree) → t ≡ s → (if t then any_form else (if s then any_form else f)) ≡ (if s then any_form else f)
not_again true t f e = ap (λ (b : Bool). if b then any_form else any_form) e
not_again false t f e = ap (λ (b : Bool). if b then any_form else f) e

pub named_known : (xs : List SpecFault) (f : FormTree) → form_unless (named_as xs f).refusals (named_as xs f).form ≡ (named_as xs f).form
named_known xs f = not_again (list_any does_spoil xs) (list_any does_spoil (xs ++ [])) f
    (any_append does_spoil xs [] ∙ or_none (list_any does_spoil xs))
