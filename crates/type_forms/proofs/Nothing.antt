-- Joining where nothing new is said, and where one of a new kind is.
use Rattle.std.proofs.Common.{◌≡◌, Bool, true, false, ◌&&◌, List, [], ◌∷◌, ◌++◌, Some, None, Result, Ok, Err, IfOk, if◌then◌else◌, is_some, nat_eq, refl, ap, sym, ◌∙◌, arith}
use Rattle.std.proofs.lemmas.Bool.Decides.{nat_tests}
use Rattle.vdm_kinds.specs.declared.name.Name.{Name}
use Rattle.abstract_syntax.specs.Classes.{is_same_name}
use Rattle.form_meaning.specs.Forms.{FormTree, any_form, no_form, one_of, AltTree, nil_alt, boolean_alt, number_alt, character_alt, quote_alt, token_alt, tuple_alt, record_alt, sequence_alt, set_alt, map_alt, object_alt, named_alt, AltTrees, no_alts, one_alt, FormTrees, form_count, has_names, is_same_kind, same_kind_in, followed_by, further, only, joined, alt_joined}
use Rattle.type_forms.specs.JoinedAgain.{each_joined}
use Rattle.type_forms.specs.declared.form.Alt.{Alt}
use Rattle.type_forms.specs.Tree.{alt_of, alt_trees}
use Rattle.type_forms.specs.Plain.{is_plain, are_known, adds_nothing}
use Rattle.type_forms.proofs.Lists.{alts_whole, alt_pushed}

and_left : (a b : Bool) → (a && b) ≡ true → a ≡ true
and_left true b h = refl
and_left false b h = h

and_right : (a b : Bool) → (a && b) ≡ true → b ≡ true
and_right true b h = h
and_right false b h = absurd (cc)

alone : (x : AltTree) → alt_joined x None ≡ x
alone (tuple_alt parts) = refl
alone (sequence_alt items) = refl
alone (set_alt elements) = refl
alone (map_alt keys values) = refl
alone _ = refl

plain_kept : (x a : AltTree) → is_plain a ≡ true → alt_joined x (Some a) ≡ x
plain_kept (tuple_alt parts) (tuple_alt others) plain = absurd (cc)
plain_kept (sequence_alt items) (sequence_alt others) plain = absurd (cc)
plain_kept (set_alt elements) (set_alt others) plain = absurd (cc)
plain_kept (map_alt keys values) (map_alt other_keys other_values) plain = absurd (cc)
plain_kept x a plain = refl

-- ---- nothing new

module _ (known : AltTrees) where
  kept_among : (x : AltTree) (others : AltTrees) → are_known known others ≡ true → alt_joined x (same_kind_in x others) ≡ x
  kept_among x no_alts all = alone x
  kept_among x (one_alt other others) all =
      by (is_same_kind x other) (kept_among x others (and_right (is_plain other && is_some (same_kind_in other known)) (are_known known others) all))
    where
      by : (test : Bool) → alt_joined x (same_kind_in x others) ≡ x → alt_joined x (if test then Some other else same_kind_in x others) ≡ x
      by true later =
          plain_kept x other (and_left (is_plain other) (is_some (same_kind_in other known))
          (and_left (is_plain other && is_some (same_kind_in other known)) (are_known known others) all))
      by false later = later

  each_kept : (alts others : AltTrees) → are_known known others ≡ true → each_joined alts others ≡ alts
  each_kept no_alts others all = refl
  each_kept (one_alt x alts) others all = λ i. one_alt (kept_among x others all i) (each_kept alts others all i)

  none_further : (others : AltTrees) → are_known known others ≡ true → further known others ≡ no_alts
  none_further no_alts all = refl
  none_further (one_alt other others) all =
      ap (λ (test : Bool). if test then further known others else one_alt other (further known others))
      (and_right (is_plain other) (is_some (same_kind_in other known))
      (and_left (is_plain other && is_some (same_kind_in other known)) (are_known known others) all))
      ∙ none_further others (and_right (is_plain other && is_some (same_kind_in other known)) (are_known known others) all)

pub nothing_added : (known other : FormTree) → adds_nothing known other ≡ true → known ≡ joined known other
nothing_added any_form other all = refl
nothing_added no_form other all = absurd (cc)
nothing_added (one_of alts) any_form all = absurd (cc)
nothing_added (one_of alts) no_form all = refl
nothing_added (one_of alts) (one_of others) all =
    ap one_of (sym ((λ i. followed_by (each_kept alts alts others all i) (none_further alts others all i)) ∙ alts_whole alts))

-- ---- a new kind

flipped_numbers : (m n : Name) → is_same_name m n ≡ is_same_name n m
flipped_numbers m n = grind (arith, nat_tests)

flipped_counts : (ps qs : FormTrees) → nat_eq (form_count ps) (form_count qs) ≡ nat_eq (form_count qs) (form_count ps)
flipped_counts ps qs = grind (arith, nat_tests)

flipped_names : (c n d m : Name) → has_names c n d m ≡ has_names d m c n
flipped_names c n d m = λ i. flipped_numbers c d i && flipped_numbers n m i

flipped : (a b : AltTree) → is_same_kind a b ≡ is_same_kind b a
flipped nil_alt nil_alt = refl
flipped boolean_alt boolean_alt = refl
flipped number_alt number_alt = refl
flipped character_alt character_alt = refl
flipped (quote_alt name) (quote_alt other) = flipped_numbers name other
flipped token_alt token_alt = refl
flipped (tuple_alt parts) (tuple_alt others) = flipped_counts parts others
flipped (record_alt class name) (record_alt other_class other) = flipped_names class name other_class other
flipped (sequence_alt items) (sequence_alt others) = refl
flipped (set_alt elements) (set_alt others) = refl
flipped (map_alt keys values) (map_alt other_keys other_values) = refl
flipped (object_alt class) (object_alt other) = flipped_numbers class other
flipped (named_alt class name) (named_alt other_class other) = flipped_names class name other_class other
flipped _ _ = refl

module _ (a : AltTree) where
  other_kind : (x : AltTree) → is_same_kind a x ≡ false → alt_joined x (same_kind_in x (one_alt a no_alts)) ≡ x
  other_kind x differ = ap (λ (test : Bool). alt_joined x (if test then Some a else None)) (sym (flipped a x) ∙ differ) ∙ alone x

  each_other : (alts : AltTrees) → is_some (same_kind_in a alts) ≡ false → each_joined alts (one_alt a no_alts) ≡ alts
  each_other no_alts new = refl
  each_other (one_alt x alts) new = by (is_same_kind a x) refl new (each_other alts)
    where
      by : (test : Bool) → is_same_kind a x ≡ test → is_some (if test then Some x else same_kind_in a alts) ≡ false
          → (is_some (same_kind_in a alts) ≡ false → each_joined alts (one_alt a no_alts) ≡ alts)
          → one_alt (alt_joined x (same_kind_in x (one_alt a no_alts))) (each_joined alts (one_alt a no_alts)) ≡ one_alt x alts
      by true same is later = absurd (cc)
      by false differ is later = λ i. one_alt (other_kind x differ i) (later is i)

  pub new_put_behind : (alts : AltTrees) → is_some (same_kind_in a alts) ≡ false
      → one_of (followed_by alts (one_alt a no_alts)) ≡ joined (one_of alts) (only a)
  new_put_behind alts new =
      ap one_of (sym (λ i. followed_by (each_other alts new i) (if new i then no_alts else one_alt a no_alts)))

pub ok_same : {A E : Type 0} (r : Result A E) (x y : A) → x ≡ y → IfOk r (λ f. f ≡ x) → IfOk r (λ f. f ≡ y)
ok_same (Ok f) x y same is = is ∙ same
ok_same (Err e) x y same is = tt

-- ---- lists that are put together in code

pub pushed_whole : (made next : List Alt) (a : Alt) (first : AltTrees) → next ≡ made ++ a ∷ [] → alt_trees made ≡ first
    → one_of (alt_trees next) ≡ one_of (followed_by first (one_alt (alt_of a) no_alts))
pushed_whole made next a first pushed same =
    ap one_of
    (ap alt_trees pushed
    ∙ sym (alts_whole (alt_trees (made ++ a ∷ [])))
    ∙ alt_pushed made a no_alts
    ∙ ap (λ (alts : AltTrees). followed_by alts (one_alt (alt_of a) no_alts)) same)

pub unknown_as : (a : AltTree) (xs ys : List Alt) → xs ≡ ys → false ≡ is_some (same_kind_in a (alt_trees xs)) → is_some (same_kind_in a (alt_trees ys)) ≡ false
unknown_as a xs ys same new = sym (new ∙ ap (λ (zs : List Alt). is_some (same_kind_in a (alt_trees zs))) same)
