-- The parts of the joining of forms that their definition keeps to itself, written again.
use Rattle.std.specs.Prelude.{◌≡◌, refl, Option, Some}
use Rattle.form_meaning.specs.Forms.{FormTree, any_form, no_form, one_of, AltTree, tuple_alt, sequence_alt, set_alt, map_alt, AltTrees, no_alts, one_alt, FormTrees, no_forms, one_form, same_kind_in, followed_by, further, joined as joined_forms}

abbrev mutual
  pub joined : FormTree → FormTree → FormTree
  joined any_form other = any_form
  joined no_form other = other
  joined (one_of alternatives) any_form = any_form
  joined (one_of alternatives) no_form = one_of alternatives
  joined (one_of alternatives) (one_of others) = one_of (followed_by (each_joined alternatives others) (further alternatives others))

  pub each_joined : AltTrees → AltTrees → AltTrees
  each_joined no_alts others = no_alts
  each_joined (one_alt alternative alternatives) others =
      one_alt (alt_joined alternative (same_kind_in alternative others)) (each_joined alternatives others)

  -- with the alternative of its kind, where there is one
  pub alt_joined : AltTree → Option AltTree → AltTree
  alt_joined (tuple_alt parts) (Some (tuple_alt others)) = tuple_alt (parts_joined parts others)
  alt_joined (sequence_alt items) (Some (sequence_alt others)) = sequence_alt (joined items others)
  alt_joined (set_alt elements) (Some (set_alt others)) = set_alt (joined elements others)
  alt_joined (map_alt keys values) (Some (map_alt other_keys other_values)) = map_alt (joined keys other_keys) (joined values other_values)
  alt_joined alternative _ = alternative

  pub parts_joined : FormTrees → FormTrees → FormTrees
  parts_joined no_forms others = no_forms
  parts_joined (one_form part parts) no_forms = one_form part parts
  parts_joined (one_form part parts) (one_form other others) = one_form (joined part other) (parts_joined parts others)

pub alternatives_joined : (xs ys : AltTrees) → joined_forms (one_of xs) (one_of ys) ≡ one_of (followed_by (each_joined xs ys) (further xs ys))
alternatives_joined xs ys = refl

pub same_joined : joined_forms ≡ joined
same_joined = refl
