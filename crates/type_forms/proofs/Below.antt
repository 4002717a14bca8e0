-- What a form names has a lower rank, and what definitions take does not turn on a bound above their ranks.
use Rattle.std.proofs.Common.{◌≡◌, ℕ, zero, suc, ◌<◌, Bool, true, false, List, [], ◌∷◌, ◌++◌, Option, Some, None, if◌then◌else◌, is_some, refl, ap, sym, subst, ◌∙◌, arith}
use Rattle.std.specs.List.{AllByRecursion as Each}
use Rattle.vdm_kinds.specs.declared.basic_type.BasicType.{BasicType}
use Rattle.vdm_kinds.specs.declared.basic_type.BasicType.TheVariants.{Bool as BoolType, Nat, Nat1, Int, Char, Token}
use Rattle.vdm_kinds.specs.declared.name.Name.{Name}
use Rattle.vdm_kinds.specs.declared.name_at.TypeName.{TypeName}
use Rattle.abstract_syntax.specs.Types.{TypeTree, TypeTrees, basic_type, quote_type, set_type, seq_type, seq1_type, map_type, inmap_type, optional_type, bracketed_type, named_type, product_type, union_type, no_types, one_type}
use Rattle.abstract_syntax.specs.Classes.{TypeBody, same_as, with_fields, TypeDefTree}
use Rattle.expr_tree.specs.Alternatives.{Finder, IsRanked, alternatives, alternatives_among, body_alternatives}
use Rattle.form_meaning.specs.Forms.{FormTree, any_form, no_form, one_of, AltTree, nil_alt, tuple_alt, sequence_alt, set_alt, map_alt, object_alt, named_alt, AltTrees, no_alts, one_alt, followed_by, further, same_kind_in, only, joined, alt_joined}
use Rattle.form_meaning.specs.Types.{basic_alt, unfound_form, found_form, with_type, with_types, part_form, name_opened, alt_opened, alts_opened, opened_by, body_opened, definition_opened, definition_form}
use Rattle.type_forms.specs.Again.{FindsAgain}
use Rattle.type_forms.specs.JoinedAgain.{each_joined}

same_some : {A : Type 0} (x y : A) → Some x ≡ Some y → x ≡ y
same_some x y same = cc

each_left : {A : Type 0} (P : A → Type 0) (xs ys : List A) → Each P (xs ++ ys) → Each P xs
each_left P [] ys all = tt
each_left P (x ∷ xs) ys all = (all.0, each_left P xs ys all.1)

each_right : {A : Type 0} (P : A → Type 0) (xs ys : List A) → Each P (xs ++ ys) → Each P ys
each_right P [] ys all = all
each_right P (x ∷ xs) ys all = each_right P xs ys all.1

module _ (find : Finder) (is_class : Name → Bool) (rank : TypeDefTree → ℕ) where
  -- what the alternative names has a rank below the number
  abbrev Below : ℕ → AltTree → Type 0
  Below n (named_alt class name) = (d : TypeDefTree) → find class None name ≡ Some d → rank d < n
  Below n _ = Unit {0}

  abbrev EachBelow : ℕ → AltTrees → Type 0
  EachBelow n no_alts = Unit {0}
  EachBelow n (one_alt a alts) = Below n a × EachBelow n alts

  abbrev FormBelow : ℕ → FormTree → Type 0
  FormBelow n any_form = Unit {0}
  FormBelow n no_form = Unit {0}
  FormBelow n (one_of alts) = EachBelow n alts

  -- ---- of two forms that are joined

  alt_below : (n : ℕ) (a : AltTree) (o : Option AltTree) → Below n a → Below n (alt_joined a o)
  alt_below n (tuple_alt parts) (Some (tuple_alt others)) h = tt
  alt_below n (sequence_alt items) (Some (sequence_alt others)) h = tt
  alt_below n (set_alt elements) (Some (set_alt others)) h = tt
  alt_below n (map_alt keys values) (Some (map_alt other_keys other_values)) h = tt
  alt_below n a o h = h

  each_below : (n : ℕ) (alts others : AltTrees) → EachBelow n alts → EachBelow n (each_joined alts others)
  each_below n no_alts others h = tt
  each_below n (one_alt a alts) others h = (alt_below n a (same_kind_in a others) h.0, each_below n alts others h.1)

  further_below : (n : ℕ) (known others : AltTrees) → EachBelow n others → EachBelow n (further known others)
  further_below n known no_alts h = tt
  further_below n known (one_alt b others) h = by (is_some (same_kind_in b known)) (further_below n known others h.1)
    where
      by : (test : Bool) → EachBelow n (further known others) → EachBelow n (if test then further known others else one_alt b (further known others))
      by true rest = rest
      by false rest = (h.0, rest)

  followed_below : (n : ℕ) (alts others : AltTrees) → EachBelow n alts → EachBelow n others → EachBelow n (followed_by alts others)
  followed_below n no_alts others h k = k
  followed_below n (one_alt a alts) others h k = (h.0, followed_below n alts others h.1 k)

  joined_below : (n : ℕ) (known other : FormTree) → FormBelow n known → FormBelow n other → FormBelow n (joined known other)
  joined_below n any_form other h k = tt
  joined_below n no_form other h k = k
  joined_below n (one_of alts) any_form h k = tt
  joined_below n (one_of alts) no_form h k = h
  joined_below n (one_of alts) (one_of others) h k =
      followed_below n (each_joined alts others) (further alts others) (each_below n alts others h) (further_below n alts others k)

  -- ---- of a type

  module _ (again : FindsAgain find) where
    object_below : (n : ℕ) (class : Name) (test : Bool) → FormBelow n (if test then only (object_alt class) else any_form)
    object_below n class true = (tt, tt)
    object_below n class false = tt

    unfound_below : (n : ℕ) (t : TypeName) (class : Option Name) → FormBelow n (unfound_form find is_class t class)
    unfound_below n t None = object_below n t.name (is_class t.name)
    unfound_below n t (Some class) = tt

    found_below : (n : ℕ) (scope : Name) (t : TypeName) (r : Option TypeDefTree) → find scope t.class t.name ≡ r
        → ((next : TypeDefTree) → find scope t.class t.name ≡ Some next → rank next < n) → FormBelow n (found_form find is_class t r)
    found_below n scope t None is low = unfound_below n t t.class
    found_below n scope t (Some d) is low = (
      (λ other found. subst (λ (e : TypeDefTree). rank e < n)
          (same_some d other (sym (again scope t.class t.name d is) ∙ found)) (low d is)),
      tt,
    )

    abbrev Lower : Name → ℕ → TypeName → Type 0
    Lower scope n other = (next : TypeDefTree) → find scope other.class other.name ≡ Some next → rank next < n

    by_basic : (n : ℕ) (basic : BasicType) → EachBelow n (one_alt (basic_alt basic) no_alts)
    by_basic n basic = (of basic, tt)
      where
        of : (b : BasicType) → Below n (basic_alt b)
        of BoolType = tt
        of Nat = tt
        of Nat1 = tt
        of Int = tt
        of Char = tt
        of Token = tt

    mutual
      type_below : (n : ℕ) (scope : Name) (known : FormTree) (t : TypeTree) → FormBelow n known → Each (Lower scope n) (alternatives t)
          → FormBelow n (with_type find is_class scope known t)
      type_below n scope known (basic_type basic place) h low = joined_below n known _ h (by_basic n basic)
      type_below n scope known (quote_type name place) h low = joined_below n known _ h (tt, tt)
      type_below n scope known (set_type element place) h low = joined_below n known _ h (tt, tt)
      type_below n scope known (seq_type item place) h low = joined_below n known _ h (tt, tt)
      type_below n scope known (seq1_type item place) h low = joined_below n known _ h (tt, tt)
      type_below n scope known (map_type key value place) h low = joined_below n known _ h (tt, tt)
      type_below n scope known (inmap_type key value place) h low = joined_below n known _ h (tt, tt)
      type_below n scope known (optional_type inner place) h low =
          type_below n scope (joined known (only nil_alt)) inner (joined_below n known (only nil_alt) h (tt, tt)) low
      type_below n scope known (bracketed_type inner place) h low = type_below n scope known inner h low
      type_below n scope known (named_type t place) h low =
          joined_below n known _ h (found_below n scope t (find scope t.class t.name) refl low.0)
      type_below n scope known (product_type factors place) h low = joined_below n known _ h (tt, tt)
      type_below n scope known (union_type types place) h low = types_below n scope known types h low

      types_below : (n : ℕ) (scope : Name) (known : FormTree) (ts : TypeTrees) → FormBelow n known → Each (Lower scope n) (alternatives_among ts)
          → FormBelow n (with_types find is_class scope known ts)
      types_below n scope known no_types h low = h
      types_below n scope known (one_type t ts) h low =
          types_below n scope (with_type find is_class scope known t) ts
          (type_below n scope known t h (each_left (Lower scope n) (alternatives t) (alternatives_among ts) low))
          (each_right (Lower scope n) (alternatives t) (alternatives_among ts) low)

    -- ---- openings that agree on what has a lower rank

    abbrev Agree : ℕ → (FormTree → TypeDefTree → FormTree) → (FormTree → TypeDefTree → FormTree) → Type 0
    Agree n f g = (class name : Name) (d : TypeDefTree) → find class None name ≡ Some d → rank d < n → (known : FormTree) → f known d ≡ g known d

    name_agrees : (n : ℕ) (f g : FormTree → TypeDefTree → FormTree) → Agree n f g → (known : FormTree) (class name : Name) (r : Option TypeDefTree)
        → find class None name ≡ r → ((d : TypeDefTree) → find class None name ≡ Some d → rank d < n)
        → name_opened find is_class f known r ≡ name_opened find is_class g known r
    name_agrees n f g agree known class name None is low = refl
    name_agrees n f g agree known class name (Some d) is low = agree class name d is (low d is) known

    alt_agrees : (n : ℕ) (f g : FormTree → TypeDefTree → FormTree) → Agree n f g → (known : FormTree) (a : AltTree) → Below n a
        → alt_opened find is_class f known a ≡ alt_opened find is_class g known a
    alt_agrees n f g agree known (named_alt class name) h = name_agrees n f g agree known class name (find class None name) refl h
    alt_agrees n f g agree known a h = refl

    alts_agree : (n : ℕ) (f g : FormTree → TypeDefTree → FormTree) → Agree n f g → (known : FormTree) (alts : AltTrees) → EachBelow n alts
        → alts_opened find is_class f known alts ≡ alts_opened find is_class g known alts
    alts_agree n f g agree known no_alts h = refl
    alts_agree n f g agree known (one_alt a alts) h =
        ap (λ (k : FormTree). alts_opened find is_class f k alts) (alt_agrees n f g agree known a h.0)
        ∙ alts_agree n f g agree (alt_opened find is_class g known a) alts h.1

    form_agrees : (n : ℕ) (f g : FormTree → TypeDefTree → FormTree) → Agree n f g → (known form : FormTree) → FormBelow n form
        → opened_by find is_class f known form ≡ opened_by find is_class g known form
    form_agrees n f g agree known any_form h = refl
    form_agrees n f g agree known no_form h = refl
    form_agrees n f g agree known (one_of alts) h = alts_agree n f g agree known alts h

    body_agrees : (n : ℕ) (f g : FormTree → TypeDefTree → FormTree) → Agree n f g → (known : FormTree) (d : TypeDefTree) (body : TypeBody)
        → Each (Lower d.class n) (body_alternatives body) → body_opened find is_class f known d body ≡ body_opened find is_class g known d body
    body_agrees n f g agree known d (with_fields fields) low = refl
    body_agrees n f g agree known d (same_as declared) low =
        form_agrees n f g agree known (part_form find is_class d.class declared) (type_below n d.class no_form declared tt low)

    module _ (ranked : IsRanked find rank) where
      stable : (n m : ℕ) (scope : Name) (class : Option Name) (name : Name) (d : TypeDefTree) → find scope class name ≡ Some d
          → rank d < n → rank d < m → (known : FormTree)
          → definition_opened find is_class n known d ≡ definition_opened find is_class m known d
      stable zero m scope class name d is below low known = absurd (omega arith)
      stable (suc n) zero scope class name d is below low known = absurd (omega arith)
      stable (suc n) (suc m) scope class name d is below low known =
          body_agrees (rank d) (definition_opened find is_class n) (definition_opened find is_class m)
          (λ c k e found less. stable n m c None k e found (omega arith) (omega arith))
          known d d.body (ranked scope class name d is)

      -- what a definition takes is what its body takes
      pub definition_by_body : (scope : Name) (class : Option Name) (name : Name) (d : TypeDefTree) → find scope class name ≡ Some d
          → (known : FormTree) → definition_form find is_class rank known d ≡ body_opened find is_class (definition_form find is_class rank) known d d.body
      definition_by_body scope class name d is known =
          body_agrees (rank d) (definition_opened find is_class (rank d)) (definition_form find is_class rank)
          (λ c k e found less. stable (rank d) (suc (rank e)) c None k e found less (omega arith))
          known d d.body (ranked scope class name d is)

      pub name_by_body : (class name : Name) (d : TypeDefTree) (a : AltTree) → a ≡ named_alt class name → find class None name ≡ Some d
          → (known : FormTree) (later : AltTrees)
          → alts_opened find is_class (definition_form find is_class rank) (body_opened find is_class (definition_form find is_class rank) known d d.body) later
          ≡ alts_opened find is_class (definition_form find is_class rank) (alt_opened find is_class (definition_form find is_class rank) known a) later
      name_by_body class name d a shape is known later =
          ap (λ (k : FormTree). alts_opened find is_class (definition_form find is_class rank) k later)
          (sym (definition_by_body class None name d is known)
          ∙ ap (name_opened find is_class (definition_form find is_class rank) known) (sym is)
          ∙ ap (alt_opened find is_class (definition_form find is_class rank) known) (sym shape))
