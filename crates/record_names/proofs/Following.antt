-- The loop that follows names of types finds what a name stands for.
use Rattle.std.proofs.Common.{◌≡◌, ℕ, zero, suc, ◌<◌, true, [], ◌∷◌, refl, ap, sym, ◌∙◌, arith, Option, Some, None, if◌then◌else◌, subst, unwrap_or}
use Rattle.std.specs.Option.{option_and_then}
use Rattle.std.specs.List.{AllByRecursion as Each}
use Rattle.vdm_kinds.specs.declared.name.Name.{Name}
use Rattle.vdm_kinds.specs.declared.name_at.TypeName.{TypeName}
use Rattle.abstract_syntax.specs.Types.{TypeTree, bracketed_type, named_type}
use Rattle.abstract_syntax.specs.Classes.{TypeBody, same_as, with_fields, TypeDefTree}
use Rattle.expr_tree.specs.Alternatives.{Finder, IsRanked, alternatives, body_alternatives}
use Rattle.pattern_meaning.specs.RecordTypes.{RecordType, name_in, renamed, has_fields, definition_of, record_type_of, stands_for}

some_value : {A : Type 0} {x y : A} → Some x ≡ Some y → x ≡ y
some_value {x = x} e = ap (λ o. unwrap_or o x) e

none_or_some : {A : Type 0} {x : A} → None ≡ Some x → ⊥
none_or_some e = cc

-- a type that is a name has this alternative alone
name_alone : (T : TypeTree) (t : TypeName) → name_in T ≡ Some t → alternatives T ≡ t ∷ []
name_alone (named_type name place) t e = ap (λ n. n ∷ []) (some_value e)
name_alone (bracketed_type inner place) t e = name_alone inner t e
name_alone _ t e = absurd (none_or_some e)

module _ (find : Finder) (rank : TypeDefTree → ℕ) (ranked : IsRanked find rank) where
  -- what a name stands for, by the definition that is found
  abbrev pub stood_for : Option TypeDefTree → Option RecordType
  stood_for = option_and_then (λ d. record_type_of find (suc (rank d)) d)

  -- a definition that was looked up, by which the name that is followed stands for what it stands for at first
  pub record Follows (scope : Name) (t : TypeName) (D : Option TypeDefTree) : Type 0 where
    pub class : Name
    pub behind : Option Name
    pub name : Name
    pub looked_up : D ≡ find class behind name
    pub same : stood_for D ≡ stands_for find rank scope t

  falls : (class : Name) (behind : Option Name) (name : Name) (d e : TypeDefTree) (T : TypeTree) (t : TypeName) →
      find class behind name ≡ Some d → d.body ≡ same_as T → name_in T ≡ Some t → find d.class t.class t.name ≡ Some e → rank e < rank d
  falls class behind name d e T t f b n g =
      (subst (Each (λ (other : TypeName). (next : TypeDefTree) → find d.class other.class other.name ≡ Some next → rank next < rank d))
      (ap body_alternatives b ∙ name_alone T t n) (ranked class behind name d f)).0 e g

  one_more : (n : ℕ) (d : TypeDefTree) (T : TypeTree) (t : TypeName) → d.body ≡ same_as T → name_in T ≡ Some t →
      record_type_of find (suc n) d ≡ option_and_then (record_type_of find n) (find d.class t.class t.name)
  one_more n d T t b e =
      ap (λ c. if has_fields c then Some (record { class = d.class; name = d.name })
      else option_and_then (record_type_of find n) (option_and_then (definition_of find d.class) (renamed c))) b ∙
      ap (λ u. option_and_then (record_type_of find n) (option_and_then (definition_of find d.class) u)) e

  -- that of each definition is found with either number
  abbrev Both : ℕ → ℕ → Type 0
  Both m n = (class : Name) (behind : Option Name) (name : Name) (d : TypeDefTree) → find class behind name ≡ Some d →
      rank d < m → rank d < n → record_type_of find m d ≡ record_type_of find n d

  by_next : (m n : ℕ) → Both m n → (class : Name) (behind : Option Name) (name : Name) (r : Option TypeDefTree) → find class behind name ≡ r →
      ((e : TypeDefTree) → find class behind name ≡ Some e → (rank e < m) × (rank e < n)) →
      option_and_then (record_type_of find m) r ≡ option_and_then (record_type_of find n) r
  by_next m n both class behind name None g below = refl
  by_next m n both class behind name (Some e) g below = both class behind name e g (below e g).0 (below e g).1

  by_name : (m n : ℕ) → Both m n → (class : Name) (behind : Option Name) (name : Name) (d : TypeDefTree) → find class behind name ≡ Some d →
      rank d < suc m → rank d < suc n → (T : TypeTree) → d.body ≡ same_as T → (o : Option TypeName) → name_in T ≡ o →
      option_and_then (record_type_of find m) (option_and_then (definition_of find d.class) o) ≡
      option_and_then (record_type_of find n) (option_and_then (definition_of find d.class) o)
  by_name m n both class behind name d f p q T b None e = refl
  by_name m n both class behind name d f p q T b (Some t) e =
      by_next m n both d.class t.class t.name (find d.class t.class t.name) refl
      (λ next g. let less : rank next < rank d = falls class behind name d next T t f b e g in (omega arith, omega arith))

  by_body : (m n : ℕ) → Both m n → (class : Name) (behind : Option Name) (name : Name) (d : TypeDefTree) → find class behind name ≡ Some d →
      rank d < suc m → rank d < suc n → (body : TypeBody) → d.body ≡ body →
      (if has_fields body then Some (record { class = d.class; name = d.name })
      else option_and_then (record_type_of find m) (option_and_then (definition_of find d.class) (renamed body))) ≡
      (if has_fields body then Some (record { class = d.class; name = d.name })
      else option_and_then (record_type_of find n) (option_and_then (definition_of find d.class) (renamed body)))
  by_body m n both class behind name d f p q (with_fields fields) b = refl
  by_body m n both class behind name d f p q (same_as T) b = by_name m n both class behind name d f p q T b (name_in T) refl

  pub enough : (m n : ℕ) → Both m n
  enough zero n class behind name d f p q = absurd (omega arith)
  enough (suc m) zero class behind name d f p q = absurd (omega arith)
  enough (suc m) (suc n) class behind name d f p q = by_body m n (enough m n) class behind name d f p q d.body refl

  -- the definition that is looked up first
  pub follow_first : (scope : Name) (t : TypeName) (D : Option TypeDefTree) → D ≡ find scope t.class t.name → Follows scope t D
  follow_first scope t D e = record { class = scope; behind = t.class; name = t.name; looked_up = e; same = ap stood_for e }

  next_stands : (n : ℕ) (class : Name) (behind : Option Name) (name : Name) (r : Option TypeDefTree) → find class behind name ≡ r →
      ((e : TypeDefTree) → find class behind name ≡ Some e → rank e < n) → stood_for r ≡ option_and_then (record_type_of find n) r
  next_stands n class behind name None g below = refl
  next_stands n class behind name (Some e) g below = enough (suc (rank e)) n class behind name e g (omega arith) (below e g)

  -- and the one behind it
  pub follow_next : (scope : Name) (t u : TypeName) (D E : Option TypeDefTree) (d : TypeDefTree) (T : TypeTree) →
      Follows scope t D → D ≡ Some d → d.body ≡ same_as T → name_in T ≡ Some u → E ≡ find d.class u.class u.name → Follows scope t E
  follow_next scope t u D E d T f is b n e = record {
    class = d.class;
    behind = u.class;
    name = u.name;
    looked_up = e;
    same =
        ap stood_for e ∙
        next_stands (rank d) d.class u.class u.name (find d.class u.class u.name) refl
        (λ next g. falls f.class f.behind f.name d next T u (sym f.looked_up ∙ is) b n g) ∙
        sym (one_more (rank d) d T u b n) ∙ sym (ap stood_for is) ∙ f.same;
  }

  pub follow_none : (scope : Name) (t : TypeName) (D : Option TypeDefTree) → Follows scope t D → D ≡ None → None ≡ stands_for find rank scope t
  follow_none scope t D f e = sym (ap stood_for e) ∙ f.same

  pub follow_fields : (scope : Name) (t : TypeName) (D : Option TypeDefTree) (d : TypeDefTree) → Follows scope t D → D ≡ Some d →
      has_fields d.body ≡ true → Some (record { class = d.class; name = d.name }) ≡ stands_for find rank scope t
  follow_fields scope t D d f is b =
      sym (ap (λ c. if c then Some (record { class = d.class; name = d.name })
      else option_and_then (record_type_of find (rank d)) (option_and_then (definition_of find d.class) (renamed d.body))) b) ∙
      sym (ap stood_for is) ∙ f.same

  pub follow_nothing : (scope : Name) (t : TypeName) (D : Option TypeDefTree) (d : TypeDefTree) (T : TypeTree) → Follows scope t D →
      D ≡ Some d → d.body ≡ same_as T → name_in T ≡ None → None ≡ stands_for find rank scope t
  follow_nothing scope t D d T f is b n =
      sym (ap (λ c. if has_fields c then Some (record { class = d.class; name = d.name })
      else option_and_then (record_type_of find (rank d)) (option_and_then (definition_of find d.class) (renamed c))) b ∙
      ap (λ u. option_and_then (record_type_of find (rank d)) (option_and_then (definition_of find d.class) u)) n) ∙
      sym (ap stood_for is) ∙ f.same
