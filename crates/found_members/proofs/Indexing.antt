-- Indexes of classes, one after the other.
use Rattle.std.proofs.Common.{◌≡◌, ℕ, zero, suc, ◌+◌, ◌<◌, add-one, List, [], ◌∷◌, ◌++◌, length, map, min, take, get_or, Some, sym, ap, ◌∙◌, subst, arith}
use Rattle.std.proofs.Math.Seq.{take-suc}
use Rattle.std.proofs.lemmas.List.{map-append, length-map, length-take}
use Rattle.abstract_syntax.specs.Classes.{ClassTree}
use Rattle.vdm_tree.specs.declared.class_def.ClassDef.{ClassDef}
use Rattle.vdm_tree.specs.ClassView.{class_view}
use Rattle.class_index.specs.Answers.{Indexes}
use Rattle.class_index.specs.declared.own_members.OwnMembers.{OwnMembers}
use Rattle.found_members.specs.Rows.{HaveIndexes}

-- one more class with its index
pub have_one_more : (own : List OwnMembers) (members : OwnMembers) (trees : List ClassTree) (tree : ClassTree) → length own ≡ length trees
    → HaveIndexes own trees → Indexes members tree → HaveIndexes (own ++ members ∷ []) (trees ++ tree ∷ [])
have_one_more [] members [] tree e have index zero class at = subst (λ t. Indexes members t) (some_same tree class at) index
  where
    some_same : (a b : ClassTree) → Some a ≡ Some b → a ≡ b
    some_same a b e = cc
have_one_more [] members [] tree e have index (suc k) class at = absurd (cc)
have_one_more [] members (t ∷ ts) tree e have index k class at = absurd (cc)
have_one_more (o ∷ os) members [] tree e have index k class at = absurd (cc)
have_one_more (o ∷ os) members (t ∷ ts) tree e have index zero class at = have zero class at
have_one_more (o ∷ os) members (t ∷ ts) tree e have index (suc k) class at =
    have_one_more os members ts tree (omega arith) (λ j c. have (suc j) c) index k class at

-- the classes up to one more, of which that one is the last
pub trees_one_more : (classes : List ClassDef) (i : ℕ) (class : ClassDef) → i < length classes
    → map class_view (take (i + 1) classes) ≡ map class_view (take i classes) ++ class_view (get_or classes i class) ∷ []
trees_one_more classes i class within =
    let one : take (i + 1) classes ≡ take i classes ++ get_or classes i class ∷ [] = rw add-one (take-suc classes i class within) in
    ap (map class_view) one ∙ map-append class_view (take i classes) (get_or classes i class ∷ [])

min_left : (a b : ℕ) → a < b → min a b ≡ a
min_left a b lt = omega arith

length_take_within : (i : ℕ) (xs : List ClassDef) → i < length xs → length (take i xs) ≡ i
length_take_within i xs within = length-take i xs ∙ min_left i (length xs) within

-- a turn of the loop over the classes
pub indexed_so_far : (own : List OwnMembers) (members : OwnMembers) (classes : List ClassDef) (i : ℕ) (class : ClassDef) (pushed : List OwnMembers)
    → i < length classes → length own ≡ i → HaveIndexes own (map class_view (take i classes))
    → Indexes members (class_view (get_or classes i class)) → pushed ≡ own ++ members ∷ []
    → HaveIndexes pushed (map class_view (take (i + 1) classes))
indexed_so_far own members classes i class pushed within count have index is =
    subst (λ (xs : List OwnMembers). HaveIndexes xs (map class_view (take (i + 1) classes))) (sym is)
    (subst (λ (trees : List ClassTree). HaveIndexes (own ++ members ∷ []) trees) (sym (trees_one_more classes i class within))
    (have_one_more own members (map class_view (take i classes)) (class_view (get_or classes i class))
    (count ∙ sym (length-map (take i classes) class_view ∙ length_take_within i classes within)) have index))
