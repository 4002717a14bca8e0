-- Members one after the other.
use Rattle.std.proofs.Common.{◌≡◌, ℕ, suc, ◌+◌, Bool, ◌<◌, ◌≤◌, List, [], ◌∷◌, ◌++◌, map, flat_map, length, drop, get_or, Option, Some, None, Result, Ok, Err, OnOk, ap, sym, ◌∙◌, arith, add-one, drop-cons}
use Rattle.std.proofs.lemmas.Grind.{common_steps}
use Rattle.vdm_kinds.specs.declared.spec_fault.SpecFault.{SpecFault}
use Rattle.abstract_syntax.specs.Classes.{SpecTree}
use Rattle.class_meaning.specs.Members.{Member, of_variable, member_name, members_in}
use Rattle.vdm_tree.specs.declared.class_def.Block.{Block}
use Rattle.vdm_tree.specs.declared.class_def.VarDef.{VarDef}
use Rattle.vdm_tree.specs.declared.class_def.VariableItem.{VariableItem}
use Rattle.vdm_tree.specs.declared.class_def.VariableItem.TheVariants.{Variable}
use Rattle.vdm_tree.specs.ClassView.{block_view, class_view, variable_view}
use Rattle.vdm_tree.specs.declared.class_def.ClassDef.{ClassDef}
use Rattle.vdm_kinds.specs.declared.name.Name.{Name}
use Rattle.table_faults.specs.declared.seen.Seen.{Seen}
use Rattle.table_faults.specs.Firsts.{or_behind, member_fault, members_fault, class_fault, classes_fault, shape_of, with_member, with_name, Clashing}
use Rattle.table_faults.specs.Known.{known_of, Tells, Reaches, variables_of}

-- what holds in any case holds where there is no error
pub in_any_case : {A E P : Type 0} (told : Result A E) → P → OnOk told P
in_any_case (Ok a) p = p
in_any_case (Err e) p = tt

pub next_of : {A : Type 0} (xs : List A) (i : ℕ) (x : A) → i < length xs → x ≡ get_or xs i x → drop i xs ≡ x ∷ drop (i + 1) xs
next_of xs i x h is = let e : drop i xs ≡ get_or xs i x ∷ drop (i + 1) xs = rw (add-one, drop-cons xs i x) in cc

pub none_left : {A : Type 0} (xs : List A) (i : ℕ) → length xs ≤ i → drop i xs ≡ []
none_left xs i h = grind (arith, common_steps)

-- ---- variables

module _ (items : List VariableItem) (i : ℕ) (item : VariableItem) (within : i < length items) (is : item ≡ get_or items i item) where
  pub variable_next : (v : VarDef) → item ≡ Variable v → variables_of (drop i items) ≡ of_variable (variable_view v) ∷ variables_of (drop (i + 1) items)
  variable_next v kind =
      ap variables_of (next_of items i item within is) ∙ ap (λ (x : VariableItem). variables_of (x ∷ drop (i + 1) items)) kind

abbrev pub members_from : ℕ → List Block → List Member
members_from i blocks = flat_map members_in (map block_view (drop i blocks))

module _ (spec : SpecTree) (k : ℕ) where
  abbrev pub told : Clashing → List Member → Option SpecFault
  told known members = members_fault spec k known members

  -- with no refusal of the next member
  pub goes : (first now next : Seen) (all rest others : List Member) (m : Member)
      → Reaches spec k first now all rest
      → rest ≡ m ∷ others
      → None ≡ member_fault spec k (known_of now) m
      → known_of next ≡ with_member (known_of now) (member_name m) (shape_of m)
      → Reaches spec k first next all others
  goes first now next all rest others m so_far is none noted = record {
    goes_on = λ more.
        so_far.goes_on more
        ∙ ap (λ (ms : List Member). told (known_of now) (ms ++ more)) is
        ∙ ap (λ (f : Option SpecFault). or_behind f (told (with_member (known_of now) (member_name m) (shape_of m)) (others ++ more))) (sym none)
        ∙ ap (λ (known : Clashing). told known (others ++ more)) (sym noted);
  }

  -- with its refusal
  pub halts : (first now last : Seen) (all rest others : List Member) (m : Member) (fault : SpecFault)
      → Reaches spec k first now all rest
      → rest ≡ m ∷ others
      → Some fault ≡ member_fault spec k (known_of now) m
      → Tells spec k first last all (Some fault)
  halts first now last all rest others m fault so_far is refused = record {
    decides = λ more.
        so_far.goes_on more
        ∙ ap (λ (ms : List Member). told (known_of now) (ms ++ more)) is
        ∙ ap (λ (f : Option SpecFault). or_behind f (told (with_member (known_of now) (member_name m) (shape_of m)) (others ++ more))) (sym refused);
  }

  pub ends : (first now : Seen) (all rest : List Member) → Reaches spec k first now all rest → rest ≡ [] → Tells spec k first now all None
  ends first now all rest so_far none = record {
    decides = λ more. so_far.goes_on more ∙ ap (λ (ms : List Member). told (known_of now) (ms ++ more)) none;
  }

  -- ---- definitions of one kind

  module _ {A B : Type 0} (f : B → Member) (g : A → B) (items : List A) (i : ℕ) where
    pub item_goes : (first now next : Seen) (x : A)
        → i < length items
        → x ≡ get_or items i x
        → Reaches spec k first now (map f (map g items)) (map f (map g (drop i items)))
        → None ≡ member_fault spec k (known_of now) (f (g x))
        → known_of next ≡ with_member (known_of now) (member_name (f (g x))) (shape_of (f (g x)))
        → Reaches spec k first next (map f (map g items)) (map f (map g (drop (i + 1) items)))
    item_goes first now next x within is so_far none noted =
        goes first now next (map f (map g items)) (map f (map g (drop i items))) (map f (map g (drop (i + 1) items))) (f (g x)) so_far
        (ap (λ (xs : List A). map f (map g xs)) (next_of items i x within is)) none noted

    pub item_halts : (first now last : Seen) (x : A) (fault : SpecFault)
        → i < length items
        → x ≡ get_or items i x
        → Reaches spec k first now (map f (map g items)) (map f (map g (drop i items)))
        → Some fault ≡ member_fault spec k (known_of now) (f (g x))
        → Tells spec k first last (map f (map g items)) (Some fault)
    item_halts first now last x fault within is so_far refused =
        halts first now last (map f (map g items)) (map f (map g (drop i items))) (map f (map g (drop (i + 1) items))) (f (g x)) fault so_far
        (ap (λ (xs : List A). map f (map g xs)) (next_of items i x within is)) refused

    pub items_end : (first now : Seen)
        → length items ≤ i
        → Reaches spec k first now (map f (map g items)) (map f (map g (drop i items)))
        → Tells spec k first now (map f (map g items)) None
    items_end first now past so_far =
        ends first now (map f (map g items)) (map f (map g (drop i items))) so_far (ap (λ (xs : List A). map f (map g xs)) (none_left items i past))

  -- ---- blocks

  module _ (blocks : List Block) (i : ℕ) (block : Block) (within : i < length blocks) (is : block ≡ get_or blocks i block) where
    block_next : members_from i blocks ≡ members_in (block_view block) ++ members_from (i + 1) blocks
    block_next = ap (λ (bs : List Block). flat_map members_in (map block_view bs)) (next_of blocks i block within is)

    pub block_told : (now next : Seen) (fault all : Option SpecFault)
        → Tells spec k now next (members_in (block_view block)) fault
        → told (known_of now) (members_from i blocks) ≡ all
        → or_behind fault (told (known_of next) (members_from (i + 1) blocks)) ≡ all
    block_told now next fault all tells so_far =
        sym (tells.decides (members_from (i + 1) blocks)) ∙ ap (told (known_of now)) (sym block_next) ∙ so_far

-- ---- classes

module _ (spec : SpecTree) (definitions : List ClassDef) (k : ℕ) (class : ClassDef) (within : k < length definitions) (is : class ≡ get_or definitions k class) where
  abbrev pub classes_from : (Name → Bool) → ℕ → Option SpecFault
  classes_from known i = classes_fault spec known i (map class_view (drop i definitions))

  pub class_told : (now next : Name → Bool) (fault all : Option SpecFault)
      → fault ≡ class_fault spec now k (class_view class)
      → next ≡ with_name now class.name
      → classes_from now k ≡ all
      → or_behind fault (classes_from next (k + 1)) ≡ all
  class_told now next fault all e noted so_far =
      let more : k + 1 ≡ suc k = omega arith in
      ap (λ (f : Option SpecFault). or_behind f (classes_from next (k + 1))) e
      ∙ ap (λ (known : Name → Bool). or_behind (class_fault spec now k (class_view class)) (classes_from known (k + 1))) noted
      ∙ ap (λ (i : ℕ). or_behind (class_fault spec now k (class_view class)) (classes_fault spec (with_name now class.name) i (map class_view (drop (k + 1) definitions)))) more
      ∙ ap (λ (ds : List ClassDef). classes_fault spec now k (map class_view ds)) (sym (next_of definitions k class within is))
      ∙ so_far
