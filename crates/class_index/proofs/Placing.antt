-- The places of members, from items to the answers of a class.
use Rattle.std.proofs.Common.{◌≡◌, ℕ, zero, suc, ◌+◌, Bool, true, false, cond, if◌then◌else◌, List, [], ◌∷◌, ◌++◌, map, flat_map, take, drop, Option, Some, None, option_map, slice_get, refl, ap, sym, ◌∙◌, subst, arith}
use Rattle.std.proofs.lemmas.List.{map-append}
use Rattle.std.proofs.lemmas.Option.{none-some, some_pair_parts, slice_get-map}
use Rattle.std.specs.List.{find, AllByRecursion}
use Rattle.std.specs.Option.{option_and_then}
use Rattle.abstract_syntax.specs.Classes.{VariableItem, variable_item, invariant_item, variables_among, BlockTree, types, values, variables, functions, operations, ClassTree}
use Rattle.class_meaning.specs.Members.{Member, of_type, of_value, of_variable, of_function, of_operation, kind_of, members_in, answers, first_answer, or_else, own}
use Rattle.class_meaning.specs.declared.ask.MemberKind.{MemberKind}
use Rattle.class_meaning.specs.declared.ask.Ask.{Ask}
use Rattle.class_meaning.specs.declared.ask.Ask.TheVariants.{AsType, ByName, Called}
use Rattle.class_index.specs.declared.member_at.MemberAt.{MemberAt}
use Rattle.class_index.specs.declared.own_members.OwnMembers.{OwnMembers}
use Rattle.class_index.specs.Answers.{variable_in, item_of, located, IsAnswer, own_place, answer_of, Indexes}
use Rattle.class_index.specs.Places.{ask_for, is_same_ask, kind_and_ask, items_of, Placed, placed, placed_items, placed_blocks, first_place}

-- ---- options

abbrev flat : {A : Type 0} → Option (Option A) → Option A
flat None = None
flat (Some o) = o

or_none : {A : Type 0} (o : Option A) → or_else o None ≡ o
or_none None = refl
or_none (Some a) = refl

or_grouped : {A : Type 0} (a b c : Option A) → or_else (or_else a b) c ≡ or_else a (or_else b c)
or_grouped None b c = refl
or_grouped (Some x) b c = refl

-- ---- the items of a block

option_seen : {A B : Type 0} (f : A → B) (o : Option A) → option_map f o ≡ flat (option_map (λ (a : A). Some (f a)) o)
option_seen f None = refl
option_seen f (Some a) = refl

option_kept : {A B : Type 0} (f : A → Option B) (o : Option A) → option_and_then f o ≡ flat (option_map f o)
option_kept f None = refl
option_kept f (Some a) = refl

all_members : {A : Type 0} (f : A → Member) (ds : List A) (i : ℕ) → option_map f (slice_get ds i) ≡ flat (slice_get (map (λ (d : A). Some (f d)) ds) i)
all_members f ds i = option_seen f (slice_get ds i) ∙ ap flat (sym (slice_get-map (λ d. Some (f d)) ds i))

items_are : (block : BlockTree) (i : ℕ) → item_of block i ≡ flat (slice_get (items_of block) i)
items_are (types ds place) i = all_members of_type ds i
items_are (values ds place) i = all_members of_value ds i
items_are (variables items place) i = option_kept variable_in (slice_get items i) ∙ ap flat (sym (slice_get-map variable_in items i))
items_are (functions ds place) i = all_members of_function ds i
items_are (operations ds place) i = all_members of_operation ds i
items_are _ i = refl

same_asks : (ask : Ask) (m : Member) → answers ask m ≡ is_same_ask ask (ask_for m)
same_asks (AsType name) (of_type t) = refl
same_asks (AsType name) (of_value v) = refl
same_asks (AsType name) (of_variable v) = refl
same_asks (AsType name) (of_function f) = refl
same_asks (AsType name) (of_operation o) = refl
same_asks (ByName name) (of_type t) = refl
same_asks (ByName name) (of_value v) = refl
same_asks (ByName name) (of_variable v) = refl
same_asks (ByName name) (of_function f) = refl
same_asks (ByName name) (of_operation o) = refl
same_asks (Called name n) (of_type t) = refl
same_asks (Called name n) (of_value v) = refl
same_asks (Called name n) (of_variable v) = refl
same_asks (Called name n) (of_function f) = refl
same_asks (Called name n) (of_operation o) = refl

-- ---- one item

abbrev place_of : ℕ → ℕ → Ask → Option Member → Option MemberAt
place_of number item ask None = None
place_of number item ask (Some m) = if answers ask m then Some (placed number item m).at else None

one_item : (ask : Ask) (number item j : ℕ) (items : List (Option Member))
    → first_place ask (placed_items number item (take 1 (drop j items))) ≡ place_of number item ask (flat (slice_get items j))
one_item ask number item zero [] = refl
one_item ask number item (suc j) [] = refl
one_item ask number item zero (None ∷ items) = refl
one_item ask number item zero (Some m ∷ items) = or_none (place_of number item ask (Some m))
one_item ask number item (suc j) (x ∷ items) = one_item ask number item j items

item_place : (ask : Ask) (number item : ℕ) (block : BlockTree)
    → first_place ask (placed_items number item (take 1 (drop item (items_of block)))) ≡ place_of number item ask (item_of block item)
item_place ask number item block = one_item ask number item item (items_of block) ∙ ap (place_of number item ask) (sym (items_are block item))

same_place : (ask : Ask) (number item : ℕ) (o : Option Member) (kind : MemberKind) (asked : Ask)
    → option_map kind_and_ask o ≡ Some (kind, asked)
    → (if is_same_ask ask asked then Some (record { kind = kind; block = number; item = item }) else None) ≡ place_of number item ask o
same_place ask number item None kind asked e = absurd (none-some (kind, asked) e)
same_place ask number item (Some m) kind asked e =
    let parts = some_pair_parts (kind_of m) kind (ask_for m) asked e in
    ap (λ (k : MemberKind). if is_same_ask ask asked then Some (record { kind = k; block = number; item = item }) else None) (sym parts.0)
    ∙ ap (λ (a : Ask). if is_same_ask ask a then Some (placed number item m).at else None) (sym parts.1)
    ∙ ap (λ (b : Bool). if b then Some (placed number item m).at else None) (sym (same_asks ask m))

-- a member is noted
pub noted : (number item : ℕ) (block : BlockTree) (r : Option (MemberKind × Ask)) (kind : MemberKind) (asked : Ask) (old new : Ask → Option MemberAt)
    → r ≡ option_map kind_and_ask (item_of block item)
    → r ≡ Some (kind, asked)
    → ((ask : Ask) → new ask ≡ or_else (old ask) (if is_same_ask ask asked then Some (record { kind = kind; block = number; item = item }) else None))
    → (ask : Ask) → new ask ≡ or_else (old ask) (first_place ask (placed_items number item (take 1 (drop item (items_of block)))))
noted number item block r kind asked old new found is now ask =
    now ask
    ∙ ap (or_else (old ask)) (same_place ask number item (item_of block item) kind asked (sym found ∙ is) ∙ sym (item_place ask number item block))

nothing_there : (ask : Ask) (number item : ℕ) (o : Option Member) → None ≡ option_map kind_and_ask o → None ≡ place_of number item ask o
nothing_there ask number item None e = refl
nothing_there ask number item (Some m) e = absurd (none-some (kind_and_ask m) e)

-- what is no member changes nothing
pub not_noted : (number item : ℕ) (block : BlockTree) (r : Option (MemberKind × Ask)) (old : Ask → Option MemberAt)
    → r ≡ option_map kind_and_ask (item_of block item)
    → r ≡ None
    → (ask : Ask) → old ask ≡ or_else (old ask) (first_place ask (placed_items number item (take 1 (drop item (items_of block)))))
not_noted number item block r old found is ask =
    sym (or_none (old ask))
    ∙ ap (or_else (old ask)) (nothing_there ask number item (item_of block item) (sym is ∙ found) ∙ sym (item_place ask number item block))

-- ---- one after the other

item_first : (ask : Ask) (number item : ℕ) (x : Option Member) (rest : List (Option Member))
    → first_place ask (placed_items number item (x ∷ rest))
    ≡ or_else (first_place ask (placed_items number item (x ∷ []))) (first_place ask (placed_items number (item + 1) rest))
item_first ask number item None rest = refl
item_first ask number item (Some m) rest =
    ap (λ (o : Option MemberAt). or_else o (first_place ask (placed_items number (item + 1) rest))) (sym (or_none (place_of number item ask (Some m))))

-- one item more
pub next_item : (number item : ℕ) (these rest : List (Option Member)) (x : Option Member) (old new whole : Ask → Option MemberAt)
    → these ≡ x ∷ rest
    → ((ask : Ask) → new ask ≡ or_else (old ask) (first_place ask (placed_items number item (take 1 these))))
    → ((ask : Ask) → or_else (old ask) (first_place ask (placed_items number item these)) ≡ whole ask)
    → (ask : Ask) → or_else (new ask) (first_place ask (placed_items number (item + 1) rest)) ≡ whole ask
next_item number item these rest x old new whole e now before ask =
    let own_item = first_place ask (placed_items number item (x ∷ [])) in
    let others = first_place ask (placed_items number (item + 1) rest) in
    ap (λ (o : Option MemberAt). or_else o others) (now ask ∙ ap (λ (xs : List (Option Member)). or_else (old ask) (first_place ask (placed_items number item (take 1 xs)))) e)
    ∙ or_grouped (old ask) own_item others
    ∙ ap (or_else (old ask)) (sym (item_first ask number item x rest))
    ∙ ap (λ (xs : List (Option Member)). or_else (old ask) (first_place ask (placed_items number item xs))) (sym e)
    ∙ before ask

first_append : (ask : Ask) (ps qs : List Placed) → first_place ask (ps ++ qs) ≡ or_else (first_place ask ps) (first_place ask qs)
first_append ask [] qs = refl
first_append ask (p ∷ ps) qs =
    let here = if answers ask p.member then Some p.at else None in
    ap (or_else here) (first_append ask ps qs) ∙ sym (or_grouped here (first_place ask ps) (first_place ask qs))

-- one block more
pub next_block : (number : ℕ) (these rest : List BlockTree) (b : BlockTree) (old new whole : Ask → Option MemberAt)
    → these ≡ b ∷ rest
    → ((ask : Ask) → new ask ≡ or_else (old ask) (first_place ask (placed_items number 0 (items_of b))))
    → ((ask : Ask) → or_else (old ask) (first_place ask (placed_blocks number these)) ≡ whole ask)
    → (ask : Ask) → or_else (new ask) (first_place ask (placed_blocks (number + 1) rest)) ≡ whole ask
next_block number these rest b old new whole e now before ask =
    let own_block = placed_items number 0 (items_of b) in
    let others = placed_blocks (number + 1) rest in
    ap (λ (o : Option MemberAt). or_else o (first_place ask others)) (now ask)
    ∙ or_grouped (old ask) (first_place ask own_block) (first_place ask others)
    ∙ ap (or_else (old ask)) (sym (first_append ask own_block others))
    ∙ ap (λ (bs : List BlockTree). or_else (old ask) (first_place ask (placed_blocks number bs))) (sym e)
    ∙ before ask

-- ---- the members of a class are those that have a place

abbrev somes : List (Option Member) → List Member
somes [] = []
somes (None ∷ items) = somes items
somes (Some m ∷ items) = m ∷ somes items

items_kept : (number item : ℕ) (items : List (Option Member)) → map (λ (p : Placed). p.member) (placed_items number item items) ≡ somes items
items_kept number item [] = refl
items_kept number item (None ∷ items) = items_kept number (item + 1) items
items_kept number item (Some m ∷ items) = ap (λ (ms : List Member). m ∷ ms) (items_kept number (item + 1) items)

somes_all : {A : Type 0} (f : A → Member) (ds : List A) → somes (map (λ (d : A). Some (f d)) ds) ≡ map f ds
somes_all f [] = refl
somes_all f (d ∷ ds) = ap (λ (ms : List Member). f d ∷ ms) (somes_all f ds)

somes_variables : (items : List VariableItem) → somes (map variable_in items) ≡ map of_variable (variables_among items)
somes_variables [] = refl
somes_variables (variable_item v ∷ items) = ap (λ (ms : List Member). of_variable v ∷ ms) (somes_variables items)
somes_variables (invariant_item condition place ∷ items) = somes_variables items

block_members : (b : BlockTree) → somes (items_of b) ≡ members_in b
block_members (types ds place) = somes_all of_type ds
block_members (values ds place) = somes_all of_value ds
block_members (variables items place) = somes_variables items
block_members (functions ds place) = somes_all of_function ds
block_members (operations ds place) = somes_all of_operation ds
block_members _ = refl

members_kept : (number : ℕ) (blocks : List BlockTree) → map (λ (p : Placed). p.member) (placed_blocks number blocks) ≡ flat_map members_in blocks
members_kept number [] = refl
members_kept number (b ∷ blocks) =
    map-append (λ (p : Placed). p.member) (placed_items number 0 (items_of b)) (placed_blocks (number + 1) blocks)
    ∙ ap (λ (ms : List Member). ms ++ map (λ (p : Placed). p.member) (placed_blocks (number + 1) blocks)) (items_kept number 0 (items_of b) ∙ block_members b)
    ∙ ap (λ (ms : List Member). members_in b ++ ms) (members_kept (number + 1) blocks)

-- ---- and each stands at its place

abbrev Stands : ClassTree → Placed → Type 0
Stands class p = (located class p.at ≡ Some p.member) × (p.at.kind ≡ kind_of p.member)

same_first : (k : ℕ) → k ≡ k + 0
same_first k = omega arith

from_zero : (k : ℕ) → 0 + k ≡ k
from_zero k = omega arith

same_next : (j k : ℕ) → j + 1 + k ≡ j + suc k
same_next j k = omega arith

module _ (class : ClassTree) where
  items_stand : (number : ℕ) (block : BlockTree) → slice_get class.blocks number ≡ Some block
      → (item : ℕ) (items : List (Option Member))
      → ((k : ℕ) → slice_get (items_of block) (item + k) ≡ slice_get items k)
      → AllByRecursion (Stands class) (placed_items number item items)
  items_stand number block there item [] h = tt
  items_stand number block there item (None ∷ items) h =
      items_stand number block there (item + 1) items (λ k. ap (slice_get (items_of block)) (same_next item k) ∙ h (suc k))
  items_stand number block there item (Some m ∷ items) h =
      let here : located class (placed number item m).at ≡ Some m =
      ap (option_and_then (λ (b : BlockTree). item_of b item)) there
      ∙ items_are block item
      ∙ ap flat (ap (slice_get (items_of block)) (same_first item) ∙ h 0) in
      ((here, refl), items_stand number block there (item + 1) items (λ k. ap (slice_get (items_of block)) (same_next item k) ∙ h (suc k)))

  both_stand : (ps qs : List Placed) → AllByRecursion (Stands class) ps → AllByRecursion (Stands class) qs → AllByRecursion (Stands class) (ps ++ qs)
  both_stand [] qs hp hq = hq
  both_stand (p ∷ ps) qs hp hq = (hp.0, both_stand ps qs hp.1 hq)

  blocks_stand : (number : ℕ) (blocks : List BlockTree)
      → ((k : ℕ) → slice_get class.blocks (number + k) ≡ slice_get blocks k)
      → AllByRecursion (Stands class) (placed_blocks number blocks)
  blocks_stand number [] h = tt
  blocks_stand number (b ∷ blocks) h =
      both_stand (placed_items number 0 (items_of b)) (placed_blocks (number + 1) blocks)
      (items_stand number b (ap (slice_get class.blocks) (same_first number) ∙ h 0) 0 (items_of b) (λ k. ap (slice_get (items_of b)) (from_zero k)))
      (blocks_stand (number + 1) blocks (λ k. ap (slice_get class.blocks) (same_next number k) ∙ h (suc k)))

  -- ---- so the first place is an answer

  abbrev Told : Option Member → Option MemberAt → Type 0
  Told m None = m ≡ None
  Told m (Some at) = (located class at ≡ m) × (option_map kind_of m ≡ Some at.kind)

  told_first : (ask : Ask) (ps : List Placed) → AllByRecursion (Stands class) ps → Told (find (answers ask) (map (λ (p : Placed). p.member) ps)) (first_place ask ps)
  told_first ask [] h = refl
  told_first ask (p ∷ ps) h = by (answers ask p.member) (told_first ask ps h.1)
    where
      by : (b : Bool)
          → Told (find (answers ask) (map (λ (p : Placed). p.member) ps)) (first_place ask ps)
          → Told (cond b (Some p.member) (find (answers ask) (map (λ (p : Placed). p.member) ps))) (or_else (if b then Some p.at else None) (first_place ask ps))
      by true rest = (h.0.0, ap Some (sym h.0.1))
      by false rest = rest

  told : (ask : Ask) → Told (first_answer class ask) (first_place ask (placed_blocks 0 class.blocks))
  told ask =
      subst (λ (ms : List Member). Told (find (answers ask) ms) (first_place ask (placed_blocks 0 class.blocks))) (members_kept 0 class.blocks)
      (told_first ask (placed_blocks 0 class.blocks) (blocks_stand 0 class.blocks (λ k. ap (slice_get class.blocks) (from_zero k))))

  told_either : (m n : Option Member) (a b : Option MemberAt) → Told m a → Told n b → Told (or_else m n) (or_else a b)
  told_either None n None b h k = k
  told_either (Some m) n None b h k = absurd (none-some m (sym h))
  told_either None n (Some at) b h k = absurd (none-some at.kind h.1)
  told_either (Some m) n (Some at) b h k = h

  is_answer : (ask : Ask) (o : Option MemberAt) → Told (own class ask) o → IsAnswer class ask o
  is_answer ask None h = h
  is_answer ask (Some at) h = h

  own_told : (members : OwnMembers) → ((ask : Ask) → own_place members ask ≡ first_place ask (placed_blocks 0 class.blocks))
      → (ask : Ask) → Told (first_answer class ask) (own_place members ask)
  own_told members h ask = subst (Told (first_answer class ask)) (sym (h ask)) (told ask)

  -- an index that has the first place of each ask
  pub indexed : (members : OwnMembers) → ((ask : Ask) → own_place members ask ≡ first_place ask (placed_blocks 0 class.blocks)) → Indexes members class
  indexed members h (AsType name) = is_answer (AsType name) (own_place members (AsType name)) (own_told members h (AsType name))
  indexed members h (ByName name) = is_answer (ByName name) (own_place members (ByName name)) (own_told members h (ByName name))
  indexed members h (Called name n) =
      is_answer (Called name n) (answer_of members (Called name n))
      (told_either (first_answer class (Called name n)) (first_answer class (ByName name)) (own_place members (Called name n)) (own_place members (ByName name))
      (own_told members h (Called name n)) (own_told members h (ByName name)))
