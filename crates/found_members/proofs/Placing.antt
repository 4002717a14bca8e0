-- Rows of which some are placed: what is found by them, and in which ways.
use Rattle.std.proofs.Common.{◌≡◌, ◌≢◌, ℕ, suc, ◌<◌, ◌≤◌, Bool, true, false, ◌&&◌, ◌||◌, ⊎_elim, ◌+◌, add-one, nat_eq, nat_lt, eq-eqb, eqb-true, List, [], ◌∷◌, ◌++◌, length, get_or, take, set, Option, Some, None, is_some, slice_get, option_map, if◌then◌else◌, refl, sym, ap, ◌∙◌, subst}
use Rattle.std.specs.Prelude.{Vec}
use Rattle.std.specs.List.{list_all}
use Rattle.std.specs.Option.{IsSomeAnd, option_and_then}
use Rattle.std.proofs.lemmas.List.{length-map, length-set, get_or-set_same, get_or-set_other, get_or_past, get_or-map}
use Rattle.std.proofs.lemmas.Bool.{cases_lt, ltb-true, ltb-false}
use Rattle.std.proofs.lemmas.List.Folds.{list_any-append, list_any_at, list_all_at}
use Rattle.std.proofs.Math.Seq.{take-suc}
use Rattle.std.proofs.lemmas.Option.{slice_get_past, slice_get_within, slice_get-get_or}
use Rattle.abstract_syntax.specs.Classes.{ClassTree, SpecTree}
use Rattle.graph_cycles.specs.Graphs.{Graph, successors, settles, leads_to_no_cycle, is_in, graph_of, IsOrder}
use Rattle.class_index.specs.Answers.{answer_of, IsAnswer, Indexes}
use Rattle.class_index.specs.declared.member_at.MemberAt.{MemberAt}
use Rattle.class_index.specs.declared.own_members.OwnMembers.{OwnMembers}
use Rattle.class_meaning.specs.Classes.{class_at, classes, class_graph, io_class, superclass_numbers}
use Rattle.class_meaning.specs.Members.{kind_of, own}
use Rattle.class_meaning.specs.Found.{own_in, found}
use Rattle.class_meaning.specs.declared.ask.Ask.{Ask}
use Rattle.class_meaning.specs.declared.found.Found.TheVariants.{Nothing as FoundNothing, One}
use Rattle.class_meaning.proofs.Agreeing.{found_own, found_above as nothing_own}
use Rattle.class_meaning.proofs.Finding.{found_unsettled}
use Rattle.class_meaning.proofs.Numbers.{not_both, and_left, and_right, or_right, all_from, each_of, itself}
use Rattle.found_members.specs.Agreements.{agreed_at, found_above}
use Rattle.found_members.specs.Rows.{HaveIndexes, Rows, Settles, IsRight, IsHeir, IsWhole, Places, AreCircles, is_placed, is_no_circle, own_answer, above_step, looked, row_ways, next_of}
use Rattle.found_members.specs.Ways.{own_ways, is_among, HasAll, Covers}
use Rattle.found_members.specs.declared.following.Step.{Step}
use Rattle.found_members.specs.declared.following.Step.TheVariants.{Found as StepFound, Above}
use Rattle.found_members.specs.declared.inherited.Inherited.{Inherited}
use Rattle.found_members.specs.declared.inherited.Inherited.TheVariants.{Nothing, From, Agreed, Circle}
use Rattle.found_members.proofs.Asking.{more_left, more_right}
use Rattle.found_members.proofs.Covering.{agreed_nothing, answered_right, covers_class, covers_nothing, covers_same}

-- ---- own answers

pub answer_right : (o : Option OwnMembers) (class : ClassTree) (ask : Ask) → IsSomeAnd o (λ members. Indexes members class)
    → IsAnswer class ask (option_and_then (λ members. answer_of members ask) o)
answer_right None class ask there = absurd there
answer_right (Some members) class ask there = there ask

is_some_mapped : {A B : Type 0} (f : A → B) (o : Option A) (b : B) → option_map f o ≡ Some b → true ≡ is_some o
is_some_mapped f None b e = absurd (cc)
is_some_mapped f (Some a) b e = refl

answer_there : (class : ClassTree) (ask : Ask) (o : Option MemberAt) → IsAnswer class ask o → is_some o ≡ is_some (own class ask)
answer_there class ask None none = ap (λ x. is_some x) (sym none)
answer_there class ask (Some at) is = is_some_mapped kind_of (own class ask) at.kind is.1

own_there : (own : List OwnMembers) (spec : SpecTree) (ask : Ask) (k : ℕ) (class : ClassTree) → HaveIndexes own (classes spec)
    → class_at spec k ≡ Some class → is_some (own_answer own ask k) ≡ is_some (own_in spec ask k)
own_there indexes spec ask k class have at =
    answer_there class ask (own_answer indexes ask k) (answer_right (slice_get indexes k) class ask (have k class at))
    ∙ ap (λ o. is_some (option_and_then (λ c. own c ask) o)) (sym at)

-- ---- a class that is placed

module _ (rows : List Inherited) (spec : SpecTree) (fine : Rows rows spec) where
  row_there : (k : ℕ) → is_placed rows k ≡ true → (row : Inherited) × (slice_get rows k ≡ Some row) × (is_no_circle (Some row) ≡ true)
  row_there k placed = by (slice_get rows k) refl
    where
      by : (o : Option Inherited) → slice_get rows k ≡ o → (row : Inherited) × (slice_get rows k ≡ Some row) × (is_no_circle (Some row) ≡ true)
      by None e = not_both placed (ap is_no_circle e)
      by (Some row) e = (row, e, ap is_no_circle (sym e) ∙ placed)

  class_there : (k : ℕ) → is_placed rows k ≡ true → (class : ClassTree) × (class_at spec k ≡ Some class)
  class_there k placed =
      let row = row_there k placed in
      let within : k < length rows = slice_get_within rows k row.0 row.1 in
      let same : length rows ≡ length (classes spec) = fine.count ∙ length-map (classes spec) (superclass_numbers spec) in
      (get_or (classes spec) k io_class, slice_get-get_or (classes spec) k io_class (subst (λ n. k < n) same within))

  right_settles : (k : ℕ) (row : Inherited) → IsRight spec k row → is_no_circle (Some row) ≡ true → Settles spec k
  right_settles k Nothing right t = right.0
  right_settles k (From class) right t = right.0
  right_settles k (Agreed a) right t = right.0
  right_settles k Circle right t = not_both t refl

  pub placed_settles : (k : ℕ) → is_placed rows k ≡ true → Settles spec k
  placed_settles k placed =
      let row = row_there k placed in
      right_settles k row.0 (fine.right k row.0 row.1) row.2

-- what is found in a class, or the one superclass in which the same is found
abbrev pub IsStep : SpecTree → Ask → ℕ → Step → Type 0
IsStep spec ask k (StepFound answer) = answer ≡ found spec ask k
IsStep spec ask k (Above class) = (found spec ask class ≡ found spec ask k) × (successors (class_graph spec) k ≡ class ∷ [])

above_right : (spec : SpecTree) (ask : Ask) (k : ℕ) (row : Inherited) → found spec ask k ≡ found_above spec k ask → IsRight spec k row
    → is_no_circle (Some row) ≡ true → IsStep spec ask k (above_step ask (Some row))
above_right spec ask k Nothing e right t = ap (λ nodes. agreed_at spec nodes ask) (sym right.1) ∙ sym e
above_right spec ask k (From class) e right t =
    (sym (agreed_nothing (found spec ask class)) ∙ ap (λ nodes. agreed_at spec nodes ask) (sym right.1) ∙ sym e, right.1)
above_right spec ask k (Agreed a) e right t = answered_right a (found_above spec k) ask right.1 ∙ sym e
above_right spec ask k Circle e right t = not_both t refl

pub looked_right : (own : List OwnMembers) (rows : List Inherited) (spec : SpecTree) (ask : Ask) (k : ℕ) → HaveIndexes own (classes spec)
    → Rows rows spec → is_placed rows k ≡ true → IsStep spec ask k (looked own rows ask k)
looked_right own rows spec ask k have fine placed = by (is_some (own_answer own ask k)) refl
  where
    there : is_some (own_answer own ask k) ≡ is_some (own_in spec ask k)
    there = let class = class_there rows spec fine k placed in own_there own spec ask k class.0 have class.1

    settled : Settles spec k
    settled = placed_settles rows spec fine k placed

    by : (t : Bool) → is_some (own_answer own ask k) ≡ t → IsStep spec ask k (if t then StepFound (One k) else above_step ask (slice_get rows k))
    by true e = sym (found_own spec ask k settled (sym there ∙ e))
    by false e =
        let row = row_there rows spec fine k placed in
        subst (λ o. IsStep spec ask k (above_step ask o)) (sym row.1)
        (above_right spec ask k row.0 (nothing_own spec ask k settled (sym there ∙ e)) (fine.right k row.0 row.1) row.2)

-- ---- a walk along single superclasses

-- a class that is reached, with so many levels left, where what is found is what is wanted
pub record Follows (spec : SpecTree) (rows : List Inherited) (ask : Ask) (k : ℕ) (at : ℕ) (left : ℕ) : Type 0 where
  pub placed : is_placed rows at ≡ true
  pub same : found spec ask at ≡ found spec ask k
  pub settled : settles left (class_graph spec) at ≡ true

pub follows_start : (spec : SpecTree) (rows : List Inherited) (ask : Ask) (k n : ℕ) → Rows rows spec → is_placed rows k ≡ true → n ≡ length rows
    → Follows spec rows ask k k n
follows_start spec rows ask k n fine placed e = record {
  placed = placed;
  same = refl;
  settled = ap (λ m. settles m (class_graph spec) k) (e ∙ fine.count) ∙ placed_settles rows spec fine k placed;
}

-- the one superclass of a class that is placed is placed, and settles sooner
next_placed : (spec : SpecTree) (rows : List Inherited) (at class : ℕ) → Rows rows spec → is_placed rows at ≡ true
    → successors (class_graph spec) at ≡ class ∷ [] → is_placed rows class ≡ true
next_placed spec rows at class fine placed e =
    and_left (is_placed rows class) true (ap (list_all (is_placed rows)) (sym e) ∙ fine.closed at placed)

next_settles : (spec : SpecTree) (at class left more : ℕ) → more ≡ suc left → settles more (class_graph spec) at ≡ true
    → successors (class_graph spec) at ≡ class ∷ [] → settles left (class_graph spec) class ≡ true
next_settles spec at class left more n settled e =
    and_left (settles left (class_graph spec) class) true
    (ap (list_all (settles left (class_graph spec))) (sym e) ∙ ap (λ m. settles m (class_graph spec) at) (sym n) ∙ settled)

pub follows_next : (spec : SpecTree) (rows : List Inherited) (ask : Ask) (k at class left more : ℕ) → more ≡ suc left → Rows rows spec
    → Follows spec rows ask k at more → IsStep spec ask at (Above class) → Follows spec rows ask k class left
follows_next spec rows ask k at class left more n fine here next = record {
  placed = next_placed spec rows at class fine here.placed next.1;
  same = next.0 ∙ here.same;
  settled = next_settles spec at class left more n here.settled next.1;
}

pub follows_end : {A : Type 0} (spec : SpecTree) (rows : List Inherited) (ask : Ask) (k at left : ℕ) → left ≡ 0 → Follows spec rows ask k at left → A
follows_end spec rows ask k at left e here = not_both (ap (λ m. settles m (class_graph spec) at) (sym e) ∙ here.settled) refl

-- ---- the same walk, for ways

-- the ways of the classes so far, which with those of the class that is reached are enough
pub record Gathers (spec : SpecTree) (rows : List Inherited) (old : List Ask) (ways : List Ask) (k : ℕ) (at : ℕ) (left : ℕ) : Type 0 where
  pub placed : is_placed rows at ≡ true
  pub settled : settles left (class_graph spec) at ≡ true
  pub keeps : HasAll old ways
  pub rest : (more : List Ask) → HasAll ways more → Covers more (λ ask. found spec ask at) → Covers more (λ ask. found spec ask k)

pub gathers_start : (spec : SpecTree) (rows : List Inherited) (old : List Ask) (k n : ℕ) → Rows rows spec → is_placed rows k ≡ true → n ≡ length rows
    → Gathers spec rows old old k k n
gathers_start spec rows old k n fine placed e = record {
  placed = placed;
  settled = ap (λ m. settles m (class_graph spec) k) (e ∙ fine.count) ∙ placed_settles rows spec fine k placed;
  keeps = λ ask f. f;
  rest = λ more has covers. covers;
}

pub gathers_end : {A : Type 0} (spec : SpecTree) (rows : List Inherited) (old ways : List Ask) (k at left : ℕ) → left ≡ 0
    → Gathers spec rows old ways k at left → A
gathers_end spec rows old ways k at left e here = not_both (ap (λ m. settles m (class_graph spec) at) (sym e) ∙ here.settled) refl

step_keeps : (ways own more : List Ask) → HasAll ways (ways ++ own ++ more)
step_keeps ways own more ask f = more_left ways own ask (more_left (ways ++ own) more ask f)

step_own : (ways own more : List Ask) → HasAll own (ways ++ own ++ more)
step_own ways own more ask f = more_right ways own ask (more_left (ways ++ own) more ask f)

step_more : (ways own more : List Ask) → HasAll more (ways ++ own ++ more)
step_more ways own more ask f = more_right (ways ++ own) more ask f

-- what is above a class that has no one superclass is covered by its row
row_covers : (spec : SpecTree) (k : ℕ) (row : Inherited) (ways : List Ask) → IsRight spec k row → is_no_circle (Some row) ≡ true
    → next_of (Some row) ≡ None → HasAll (row_ways (Some row)) ways → Covers ways (found_above spec k)
row_covers spec k Nothing ways right t none has = covers_same ways (λ ask. FoundNothing) (found_above spec k)
    (λ way. ap (λ nodes. agreed_at spec nodes way) (sym right.1)) (covers_nothing ways)
row_covers spec k (From class) ways right t none has = absurd (cc)
row_covers spec k (Agreed a) ways right t none has = λ ask f. right.1.covers ask (has ask f)
row_covers spec k Circle ways right t none has = not_both t refl

row_next : (spec : SpecTree) (k class : ℕ) (row : Inherited) → IsRight spec k row → next_of (Some row) ≡ Some class
    → successors (class_graph spec) k ≡ class ∷ []
row_next spec k class Nothing right e = absurd (cc)
row_next spec k class (From other) right e = right.1 ∙ ap (λ n. n ∷ []) (some_same other class e)
  where
    some_same : (a b : ℕ) → Some a ≡ Some b → a ≡ b
    some_same a b e = cc
row_next spec k class (Agreed a) right e = absurd (cc)
row_next spec k class Circle right e = absurd (cc)

-- the ways of the class that is reached, where it has no one superclass
pub gathers_done : (spec : SpecTree) (rows : List Inherited) (old ways new : List Ask) (k at left : ℕ) → Rows rows spec
    → Gathers spec rows old ways k at left → new ≡ ways ++ own_ways (classes spec) at ++ row_ways (slice_get rows at)
    → next_of (slice_get rows at) ≡ None → HasAll old new × Covers new (λ ask. found spec ask k)
gathers_done spec rows old ways new k at left fine here e none =
    let row = row_there rows spec fine at here.placed in
    let all : List Ask = ways ++ own_ways (classes spec) at ++ row_ways (slice_get rows at) in
    let above : Covers all (found_above spec at) =
    row_covers spec at row.0 all (fine.right at row.0 row.1) row.2 (ap next_of (sym row.1) ∙ none)
    (λ ask f. ap (λ o. is_among (row_ways o) ask) (sym row.1) ∙ step_more ways (own_ways (classes spec) at) (row_ways (slice_get rows at)) ask f) in
    let reached : Covers all (λ ask. found spec ask at) =
    covers_class spec at all (placed_settles rows spec fine at here.placed)
    (step_own ways (own_ways (classes spec) at) (row_ways (slice_get rows at))) above in
    subst (λ (xs : List Ask). HasAll old xs × Covers xs (λ ask. found spec ask k)) (sym e) (
      λ ask f. here.keeps ask (step_keeps ways (own_ways (classes spec) at) (row_ways (slice_get rows at)) ask f),
      here.rest all (step_keeps ways (own_ways (classes spec) at) (row_ways (slice_get rows at))) reached,
    )

-- or where it has one, which is next
pub gathers_next : (spec : SpecTree) (rows : List Inherited) (old ways new : List Ask) (k at class left more : ℕ) → more ≡ suc left → Rows rows spec
    → Gathers spec rows old ways k at more → new ≡ ways ++ own_ways (classes spec) at ++ row_ways (slice_get rows at)
    → next_of (slice_get rows at) ≡ Some class → Gathers spec rows old new k class left
gathers_next spec rows old ways new k at class left more n fine here e next =
    let row = row_there rows spec fine at here.placed in
    let one : successors (class_graph spec) at ≡ class ∷ [] =
    row_next spec at class row.0 (fine.right at row.0 row.1) (ap next_of (sym row.1) ∙ next) in
    let all : List Ask = ways ++ own_ways (classes spec) at ++ row_ways (slice_get rows at) in
    let keeps : HasAll ways new = subst (λ xs. HasAll ways xs) (sym e) (step_keeps ways (own_ways (classes spec) at) (row_ways (slice_get rows at))) in
    let owns : HasAll (own_ways (classes spec) at) new = subst (λ xs. HasAll (own_ways (classes spec) at) xs) (sym e) (step_own ways (own_ways (classes spec) at) (row_ways (slice_get rows at))) in
    record {
      placed = next_placed spec rows at class fine here.placed one;
      settled = next_settles spec at class left more n here.settled one;
      keeps = λ ask f. here.keeps ask (keeps ask f);
      rest = λ wider has covers. here.rest wider (λ ask f. keeps ask (has ask f))
          (covers_class spec at wider (placed_settles rows spec fine at here.placed) (λ ask f. owns ask (has ask f))
          (covers_same wider (λ ask. found spec ask class) (found_above spec at)
          (λ way. sym (agreed_nothing (found spec way class)) ∙ ap (λ nodes. agreed_at spec nodes way) (sym one)) covers));
    }

-- ---- lists of classes that are placed

pub all_here : {A : Type 0} (p : A → Bool) (xs : List A) (i : ℕ) (d : A) → i < length xs → list_all p xs ≡ true → p (get_or xs i d) ≡ true
all_here p xs i d within all = by (p (get_or xs i d)) refl
  where
    by : (t : Bool) → p (get_or xs i d) ≡ t → t ≡ true
    by true e = refl
    by false e = not_both all (list_all_at p xs i d within e)

pub one_further : (xs : List ℕ) (i : ℕ) (x : ℕ) → i < length xs → x ≡ get_or xs i 0 → take (i + 1) xs ≡ take i xs ++ x ∷ []
one_further xs i x within e = rw add-one (take-suc xs i 0 within ∙ ap (λ y. take i xs ++ y ∷ []) (sym e))

pub nodes_in : (nodes : List ℕ) (i node a : ℕ) → i < length nodes → node ≡ get_or nodes i 0
    → is_in (take (i + 1) nodes) a ≡ (nat_eq a node || is_in (take i nodes) a)
nodes_in nodes i node a within e =
    ap (λ xs. is_in xs a) (one_further nodes i node within e)
    ∙ list_any-append (nat_eq a) (take i nodes) (node ∷ [])
    ∙ or_swapped (is_in (take i nodes) a) (nat_eq a node)
  where
    or_swapped : (b t : Bool) → (b || (t || false)) ≡ (t || b)
    or_swapped true true = refl
    or_swapped true false = refl
    or_swapped false true = refl
    or_swapped false false = refl

all_wider : (p q : ℕ → Bool) (xs : List ℕ) → ((x : ℕ) → p x ≡ true → q x ≡ true) → list_all p xs ≡ true → list_all q xs ≡ true
all_wider p q xs wider all = all_from q xs (λ a is. wider a (each_of p xs a all is))

-- ---- a row that is set

slice_get_set_same : {A : Type 0} (xs : List A) (i : ℕ) (x : A) → i < length xs → slice_get (set xs i x) i ≡ Some x
slice_get_set_same xs i x within =
    slice_get-get_or (set xs i x) i x (subst (λ n. i < n) (sym (length-set xs i x)) within) ∙ ap Some (get_or-set_same xs i x x within)

slice_get_set_other : {A : Type 0} (xs : List A) (i k : ℕ) (x : A) → k ≢ i → slice_get (set xs i x) k ≡ slice_get xs k
slice_get_set_other xs i k x apart = ⊎_elim
    (λ (within : k < length xs). slice_get-get_or (set xs i x) k x (subst (λ n. k < n) (sym (length-set xs i x)) within)
    ∙ ap Some (get_or-set_other xs i k x x apart) ∙ sym (slice_get-get_or xs k x within))
    (λ (past : length xs ≤ k). slice_get_past (set xs i x) k (subst (λ n. n ≤ k) (sym (length-set xs i x)) past) ∙ sym (slice_get_past xs k past))
    (cases_lt k (length xs))

not_equal : (a b : ℕ) → nat_eq a b ≡ false → a ≢ b
not_equal a b f e = not_both (eq-eqb a b e) f

placed_set : (rows : List Inherited) (node : ℕ) (row : Inherited) → node < length rows → is_no_circle (Some row) ≡ true → (k : ℕ)
    → is_placed (set rows node row) k ≡ (nat_eq k node || is_placed rows k)
placed_set rows node row within known k = by (nat_eq k node) refl
  where
    by : (t : Bool) → nat_eq k node ≡ t → is_placed (set rows node row) k ≡ (t || is_placed rows k)
    by true e = ap (is_placed (set rows node row)) (eqb-true k node e) ∙ ap is_no_circle (slice_get_set_same rows node row within) ∙ known
    by false e = ap is_no_circle (slice_get_set_other rows node k row (not_equal k node e))

some_same : (a b : Inherited) → Some a ≡ Some b → a ≡ b
some_same a b e = cc

right_set : (rows : List Inherited) (spec : SpecTree) (node : ℕ) (row : Inherited) → node < length rows → Rows rows spec → IsHeir spec node row
    → (k : ℕ) (other : Inherited) → slice_get (set rows node row) k ≡ Some other → IsRight spec k other
right_set rows spec node row within fine heir k other at = by (nat_eq k node) refl
  where
    by : (t : Bool) → nat_eq k node ≡ t → IsRight spec k other
    by true e =
        let same : k ≡ node = eqb-true k node e in
        let here : row ≡ other = some_same row other (sym (slice_get_set_same rows node row within) ∙ ap (slice_get (set rows node row)) (sym same) ∙ at) in
        subst (IsRight spec k) here (subst (λ j. IsRight spec j row) (sym same) heir.0)
    by false e = fine.right k other (sym (slice_get_set_other rows node k row (not_equal k node e)) ∙ at)

-- one class more is placed
pub places : (rows : List Inherited) (spec : SpecTree) (node : ℕ) (row : Inherited) → node < length rows → Rows rows spec
    → list_all (is_placed rows) (successors (class_graph spec) node) ≡ true → IsHeir spec node row → Places spec rows (set rows node row) node
places rows spec node row within fine above heir = record {
  rows = record {
    count = length-set rows node row ∙ fine.count;
    right = right_set rows spec node row within fine heir;
    closed = λ k placed. closed k (nat_eq k node) refl (sym (grows k) ∙ placed);
  };
  placed = grows;
}
  where
    grows : (k : ℕ) → is_placed (set rows node row) k ≡ (nat_eq k node || is_placed rows k)
    grows = placed_set rows node row within heir.1

    wider : (k : ℕ) → is_placed rows k ≡ true → is_placed (set rows node row) k ≡ true
    wider k placed = grows k ∙ or_right (nat_eq k node) (is_placed rows k) placed

    closed : (k : ℕ) (t : Bool) → nat_eq k node ≡ t → (nat_eq k node || is_placed rows k) ≡ true
        → list_all (is_placed (set rows node row)) (successors (class_graph spec) k) ≡ true
    closed k true e placed = all_wider (is_placed rows) (is_placed (set rows node row)) (successors (class_graph spec) k) wider
        (ap (λ j. list_all (is_placed rows) (successors (class_graph spec) j)) (eqb-true k node e) ∙ above)
    closed k false e placed = all_wider (is_placed rows) (is_placed (set rows node row)) (successors (class_graph spec) k) wider
        (fine.closed k (ap (λ t. t || is_placed rows k) (sym e) ∙ placed))

-- ---- all classes in order

-- the superclasses of a class of the graph
pub superclasses_in : {A : Type 0} (graph : List (Vec ℕ A)) (node : ℕ) (list : Vec ℕ A) → node < length graph → list ≡ get_or graph node list
    → list.items ≡ successors (graph_of graph) node
superclasses_in graph node list within e = ap (λ v. v.items) e ∙ sym (get_or-map (λ v. v.items) graph node list [] within)

module _ (spec : SpecTree) (graph : Graph) (same : graph ≡ class_graph spec) (nodes : List ℕ) (order : IsOrder graph nodes) where
  node_there : (i : ℕ) → i < length nodes → (nat_lt (get_or nodes i 0) (length graph) && leads_to_no_cycle graph (get_or nodes i 0)) ≡ true
  node_there i within = sym (order.has (get_or nodes i 0)) ∙ list_any_at (nat_eq (get_or nodes i 0)) nodes i 0 within (itself (get_or nodes i 0))

  pub node_settles : (i : ℕ) → i < length nodes → Settles spec (get_or nodes i 0)
  node_settles i within =
      ap (λ g. leads_to_no_cycle g (get_or nodes i 0)) (sym same)
      ∙ and_right (nat_lt (get_or nodes i 0) (length graph)) (leads_to_no_cycle graph (get_or nodes i 0)) (node_there i within)

  pub node_behind : (rows : List Inherited) (i : ℕ) → i < length nodes → ((a : ℕ) → is_placed rows a ≡ is_in (take i nodes) a)
      → list_all (is_placed rows) (successors (class_graph spec) (get_or nodes i 0)) ≡ true
  node_behind rows i within placed =
      all_wider (is_in (take i nodes)) (is_placed rows) (successors (class_graph spec) (get_or nodes i 0)) (λ a is. placed a ∙ is)
      (ap (λ g. list_all (is_in (take i nodes)) (successors g (get_or nodes i 0))) (sym same) ∙ order.behind i 0 within)

  unsettled : (ask : Ask) (k : ℕ) → leads_to_no_cycle graph k ≡ false → found spec ask k ≡ FoundNothing
  unsettled ask k f = found_unsettled spec ask k (ap (λ g. leads_to_no_cycle g k) (sym same) ∙ f)

  -- past the last class there is nothing
  past_last : (ask : Ask) (k : ℕ) → length (class_graph spec) ≤ k → found spec ask k ≡ FoundNothing
  past_last ask k past = by (leads_to_no_cycle (class_graph spec) k) refl
    where
      no_class : class_at spec k ≡ None
      no_class = slice_get_past (classes spec) k (subst (λ n. n ≤ k) (length-map (classes spec) (superclass_numbers spec)) past)

      by : (t : Bool) → leads_to_no_cycle (class_graph spec) k ≡ t → found spec ask k ≡ FoundNothing
      by true settled = nothing_own spec ask k settled (ap (λ o. is_some (option_and_then (λ class. own class ask) o)) no_class)
          ∙ ap (λ ks. agreed_at spec ks ask) (get_or_past (class_graph spec) k [] past)
      by false f = found_unsettled spec ask k f

  pub whole : (rows : List Inherited) → ((a : ℕ) → is_placed rows a ≡ is_in nodes a) → IsWhole spec rows
  whole rows placed k is ask = by (nat_lt k (length graph)) refl
    where
      apart : (nat_lt k (length graph) && leads_to_no_cycle graph k) ≡ false
      apart = sym (order.has k) ∙ sym (placed k) ∙ is

      by : (t : Bool) → nat_lt k (length graph) ≡ t → found spec ask k ≡ FoundNothing
      by true e = unsettled ask k (ap (λ t. t && leads_to_no_cycle graph k) (sym e) ∙ apart)
      by false e = past_last ask k (subst (λ g. length g ≤ k) same (ltb-false k (length graph) e))

pub node_below : {A : Type 0} (graph : List (Vec ℕ A)) (nodes : List ℕ) (i : ℕ) → IsOrder (graph_of graph) nodes → i < length nodes → get_or nodes i 0 < length graph
node_below graph nodes i order within =
    let there = sym (order.has (get_or nodes i 0)) ∙ list_any_at (nat_eq (get_or nodes i 0)) nodes i 0 within (itself (get_or nodes i 0)) in
    subst (λ n. get_or nodes i 0 < n) (length-map graph (λ v. v.items))
    (ltb-true (get_or nodes i 0) (length (graph_of graph))
    (and_left (nat_lt (get_or nodes i 0) (length (graph_of graph))) (leads_to_no_cycle (graph_of graph) (get_or nodes i 0)) there))

-- of rows of circles each is right
pub circles_right : {A : Type 0} (spec : SpecTree) (graph : List (Vec ℕ A)) (rows : List Inherited) → graph_of graph ≡ class_graph spec
    → AreCircles (length graph) rows → Rows rows spec
circles_right spec graph rows same circles = record {
  count = circles.0 ∙ sym (length-map graph (λ v. v.items)) ∙ ap (λ g. length g) same;
  right = λ k row at. right k row (ap is_no_circle (sym at) ∙ circles.1 k);
  closed = λ k placed. not_both placed (circles.1 k);
}
  where
    right : (k : ℕ) (row : Inherited) → is_no_circle (Some row) ≡ false → IsRight spec k row
    right k Nothing f = not_both refl f
    right k (From class) f = not_both refl f
    right k (Agreed a) f = not_both refl f
    right k Circle f = tt
