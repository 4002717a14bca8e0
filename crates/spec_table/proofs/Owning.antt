-- What a class itself answers with, by the place that an index tells.
use Rattle.std.proofs.Common.{◌≡◌, ℕ, zero, suc, Bool, true, false, not, is_some, List, [], ◌∷◌, Option, Some, None, option_map, map, slice_get, refl, ap, sym, ◌∙◌, inl, inr}
use Rattle.std.specs.List.{IsDistinct}
use Rattle.std.specs.Option.{option_and_then}
use Rattle.std.proofs.lemmas.Option.{slice_get-map}
use Rattle.abstract_syntax.specs.Classes.{VariableItem, variable_item, invariant_item, variables_among, BlockTree, types, values, variables, functions, operations, thread_of, synchronisation, ClassTree, SpecTree}
use Rattle.std.specs.Borrow.{Bor}
use Rattle.vdm_tree.specs.ClassView.{class_view}
use Rattle.vdm_tree.specs.declared.class_def.ClassDef.{ClassDef}
use Rattle.class_index.specs.Answers.{variable_in, item_of, located, IsAnswer}
use Rattle.class_index.specs.declared.member_at.MemberAt.{MemberAt}
use Rattle.class_meaning.specs.Classes.{class_at}
use Rattle.class_meaning.specs.Faults.{clashes, table_fault}
use Rattle.class_meaning.specs.Found.{own_in}
use Rattle.class_meaning.specs.Members.{Member, of_type, of_value, of_variable, of_function, of_operation, kind_of, members_in, class_members, answers, first_answer, or_else, own}
use Rattle.class_meaning.specs.declared.ask.Ask.{Ask}
use Rattle.class_meaning.specs.declared.ask.Ask.TheVariants.{AsType, ByName, Called}
use Rattle.class_meaning.specs.declared.ask.MemberKind.{MemberKind}
use Rattle.class_meaning.proofs.Refusals.{members_differ}
use Rattle.class_meaning.proofs.Numbers.{not_both}
use Rattle.spec_table.specs.Among.{Among, among_flat, among_at, find_some}
use Rattle.spec_table.specs.Answering.{answers_first}

-- ---- what is asked for, by the one question that has an answer

abbrev asked_or : Option Member → Ask → Ask → Ask
asked_or (Some m) ask other = ask
asked_or None ask other = other

abbrev asked : ClassTree → Ask → Ask
asked class (AsType name) = AsType name
asked class (ByName name) = ByName name
asked class (Called name n) = asked_or (first_answer class (Called name n)) (Called name n) (ByName name)

first_or : (class : ClassTree) (one other : Ask) (o : Option Member) → first_answer class one ≡ o
    → or_else o (first_answer class other) ≡ first_answer class (asked_or o one other)
first_or class one other None e = refl
first_or class one other (Some m) e = sym e

own_asked : (class : ClassTree) (ask : Ask) → own class ask ≡ first_answer class (asked class ask)
own_asked class (AsType name) = refl
own_asked class (ByName name) = refl
own_asked class (Called name n) = first_or class (Called name n) (ByName name) (first_answer class (Called name n)) refl

-- ---- what can be told of a place by tests

abbrev does_answer : Ask → Option Member → Bool
does_answer ask None = false
does_answer ask (Some m) = answers ask m

abbrev pub is_right : ClassTree → Ask → Option MemberAt → Bool
is_right class ask None = not (is_some (own class ask))
is_right class ask (Some at) = does_answer (asked class ask) (located class at)

found_answers : (class : ClassTree) (ask : Ask) (o : Option Member) (kind : MemberKind) → first_answer class ask ≡ o → option_map kind_of o ≡ Some kind → does_answer ask o ≡ true
found_answers class ask None kind e k = absurd (cc)
found_answers class ask (Some m) kind e k = (find_some (answers ask) (class_members class) m e).1

pub answer_right : (class : ClassTree) (ask : Ask) (r : Option MemberAt) → IsAnswer class ask r → is_right class ask r ≡ true
answer_right class ask None h = ap (λ (o : Option Member). not (is_some o)) h
answer_right class ask (Some at) h =
    ap (does_answer (asked class ask)) h.0
    ∙ found_answers class (asked class ask) (own class ask) at.kind (sym (own_asked class ask)) h.1

-- ---- what stands at a place is a member

variable_listed : (items : List VariableItem) (i : ℕ) (m : Member) → option_and_then variable_in (slice_get items i) ≡ Some m → Among m (map of_variable (variables_among items))
variable_listed [] i m e = absurd (cc)
variable_listed (variable_item v ∷ items) zero m e = let same : of_variable v ≡ m = cc in inl same
variable_listed (invariant_item condition place ∷ items) zero m e = absurd (cc)
variable_listed (variable_item v ∷ items) (suc i) m e = inr (variable_listed items i m e)
variable_listed (invariant_item condition place ∷ items) (suc i) m e = variable_listed items i m e

listed_at : {A : Type 0} (f : A → Member) (xs : List A) (i : ℕ) (m : Member) → option_map f (slice_get xs i) ≡ Some m → Among m (map f xs)
listed_at f xs i m e = among_at (map f xs) i m (slice_get-map f xs i ∙ e)

item_among : (b : BlockTree) (i : ℕ) (m : Member) → item_of b i ≡ Some m → Among m (members_in b)
item_among (types ts place) i m e = listed_at of_type ts i m e
item_among (values vs place) i m e = listed_at of_value vs i m e
item_among (variables items place) i m e = variable_listed items i m e
item_among (functions fs place) i m e = listed_at of_function fs i m e
item_among (operations os place) i m e = listed_at of_operation os i m e
item_among (thread_of t place) i m e = absurd (cc)
item_among (synchronisation s place) i m e = absurd (cc)

located_among : (class : ClassTree) (at : MemberAt) (m : Member) → located class at ≡ Some m → Among m (class_members class)
located_among class at m e = by (slice_get class.blocks at.block) refl e
  where
    by : (o : Option BlockTree) → slice_get class.blocks at.block ≡ o → option_and_then (λ (b : BlockTree). item_of b at.item) o ≡ Some m → Among m (class_members class)
    by None s e = absurd (cc)
    by (Some b) s e = among_flat members_in b m class.blocks (among_at class.blocks at.block b s) (item_among b at.item m e)

-- ---- so it is the class's own answer

nothing_own : (o : Option Member) → not (is_some o) ≡ true → None ≡ o
nothing_own None t = refl
nothing_own (Some m) t = not_both t refl

right_own : (class : ClassTree) (ask : Ask) → IsDistinct clashes (class_members class) → (r : Option MemberAt) → is_right class ask r ≡ true
    → option_and_then (located class) r ≡ own class ask
right_own class ask apart None t = nothing_own (own class ask) t
right_own class ask apart (Some at) t = by (located class at) refl t ∙ sym (own_asked class ask)
  where
    by : (o : Option Member) → located class at ≡ o → does_answer (asked class ask) o ≡ true → o ≡ first_answer class (asked class ask)
    by None e t = not_both t refl
    by (Some m) e t = sym (answers_first class apart (asked class ask) m (located_among class at m e) t)

-- the class's own answer by its number
pub own_at : (spec : SpecTree) (fine : table_fault spec ≡ None) (k : ℕ) (class : ClassTree) (ask : Ask) (r : Option MemberAt) → class_at spec k ≡ Some class
    → is_right class ask r ≡ true → option_and_then (located class) r ≡ own_in spec ask k
own_at spec fine k class ask r at t =
    right_own class ask (members_differ spec fine k class at) r t
    ∙ ap (option_and_then (λ (c : ClassTree). own c ask)) (sym at)

-- the same of what the program found at each step
pub own_item : (spec : SpecTree) (k : ℕ) (ask : Ask) (found : Option (Bor ClassDef)) (class : Bor ClassDef) (r : Option MemberAt) (at : MemberAt)
    → option_map (λ (x : Bor ClassDef). class_view x.now) found ≡ class_at spec k
    → ((tree : ClassTree) → class_at spec k ≡ Some tree → option_and_then (located tree) r ≡ own_in spec ask k)
    → found ≡ Some class → r ≡ Some at → located (class_view class.now) at ≡ own_in spec ask k
own_item spec k ask found class r at e answered f g =
    let there : class_at spec k ≡ Some (class_view class.now) = sym e ∙ ap (option_map (λ (x : Bor ClassDef). class_view x.now)) f in
    ap (option_and_then (located (class_view class.now))) (sym g) ∙ answered (class_view class.now) there
