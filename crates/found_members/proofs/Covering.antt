-- In which ways all that is found is found, and what several classes agree on.
use Rattle.std.proofs.Common.{◌≡◌, ℕ, ◌+◌, ◌<◌, add-one, length, take, get_or, Bool, true, false, ◌||◌, nat_eq, eqb-true, List, [], ◌∷◌, ◌++◌, map, Option, Some, None, is_some, unwrap_or, if◌then◌else◌, cond, refl, sym, ap, ◌∙◌}
use Rattle.std.proofs.Math.Seq.{take-suc}
use Rattle.vdm_kinds.specs.declared.name.Name.{Name}
use Rattle.abstract_syntax.specs.Classes.{SpecTree}
use Rattle.class_meaning.specs.Classes.{class_at, classes}
use Rattle.class_meaning.specs.Found.{agreed, all_agreed, own_in, found}
use Rattle.class_meaning.specs.declared.ask.Ask.{Ask}
use Rattle.class_meaning.specs.declared.ask.Ask.TheVariants.{AsType, ByName, Called}
use Rattle.class_meaning.specs.declared.found.Found.{Found}
use Rattle.class_meaning.specs.declared.found.Found.TheVariants.{Nothing, One, Several}
use Rattle.class_meaning.proofs.Finding.{found_equation}
use Rattle.class_meaning.proofs.Numbers.{or_none}
use Rattle.found_members.specs.Ways.{own_ways, key_of, same_key, is_among, unlisted, HasAll, Covers}
use Rattle.found_members.specs.Agreements.{agreed_at, answered, found_above, listed, Agrees}
use Rattle.found_members.specs.Rows.{Settles}
use Rattle.found_members.specs.declared.agreement.Agreement.{Agreement}
use Rattle.found_members.proofs.Asking.{own_type, own_name, own_called, key_flipped, one_key, among_more}

-- ---- agreeing

pub agreed_nothing : (a : Found) → agreed a Nothing ≡ a
agreed_nothing Nothing = refl
agreed_nothing (One k) = refl
agreed_nothing Several = refl

pub agreed_assoc : (a b c : Found) → agreed (agreed a b) c ≡ agreed a (agreed b c)
agreed_assoc Nothing b c = refl
agreed_assoc Several b c = refl
agreed_assoc (One k) Nothing c = refl
agreed_assoc (One k) Several c = refl
agreed_assoc (One k) (One l) Nothing = agreed_nothing (agreed (One k) (One l))
agreed_assoc (One k) (One l) Several = by (nat_eq k l)
  where
    by : (t : Bool) → agreed (if t then One k else Several) Several ≡ Several
    by true = refl
    by false = refl
agreed_assoc (One k) (One l) (One m) = by (nat_eq k l) (nat_eq l m) refl refl
  where
    by : (t u : Bool) → nat_eq k l ≡ t → nat_eq l m ≡ u
        → agreed (if t then One k else Several) (One m) ≡ agreed (One k) (if u then One l else Several)
    by true true e d = ap (λ x. if nat_eq x m then One k else Several) (eqb-true k l e) ∙ ap (λ b. if b then One k else Several) (d ∙ sym e)
    by true false e d = ap (λ x. if nat_eq x m then One k else Several) (eqb-true k l e) ∙ ap (λ b. if b then One k else Several) d
    by false true e d = ap (λ b. if b then One k else Several) (sym e)
    by false false e d = refl

pub agreed_more : {A : Type 0} (f : A → Found) (xs : List A) (x : A) → all_agreed (map f (xs ++ x ∷ [])) ≡ agreed (all_agreed (map f xs)) (f x)
agreed_more f [] x = agreed_nothing (f x)
agreed_more f (y ∷ xs) x = ap (agreed (f y)) (agreed_more f xs x) ∙ sym (agreed_assoc (f y) (all_agreed (map f xs)) (f x))

-- ---- covering

-- where no class has a member that is asked for so, they agree on what is unlisted
unlisted_agreed : (f h : Ask → Found) (ask : Ask) → agreed (unlisted f ask) (unlisted h ask) ≡ unlisted (λ way. agreed (f way) (h way)) ask
unlisted_agreed f h (AsType name) = refl
unlisted_agreed f h (ByName name) = refl
unlisted_agreed f h (Called name n) = refl

unlisted_same : (f h : Ask → Found) (ask : Ask) → ((way : Ask) → f way ≡ h way) → unlisted f ask ≡ unlisted h ask
unlisted_same f h (AsType name) same = refl
unlisted_same f h (ByName name) same = refl
unlisted_same f h (Called name n) same = same (ByName name)

pub covers_same : (ways : List Ask) (f h : Ask → Found) → ((way : Ask) → f way ≡ h way) → Covers ways f → Covers ways h
covers_same ways f h same covers ask is = sym (same ask) ∙ covers ask is ∙ unlisted_same f h ask same

pub covers_nothing : (ways : List Ask) → Covers ways (λ ask. Nothing)
covers_nothing ways (AsType name) is = refl
covers_nothing ways (ByName name) is = refl
covers_nothing ways (Called name n) is = refl

pub covers_both : (ways : List Ask) (f h : Ask → Found) → Covers ways f → Covers ways h → Covers ways (λ ask. agreed (f ask) (h ask))
covers_both ways f h one other ask is =
    ap (λ a. agreed a (h ask)) (one ask is) ∙ ap (agreed (unlisted f ask)) (other ask is) ∙ unlisted_agreed f h ask

-- one class more
pub covers_one_more : (spec : SpecTree) (ways more : List Ask) (nodes : List ℕ) (node : ℕ) → HasAll ways more → Covers ways (agreed_at spec nodes)
    → Covers more (λ ask. found spec ask node) → Covers more (agreed_at spec (nodes ++ node ∷ []))
covers_one_more spec ways more nodes node has one other =
    covers_same more (λ ask. agreed (agreed_at spec nodes ask) (found spec ask node)) (agreed_at spec (nodes ++ node ∷ []))
    (λ way. sym (agreed_more (found spec way) nodes node))
    (covers_both more (agreed_at spec nodes) (λ ask. found spec ask node) (λ ask is. one ask (has ask is)) other)

-- ---- a class, and what is above it

at_own : (spec : SpecTree) (ask : Ask) (k : ℕ) → Settles spec k → own_in spec ask k ≡ None → found spec ask k ≡ found_above spec k ask
at_own spec ask k settled none = found_equation spec ask k settled
    ∙ ap (λ o. if is_some o then One k else found_above spec k ask) none

-- with the ways of its own members, what covers all above a class covers it
pub covers_class : (spec : SpecTree) (k : ℕ) (ways : List Ask) → Settles spec k → HasAll (own_ways (classes spec) k) ways
    → Covers ways (found_above spec k) → Covers ways (λ ask. found spec ask k)
covers_class spec k ways settled has covers (AsType name) is =
    at_own spec (AsType name) k settled (own_type (class_at spec k) name (has (AsType name) is)) ∙ covers (AsType name) is
covers_class spec k ways settled has covers (ByName name) is =
    at_own spec (ByName name) k settled (own_name (class_at spec k) name (has (ByName name) is)) ∙ covers (ByName name) is
covers_class spec k ways settled has covers (Called name n) is =
    found_equation spec (Called name n) k settled
    ∙ ap (λ o. if is_some o then One k else found_above spec k (Called name n)) (own_called (class_at spec k) name n (has (Called name n) is))
    ∙ ap (λ a. if is_some (own_in spec (ByName name) k) then One k else a) (covers (Called name n) is)
    ∙ sym (found_equation spec (ByName name) k settled)

-- ---- what an agreement answers

at_listed : (a : Agreement) (f : Ask → Found) (ask : Ask) → Agrees a f → (t : Bool) → is_among a.ways.items ask ≡ t
    → (t ≡ true → listed a ask ≡ Some (f ask)) × (t ≡ false → listed a ask ≡ None)
at_listed a f ask agrees t e = (
  λ is. agrees.answers ask ∙ ap (λ b. if b then Some (f ask) else None) (e ∙ is),
  λ is. agrees.answers ask ∙ ap (λ b. if b then Some (f ask) else None) (e ∙ is),
)

-- where nothing is listed of a name, nothing is found of it
name_listed : (a : Agreement) (f : Ask → Found) (name : Name) → Agrees a f → unwrap_or (listed a (ByName name)) Nothing ≡ f (ByName name)
name_listed a f name agrees = by (is_among a.ways.items (ByName name)) refl
  where
    by : (t : Bool) → is_among a.ways.items (ByName name) ≡ t → unwrap_or (listed a (ByName name)) Nothing ≡ f (ByName name)
    by true e = ap (λ o. unwrap_or o Nothing) ((at_listed a f (ByName name) agrees true e).0 refl)
    by false e = ap (λ o. unwrap_or o Nothing) ((at_listed a f (ByName name) agrees false e).1 refl) ∙ sym (agrees.covers (ByName name) e)

unlisted_names : (a : Agreement) (f : Ask → Found) (ask : Ask) → Agrees a f → unlisted (λ way. unwrap_or (listed a way) Nothing) ask ≡ unlisted f ask
unlisted_names a f (AsType name) agrees = refl
unlisted_names a f (ByName name) agrees = refl
unlisted_names a f (Called name n) agrees = name_listed a f name agrees

pub answered_right : (a : Agreement) (f : Ask → Found) (ask : Ask) → Agrees a f → answered a ask ≡ f ask
answered_right a f ask agrees = by (is_among a.ways.items ask) refl
  where
    by : (t : Bool) → is_among a.ways.items ask ≡ t → answered a ask ≡ f ask
    by true e = ap (λ o. unwrap_or o (unlisted (λ way. unwrap_or (listed a way) Nothing) ask)) ((at_listed a f ask agrees true e).0 refl)
    by false e = ap (λ o. unwrap_or o (unlisted (λ way. unwrap_or (listed a way) Nothing) ask)) ((at_listed a f ask agrees false e).1 refl)
        ∙ unlisted_names a f ask agrees ∙ sym (agrees.covers ask e)

or_true : (a : Bool) → (a || true) ≡ true
or_true true = refl
or_true false = refl

-- one way more is listed
pub one_noted : (f : Ask → Found) (way ask : Ask) (answer : Found) (was : Option Found) (ways : List Ask) → answer ≡ f way
    → was ≡ (if is_among ways ask then Some (f ask) else None)
    → cond (same_key (key_of way) (key_of ask)) (Some answer) was ≡ (if is_among (ways ++ way ∷ []) ask then Some (f ask) else None)
one_noted f way ask answer was ways right before = by (same_key (key_of way) (key_of ask)) refl
  where
    among : is_among (ways ++ way ∷ []) ask ≡ (is_among ways ask || same_key (key_of way) (key_of ask))
    among = among_more ways way ask ∙ ap (λ t. is_among ways ask || t) (key_flipped (key_of ask) (key_of way))

    by : (t : Bool) → same_key (key_of way) (key_of ask) ≡ t
        → cond t (Some answer) was ≡ (if is_among (ways ++ way ∷ []) ask then Some (f ask) else None)
    by true e =
        let there : is_among (ways ++ way ∷ []) ask ≡ true = among ∙ ap (λ t. is_among ways ask || t) e ∙ or_true (is_among ways ask) in
        ap Some (right ∙ ap f (one_key way ask e)) ∙ ap (λ b. if b then Some (f ask) else None) (sym there)
    by false e =
        let same : is_among (ways ++ way ∷ []) ask ≡ is_among ways ask = among ∙ ap (λ t. is_among ways ask || t) e ∙ or_none (is_among ways ask) in
        before ∙ ap (λ b. if b then Some (f ask) else None) (sym same)

-- a way that is there already
pub again : (ways : List Ask) (way ask : Ask) → is_among ways way ≡ true → is_among ways ask ≡ (same_key (key_of ask) (key_of way) || is_among ways ask)
again ways way ask there = by (same_key (key_of ask) (key_of way)) refl
  where
    by : (t : Bool) → same_key (key_of ask) (key_of way) ≡ t → is_among ways ask ≡ (t || is_among ways ask)
    by true e = ap (is_among ways) (one_key ask way e) ∙ there
    by false e = refl

or_flipped : (a b : Bool) → (a || b) ≡ (b || a)
or_flipped true b = sym (or_true b)
or_flipped false b = sym (or_none b)

-- a way that is added
pub added : (ways : List Ask) (way ask : Ask) → is_among (ways ++ way ∷ []) ask ≡ (same_key (key_of ask) (key_of way) || is_among ways ask)
added ways way ask = among_more ways way ask ∙ or_flipped (is_among ways ask) (same_key (key_of ask) (key_of way))

-- what a list of ways that has the same ways covers
pub covers_alike : (ways other : List Ask) (f : Ask → Found) → ((ask : Ask) → is_among other ask ≡ is_among ways ask) → Covers ways f → Covers other f
covers_alike ways other f same covers ask is = covers ask (sym (same ask) ∙ is)

pub ways_further : (ways : List Ask) (i : ℕ) (d ask : Ask) → i < length ways
    → is_among (take (i + 1) ways) ask ≡ (same_key (key_of ask) (key_of (get_or ways i d)) || is_among (take i ways) ask)
ways_further ways i d ask within =
    let one : take (i + 1) ways ≡ take i ways ++ get_or ways i d ∷ [] = rw add-one (take-suc ways i d within) in
    ap (λ xs. is_among xs ask) one ∙ added (take i ways) (get_or ways i d) ask
