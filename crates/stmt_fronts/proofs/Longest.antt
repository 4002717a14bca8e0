-- Where reading in all ways stops, the longest front that is viable ends.
use Rattle.std.proofs.Common.{◌≡◌, ℕ, ◌+◌, ◌≤◌, Option, Some, None, Bool, true, false, ◌||◌, List, [], ◌∷◌, ◌++◌, length, map, refl, ap, sym, subst, ◌∙◌, arith}
use Rattle.std.proofs.lemmas.List.{length-append, take-append-le, take_all}
use Rattle.std.proofs.lemmas.List.Folds.{list_any-append}
use Rattle.std.specs.Prelude.{suc, take}
use Rattle.std.specs.List.{list_any}
use Rattle.vdm_kinds.specs.declared.place.Place.{Place}
use Rattle.grammar_words.specs.Tokens.{Token, word_of, token_place}
use Rattle.grammar_fronts.specs.declared.front.Front.{Front}
use Rattle.grammar_fronts.specs.declared.front.Front.TheVariants.{TooDeep, Reaches}
use Rattle.grammar_fronts.specs.declared.front.Reach.{Reach}
use Rattle.stmt_fronts.specs.declared.kind.Kind.{Kind}
use Rattle.stmt_fronts.specs.Viable.{State, ways, leads, can_take, start}
use Rattle.stmt_fronts.specs.declared.ending.Ending.{Ending}
use Rattle.stmt_fronts.specs.Fronts.{IsLongestViable, HasLongest, can_end, is_whole, Reading, read_on, read_all, ending, ending_at, deep_in_all, deep_now, one_is_whole, best, unless_deep, stopped, on_some, front_from, place_of, first_reading, front_of}

-- ---- tokens that are taken in one of several readings

abbrev lead : (State → Bool) → List Token → List Reading → Bool
lead test tokens readings = list_any (λ (reading : Reading). leads test tokens reading.state) readings

any_map : {A B : Type 0} (test : B → Bool) (f : A → B) (all : List A) → list_any test (map f all) ≡ list_any (λ a. test (f a)) all
any_map test f [] = refl
any_map test f (a ∷ others) = ap (λ b. test (f a) || b) (any_map test f others)

-- a token is taken where one of the readings goes on behind it
lead-on : (test : State → Bool) (token : Token) (tokens : List Token) (readings : List Reading)
    → lead test (token ∷ tokens) readings ≡ lead test tokens (read_all token readings)
lead-on test token tokens [] = refl
lead-on test token tokens (reading ∷ others) =
    let passes : Reading → Bool = λ (r : Reading). leads test tokens r.state in
    let first : list_any passes (map (read_on (token_place token) reading) (ways token reading.state)) ≡ leads test (token ∷ tokens) reading.state =
    any_map passes (read_on (token_place token) reading) (ways token reading.state) in
    ap (λ b. leads test (token ∷ tokens) reading.state || b) (lead-on test token tokens others)
    ∙ ap (λ b. b || lead test tokens (read_all token others)) (sym first)
    ∙ sym (list_any-append passes (map (read_on (token_place token) reading) (ways token reading.state)) (read_all token others))

-- ---- how many tokens are taken

abbrev pub counted : List Reading → (List Reading → ℕ) → ℕ
counted [] further = 0
counted (reading ∷ others) further = suc (further (reading ∷ others))

abbrev pub taken : List Token → List Reading → ℕ
taken [] readings = 0
taken (token ∷ tokens) readings = counted (read_all token readings) (taken tokens)

-- so many are taken in one of the readings, and no longer front of them is
record Longest (tokens : List Token) (readings : List Reading) (n : ℕ) : Type 0 where
  pub front : List Token
  pub rest : List Token
  pub begins : tokens ≡ front ++ rest
  pub long : length front ≡ n
  pub viable : lead (λ state. true) front readings ≡ true
  pub longest : (longer others : List Token) → tokens ≡ longer ++ others → lead (λ state. true) longer readings ≡ true → length longer ≤ n

head : Token → List Token → Token
head token [] = token
head token (first ∷ tokens) = first

tail : List Token → List Token
tail [] = []
tail (first ∷ tokens) = tokens

-- no longer one than these, behind a token
bounded : (token : Token) (tokens : List Token) (readings : List Reading) (n : ℕ)
    → ((longer others : List Token) → tokens ≡ longer ++ others → lead (λ state. true) longer (read_all token readings) ≡ true → suc (length longer) ≤ n)
    → (longer others : List Token) → token ∷ tokens ≡ longer ++ others → lead (λ state. true) longer readings ≡ true → length longer ≤ n
unfolding head tail
bounded token tokens readings n by [] others is e = omega arith
bounded token tokens readings n by (first ∷ longer) others is e =
    let same : first ≡ token = sym (ap (head token) is) in
    by longer others (ap tail is)
    (sym (lead-on (λ state. true) token longer readings) ∙ ap (λ t. lead (λ state. true) (t ∷ longer) readings) (sym same) ∙ e)

no_longer : (longer others : List Token) → [] ≡ longer ++ others → length longer ≤ 0
no_longer longer others is =
    let sum : 0 ≡ length longer + length others = ap length is ∙ length-append longer others in omega arith

behind-token : (token : Token) (tokens : List Token) (reading : Reading) (readings all : List Reading) → read_all token (reading ∷ readings) ≡ all
    → ((first : Reading) (others : List Reading) → Longest tokens (first ∷ others) (taken tokens (first ∷ others)))
    → Longest (token ∷ tokens) (reading ∷ readings) (counted all (taken tokens))
behind-token token tokens reading readings [] is each =
    record {
      front = [];
      rest = token ∷ tokens;
      begins = refl;
      long = refl;
      viable = refl;
      longest = bounded token tokens (reading ∷ readings) 0 (λ longer others same e.
          let none : lead (λ state. true) longer (read_all token (reading ∷ readings)) ≡ false = ap (lead (λ state. true) longer) is in
          absurd (cc));
    }
behind-token token tokens reading readings (first ∷ others) is each =
    let l = each first others in
    let n : ℕ = taken tokens (first ∷ others) in
    record {
      front = token ∷ l.front;
      rest = l.rest;
      begins = ap (λ ts. token ∷ ts) l.begins;
      long = ap suc l.long;
      viable = lead-on (λ state. true) token l.front (reading ∷ readings) ∙ ap (lead (λ state. true) l.front) is ∙ l.viable;
      longest = bounded token tokens (reading ∷ readings) (suc n) (λ longer more same e.
          let short : length longer ≤ n = l.longest longer more same (sym (ap (lead (λ state. true) longer) is) ∙ e) in omega arith);
    }

taken-longest : (tokens : List Token) (reading : Reading) (readings : List Reading)
    → Longest tokens (reading ∷ readings) (taken tokens (reading ∷ readings))
taken-longest [] reading readings =
    record { front = []; rest = []; begins = refl; long = refl; viable = refl; longest = λ longer others is e. no_longer longer others is }
taken-longest (token ∷ tokens) reading readings =
    behind-token token tokens reading readings (read_all token (reading ∷ readings)) refl (taken-longest tokens)

-- ---- what is found where it reaches somewhere

words_in : Front → ℕ
words_in (Reaches reach) = reach.words
words_in (TooDeep place) = 0

whole_in : Front → Bool
whole_in (Reaches reach) = reach.whole
whole_in (TooDeep place) = false

IsReaching : Front → Type 0
IsReaching (Reaches reach) = Unit {0}
IsReaching (TooDeep place) = ⊥

pub not_deep : (deep : Option Place) (front : Front) (reach : Reach) → unless_deep deep front ≡ Reaches reach → front ≡ Reaches reach
unfolding IsReaching
not_deep (Some place) front reach is = absurd (subst IsReaching (sym is) tt)
not_deep None front reach is = is

record Found (count : ℕ) (tokens : List Token) (readings : List Reading) (reach : Reach) : Type 0 where
  pub words : reach.words ≡ count + taken tokens readings
  pub whole : reach.whole ≡ lead (λ state. is_whole state.wanted) (take (taken tokens readings) tokens) readings

found-stopped : (count : ℕ) (endings : List Ending) (reach : Reach) → stopped count endings ≡ Reaches reach
    → (reach.words ≡ count) × (reach.whole ≡ one_is_whole endings)
unfolding words_in whole_in
found-stopped count endings reach is =
    let found = not_deep (deep_in_all (map (λ (end : Ending). end.deep) (best endings))) _ reach is in
    (sym (ap words_in found), sym (ap whole_in found))

abbrev ends : State → Bool
ends state = is_whole state.wanted

found-behind : (count : ℕ) (token : Token) (tokens : List Token) (readings all : List Reading) (reach : Reach) → read_all token readings ≡ all
    → ((first : Reading) (others : List Reading) → front_from (count + 1) tokens (first ∷ others) ≡ Reaches reach → Found (count + 1) tokens (first ∷ others) reach)
    → on_some all (front_from (count + 1) tokens) (stopped count (map (ending_at (word_of token)) readings)) ≡ Reaches reach
    → (reach.words ≡ count + counted all (taken tokens)) × (reach.whole ≡ lead ends (take (counted all (taken tokens)) (token ∷ tokens)) readings)
found-behind count token tokens readings [] reach is each e =
    let s = found-stopped count (map (ending_at (word_of token)) readings) reach e in
    (let words = s.0 in omega arith, s.1 ∙ any_map (λ (end : Ending). end.whole) (ending_at (word_of token)) readings)
found-behind count token tokens readings (first ∷ others) reach is each e =
    let f = each first others e in
    let words = f.words in
    let front : List Token = take (taken tokens (first ∷ others)) tokens in
    (omega arith, f.whole ∙ ap (lead ends front) (sym is) ∙ sym (lead-on ends token front readings))

found-from : (tokens : List Token) (count : ℕ) (readings : List Reading) (reach : Reach) → front_from count tokens readings ≡ Reaches reach
    → Found count tokens readings reach
found-from [] count readings reach is =
    let s = found-stopped count (map (ending false) readings) reach (not_deep (deep_now readings) (stopped count (map (ending false) readings)) reach is) in
    record { words = (let words = s.0 in omega arith); whole = s.1 ∙ any_map (λ (end : Ending). end.whole) (ending false) readings }
found-from (token ∷ tokens) count readings reach is =
    let all = read_all token readings in
    let none : Front = stopped count (map (ending_at (word_of token)) readings) in
    let s = found-behind count token tokens readings all reach refl (λ first others. found-from tokens (count + 1) (first ∷ others) reach)
    (not_deep (deep_now readings) (on_some all (front_from (count + 1) tokens) none) reach is) in
    record { words = s.0; whole = s.1 }

-- ---- the law

front_of_tokens : (front rest : List Token) → take (length front) (front ++ rest) ≡ front
front_of_tokens front rest = take-append-le (length front) front rest (omega arith) ∙ take_all (length front) front (omega arith)

or-false : (b : Bool) → (b || false) ≡ b
or-false true = refl
or-false false = refl

-- from the beginning there is one reading
at_start : (test : State → Bool) (kind : Kind) (tokens front : List Token) → lead test front (first_reading kind (place_of tokens) ∷ []) ≡ leads test front (start kind)
at_start test kind tokens front = or-false (leads test front (start kind))

abbrev pub all_taken : Kind → List Token → ℕ
all_taken kind tokens = taken tokens (first_reading kind (place_of tokens) ∷ [])

pub taken_is_longest : (kind : Kind) (tokens : List Token) → IsLongestViable kind tokens (take (all_taken kind tokens) tokens)
taken_is_longest kind tokens =
    let reading = first_reading kind (place_of tokens) in
    let l = taken-longest tokens reading [] in
    let is : take (all_taken kind tokens) tokens ≡ l.front =
    ap (λ n. take n tokens) (sym l.long) ∙ ap (take (length l.front)) l.begins ∙ front_of_tokens l.front l.rest in
    let long : length (take (all_taken kind tokens) tokens) ≡ all_taken kind tokens = ap length is ∙ l.long in
    record {
      rest = l.rest;
      begins = l.begins ∙ ap (λ front. front ++ l.rest) (sym is);
      viable = ap (λ front. can_take front (start kind)) is ∙ sym (at_start (λ state. true) kind tokens l.front) ∙ l.viable;
      longest = λ longer others same e. subst (λ n. length longer ≤ n) (sym long)
          (l.longest longer others same (at_start (λ state. true) kind tokens longer ∙ e));
    }

pub has_longest : (kind : Kind) (tokens : List Token) → HasLongest kind tokens
has_longest kind tokens = record { front = take (all_taken kind tokens) tokens; is = taken_is_longest kind tokens }

pub reached_longest : (kind : Kind) (tokens : List Token) (reach : Reach) → front_of kind tokens ≡ Reaches reach
    → IsLongestViable kind tokens (take reach.words tokens)
reached_longest kind tokens reach is =
    let f = found-from tokens 0 (first_reading kind (place_of tokens) ∷ []) reach is in
    let words : reach.words ≡ all_taken kind tokens = (let e = f.words in omega arith) in
    subst (λ n. IsLongestViable kind tokens (take n tokens)) (sym words) (taken_is_longest kind tokens)

pub reached_whole : (kind : Kind) (tokens : List Token) (reach : Reach) → front_of kind tokens ≡ Reaches reach
    → reach.whole ≡ can_end kind (take reach.words tokens)
reached_whole kind tokens reach is =
    let f = found-from tokens 0 (first_reading kind (place_of tokens) ∷ []) reach is in
    let words : reach.words ≡ all_taken kind tokens = (let e = f.words in omega arith) in
    f.whole ∙ at_start (λ state. is_whole state.wanted) kind tokens (take (all_taken kind tokens) tokens)
    ∙ ap (λ n. can_end kind (take n tokens)) (sym words)

pub one_longest : (kind : Kind) (tokens a b : List Token) → IsLongestViable kind tokens a → IsLongestViable kind tokens b → a ≡ b
one_longest kind tokens a b longest_a longest_b =
    let not_longer : length b ≤ length a = longest_a.longest b longest_b.rest longest_b.begins longest_b.viable in
    let not_shorter : length a ≤ length b = longest_b.longest a longest_a.rest longest_a.begins longest_a.viable in
    let lengths : length a ≡ length b = omega arith in
    sym (front_of_tokens a longest_a.rest) ∙ ap (take (length a)) (sym longest_a.begins) ∙ ap (λ n. take n tokens) lengths
    ∙ ap (take (length b)) longest_b.begins ∙ front_of_tokens b longest_b.rest
