-- What stands behind a bracket is what is left of the tokens at a number of them.
use Rattle.std.proofs.Common.{◌≡◌, ℕ, zero, suc, ◌+◌, ◌<◌, ◌≤◌, Bool, true, false, if◌then◌else◌, ◌⊎◌, inl, inr, Option, Some, None, List, [], ◌∷◌, ◌++◌, length, reverse, take, drop, get_or, slice_get, refl, ap, sym, subst, ◌∙◌, arith}
use Rattle.std.proofs.lemmas.List.{reverse-append, reverse-reverse, length-reverse, length-append, length-map, take-append-le, take-append-drop, take_at, take-map, length-take-le, get_or_append_left, map-append, map_push}
use Rattle.std.proofs.Math.Seq.{take-suc}
use Rattle.std.proofs.lemmas.Option.{slice_get_within, slice_get-get_or, get_or_from_slice_get}
use Rattle.grammar_words.specs.declared.word.Word.{Word}
use Rattle.grammar_words.specs.declared.word.Word.TheVariants as word_is
use Rattle.grammar_words.specs.Tokens.{Token, word_of}
use Rattle.grammar_tokens.specs.declared.token.Token.{Token as RealToken}
use Rattle.grammar_tokens.specs.View.{token_view, token_views}
use Rattle.stmt_reading.specs.Statements.{at_bracket, behind_bracket}
use Rattle.leaf_reader.specs.Closers.{left_behind, AreCounts, count_at, next_count}

-- ---- one bracket more is closed behind the others

twice_at : (word : Word) (m k : ℕ) (tokens : List Token) → ((a b : ℕ) → behind_bracket (suc (a + b)) tokens ≡ behind_bracket b (behind_bracket a tokens))
    → at_bracket word (suc (m + k)) (λ (n : ℕ). behind_bracket n tokens) tokens ≡ behind_bracket k (at_bracket word m (λ (n : ℕ). behind_bracket n tokens) tokens)
twice_at word_is.OpenRound m k tokens each =
    let more : suc (suc (m + k)) ≡ suc (suc m + k) = omega arith in
    ap (λ n. behind_bracket n tokens) more ∙ each (suc m) k
twice_at word_is.CloseRound zero k tokens each =
    let none : zero + k ≡ k = omega arith in
    ap (λ n. behind_bracket n tokens) none
twice_at word_is.CloseRound (suc m) k tokens each =
    let fewer : suc m + k ≡ suc (m + k) = omega arith in
    ap (λ n. behind_bracket n tokens) fewer ∙ each m k
twice_at _ m k tokens each = each m k

twice : (tokens : List Token) (m k : ℕ) → behind_bracket (suc (m + k)) tokens ≡ behind_bracket k (behind_bracket m tokens)
twice [] m k = refl
twice (token ∷ tokens) m k = twice_at (word_of token) m k tokens (twice tokens)

-- ---- what stands behind it is what is left behind a front

front_at : (word : Word) (k : ℕ) (token : Token) (tokens : List Token) → ((n : ℕ) → (front : List Token) × (tokens ≡ front ++ behind_bracket n tokens))
    → (front : List Token) × (token ∷ tokens ≡ front ++ at_bracket word k (λ (n : ℕ). behind_bracket n tokens) tokens)
front_at word_is.OpenRound k token tokens each = (token ∷ (each (suc k)).0, ap (λ others. token ∷ others) (each (suc k)).1)
front_at word_is.CloseRound zero token tokens each = (token ∷ [], refl)
front_at word_is.CloseRound (suc k) token tokens each = (token ∷ (each k).0, ap (λ others. token ∷ others) (each k).1)
front_at _ k token tokens each = (token ∷ (each k).0, ap (λ others. token ∷ others) (each k).1)

front_of : (tokens : List Token) (k : ℕ) → (front : List Token) × (tokens ≡ front ++ behind_bracket k tokens)
front_of [] k = ([], refl)
front_of (token ∷ tokens) k = front_at (word_of token) k token tokens (front_of tokens)

turned_rest : (items front behind : List Token) → reverse items ≡ front ++ behind → reverse (take (length behind) items) ≡ behind
turned_rest items front behind e =
    let turned : items ≡ reverse behind ++ reverse front = sym (reverse-reverse items) ∙ ap reverse e ∙ reverse-append front behind in
    ap (λ xs. reverse (take (length behind) xs)) turned
    ∙ ap reverse (take_at (reverse behind) (reverse front) (length behind) (length-reverse behind))
    ∙ reverse-reverse behind

left_there : (items : List Token) → reverse (take (left_behind (reverse items)) items) ≡ behind_bracket 0 (reverse items)
left_there items = let front = front_of (reverse items) 0 in turned_rest items front.0 (behind_bracket 0 (reverse items)) front.1

so_many : (items front behind : List Token) → reverse items ≡ front ++ behind → length behind ≤ length items
so_many items front behind e =
    let all : length items ≡ length (front ++ behind) = sym (length-reverse items) ∙ ap length e in
    let parts : length (front ++ behind) ≡ length front + length behind = length-append front behind in
    omega arith

no_more : (items : List Token) → left_behind (reverse items) ≤ length items
no_more items = let front = front_of (reverse items) 0 in so_many items front.0 (behind_bracket 0 (reverse items)) front.1

-- ---- one count

take_all : (items : List Token) → take (length items) items ≡ items
take_all [] = refl
take_all (item ∷ items) = ap (λ others. item ∷ others) (take_all items)

-- the count of all tokens
count_of_all : (counts : List ℕ) (items : List Token) (count : ℕ) → AreCounts counts items → slice_get counts (length items) ≡ Some count
    → count ≡ left_behind (reverse items)
count_of_all counts items count are e =
    let same : length items ≤ length items = omega arith in
    are (length items) count same e ∙ ap (λ xs. left_behind (reverse xs)) (take_all items)

opened : (counts : List ℕ) (items : List Token) (found : Option ℕ) (count : ℕ) → AreCounts counts items → slice_get counts (length items) ≡ found
    → count_at counts found ≡ Some count → count ≡ length (behind_bracket 1 (reverse items))
opened counts items None count are is e = absurd (cc)
opened counts items (Some left) count are is e =
    let left_is : left ≡ left_behind (reverse items) = count_of_all counts items left are is in
    let most = no_more items in
    let within : left ≤ length items = omega arith in
    are left count within e
    ∙ ap (λ n. left_behind (reverse (take n items))) left_is
    ∙ ap left_behind (left_there items)
    ∙ ap length (sym (twice (reverse items) 0 0))

closed : (word : Word) (counts : List ℕ) (items : List Token) (count : ℕ) → AreCounts counts items → next_count word (length items) counts ≡ Some count
    → count ≡ length (at_bracket word 0 (λ (n : ℕ). behind_bracket n (reverse items)) (reverse items))
closed word_is.OpenRound counts items count are e = opened counts items (slice_get counts (length items)) count are refl e
closed word_is.CloseRound counts items count are e =
    let same : length items ≡ count = cc in
    sym same ∙ sym (length-reverse items)
closed _ counts items count are e = count_of_all counts items count are e

-- ---- a token more

push_turned : (items : List Token) (token : Token) → reverse (items ++ token ∷ []) ≡ token ∷ reverse items
push_turned items token = reverse-append items (token ∷ [])

length_more : {A : Type 0} (xs : List A) (x : A) → length (xs ++ x ∷ []) ≡ length xs + 1
length_more xs x = length-append xs (x ∷ [])

either_way : (left n : ℕ) → left ≤ n + 1 → (left ≤ n) ⊎ (left ≡ n + 1)
either_way left n e = grind arith

-- as many counts as before serve one token more
pub kept_counts : (counts : List ℕ) (items : List Token) (token : Token) → length counts ≡ length items + 1 → AreCounts counts items
    → AreCounts counts (items ++ token ∷ [])
kept_counts counts items token all are left count within e =
    let there : left < length counts = slice_get_within counts left count e in
    let before : left ≤ length items = omega arith in
    are left count before e ∙ ap (λ xs. left_behind (reverse xs)) (sym (take-append-le left items (token ∷ []) before))

at_seam : {A : Type 0} (xs : List A) (x y : A) → slice_get (xs ++ x ∷ []) (length xs) ≡ Some y → x ≡ y
at_seam [] x y e = cc
at_seam (z ∷ xs) x y e = at_seam xs x y e

before_seam : {A : Type 0} (xs : List A) (x y : A) (i : ℕ) → i < length xs → slice_get (xs ++ x ∷ []) i ≡ Some y → slice_get xs i ≡ Some y
before_seam xs x y i within e =
    slice_get-get_or xs i y within
    ∙ ap Some (sym (get_or_append_left xs (x ∷ []) y i within) ∙ get_or_from_slice_get (xs ++ x ∷ []) i y y e)

more_at : (counts : List ℕ) (items : List Token) (token : Token) (new left count : ℕ) → length counts ≡ length items + 1 → AreCounts counts items
    → next_count (word_of token) (length items) counts ≡ Some new → (left ≤ length items) ⊎ (left ≡ length items + 1)
    → slice_get (counts ++ new ∷ []) left ≡ Some count → count ≡ left_behind (reverse (take left (items ++ token ∷ [])))
more_at counts items token new left count all are next (inl before) e =
    let within : left < length counts = omega arith in
    are left count before (before_seam counts new count left within e)
    ∙ ap (λ xs. left_behind (reverse xs)) (sym (take-append-le left items (token ∷ []) before))
more_at counts items token new left count all are next (inr last) e =
    let at_end : left ≡ length counts = last ∙ sym all in
    let whole : left ≡ length (items ++ token ∷ []) = last ∙ sym (length_more items token) in
    let is : new ≡ count = at_seam counts new count (ap (slice_get (counts ++ new ∷ [])) (sym at_end) ∙ e) in
    sym is
    ∙ closed (word_of token) counts items new are next
    ∙ ap left_behind (sym (push_turned items token))
    ∙ ap (λ xs. left_behind (reverse xs)) (sym (take_all (items ++ token ∷ [])))
    ∙ ap (λ n. left_behind (reverse (take n (items ++ token ∷ [])))) (sym whole)

pub more_counts : (counts : List ℕ) (items : List Token) (token : Token) (new : ℕ) → length counts ≡ length items + 1 → AreCounts counts items
    → next_count (word_of token) (length items) counts ≡ Some new → AreCounts (counts ++ new ∷ []) (items ++ token ∷ [])
more_counts counts items token new all are next left count within e =
    let most : left ≤ length items + 1 = let longer = length_more items token in omega arith in
    more_at counts items token new left count all are next (either_way left (length items) most) e

-- it is put behind those that were counted, or not, where memory runs out
pub pushed_counts : (old new : List ℕ) (pushed : Bool) (word : Word) (before next : ℕ) → new ≡ (if pushed then old ++ next ∷ [] else old)
    → before + 1 ≡ length old → next_count word before old ≡ Some next → (items : List Token) (token : Token) → length old ≡ length items + 1
    → word ≡ word_of token → AreCounts old items → AreCounts new (items ++ token ∷ [])
pushed_counts old new false word before next new_is at is items token all word_is are =
    subst (λ counts. AreCounts counts (items ++ token ∷ [])) (sym new_is) (kept_counts old items token all are)
pushed_counts old new true word before next new_is at is items token all word_is are =
    let before_is : before ≡ length items = omega arith in
    subst (λ counts. AreCounts counts (items ++ token ∷ [])) (sym new_is)
    (more_counts old items token next all are (subst (λ n. next_count (word_of token) n old ≡ Some next) before_is (subst (λ w. next_count w before old ≡ Some next) word_is is)))

-- ---- fewer tokens, or all

-- counts of all tokens are those of the first of them
pub first_counts : (counts : List ℕ) (first others : List Token) → AreCounts counts (first ++ others) → AreCounts counts first
first_counts counts first others are left count within e =
    let longer = length-append first others in
    let most : left ≤ length (first ++ others) = omega arith in
    are left count most e ∙ ap (λ xs. left_behind (reverse xs)) (take-append-le left first others within)

-- no more counts than those of the first tokens are those of all
pub all_counts : (counts : List ℕ) (first others : List Token) → length counts ≤ length first + 1 → AreCounts counts first → AreCounts counts (first ++ others)
all_counts counts first others few are left count within e =
    let there : left < length counts = slice_get_within counts left count e in
    let before : left ≤ length first = omega arith in
    are left count before e ∙ ap (λ xs. left_behind (reverse xs)) (sym (take-append-le left first others before))

-- fewer counts
in_front : (a b : List ℕ) (i x : ℕ) → slice_get a i ≡ Some x → slice_get (a ++ b) i ≡ Some x
in_front a b i x e =
    let there : i < length a = slice_get_within a i x e in
    let longer = length-append a b in
    let within : i < length (a ++ b) = omega arith in
    slice_get-get_or (a ++ b) i x within ∙ ap Some (get_or_append_left a b x i there ∙ get_or_from_slice_get a i x x e)

pub fewer_counts : (counts : List ℕ) (n : ℕ) (items : List Token) → AreCounts counts items → AreCounts (take n counts) items
fewer_counts counts n items are left count within e =
    are left count within
    (ap (λ xs. slice_get xs left) (sym (take-append-drop n counts)) ∙ in_front (take n counts) (drop n counts) left count e)

-- no counts
pub no_counts : (items : List Token) → AreCounts [] items
no_counts items left count within e = absurd (cc)

-- the count of no tokens
first_at : (items : List Token) (left count : ℕ) → slice_get (0 ∷ []) left ≡ Some count → count ≡ left_behind (reverse (take left items))
first_at items zero count e = cc
first_at items (suc left) count e = absurd (cc)

pub first_count : (items : List Token) → AreCounts (0 ∷ []) items
first_count items left count within e = first_at items left count e

-- ---- the counts of the first of tokens, one after another

pub record Counted (counts : List ℕ) (items : List RealToken) (turn : ℕ) : Type 0 where
  pub counted : AreCounts counts (token_views (take turn items))
  pub all : length counts ≡ turn + 1
  pub there : turn ≤ length items

first_length : (items : List RealToken) (turn : ℕ) → turn ≤ length items → length (token_views (take turn items)) ≡ turn
first_length items turn there = length-map (take turn items) token_view ∙ length-take-le turn items there

parts : (items : List RealToken) (turn : ℕ) → token_views (take turn items) ++ token_views (drop turn items) ≡ token_views items
parts items turn = sym (map-append token_view (take turn items) (drop turn items)) ∙ ap token_views (take-append-drop turn items)

pub whole_counts : (counts : List ℕ) (items : List RealToken) (turn : ℕ) → Counted counts items turn → AreCounts counts (token_views items)
whole_counts counts items turn counted =
    let n = first_length items turn counted.there in
    let all = counted.all in
    let few : length counts ≤ length (token_views (take turn items)) + 1 = omega arith in
    subst (AreCounts counts) (parts items turn) (all_counts counts (token_views (take turn items)) (token_views (drop turn items)) few counted.counted)

-- the next token is counted, or not, where memory runs out
pub next_counted : (old new : List ℕ) (items : List RealToken) (turn : ℕ) (token : RealToken) → turn < length items → get_or items turn token ≡ token
    → ((tokens : List Token) (next : Token) → length old ≡ length tokens + 1 → word_of (token_view token) ≡ word_of next → AreCounts old tokens → AreCounts new (tokens ++ next ∷ []))
    → Counted old items turn → AreCounts new (token_views (take (turn + 1) items))
next_counted old new items turn token there is counts counted =
    let n = first_length items turn counted.there in
    let all = counted.all in
    let so_long : length old ≡ length (token_views (take turn items)) + 1 = omega arith in
    let split : take (suc turn) items ≡ take turn items ++ token ∷ [] = take-suc items turn token there ∙ ap (λ t. take turn items ++ t ∷ []) is in
    let suc_is : suc turn ≡ turn + 1 = omega arith in
    let views : token_views (take (turn + 1) items) ≡ token_views (take turn items) ++ token_view token ∷ [] =
    ap (λ k. token_views (take k items)) (sym suc_is) ∙ ap token_views split ∙ map_push token_view (take turn items) token in
    subst (AreCounts new) (sym views) (counts (token_views (take turn items)) (token_view token) so_long refl counted.counted)

-- fewer tokens
pub fewer_items : (counts : List ℕ) (items : List RealToken) (n : ℕ) → AreCounts counts (token_views items) → AreCounts counts (token_views (take n items))
fewer_items counts items n are =
    first_counts counts (token_views (take n items)) (token_views (drop n items)) (subst (AreCounts counts) (sym (parts items n)) are)

-- one token more, or the same ones
pub more_items : (counts : List ℕ) (old new : List RealToken) (token : RealToken) (pushed : Bool) → new ≡ (if pushed then old ++ token ∷ [] else old)
    → AreCounts counts (token_views old ++ token_view token ∷ []) → AreCounts counts (token_views new)
more_items counts old new token false new_is are =
    subst (λ items. AreCounts counts (token_views items)) (sym new_is) (first_counts counts (token_views old) (token_view token ∷ []) are)
more_items counts old new token true new_is are =
    subst (λ items. AreCounts counts (token_views items)) (sym new_is) (subst (AreCounts counts) (sym (map_push token_view old token)) are)

-- what stands behind a bracket, by its count
pub counted_rest : (counts : List ℕ) (items : List RealToken) (count : ℕ) → AreCounts counts (token_views items)
    → slice_get counts (length items) ≡ Some count → reverse (token_views (take count items)) ≡ behind_bracket 0 (reverse (token_views items))
counted_rest counts items count are e =
    let n : length (token_views items) ≡ length items = length-map items token_view in
    let is : count ≡ left_behind (reverse (token_views items)) = count_of_all counts (token_views items) count are (ap (slice_get counts) n ∙ e) in
    ap reverse (sym (take-map token_view count items))
    ∙ ap (λ k. reverse (take k (token_views items))) is
    ∙ left_there (token_views items)

-- so many counts of the first tokens are those of all
pub stopped_counts : (counts : List ℕ) (items : List RealToken) (turn : ℕ) → turn ≤ length items → length counts ≤ turn + 1
    → AreCounts counts (token_views (take turn items)) → AreCounts counts (token_views items)
stopped_counts counts items turn there short are =
    let n = first_length items turn there in
    let few : length counts ≤ length (token_views (take turn items)) + 1 = omega arith in
    subst (AreCounts counts) (parts items turn) (all_counts counts (token_views (take turn items)) (token_views (drop turn items)) few are)
