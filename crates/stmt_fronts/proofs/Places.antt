-- Where what is found is too deep, a token of the longest viable front stands.
use Rattle.std.proofs.Common.{◌≡◌, ◌⊎◌, inl, inr, ℕ, ◌+◌, Option, Some, None, Bool, true, false, if◌then◌else◌, List, [], ◌∷◌, ◌++◌, length, map, refl, ap, sym, subst}
use Rattle.std.specs.Prelude.{take, filter, is_some}
use Rattle.std.specs.List.{list_any, list_all}
use Rattle.vdm_kinds.specs.declared.place.Place.{Place}
use Rattle.grammar_words.specs.Tokens.{Token, word_of, token_place}
use Rattle.grammar_words.specs.Pulls.{closed}
use Rattle.grammar_fronts.specs.declared.front.Front.{Front}
use Rattle.grammar_fronts.specs.declared.front.Front.TheVariants.{TooDeep, Reaches}
use Rattle.stmt_fronts.specs.declared.expected.Expected.{Expected}
use Rattle.stmt_fronts.specs.declared.kind.Kind.{Kind}
use Rattle.stmt_fronts.specs.declared.open_node.OpenNode.{OpenNode}
use Rattle.stmt_fronts.specs.Depth.{ended, pull_of, with_turn, is_too_deep, are_too_many}
use Rattle.stmt_fronts.specs.Viable.{Way, ways}
use Rattle.stmt_fronts.specs.declared.ending.Ending.{Ending}
use Rattle.stmt_fronts.specs.Turns.{Turn}
use Rattle.stmt_fronts.specs.Fronts.{IsLongestViable, StandsAt, needed, is_left_out, Nesting, nested, deep_at, nesting_on, deep_of, nesting_at_end, Reading, read_on, read_all, ending, ending_at, deep_in_all, deep_now, one_is_whole, best, unless_deep, stopped, on_some, front_from, place_of, first_reading, front_of}
use Rattle.stmt_fronts.proofs.Longest.{counted, taken, all_taken, taken_is_longest, one_longest}

-- ---- places that were seen

-- a place of a reading is one that was seen: where it is too deep, or else where the token before stands, if there is one
IsSeen : (Place → Type 0) → Place → Nesting → Type 0
IsSeen seen last (nested nodes) = (nodes ≡ []) ⊎ seen last
IsSeen seen last (deep_at place) = seen place

AreSeen : (Place → Type 0) → List Reading → Type 0
AreSeen seen [] = Unit {0}
AreSeen seen (reading ∷ others) = IsSeen seen reading.last reading.nesting × AreSeen seen others

seen-append : (seen : Place → Type 0) (a b : List Reading) → AreSeen seen a → AreSeen seen b → AreSeen seen (a ++ b)
unfolding AreSeen
seen-append seen [] b of_a of_b = of_b
seen-append seen (reading ∷ a) b of_a of_b = (of_a.0, seen-append seen a b of_a.1 of_b)

-- with one token more
abbrev also : (Place → Type 0) → Token → Place → Type 0
also seen token place = seen place ⊎ (token_place token ≡ place)

by_tests : (seen : Place → Type 0) (token : Token) (last : Place) (deep many : Bool) (nodes : List OpenNode) → (deep ≡ false) ⊎ seen last
    → IsSeen (also seen token) (token_place token) (if deep then deep_at last else if many then deep_at (token_place token) else nested nodes)
unfolding IsSeen
by_tests seen token last true many nodes (inl never) = absurd (cc)
by_tests seen token last true many nodes (inr at) = inl at
by_tests seen token last false true nodes of = inr refl
by_tests seen token last false false nodes of = inr (inr refl)

-- where no node is open none is too deep
shallow : (seen : Place → Type 0) (last : Place) (wanted pull : ℕ) (nodes : List OpenNode) → (nodes ≡ []) ⊎ seen last
    → (is_too_deep (ended wanted pull nodes) ≡ false) ⊎ seen last
shallow seen last wanted pull nodes (inl none) = inl (ap (λ n. is_too_deep (ended wanted pull n)) none)
shallow seen last wanted pull nodes (inr is) = inr is

seen-on : (seen : Place → Type 0) (token : Token) (last : Place) (turn : Turn) (behind : List Expected) (nesting : Nesting)
    → IsSeen seen last nesting → IsSeen (also seen token) (token_place token) (nesting_on last (token_place token) turn behind nesting)
unfolding IsSeen
seen-on seen token last turn behind (deep_at place) of = inl of
seen-on seen token last turn behind (nested nodes) of =
    let nest = ended (length behind + 1) (pull_of turn) nodes in
    let more = with_turn turn behind nest in
    by_tests seen token last (is_too_deep nest) (are_too_many more) more (shallow seen last (length behind + 1) (pull_of turn) nodes of)

seen-ways : (seen : Place → Type 0) (token : Token) (reading : Reading) (all : List Way) → IsSeen seen reading.last reading.nesting
    → AreSeen (also seen token) (map (read_on (token_place token) reading) all)
unfolding AreSeen
seen-ways seen token reading [] of = tt
seen-ways seen token reading (way ∷ others) of =
    (seen-on seen token reading.last way.turn way.behind reading.nesting of, seen-ways seen token reading others of)

seen-all : (seen : Place → Type 0) (token : Token) (readings : List Reading) → AreSeen seen readings
    → AreSeen (also seen token) (read_all token readings)
unfolding AreSeen
seen-all seen token [] of = tt
seen-all seen token (reading ∷ others) of =
    seen-append (also seen token) (map (read_on (token_place token) reading) (ways token reading.state)) (read_all token others)
    (seen-ways seen token reading (ways token reading.state) of.0) (seen-all seen token others of.1)

-- ---- the place that is found

IsSome : Option Place → Type 0
IsSome None = ⊥
IsSome (Some place) = Unit {0}

given : (place : Place) → Option Place → Place
given place None = place
given place (Some other) = other

-- the first place is the one that is given
of_first : (first : Option Place) (others : List (Option Place)) (place : Place) → deep_in_all (first ∷ others) ≡ Some place → first ≡ Some place
unfolding IsSome
of_first None others place is = absurd (subst IsSome (sym is) tt)
of_first (Some first) others place is = by (list_all is_some others) is
  where
    by : (all : Bool) → (if all then Some first else None) ≡ Some place → Some first ≡ Some place
    by true e = e
    by false e = absurd (subst IsSome (sym e) tt)

seen-deep : (seen : Place → Type 0) (last : Place) (nesting : Nesting) (place : Place) → IsSeen seen last nesting → deep_of nesting ≡ Some place
    → seen place
unfolding IsSeen IsSome given
seen-deep seen last (nested nodes) place of is = absurd (subst IsSome (sym is) tt)
seen-deep seen last (deep_at deep) place of is = subst seen (ap (given last) is) of

seen-end : (seen : Place → Type 0) (wanted : List Expected) (last : Place) (nesting : Nesting) → IsSeen seen last nesting
    → IsSeen seen last (nesting_at_end wanted last nesting)
unfolding IsSeen
seen-end seen wanted last (deep_at place) of = of
seen-end seen wanted last (nested nodes) of = by (is_too_deep (ended (length (needed wanted)) closed nodes)) (shallow seen last (length (needed wanted)) closed nodes of)
  where
    by : (deep : Bool) → (deep ≡ false) ⊎ seen last → IsSeen seen last (if deep then deep_at last else nested nodes)
    by true (inl never) = absurd (cc)
    by true (inr at) = at
    by false is = of

seen-now : (seen : Place → Type 0) (readings : List Reading) (place : Place) → AreSeen seen readings → deep_now readings ≡ Some place → seen place
unfolding AreSeen IsSome
seen-now seen [] place of is = absurd (subst IsSome (sym is) tt)
seen-now seen (reading ∷ others) place of is =
    seen-deep seen reading.last reading.nesting place of.0
    (of_first (deep_of reading.nesting) (map (λ (r : Reading). deep_of r.nesting) others) place is)

-- ---- endings

-- the places where they are too deep were seen
AreSeenEnds : (Place → Type 0) → List Ending → Type 0
AreSeenEnds seen [] = Unit {0}
AreSeenEnds seen (end ∷ others) = ((place : Place) → end.deep ≡ Some place → seen place) × AreSeenEnds seen others

seen-ends : (seen : Place → Type 0) (left_out : Reading → Bool) (readings : List Reading) → AreSeen seen readings
    → AreSeenEnds seen (map (λ (r : Reading). ending (left_out r) r) readings)
unfolding AreSeen AreSeenEnds
seen-ends seen left_out [] of = tt
seen-ends seen left_out (reading ∷ others) of = (
  λ place is. seen-deep seen reading.last (nesting_at_end reading.state.wanted reading.last reading.nesting) place
      (seen-end seen reading.state.wanted reading.last reading.nesting of.0) is,
  seen-ends seen left_out others of.1,
)

seen-filter : (seen : Place → Type 0) (test : Ending → Bool) (endings : List Ending) → AreSeenEnds seen endings
    → AreSeenEnds seen (filter test endings)
unfolding AreSeenEnds
seen-filter seen test [] of = tt
seen-filter seen test (end ∷ others) of = by (test end) (seen-filter seen test others of.1)
  where
    by : (is : Bool) → AreSeenEnds seen (filter test others) → AreSeenEnds seen (if is then end ∷ filter test others else filter test others)
    by true of_others = (of.0, of_others)
    by false of_others = of_others

seen-best : (seen : Place → Type 0) (endings : List Ending) → AreSeenEnds seen endings → AreSeenEnds seen (best endings)
seen-best seen endings of = by (one_is_whole endings)
  where
    by : (is : Bool) → AreSeenEnds seen (if is then filter (λ (end : Ending). end.whole) endings else endings)
    by true = seen-filter seen (λ end. end.whole) endings of
    by false = of

seen-deep_ends : (seen : Place → Type 0) (endings : List Ending) (place : Place) → AreSeenEnds seen endings
    → deep_in_all (map (λ (end : Ending). end.deep) endings) ≡ Some place → seen place
unfolding AreSeenEnds IsSome
seen-deep_ends seen [] place of is = absurd (subst IsSome (sym is) tt)
seen-deep_ends seen (end ∷ others) place of is = of.0 place (of_first end.deep (map (λ (e : Ending). e.deep) others) place is)

-- ---- fronts

place_in : Front → Option Place
place_in (TooDeep place) = Some place
place_in (Reaches reach) = None

deep_or : (deep : Option Place) (front : Front) (place : Place) → unless_deep deep front ≡ TooDeep place → (deep ≡ Some place) ⊎ (front ≡ TooDeep place)
unfolding place_in
deep_or (Some deep) front place is = inl (ap place_in is)
deep_or None front place is = inr is

seen-stopped : (seen : Place → Type 0) (count : ℕ) (endings : List Ending) (place : Place) → AreSeenEnds seen endings
    → stopped count endings ≡ TooDeep place → seen place
unfolding IsSome place_in
seen-stopped seen count endings place of is = by (deep_or (deep_in_all (map (λ (end : Ending). end.deep) (best endings))) _ place is)
  where
    by : (deep_in_all (map (λ (end : Ending). end.deep) (best endings)) ≡ Some place)
        ⊎ (Reaches (record { words = count; whole = one_is_whole endings; left_out = list_any (λ (end : Ending). end.left_out) endings }) ≡ TooDeep place) → seen place
    by (inl deep) = seen-deep_ends seen (best endings) place (seen-best seen endings of) deep
    by (inr never) = absurd (subst IsSome (sym (ap place_in never)) tt)

one_more : (token : Token) (tokens : List Token) (place : Place) → StandsAt tokens place → StandsAt (token ∷ tokens) place
one_more token tokens place is =
    record { before = token ∷ is.before; token = is.token; after = is.after; among = ap (λ ts. token ∷ ts) is.among; at = is.at }

behind-token : (seen : Place → Type 0) (token : Token) (tokens : List Token) (place : Place)
    → also seen token place ⊎ StandsAt tokens place → seen place ⊎ StandsAt (token ∷ tokens) place
behind-token seen token tokens place (inl (inl before)) = inl before
behind-token seen token tokens place (inl (inr at)) = inr (record { before = []; token = token; after = tokens; among = refl; at = at })
behind-token seen token tokens place (inr is) = inr (one_more token tokens place is)

-- what is found of further tokens
on-some : (seen : Place → Type 0) (count : ℕ) (token : Token) (tokens : List Token) (readings all : List Reading) (place : Place)
    → AreSeen seen readings → AreSeen (also seen token) all
    → ((more : List Reading) → AreSeen (also seen token) more → front_from (count + 1) tokens more ≡ TooDeep place
    → also seen token place ⊎ StandsAt (take (taken tokens more) tokens) place)
    → on_some all (front_from (count + 1) tokens) (stopped count (map (ending_at (word_of token)) readings)) ≡ TooDeep place
    → seen place ⊎ StandsAt (take (counted all (taken tokens)) (token ∷ tokens)) place
on-some seen count token tokens readings [] place of of_all further is =
    inl (seen-stopped seen count (map (ending_at (word_of token)) readings) place
    (seen-ends seen (λ r. is_left_out (word_of token) r.state.wanted) readings of) is)
on-some seen count token tokens readings (first ∷ others) place of of_all further is =
    behind-token seen token (take (taken tokens (first ∷ others)) tokens) place (further (first ∷ others) of_all is)

seen-from : (tokens : List Token) (seen : Place → Type 0) (count : ℕ) (readings : List Reading) (place : Place) → AreSeen seen readings
    → front_from count tokens readings ≡ TooDeep place → seen place ⊎ StandsAt (take (taken tokens readings) tokens) place
seen-from [] seen count readings place of is = by (deep_or (deep_now readings) (stopped count (map (ending false) readings)) place is)
  where
    by : (deep_now readings ≡ Some place) ⊎ (stopped count (map (ending false) readings) ≡ TooDeep place)
        → seen place ⊎ StandsAt (take (taken [] readings) []) place
    by (inl deep) = inl (seen-now seen readings place of deep)
    by (inr stops) = inl (seen-stopped seen count (map (ending false) readings) place (seen-ends seen (λ r. false) readings of) stops)
seen-from (token ∷ tokens) seen count readings place of is =
    by (deep_or (deep_now readings)
    (on_some (read_all token readings) (front_from (count + 1) tokens) (stopped count (map (ending_at (word_of token)) readings))) place is)
    (λ more of_more. seen-from tokens (also seen token) (count + 1) more place of_more)
  where
    by : (deep_now readings ≡ Some place)
        ⊎ (on_some (read_all token readings) (front_from (count + 1) tokens) (stopped count (map (ending_at (word_of token)) readings)) ≡ TooDeep place)
        → ((more : List Reading) → AreSeen (also seen token) more → front_from (count + 1) tokens more ≡ TooDeep place
        → also seen token place ⊎ StandsAt (take (taken tokens more) tokens) place)
        → seen place ⊎ StandsAt (take (counted (read_all token readings) (taken tokens)) (token ∷ tokens)) place
    by (inl deep) further = inl (seen-now seen readings place of deep)
    by (inr goes_on) further =
        on-some seen count token tokens readings (read_all token readings) place of (seen-all seen token readings of) further goes_on

-- ---- the law

abbrev nowhere : Place → Type 0
nowhere place = ⊥

at_some : (tokens : List Token) (place : Place) → nowhere place ⊎ StandsAt tokens place → StandsAt tokens place
at_some tokens place (inl never) = absurd never
at_some tokens place (inr is) = is

pub deep_place : (kind : Kind) (tokens front : List Token) (place : Place) → front_of kind tokens ≡ TooDeep place
    → IsLongestViable kind tokens front → StandsAt front place
unfolding AreSeen IsSeen
deep_place kind tokens front place is longest =
    let stands = at_some (take (all_taken kind tokens) tokens) place
    (seen-from tokens nowhere 0 (first_reading kind (place_of tokens) ∷ []) place (inl refl, tt) is) in
    subst (λ f. StandsAt f place) (one_longest kind tokens (take (all_taken kind tokens) tokens) front (taken_is_longest kind tokens) longest) stands
