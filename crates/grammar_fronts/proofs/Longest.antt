-- The longest front of words that is taken.
use Rattle.std.proofs.Common.{◌≡◌, ◌+◌, ◌≤◌, List, [], ◌∷◌, ◌++◌, length, take, Option, Some, None, IsSome, refl, ap, sym, subst, ◌∙◌, arith}
use Rattle.std.specs.Option.{option_and_then}
use Rattle.std.proofs.lemmas.List.{length-append, take-append-le, take_all}
use Rattle.grammar_words.specs.declared.word.Word.{Word}
use Rattle.grammar_fronts.specs.declared.kind.Kind.{Kind}
use Rattle.grammar_fronts.specs.declared.wanted.Wanted.{Wanted}
use Rattle.grammar_fronts.specs.Fronts.{IsLongestViable, fronts, on}
use Rattle.grammar_fronts.specs.Viable.{after, taken, start}

-- words that are taken to their end are taken up to each front
further : (front rest : List Word) (now : Option (List Wanted))
    → ((wanted : List Wanted) → IsSome (taken (front ++ rest) wanted) → IsSome (taken front wanted))
    → IsSome (option_and_then (taken (front ++ rest)) now) → IsSome (option_and_then (taken front) now)
further front rest None shorter is = is
further front rest (Some wanted) shorter is = shorter wanted is

pub front_is_viable : (wanted : List Wanted) (front rest : List Word) → IsSome (taken (front ++ rest) wanted) → IsSome (taken front wanted)
front_is_viable wanted [] rest is = refl
front_is_viable wanted (word ∷ front) rest is =
    further front rest (after word wanted) (λ more. front_is_viable more front rest) is

-- the first of words, and those behind it
head : Word → List Word → Word
head word [] = word
head word (first ∷ words) = first

tail : List Word → List Word
tail [] = []
tail (first ∷ words) = words

-- what is taken one by one: the words are that and a rest, it is taken, and no longer front is
record IsLongest (words : List Word) (wanted : List Wanted) (front : List Word) : Type 0 where
  pub rest : List Word
  pub begins : words ≡ front ++ rest
  pub viable : IsSome (taken front wanted)
  pub longest : (longer others : List Word) → words ≡ longer ++ others → IsSome (taken longer wanted) → length longer ≤ length front

none_longer : (longer others : List Word) → [] ≡ longer ++ others → length longer ≤ 0
none_longer longer others is =
    let sum : 0 ≡ length longer + length others = ap length is ∙ length-append longer others in omega arith

nothing_taken : (word : Word) (words : List Word) (wanted : List Wanted) → after word wanted ≡ None → (longer others : List Word)
    → word ∷ words ≡ longer ++ others → IsSome (taken longer wanted) → length longer ≤ 0
unfolding head
nothing_taken word words wanted refused [] others is viable = omega arith
nothing_taken word words wanted refused (first ∷ longer) others is viable =
    let same : first ≡ word = sym (ap (head word) is) in
    let none : option_and_then (taken longer) (after first wanted) ≡ None =
    ap (λ w. option_and_then (taken longer) (after w wanted)) same ∙ ap (option_and_then (taken longer)) refused in
    cc

one_taken : (word : Word) (words : List Word) (wanted more : List Wanted) → after word wanted ≡ Some more → (front : List Word)
    → ((longer others : List Word) → words ≡ longer ++ others → IsSome (taken longer more) → length longer ≤ length front)
    → (longer others : List Word) → word ∷ words ≡ longer ++ others → IsSome (taken longer wanted)
    → length longer ≤ length (word ∷ front)
unfolding head tail
one_taken word words wanted more now front longest [] others is viable = omega arith
one_taken word words wanted more now front longest (first ∷ longer) others is viable =
    let same : first ≡ word = sym (ap (head word) is) in
    let next : option_and_then (taken longer) (after first wanted) ≡ taken longer more =
    ap (λ w. option_and_then (taken longer) (after w wanted)) same ∙ ap (option_and_then (taken longer)) now in
    let further : length longer ≤ length front = longest longer others (ap tail is) (subst IsSome next viable) in
    omega arith

one_word : (word : Word) (words : List Word) (wanted : List Wanted) (now : Option (List Wanted)) → after word wanted ≡ now
    → ((more : List Wanted) → IsLongest words more (fronts words more).front)
    → IsLongest (word ∷ words) wanted (on word (fronts words) wanted now).front
one_word word words wanted None now others =
    record { rest = word ∷ words; begins = refl; viable = refl; longest = nothing_taken word words wanted now }
one_word word words wanted (Some more) now others =
    let front = (fronts words more).front in
    let other = others more in
    record {
      rest = other.rest;
      begins = ap (λ ws. word ∷ ws) other.begins;
      viable = subst IsSome (sym (ap (option_and_then (taken front)) now)) other.viable;
      longest = one_taken word words wanted more now front other.longest;
    }

fronts_are_longest : (words : List Word) (wanted : List Wanted) → IsLongest words wanted (fronts words wanted).front
fronts_are_longest [] wanted = record { rest = []; begins = refl; viable = refl; longest = λ longer others is _. none_longer longer others is }
fronts_are_longest (word ∷ words) wanted = one_word word words wanted (after word wanted) refl (fronts_are_longest words)

pub taken_is_longest : (kind : Kind) (words : List Word) → IsLongestViable kind words (fronts words (start kind)).front
taken_is_longest kind words =
    let found = fronts_are_longest words (start kind) in
    record { rest = found.rest; begins = found.begins; viable = found.viable; longest = found.longest }

-- a front is as many of the words as it has
front_of_words : (front rest : List Word) → take (length front) (front ++ rest) ≡ front
front_of_words front rest =
    take-append-le (length front) front rest (omega arith) ∙ take_all (length front) front (omega arith)

pub one_longest : (kind : Kind) (words a b : List Word) → IsLongestViable kind words a → IsLongestViable kind words b → a ≡ b
one_longest kind words a b longest_a longest_b =
    let not_longer : length b ≤ length a = longest_a.longest b longest_b.rest longest_b.begins longest_b.viable in
    let not_shorter : length a ≤ length b = longest_b.longest a longest_a.rest longest_a.begins longest_a.viable in
    let lengths : length a ≡ length b = omega arith in
    sym (front_of_words a longest_a.rest) ∙ ap (take (length a)) (sym longest_a.begins) ∙ ap (λ n. take n words) lengths
    ∙ ap (take (length b)) longest_b.begins ∙ front_of_words b longest_b.rest
