-- A whole type, pattern or expression ends where no word goes on with it, and is read there.
use Rattle.std.proofs.Common.{◌≡◌, Bool, true, false, List, [], ◌∷◌, ◌++◌, length, map, take, drop, Option, Some, None, refl, ap, ◌∙◌, arith, if◌then◌else◌}
use Rattle.std.specs.Option.{option_and_then}
use Rattle.std.proofs.Math.Seq.{drop-append_seam, take-append_seam}
use Rattle.std.proofs.lemmas.List.{map-append, length-map}
use Rattle.grammar_words.specs.declared.word.Word.{Word}
use Rattle.grammar_words.specs.declared.word.Word.TheVariants as word_is
use Rattle.grammar_words.specs.Tokens.{Token, word_of}
use Rattle.grammar_fronts.specs.declared.kind.Kind.{Kind}
use Rattle.grammar_fronts.specs.declared.wanted.Wanted.{Wanted}
use Rattle.grammar_fronts.specs.declared.wanted.Wanted.TheVariants as want
use Rattle.grammar_fronts.specs.Types.{behind_type}
use Rattle.grammar_fronts.specs.Patterns.{behind_pattern, more_patterns, more_pattern_pairs}
use Rattle.grammar_fronts.specs.Operands.{behind_operand, behind_name, behind_class, more_expressions}
use Rattle.grammar_fronts.specs.Brackets.{more_pairs, more_changes, more_names}
use Rattle.grammar_fronts.specs.Binds.{more_binds, condition, local_type, more_locals, such_that}
use Rattle.grammar_fronts.specs.Table.{turn, is_optional}
use Rattle.grammar_fronts.specs.Fronts.{fronts, on}
use Rattle.grammar_fronts.specs.Viable.{refuses, after, taken, start, meets, either, left_by, needed}
use Rattle.stmt_reading.specs.Leaves.{leaf, front_length, with_rest}
use Rattle.stmt_laws.specs.Ends.{stops}

-- ---- words that nothing goes on with

type-stops : (w : Word) → stops w ≡ true → behind_type w ≡ None
type-stops (word_is.Operator s) e = absurd (cc)
type-stops word_is.Bar e = absurd (cc)
type-stops _ e = refl

pattern-stops : (w : Word) → stops w ≡ true → behind_pattern w ≡ None
pattern-stops (word_is.Operator s) e = absurd (cc)
pattern-stops _ e = refl

operand-stops : (w : Word) → stops w ≡ true → behind_operand w ≡ None
operand-stops (word_is.Operator s) e = absurd (cc)
operand-stops word_is.OpenRound e = absurd (cc)
operand-stops word_is.Dot e = absurd (cc)
operand-stops word_is.DotNumber e = absurd (cc)
operand-stops _ e = refl

name-stops : (w : Word) → stops w ≡ true → behind_name w ≡ None
name-stops word_is.Backquote e = absurd (cc)
name-stops word_is.Tilde e = absurd (cc)
name-stops _ e = refl

class-stops : (w : Word) → stops w ≡ true → behind_class w ≡ None
class-stops word_is.Backquote e = absurd (cc)
class-stops _ e = refl

patterns-stop : (w : Word) → stops w ≡ true → more_patterns w ≡ None
patterns-stop word_is.Comma e = absurd (cc)
patterns-stop _ e = refl

pattern_pairs-stop : (w : Word) → stops w ≡ true → more_pattern_pairs w ≡ None
pattern_pairs-stop word_is.Comma e = absurd (cc)
pattern_pairs-stop _ e = refl

expressions-stop : (w : Word) → stops w ≡ true → more_expressions w ≡ None
expressions-stop word_is.Comma e = absurd (cc)
expressions-stop _ e = refl

pairs-stop : (w : Word) → stops w ≡ true → more_pairs w ≡ None
pairs-stop word_is.Comma e = absurd (cc)
pairs-stop _ e = refl

changes-stop : (w : Word) → stops w ≡ true → more_changes w ≡ None
changes-stop word_is.Comma e = absurd (cc)
changes-stop _ e = refl

names-stop : (w : Word) → stops w ≡ true → more_names w ≡ None
names-stop word_is.Comma e = absurd (cc)
names-stop _ e = refl

binds-stop : (w : Word) → stops w ≡ true → more_binds w ≡ None
binds-stop word_is.Comma e = absurd (cc)
binds-stop _ e = refl

condition-stops : (w : Word) → stops w ≡ true → condition w ≡ None
condition-stops word_is.Ampersand e = absurd (cc)
condition-stops _ e = refl

local_type-stops : (w : Word) → stops w ≡ true → local_type w ≡ None
local_type-stops word_is.Colon e = absurd (cc)
local_type-stops _ e = refl

locals-stop : (w : Word) → stops w ≡ true → more_locals w ≡ None
locals-stop word_is.Comma e = absurd (cc)
locals-stop _ e = refl

such_that-stops : (w : Word) → stops w ≡ true → such_that w ≡ None
such_that-stops word_is.Be e = absurd (cc)
such_that-stops _ e = refl

optional-stops : (x : Wanted) (w : Word) → is_optional x ≡ true → stops w ≡ true → turn x w ≡ None
optional-stops want.BehindType w o e = type-stops w e
optional-stops want.BehindPattern w o e = pattern-stops w e
optional-stops want.MorePatterns w o e = patterns-stop w e
optional-stops want.MorePatternPairs w o e = pattern_pairs-stop w e
optional-stops want.BehindOperand w o e = operand-stops w e
optional-stops want.BehindName w o e = name-stops w e
optional-stops want.BehindClass w o e = class-stops w e
optional-stops want.MoreExpressions w o e = expressions-stop w e
optional-stops want.MorePairs w o e = pairs-stop w e
optional-stops want.MoreChanges w o e = changes-stop w e
optional-stops want.MoreNames w o e = names-stop w e
optional-stops want.MoreBinds w o e = binds-stop w e
optional-stops want.Condition w o e = condition-stops w e
optional-stops want.LocalType w o e = local_type-stops w e
optional-stops want.MoreLocals w o e = locals-stop w e
optional-stops want.SuchThat w o e = such_that-stops w e
optional-stops _ w o e = absurd (cc)

-- ---- what is whole ends there

pub only-optional : (optional : Bool) (next : Wanted) (behind : List Wanted) → length (if optional then needed behind else next ∷ behind) ≡ 0 → (optional ≡ true) × (length (needed behind) ≡ 0)
only-optional true next behind h = (refl, h)
only-optional false next behind h = absurd (omega arith)

pub whole-stops : (wanted : List Wanted) (w : Word) → length (needed wanted) ≡ 0 → stops w ≡ true → after w wanted ≡ None
whole-stops [] w h e = refl
whole-stops (next ∷ behind) w h e =
    let k = only-optional (is_optional next) next behind h in
    ap (λ t. left_by (either t behind (if is_optional next then meets w behind else refuses (next ∷ behind)))) (optional-stops next w k.0 e)
    ∙ ap (λ (b : Bool). left_by (if b then meets w behind else refuses (next ∷ behind))) k.0 ∙ whole-stops behind w k.1 e

-- ---- the longest front

-- no word of the rest goes on with what is wanted
pub data Ends (wanted : List Wanted) : List Word → Type 0 where
  at_end : Ends wanted []
  at_word : (w : Word) (others : List Word) → after w wanted ≡ None → Ends wanted (w ∷ others)

same_wanted : (a b : List Wanted) → Some a ≡ Some b → a ≡ b
same_wanted a b e = cc

front_at : (wanted : List Wanted) (rest : List Word) → Ends wanted rest → (fronts rest wanted).front ≡ []
front_at wanted _ at_end = refl
front_at wanted _ (at_word w others e) = ap (λ o. (on w (fronts others) wanted o).front) e

front_on : (w : Word) (words rest : List Word) (wanted behind : List Wanted) (now : Option (List Wanted))
    → ((more : List Wanted) → taken words more ≡ Some behind → (fronts (words ++ rest) more).front ≡ words)
    → option_and_then (taken words) now ≡ Some behind → (on w (fronts (words ++ rest)) wanted now).front ≡ w ∷ words
front_on w words rest wanted behind None others e = absurd (cc)
front_on w words rest wanted behind (Some more) others e = ap (λ ws. w ∷ ws) (others more e)

pub front_is : (words rest : List Word) (wanted behind : List Wanted) → taken words wanted ≡ Some behind → Ends behind rest
    → (fronts (words ++ rest) wanted).front ≡ words
front_is [] rest wanted behind e ends =
    ap (λ ws. (fronts rest ws).front) (same_wanted wanted behind e) ∙ front_at behind rest ends
front_is (w ∷ words) rest wanted behind e ends =
    front_on w words rest wanted behind (after w wanted) (λ more h. front_is words rest more behind h ends) e

-- ---- leaves

length_is : (k : Kind) (front rest : List Token) (behind : List Wanted) → taken (map word_of front) (start k) ≡ Some behind
    → Ends behind (map word_of rest) → front_length k (front ++ rest) ≡ length front
length_is k front rest behind e ends =
    ap (λ ws. length (fronts ws (start k)).front) (map-append word_of front rest)
    ∙ ap length (front_is (map word_of front) (map word_of rest) (start k) behind e ends) ∙ length-map front word_of

pub leaf_is : {A : Type 0} (k : Kind) (tree_of : List Token → Option A) (front rest : List Token) (tree : A) (behind : List Wanted)
    → taken (map word_of front) (start k) ≡ Some behind → Ends behind (map word_of rest) → tree_of front ≡ Some tree
    → leaf k tree_of (front ++ rest) ≡ Some (tree, rest)
leaf_is k tree_of front rest tree behind e ends is =
    ap (λ n. with_rest (tree_of (take n (front ++ rest))) (drop n (front ++ rest))) (length_is k front rest behind e ends)
    ∙ ap (λ ts. with_rest (tree_of ts) (drop (length front) (front ++ rest))) (take-append_seam front rest)
    ∙ ap (λ ts. with_rest (tree_of front) ts) (drop-append_seam front rest) ∙ ap (λ o. with_rest o rest) is
