-- What ends an expression: a word that pulls less than the tree's right end.
use Rattle.std.proofs.Common.{◌≡◌, ℕ, ◌<◌, ◌≤◌, true, false, nat_lt, List, [], ◌∷◌, refl, arith}
use Rattle.std.proofs.lemmas.Bool.Decides.{nat_tests}
use Rattle.std.proofs.Math.Nat.{le-min}
use Rattle.vdm_kinds.specs.declared.place.Place.{Place}
use Rattle.vdm_kinds.specs.declared.sign.Sign.{Sign}
use Rattle.vdm_kinds.specs.declared.sign.Sign.TheVariants as sign_is
use Rattle.abstract_syntax.specs.Expressions.{ExprTree, prefixed, joined}
use Rattle.grammar_words.specs.declared.word.Word.{Word}
use Rattle.grammar_words.specs.declared.word.Word.TheVariants as word_is
use Rattle.grammar_words.specs.Tokens.{Token, plain}
use Rattle.grammar_words.specs.Pulls.{right_pull}
use Rattle.grammar_trees.specs.Binding.{reach}
use Rattle.grammar_trees.specs.Frames.{Frame, has}
use Rattle.grammar_trees.specs.Machine.{TypeReader, in_mode, pull, completed, word_pull, follow_word, follow_plain, run}

-- the word doesn't go on with a name, and pulls less
abbrev pub word_below : Word → ℕ → Type 0
word_below word_is.Backquote n = ⊥
word_below word_is.Tilde n = ⊥
word_below w n = word_pull w < n

abbrev pub token_below : Token → ℕ → Type 0
token_below (plain w place) n = word_below w n
token_below _ n = ⊥

abbrev pub first_below : List Token → ℕ → Type 0
first_below [] n = 0 < n
first_below (t ∷ ts) n = token_below t n

pub record Ends (tokens : List Token) (n : ℕ) : Type 0 where
  pub below : first_below tokens n

word_below-more : (w : Word) (m n : ℕ) → m ≤ n → word_below w m → word_below w n
word_below-more word_is.Backquote m n h k = k
word_below-more word_is.Tilde m n h k = k
word_below-more _ m n h k = omega arith

first_below-more : (tokens : List Token) (m n : ℕ) → m ≤ n → first_below tokens m → first_below tokens n
first_below-more [] m n h k = omega arith
first_below-more (plain w place ∷ ts) m n h k = word_below-more w m n h k
first_below-more (_ ∷ ts) m n h k = k

pub Ends-more : (tokens : List Token) (m n : ℕ) → m ≤ n → Ends tokens m → Ends tokens n
Ends-more tokens m n h k = record { below = first_below-more tokens m n h k.below }

-- each sign pulls at what stands behind it
pub right_pull-positive : (sign : Sign) → 1 ≤ right_pull sign
right_pull-positive sign_is.Equivalent = omega arith
right_pull-positive sign_is.Implies = omega arith
right_pull-positive sign_is.Or = omega arith
right_pull-positive sign_is.And = omega arith
right_pull-positive sign_is.Not = omega arith
right_pull-positive sign_is.Equal = omega arith
right_pull-positive sign_is.NotEqual = omega arith
right_pull-positive sign_is.Less = omega arith
right_pull-positive sign_is.LessEqual = omega arith
right_pull-positive sign_is.Greater = omega arith
right_pull-positive sign_is.GreaterEqual = omega arith
right_pull-positive sign_is.Subset = omega arith
right_pull-positive sign_is.ProperSubset = omega arith
right_pull-positive sign_is.InSet = omega arith
right_pull-positive sign_is.NotInSet = omega arith
right_pull-positive sign_is.Plus = omega arith
right_pull-positive sign_is.Minus = omega arith
right_pull-positive sign_is.Union = omega arith
right_pull-positive sign_is.Difference = omega arith
right_pull-positive sign_is.MapUnion = omega arith
right_pull-positive sign_is.Override = omega arith
right_pull-positive sign_is.Concatenation = omega arith
right_pull-positive sign_is.Times = omega arith
right_pull-positive sign_is.Div = omega arith
right_pull-positive sign_is.Rem = omega arith
right_pull-positive sign_is.Mod = omega arith
right_pull-positive sign_is.Inter = omega arith
right_pull-positive sign_is.Inverse = omega arith
right_pull-positive sign_is.DomainRestriction = omega arith
right_pull-positive sign_is.DomainRemoval = omega arith
right_pull-positive sign_is.RangeRestriction = omega arith
right_pull-positive sign_is.RangeRemoval = omega arith
right_pull-positive sign_is.Positive = omega arith
right_pull-positive sign_is.Negative = omega arith
right_pull-positive sign_is.Absolute = omega arith
right_pull-positive sign_is.Card = omega arith
right_pull-positive sign_is.PowerSet = omega arith
right_pull-positive sign_is.DistributedUnion = omega arith
right_pull-positive sign_is.DistributedInter = omega arith
right_pull-positive sign_is.Length = omega arith
right_pull-positive sign_is.Head = omega arith
right_pull-positive sign_is.Tail = omega arith
right_pull-positive sign_is.Indices = omega arith
right_pull-positive sign_is.Elements = omega arith
right_pull-positive sign_is.DistributedConcatenation = omega arith
right_pull-positive sign_is.Domain = omega arith
right_pull-positive sign_is.Range = omega arith
right_pull-positive sign_is.Merge = omega arith
right_pull-positive sign_is.Composition = omega arith
right_pull-positive sign_is.Exponent = omega arith

pub reach-positive : (e : ExprTree) → 1 ≤ reach e
reach-positive (prefixed sign operand place) = le-min (right_pull-positive sign) (reach-positive operand)
reach-positive (joined left sign right place) = le-min (right_pull-positive sign) (reach-positive right)
reach-positive _ = omega arith

if-less : (a b : ℕ) → a < b → nat_lt a b ≡ true
if-less a b h = grind (arith, nat_tests)

pub if-most : (a b : ℕ) → b ≤ a → nat_lt a b ≡ false
if-most a b h = grind (arith, nat_tests)

-- a word that doesn't go on with a name ends the frames that pull more
pub follow_plain-word : (w : Word) (n : ℕ) (place : Place) (e : ExprTree) (fs : List Frame) → word_below w n → follow_plain w place e fs ≡ follow_word w place e fs
follow_plain-word word_is.Backquote n place e fs h = absurd h
follow_plain-word word_is.Tilde n place e fs h = absurd h
follow_plain-word _ n place e fs h = refl

word_below-pull : (w : Word) (n : ℕ) → word_below w n → word_pull w < n
word_below-pull word_is.Backquote n h = absurd h
word_below-pull word_is.Tilde n h = absurd h
word_below-pull _ n h = h

-- a frame that pulls more than what comes next is complete
pub completes : (types : TypeReader) (tokens : List Token) (f : Frame) (fs : List Frame) (e : ExprTree) → Ends tokens (pull f) → run types tokens (in_mode (has e) (f ∷ fs)) ≡ run types tokens (in_mode (has (completed f e)) fs)
completes types [] f fs e h = rw (if-less 0 (pull f) h.below) refl
completes types (plain w place ∷ ts) f fs e h =
    let a = follow_plain-word w (pull f) place e (f ∷ fs) h.below in
    let b = follow_plain-word w (pull f) place (completed f e) fs h.below in
    let c = if-less (word_pull w) (pull f) (word_below-pull w (pull f) h.below) in
    rw (a, c, b) refl
completes types (_ ∷ ts) f fs e h = absurd h.below
