-- Patterns are read, one part after the other.
use Rattle.std.proofs.Common.{◌≡◌, ℕ, ◌<◌, Bool, false, List, [], ◌∷◌, ◌++◌, refl, ap, sym, subst, ◌∙◌, arith}
use Rattle.abstract_syntax.specs.Expressions.{PatternTree, PatternTrees, MapletPatterns, concatenation_pattern, no_patterns, one_pattern, no_maplet_patterns, one_maplet_pattern}
use Rattle.grammar_words.specs.Pulls.{closed}
use Rattle.grammar_trees.specs.Spelling.{pattern_spelling, joined_patterns, further_joined}
use Rattle.grammar_trees.specs.Binding.{AreTwoPatterns, IsSinglePattern, PatternsBeginAt, IsPattern, AreSinglePatterns}
use Rattle.grammar_trees.specs.Lists.{then_patterns, and_pattern, only_pattern}
use Rattle.grammar_trees.specs.Frames.{Frame, State, concatenated, wants_pattern, has_pattern}
use Rattle.grammar_trees.specs.Machine.{in_mode, joins, follow_single, follow_pattern_word, TypeReader, step, run}
use Rattle.grammar_words.specs.Tokens.{Token, plain}
use Rattle.grammar_words.specs.Written.{Written, word}
use Rattle.vdm_kinds.specs.declared.place.Place.{Place}
use Rattle.grammar_words.specs.declared.word.Word.{Word}
use Rattle.grammar_words.specs.declared.word.Word.TheVariants as word_is
use Rattle.vdm_kinds.specs.declared.sign.Sign.TheVariants as sign_is
use Rattle.grammar_trees.proofs.Ends.{word_below, token_below, Ends}
use Rattle.grammar_trees.proofs.Leading.{at_any, Begins-split, Begins, Leads}
use Rattle.grammar_trees.proofs.Assoc.{patterns-assoc}

-- no `^` comes next
abbrev pub first_unjoined : List Token → Type 0
first_unjoined [] = Unit {0}
first_unjoined (plain w place ∷ ts) = joins w ≡ false
first_unjoined (_ ∷ ts) = Unit {0}

pub record Unjoined (tokens : List Token) : Type 0 where
  pub unjoined : first_unjoined tokens

-- the innermost frame is no pattern before a `^`
abbrev pub IsOther : List Frame → Type 0
IsOther [] = Unit {0}
IsOther (concatenated ps place ∷ fs) = ⊥
IsOther (f ∷ fs) = Unit {0}

-- the pattern is read wherever it may stand
pub record PatternTaken (types : TypeReader) (p : PatternTree) : Type 0 where
  pub single : IsSinglePattern p → IsPattern p → (fs : List Frame) → Leads types closed (pattern_spelling p) (in_mode wants_pattern fs) (in_mode (has_pattern p) fs)
  pub whole : IsPattern p → (fs : List Frame) → IsOther fs → (tokens rest : List Token) → Begins tokens (pattern_spelling p) rest → Ends rest closed → Unjoined rest → run types tokens (in_mode wants_pattern fs) ≡ run types rest (in_mode (has_pattern p) fs)

pub single-taken : (types : TypeReader) (p : PatternTree) → (IsPattern p → (fs : List Frame) → Leads types closed (pattern_spelling p) (in_mode wants_pattern fs) (in_mode (has_pattern p) fs)) → PatternTaken types p
single-taken types p r = record {
  single = λ s g fs. r g fs;
  whole = λ g fs o tokens rest h k u. (r g fs).leads tokens rest h k;
}

abbrev pub PatternsTaken : TypeReader → PatternTrees → Type 0
PatternsTaken types no_patterns = Unit {0}
PatternsTaken types (one_pattern p ps) = PatternTaken types p × PatternsTaken types ps

abbrev pub MapletPatternsTaken : TypeReader → MapletPatterns → Type 0
MapletPatternsTaken types no_maplet_patterns = Unit {0}
MapletPatternsTaken types (one_maplet_pattern k v ms) = PatternTaken types k × PatternTaken types v × MapletPatternsTaken types ms

pub below_closed : 0 < closed
below_closed = omega arith

pub in_set_below : 12 < closed
in_set_below = omega arith

caret_below : 14 < closed
caret_below = omega arith

-- a pattern, up to a word that ends it
part-run : (types : TypeReader) (n : ℕ) (ws : List Written) (fs : List Frame) (after : State) (p : PatternTree) (w : Word) → PatternTaken types p → IsPattern p → IsOther fs → word_below w closed → joins w ≡ false → Leads types n (word w ∷ ws) (in_mode (has_pattern p) fs) after → (tokens rest : List Token) → Begins tokens (pattern_spelling p ++ word w ∷ ws) rest → Ends rest n → run types tokens (in_mode wants_pattern fs) ≡ run types rest after
part-run types n ws fs after p w t g o c j r tokens rest h k =
    let a = Begins-split tokens (pattern_spelling p) (word w ∷ ws) rest h in
    t.whole g fs o tokens a.0 a.1 (ends a.0 a.2) (ends_unjoined a.0 a.2) ∙ r.leads a.0 rest a.2 k
  where
    ends : (middle : List Token) → Begins middle (word w ∷ ws) rest → Ends middle closed
    ends [] q = absurd q
    ends (u ∷ us) q = record { below = subst (λ (v : Token). token_below v closed) (sym q.0.1) c }

    ends_unjoined : (middle : List Token) → Begins middle (word w ∷ ws) rest → Unjoined middle
    ends_unjoined [] q = absurd q
    ends_unjoined (u ∷ us) q = record { unjoined = subst (λ (v : Token). first_unjoined (v ∷ us)) (sym q.0.1) j }

pub pattern_part : {types : TypeReader} {n : ℕ} {ws : List Written} {fs : List Frame} {middle after : State} (p : PatternTree) (w : Word) → PatternTaken types p → IsPattern p → IsOther fs → word_below w closed → joins w ≡ false → ((place : Place) → step types (in_mode (has_pattern p) fs) (plain w place) ≡ middle) → Leads types n ws middle after → Leads types n (pattern_spelling p ++ word w ∷ ws) (in_mode wants_pattern fs) after
pattern_part {types = types} {n = n} {ws = ws} {fs = fs} {after = after} p w t g o c j s r =
    record { leads = part-run types n ws fs after p w t g o c j (at_any w s r) }

-- ---- patterns with `^` between each two

follow-other : (w : Word) (p : PatternTree) (fs : List Frame) → IsOther fs → follow_pattern_word w p fs ≡ follow_single (joins w) w p fs
follow-other w p [] o = refl
follow-other w p (concatenated ps place ∷ fs) o = absurd o
follow-other w p (_ ∷ fs) o = refl

-- the last part, where no `^` comes next
joined-end : (types : TypeReader) (ps : PatternTrees) (p : PatternTree) (place : Place) (fs : List Frame) (rest : List Token) → IsOther fs → Unjoined rest → run types rest (in_mode (has_pattern p) (concatenated ps place ∷ fs)) ≡ run types rest (in_mode (has_pattern (concatenation_pattern (and_pattern ps p) place)) fs)
joined-end types ps p place [] [] o u = refl
joined-end types ps p place (concatenated qs spot ∷ fs) [] o u = absurd o
joined-end types ps p place (_ ∷ fs) [] o u = refl
joined-end types ps p place fs (plain w spot ∷ ts) o u =
    let e = follow-other w (concatenation_pattern (and_pattern ps p) place) fs o in
    ap (λ (s : State). run types ts s) (rw (u.unjoined) refl ∙ sym (e ∙ ap (λ (b : Bool). follow_single b w (concatenation_pattern (and_pattern ps p) place) fs) (u.unjoined)))
joined-end types ps p place fs (_ ∷ ts) o u = refl

joined-run : (types : TypeReader) (ps done : PatternTrees) (p : PatternTree) (place : Place) (fs : List Frame) → PatternTaken types p → IsSinglePattern p → IsPattern p → PatternsTaken types ps → AreSinglePatterns ps → IsOther fs → (tokens rest : List Token) → Begins tokens (pattern_spelling p ++ further_joined ps) rest → Ends rest closed → Unjoined rest → run types tokens (in_mode wants_pattern (concatenated done place ∷ fs)) ≡ run types rest (in_mode (has_pattern (concatenation_pattern (then_patterns done (one_pattern p ps)) place)) fs)
joined-run types no_patterns done p place fs t s g ts ss o tokens rest h k u =
    let a = Begins-split tokens (pattern_spelling p) [] rest h in
    (t.single s g (concatenated done place ∷ fs)).leads tokens rest (subst (λ (r : List Token). Begins tokens (pattern_spelling p) r) a.2 a.1) k
    ∙ joined-end types done p place fs rest o u
joined-run types (one_pattern next ps) done p place fs t s g ts ss o tokens rest h k u =
    let a = Begins-split tokens (pattern_spelling p) (further_joined (one_pattern next ps)) rest h in
    (t.single s g (concatenated done place ∷ fs)).leads tokens a.0 a.1 (ends a.0 a.2) ∙ by a.0 a.2 (λ vs q. joined-run types ps (and_pattern done p) next place fs ts.0 ss.0 ss.1 ts.1 ss.2 o vs rest q k u)
  where
    ends : (middle : List Token) → Begins middle (further_joined (one_pattern next ps)) rest → Ends middle closed
    ends [] q = absurd q
    ends (v ∷ vs) q = record { below = subst (λ (x : Token). token_below x closed) (sym q.0.1) caret_below }

    by : (middle : List Token) → Begins middle (further_joined (one_pattern next ps)) rest → ((vs : List Token) → Begins vs (pattern_spelling next ++ further_joined ps) rest → run types vs (in_mode wants_pattern (concatenated (and_pattern done p) place ∷ fs)) ≡ run types rest (in_mode (has_pattern (concatenation_pattern (then_patterns (and_pattern done p) (one_pattern next ps)) place)) fs)) → run types middle (in_mode (has_pattern p) (concatenated done place ∷ fs)) ≡ run types rest (in_mode (has_pattern (concatenation_pattern (then_patterns done (one_pattern p (one_pattern next ps))) place)) fs)
    by [] q r = absurd q
    by (v ∷ vs) q r =
        ap (λ (x : Token). run types vs (step types (in_mode (has_pattern p) (concatenated done place ∷ fs)) x)) q.0.1
        ∙ r vs q.1
        ∙ ap (λ (all : PatternTrees). run types rest (in_mode (has_pattern (concatenation_pattern all place)) fs)) (patterns-assoc done (one_pattern p no_patterns) (one_pattern next ps))

concatenation-run : (types : TypeReader) (ps : PatternTrees) (place : Place) → PatternsTaken types ps → AreTwoPatterns ps → PatternsBeginAt ps place → AreSinglePatterns ps → (fs : List Frame) → IsOther fs → (tokens rest : List Token) → Begins tokens (joined_patterns ps) rest → Ends rest closed → Unjoined rest → run types tokens (in_mode wants_pattern fs) ≡ run types rest (in_mode (has_pattern (concatenation_pattern ps place)) fs)
concatenation-run types no_patterns place t two e ss fs o tokens rest h k u = absurd two
concatenation-run types (one_pattern p no_patterns) place t two e ss fs o tokens rest h k u = absurd two
concatenation-run types (one_pattern p (one_pattern next ps)) place t two e ss fs o tokens rest h k u =
    let a = Begins-split tokens (pattern_spelling p) (further_joined (one_pattern next ps)) rest h in
    (t.0.single ss.0 ss.1 fs).leads tokens a.0 a.1 (ends a.0 a.2) ∙ by a.0 a.2
  where
    ends : (middle : List Token) → Begins middle (further_joined (one_pattern next ps)) rest → Ends middle closed
    ends [] q = absurd q
    ends (v ∷ vs) q = record { below = subst (λ (x : Token). token_below x closed) (sym q.0.1) caret_below }

    by : (middle : List Token) → Begins middle (further_joined (one_pattern next ps)) rest → run types middle (in_mode (has_pattern p) fs) ≡ run types rest (in_mode (has_pattern (concatenation_pattern (one_pattern p (one_pattern next ps)) place)) fs)
    by [] q = absurd q
    by (v ∷ vs) q =
        ap (λ (x : Token). run types vs (step types (in_mode (has_pattern p) fs) x)) q.0.1
        ∙ ap (λ (x : State). run types vs x) (follow-other (word_is.Operator sign_is.Concatenation) p fs o ∙ ap (λ (q : Place). in_mode wants_pattern (concatenated (only_pattern p) q ∷ fs)) (sym e))
        ∙ joined-run types ps (only_pattern p) next place fs t.1.0 ss.2.0 ss.2.1 t.1.1 ss.2.2 o vs rest q.1 k u

pub concatenation-taken : (types : TypeReader) (ps : PatternTrees) (place : Place) → PatternsTaken types ps → PatternTaken types (concatenation_pattern ps place)
concatenation-taken types ps place t = record {
  single = λ s g fs. absurd s;
  whole = λ g fs o tokens rest h k u. concatenation-run types ps place t g.0 g.1 g.2 fs o tokens rest h k u;
}
