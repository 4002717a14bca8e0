-- Words that are nowhere too deep, and the nodes that are open behind them.
use Rattle.std.proofs.Common.{◌≡◌, ℕ, ◌+◌, ◌<◌, ◌≤◌, Bool, true, false, nat_lt, nat_le, ◌||◌, if◌then◌else◌, max, List, [], ◌∷◌, ◌++◌, length, Option, Some, None, refl, ap, sym, ◌∙◌, arith}
use Rattle.std.proofs.lemmas.Bool.Decides.{nat_tests}
use Rattle.vdm_kinds.specs.declared.place.Place.{Place}
use Rattle.grammar_words.specs.declared.word.PlacedWord.{PlacedWord}
use Rattle.grammar_words.specs.declared.word.Word.{Word}
use Rattle.grammar_words.specs.Pulls.{closed}
use Rattle.grammar_words.specs.Written.{Written}
use Rattle.grammar_fronts.specs.declared.open_node.OpenNode.{OpenNode}
use Rattle.grammar_fronts.specs.declared.wanted.Wanted.{Wanted}
use Rattle.grammar_fronts.specs.declared.wanted.Wanted.TheVariants.{BehindName, BehindClass}
use Rattle.grammar_fronts.specs.Turns.{Turn, wanted_by}
use Rattle.grammar_fronts.specs.Table.{turn}
use Rattle.grammar_fronts.specs.Depth.{nest, ended, end_over, with_part, pull_of, with_turn, too_many, deep_at, first_deep}
use Rattle.grammar_fronts.specs.Fronts.{words_of}
use Rattle.grammar_fronts.specs.Viable.{Met, takes, refuses, meets, needed, either}
use Rattle.front_laws.proofs.Passing.{written_word, words_written}

abbrev pub node : ℕ → ℕ → ℕ → OpenNode
node pull deepest below = record { pull = pull; deepest = deepest; below = below }

-- ---- words that are nowhere too deep, wherever they stand

abbrev pub allowed : ℕ → Bool → Bool
allowed n others = if nat_lt 200 n then false else others

abbrev pub fine_met : (List Wanted → List OpenNode → Bool) → List OpenNode → Met → Bool
fine_met next nodes (refuses left) = allowed (ended (length left) closed nodes).read true
fine_met next nodes (takes t behind) =
    let n = ended (length behind + 1) (pull_of t) nodes in
    allowed n.read (allowed (length (with_turn t behind n)) (next (wanted_by t ++ behind) (with_turn t behind n)))

abbrev pub fine : List Word → List Wanted → List OpenNode → Bool
fine [] wanted nodes = allowed (ended (length (needed wanted)) closed nodes).read true
fine (w ∷ ws) wanted nodes = fine_met (fine ws) nodes (meets w wanted)

-- a place or none, by a test
none_allowed : (b : Bool) (place : Place) (others : Option Place) (fine_others : Bool) → (others ≡ None → fine_others ≡ true)
    → (if b then Some place else others) ≡ None → (if b then false else fine_others) ≡ true
none_allowed true place others fine_others h is = absurd (cc)
none_allowed false place others fine_others h is = h is

met_fine : (last place : Place) (next : List Wanted → List OpenNode → Option Place) (fine_next : List Wanted → List OpenNode → Bool)
    → ((wanted : List Wanted) (nodes : List OpenNode) → next wanted nodes ≡ None → fine_next wanted nodes ≡ true)
    → (nodes : List OpenNode) (met : Met) → deep_at last place next nodes met ≡ None → fine_met fine_next nodes met ≡ true
met_fine last place next fine_next h nodes (refuses left) is =
    none_allowed (nat_lt 200 (ended (length left) closed nodes).read) last None true (λ _. refl) is
met_fine last place next fine_next h nodes (takes t behind) is =
    let n = ended (length behind + 1) (pull_of t) nodes in
    let others = with_turn t behind n in
    none_allowed (nat_lt 200 n.read) last (too_many place next (wanted_by t ++ behind) others)
    (allowed (length others) (fine_next (wanted_by t ++ behind) others))
    (λ few. none_allowed (nat_lt 200 (length others)) place (next (wanted_by t ++ behind) others) (fine_next (wanted_by t ++ behind) others)
    (h (wanted_by t ++ behind) others) few) is

pub none_deep : (last : Place) (words : List PlacedWord) (wanted : List Wanted) (nodes : List OpenNode)
    → first_deep last words wanted nodes ≡ None → fine (words_of words) wanted nodes ≡ true
none_deep last [] wanted nodes is =
    none_allowed (nat_lt 200 (ended (length (needed wanted)) closed nodes).read) last None true (λ _. refl) is
none_deep last (w ∷ ws) wanted nodes is =
    met_fine last w.place (first_deep w.place ws) (fine (words_of ws)) (λ wanted nodes. none_deep w.place ws wanted nodes) nodes (meets w.word wanted) is

pub record Fine (a : List Written) (wanted : List Wanted) (nodes : List OpenNode) : Type 0 where
  pub fine : fine (words_written a) wanted nodes ≡ true

others_true : (b others : Bool) → (if b then false else others) ≡ true → others ≡ true
others_true true others h = absurd (cc)
others_true false others h = h

-- behind a word that is taken
pub took : (w : Written) (a : List Written) (wanted : List Wanted) (nodes : List OpenNode) (t : Turn) (behind : List Wanted)
    → meets (written_word w) wanted ≡ takes t behind → Fine (w ∷ a) wanted nodes
    → Fine a (wanted_by t ++ behind) (with_turn t behind (ended (length behind + 1) (pull_of t) nodes))
took w a wanted nodes t behind met f =
    let n = ended (length behind + 1) (pull_of t) nodes in
    let others = with_turn t behind n in
    let next = fine (words_written a) (wanted_by t ++ behind) others in
    let is : fine_met (fine (words_written a)) nodes (takes t behind) ≡ true =
    sym (ap (fine_met (fine (words_written a)) nodes) met) ∙ f.fine in
    record { fine = others_true (nat_lt 200 (length others)) next (others_true (nat_lt 200 n.read) (allowed (length others) next) is) }

-- ---- nodes that end, and those that stay

pub stays : (wanted depth deepest below : ℕ) (nodes : List OpenNode) → below < wanted
    → end_over wanted closed depth (node 0 deepest below ∷ nodes) ≡ nest (node 0 (max deepest depth) below ∷ nodes) depth
stays wanted depth deepest below nodes less =
    let no : nat_le wanted below ≡ false = grind (arith, nat_tests) in
    ap (λ b. if (b || nat_lt closed 0) then end_over wanted closed (max deepest depth + 1) nodes
    else nest (node 0 (max deepest depth) below ∷ nodes) depth) no

pub goes : (wanted pull depth own deepest below : ℕ) (nodes : List OpenNode) → wanted ≤ below
    → end_over wanted pull depth (node own deepest below ∷ nodes) ≡ end_over wanted pull (max deepest depth + 1) nodes
goes wanted pull depth own deepest below nodes less =
    let yes_ : nat_le wanted below ≡ true = grind (arith, nat_tests) in
    ap (λ b. if (b || nat_lt pull own) then end_over wanted pull (max deepest depth + 1) nodes
    else nest (node own (max deepest depth) below ∷ nodes) depth) yes_

or_true : (b : Bool) → (b || true) ≡ true
or_true true = refl
or_true false = refl

pub pulled : (wanted pull depth own deepest below : ℕ) (nodes : List OpenNode) → pull < own
    → end_over wanted pull depth (node own deepest below ∷ nodes) ≡ end_over wanted pull (max deepest depth + 1) nodes
pulled wanted pull depth own deepest below nodes less =
    let yes_ : nat_lt pull own ≡ true = grind (arith, nat_tests) in
    let over : (nat_le wanted below || nat_lt pull own) ≡ true = ap (λ b. nat_le wanted below || b) yes_ ∙ or_true (nat_le wanted below) in
    ap (λ b. if b then end_over wanted pull (max deepest depth + 1) nodes else nest (node own (max deepest depth) below ∷ nodes) depth) over

-- the innermost node has a part of this depth too
abbrev pub raise : ℕ → List OpenNode → List OpenNode
raise depth [] = []
raise depth (n ∷ nodes) = with_part depth n ∷ nodes

-- what stands round a part: it ends neither by what is wanted nor by such an operator
abbrev pub Calm : ℕ → ℕ → List OpenNode → Type 0
Calm wanted pull [] = Unit {0}
Calm wanted pull (n ∷ nodes) = (n.below < wanted) × (n.pull ≤ pull)

pub calm_ends : (wanted pull low depth : ℕ) (nodes : List OpenNode) → Calm wanted low nodes → low ≤ pull
    → end_over wanted pull depth nodes ≡ nest (raise depth nodes) depth
calm_ends wanted pull low depth [] calm less = refl
calm_ends wanted pull low depth (n ∷ nodes) calm less =
    let now = with_part depth n in
    let below = calm.0 in
    let weaker = calm.1 in
    let no : nat_le wanted n.below ≡ false = grind (arith, nat_tests) in
    let nor : nat_lt pull n.pull ≡ false = grind (arith, nat_tests) in
    ap (λ b. if (b || nat_lt pull n.pull) then end_over wanted pull (now.deepest + 1) nodes else nest (now ∷ nodes) depth) no
    ∙ ap (λ b. if b then end_over wanted pull (now.deepest + 1) nodes else nest (now ∷ nodes) depth) nor

pub raise_nothing : (nodes : List OpenNode) → raise 0 nodes ≡ nodes
raise_nothing [] = refl
raise_nothing (n ∷ nodes) =
    let same : max n.deepest 0 ≡ n.deepest = omega arith in
    ap (λ d. node n.pull d n.below ∷ nodes) same

pub raise_calm : (wanted pull depth : ℕ) (nodes : List OpenNode) → Calm wanted pull nodes → Calm wanted pull (raise depth nodes)
raise_calm wanted pull depth [] calm = tt
raise_calm wanted pull depth (n ∷ nodes) calm = (calm.0, calm.1)

-- a part that is deeper hides one that is less deep
pub raise_hidden : (wanted pull less depth : ℕ) (nodes : List OpenNode) → less ≤ depth
    → end_over wanted pull depth (raise less nodes) ≡ end_over wanted pull depth nodes
raise_hidden wanted pull less depth [] h = refl
raise_hidden wanted pull less depth (n ∷ nodes) h =
    let same : max (max n.deepest less) depth ≡ max n.deepest depth = omega arith in
    ap (λ d. if (nat_le wanted n.below || nat_lt pull n.pull) then end_over wanted pull (d + 1) nodes else nest (node n.pull d n.below ∷ nodes) depth) same

-- ---- words behind a name that do not go on with it

abbrev pub Plain : List Written → Type 0
Plain [] = Unit {0}
Plain (w ∷ a) = (turn BehindName (written_word w) ≡ None) × (turn BehindClass (written_word w) ≡ None)

pub behind_name : (a : List Written) (wanted : List Wanted) (nodes : List OpenNode) → Plain a → Fine a (BehindName ∷ wanted) nodes → Fine a wanted nodes
behind_name [] wanted nodes plain f = record { fine = f.fine }
behind_name (w ∷ a) wanted nodes plain f =
    record { fine = sym (ap (λ t. fine_met (fine (words_written a)) nodes (either t wanted (meets (written_word w) wanted))) plain.0) ∙ f.fine }

pub behind_class : (a : List Written) (wanted : List Wanted) (nodes : List OpenNode) → Plain a → Fine a (BehindClass ∷ wanted) nodes → Fine a wanted nodes
behind_class [] wanted nodes plain f = record { fine = f.fine }
behind_class (w ∷ a) wanted nodes plain f =
    record { fine = sym (ap (λ t. fine_met (fine (words_written a)) nodes (either t wanted (meets (written_word w) wanted))) plain.1) ∙ f.fine }
