-- The tokens of a type are taken up to the word behind it.
use Rattle.std.proofs.Common.{◌≡◌, ℕ, List, [], ◌∷◌, ◌++◌, Option, Some, None, refl, ap, sym, subst, ◌∙◌, append_assoc, append-nil}
use Rattle.abstract_syntax.specs.Expressions.{ExprTree, is_of_type}
use Rattle.grammar_words.specs.Pulls.{closed}
use Rattle.type_reading.specs.TypeSpelling.{class_and_name, type_spelling, types_spelling, further_types, IsType, union}
use Rattle.grammar_trees.specs.Frames.{Frame, State, test_type, type_bracket, has, typing}
use Rattle.grammar_trees.specs.Machine.{in_mode, between, TypeReader, step, run}
use Rattle.grammar_words.specs.Tokens.{Token, identifier, quote, plain}
use Rattle.grammar_words.specs.Written.{Written, at, word, IsToken, AreTokens, at_word}
use Rattle.abstract_syntax.specs.Types.{TypeTree, TypeTrees, basic_type, quote_type, set_type, seq_type, seq1_type, map_type, inmap_type, optional_type, bracketed_type, named_type, product_type, union_type, no_types, one_type}
use Rattle.vdm_kinds.specs.declared.name.Name.{Name}
use Rattle.vdm_kinds.specs.declared.place.Place.{Place}
use Rattle.grammar_words.specs.declared.word.Word.{Word}
use Rattle.grammar_words.specs.declared.word.Word.TheVariants as word_is
use Rattle.vdm_kinds.specs.declared.sign.Sign.TheVariants as sign_is
use Rattle.grammar_trees.proofs.Ends.{Ends}
use Rattle.grammar_trees.proofs.Leading.{nothing_more, at_token, at_any, Begins-split, below_one, small, part, Begins, Leads, Taken}

-- the reader gives the type that tokens are
pub record ReadsTypes (types : TypeReader) : Type 0 where
  pub reads : (tokens : List Token) (tree : TypeTree) → AreTokens tokens (type_spelling tree) → IsType tree union → types tokens ≡ Some tree

-- what was taken, and what is left
pub record Collected (types : TypeReader) (ws : List Written) (ts : List Token) (fs : List Frame) (tokens rest : List Token) : Type 0 where
  pub own : List Token
  pub spelled : AreTokens own ws
  pub same : run types tokens (in_mode (typing ts) fs) ≡ run types rest (in_mode (typing (ts ++ own)) fs)

-- the tokens are taken as they stand
pub record Collects (types : TypeReader) (ws : List Written) : Type 0 where
  pub collects : (ts : List Token) (fs : List Frame) (tokens rest : List Token) → Begins tokens ws rest → Collected types ws ts fs tokens rest

pub AreTokens-append : (a : List Token) (v : List Written) (b : List Token) (w : List Written) → AreTokens a v → AreTokens b w → AreTokens (a ++ b) (v ++ w)
AreTokens-append [] [] b w h k = k
AreTokens-append (t ∷ ts) (v ∷ vs) b w h k = (h.0, AreTokens-append ts vs b w h.1 k)
AreTokens-append [] (v ∷ vs) b w h k = absurd h
AreTokens-append (t ∷ ts) [] b w h k = absurd h

collect_then : (types : TypeReader) (a b : List Written) → Collects types a → Collects types b → Collects types (a ++ b)
collect_then types a b p q = record {
  collects = λ ts fs tokens rest h.
      let c = Begins-split tokens a b rest h in
      let x = p.collects ts fs tokens c.0 c.1 in
      let y = q.collects (ts ++ x.own) fs c.0 rest c.2 in
      record { own = x.own ++ y.own; spelled = AreTokens-append x.own a y.own b x.spelled y.spelled; same = x.same ∙ y.same ∙ ap (λ (all : List Token). run types rest (in_mode (typing all) fs)) (append_assoc ts x.own y.own) };
}

-- a token that is no bracket and no `=`
abbrev IsPlain : TypeReader → Token → Type 0
IsPlain types t = (ts : List Token) (fs : List Frame) → step types (in_mode (typing ts) fs) t ≡ in_mode (typing (ts ++ t ∷ [])) fs

one-collects : (types : TypeReader) (w : Written) → ((t : Token) → IsToken t w → IsPlain types t) → (ts : List Token) (fs : List Frame) (tokens rest : List Token) → Begins tokens (w ∷ []) rest → Collected types (w ∷ []) ts fs tokens rest
one-collects types w p ts fs [] rest h = absurd h
one-collects types w p ts fs (t ∷ tokens) rest h =
    record { own = t ∷ []; spelled = (h.0, tt); same = ap (λ (s : State). run types tokens s) (p t h.0 ts fs) ∙ ap (λ (r : List Token). run types r (in_mode (typing (ts ++ t ∷ [])) fs)) h.1 }

at-collects : (types : TypeReader) (token : Token) → IsPlain types token → Collects types (at token ∷ [])
at-collects types token p = record { collects = one-collects types (at token) (λ t k. subst (λ (u : Token). IsPlain types u) (sym k) p) }

word-collects : (types : TypeReader) (w : Word) → ((place : Place) → IsPlain types (plain w place)) → Collects types (word w ∷ [])
word-collects types w p = record { collects = one-collects types (word w) (λ t k. subst (λ (u : Token). IsPlain types u) (sym k.1) (p k.0)) }

-- an opening bracket, what is in it, and the closing one
abbrev IsOpening : TypeReader → Token → Type 0
IsOpening types t = (ts : List Token) (fs : List Frame) → step types (in_mode (typing ts) fs) t ≡ in_mode (typing (ts ++ t ∷ [])) (type_bracket ∷ fs)

abbrev IsClosing : TypeReader → Token → Type 0
IsClosing types t = (ts : List Token) (fs : List Frame) → step types (in_mode (typing ts) (type_bracket ∷ fs)) t ≡ in_mode (typing (ts ++ t ∷ [])) fs

closing-collects : (types : TypeReader) (w : Word) → ((place : Place) → IsClosing types (plain w place)) → (ts : List Token) (fs : List Frame) (tokens rest : List Token) → Begins tokens (word w ∷ []) rest → (t : Token) × IsToken t (word w) × (run types tokens (in_mode (typing ts) (type_bracket ∷ fs)) ≡ run types rest (in_mode (typing (ts ++ t ∷ [])) fs))
closing-collects types w p ts fs [] rest h = absurd h
closing-collects types w p ts fs (t ∷ tokens) rest h =
    (t, h.0, ap (λ (s : State). run types tokens s) ((subst (λ (u : Token). IsClosing types u) (sym h.0.1) (p h.0.0)) ts fs) ∙ ap (λ (r : List Token). run types r (in_mode (typing (ts ++ t ∷ [])) fs)) h.1)

bracket-collects : (types : TypeReader) (opening : Token) (inner : List Written) (w : Word) → IsOpening types opening → ((place : Place) → IsClosing types (plain w place)) → Collects types inner → (ts : List Token) (fs : List Frame) (tokens rest : List Token) → Begins tokens (at opening ∷ inner ++ word w ∷ []) rest → Collected types (at opening ∷ inner ++ word w ∷ []) ts fs tokens rest
bracket-collects types opening inner w o p q ts fs [] rest h = absurd h
bracket-collects types opening inner w o p q ts fs (t ∷ tokens) rest h =
    let c = Begins-split tokens inner (word w ∷ []) rest h.1 in
    let x = q.collects (ts ++ t ∷ []) (type_bracket ∷ fs) tokens c.0 c.1 in
    let y = closing-collects types w p ((ts ++ t ∷ []) ++ x.own) fs c.0 rest c.2 in
    record {
      own = t ∷ (x.own ++ y.0 ∷ []);
      spelled = (h.0, AreTokens-append x.own inner (y.0 ∷ []) (word w ∷ []) x.spelled (y.1, tt));
      same = ap (λ (s : State). run types tokens s) ((subst (λ (u : Token). IsOpening types u) (sym h.0) o) ts fs) ∙ x.same ∙ y.2
          ∙ ap (λ (all : List Token). run types rest (in_mode (typing all) fs)) (append_assoc (ts ++ t ∷ []) x.own (y.0 ∷ []) ∙ append_assoc ts (t ∷ []) (x.own ++ y.0 ∷ []));
    }

class_and_name-collects : (types : TypeReader) (class : Option Name) (name : Name) (name_place place : Place) → Collects types (class_and_name identifier class name name_place place)
class_and_name-collects types None name name_place place = at-collects types (identifier name place) (λ ts fs. refl)
class_and_name-collects types (Some class) name name_place place =
    collect_then types (at (identifier class place) ∷ []) (word word_is.Backquote ∷ at (identifier name name_place) ∷ []) (at-collects types (identifier class place) (λ ts fs. refl))
    (collect_then types (word word_is.Backquote ∷ []) (at (identifier name name_place) ∷ []) (word-collects types word_is.Backquote (λ spot ts fs. refl)) (at-collects types (identifier name name_place) (λ ts fs. refl)))

of-collects : (types : TypeReader) (w : Word) (place : Place) (ws : List Written) → IsPlain types (plain w place) → Collects types ws → Collects types (at_word w place ∷ word word_is.Of ∷ ws)
of-collects types w place ws p q =
    collect_then types (at_word w place ∷ []) (word word_is.Of ∷ ws) (at-collects types (plain w place) p)
    (collect_then types (word word_is.Of ∷ []) ws (word-collects types word_is.Of (λ spot ts fs. refl)) q)

to-collects : (types : TypeReader) (w : Word) (place : Place) (a b : List Written) → IsPlain types (plain w place) → Collects types a → Collects types b → Collects types (at_word w place ∷ a ++ word word_is.To ∷ b)
to-collects types w place a b p q r =
    collect_then types (at_word w place ∷ []) (a ++ word word_is.To ∷ b) (at-collects types (plain w place) p)
    (collect_then types a (word word_is.To ∷ b) q (collect_then types (word word_is.To ∷ []) b (word-collects types word_is.To (λ spot ts fs. refl)) r))

nothing-collects : (types : TypeReader) → Collects types []
nothing-collects types = record { collects = λ ts fs tokens rest h. record { own = []; spelled = tt; same = ap (λ (r : List Token). run types r (in_mode (typing ts) fs)) h ∙ ap (λ (all : List Token). run types rest (in_mode (typing all) fs)) (sym (append-nil ts)) } }

mutual
  type-collects : (types : TypeReader) (tree : TypeTree) → Collects types (type_spelling tree)
  type-collects types (basic_type basic place) = at-collects types (plain (word_is.Basic basic) place) (λ ts fs. refl)
  type-collects types (quote_type name place) = at-collects types (quote name place) (λ ts fs. refl)
  type-collects types (set_type element place) = of-collects types word_is.Set place (type_spelling element) (λ ts fs. refl) (type-collects types element)
  type-collects types (seq_type element place) = of-collects types word_is.Seq place (type_spelling element) (λ ts fs. refl) (type-collects types element)
  type-collects types (seq1_type element place) = of-collects types word_is.Seq1 place (type_spelling element) (λ ts fs. refl) (type-collects types element)
  type-collects types (map_type key value place) = to-collects types word_is.Map place (type_spelling key) (type_spelling value) (λ ts fs. refl) (type-collects types key) (type-collects types value)
  type-collects types (inmap_type key value place) = to-collects types word_is.InMap place (type_spelling key) (type_spelling value) (λ ts fs. refl) (type-collects types key) (type-collects types value)
  type-collects types (optional_type inner place) = record { collects = bracket-collects types (plain word_is.OpenSquare place) (type_spelling inner) word_is.CloseSquare (λ ts fs. refl) (λ spot ts fs. refl) (type-collects types inner) }
  type-collects types (bracketed_type inner place) = record { collects = bracket-collects types (plain word_is.OpenRound place) (type_spelling inner) word_is.CloseRound (λ ts fs. refl) (λ spot ts fs. refl) (type-collects types inner) }
  type-collects types (named_type name place) = class_and_name-collects types name.class name.name name.name_place place
  type-collects types (product_type factors place) = types-collect types (word_is.Operator sign_is.Times) (λ spot ts fs. refl) factors
  type-collects types (union_type alternatives place) = types-collect types word_is.Bar (λ spot ts fs. refl) alternatives

  types-collect : (types : TypeReader) (between : Word) → ((place : Place) → IsPlain types (plain between place)) → (trees : TypeTrees) → Collects types (types_spelling between trees)
  types-collect types between p no_types = nothing-collects types
  types-collect types between p (one_type first trees) = collect_then types (type_spelling first) (further_types between trees) (type-collects types first) (further-collect types between p trees)

  further-collect : (types : TypeReader) (between : Word) → ((place : Place) → IsPlain types (plain between place)) → (trees : TypeTrees) → Collects types (further_types between trees)
  further-collect types between p no_types = nothing-collects types
  further-collect types between p (one_type next trees) =
      collect_then types (word between ∷ []) (type_spelling next ++ further_types between trees) (word-collects types between p)
      (collect_then types (type_spelling next) (further_types between trees) (type-collects types next) (further-collect types between p trees))

-- a type, and the word that ends it
end-run : (types : TypeReader) (n : ℕ) (w : Word) (ws : List Written) (tree : TypeTree) (fs : List Frame) (middle after : State) → ReadsTypes types → IsType tree union → ((own : List Token) (spot : Place) → types own ≡ Some tree → step types (in_mode (typing own) fs) (plain w spot) ≡ middle) → Leads types n ws middle after → (tokens rest : List Token) → Begins tokens (type_spelling tree ++ word w ∷ ws) rest → Ends rest n → run types tokens (in_mode (typing []) fs) ≡ run types rest after
end-run types n w ws tree fs middle after reader g s r tokens rest h k =
    let c = Begins-split tokens (type_spelling tree) (word w ∷ ws) rest h in
    let x = (type-collects types tree).collects [] fs tokens c.0 c.1 in
    x.same ∙ by x.own (reader.reads x.own tree x.spelled g) c.0 c.2
  where
    by : (own : List Token) → types own ≡ Some tree → (mid : List Token) → Begins mid (word w ∷ ws) rest → run types mid (in_mode (typing own) fs) ≡ run types rest after
    by own e [] q = absurd q
    by own e (t ∷ ts) q =
        ap (λ (u : Token). run types ts (step types (in_mode (typing own) fs) u)) q.0.1 ∙ ap (λ (m : State). run types ts m) (s own q.0.0 e) ∙ r.leads ts rest q.1 k

pub type-ends : (types : TypeReader) (n : ℕ) (w : Word) (ws : List Written) (tree : TypeTree) (fs : List Frame) (middle after : State) → ReadsTypes types → IsType tree union → ((own : List Token) (spot : Place) → types own ≡ Some tree → step types (in_mode (typing own) fs) (plain w spot) ≡ middle) → Leads types n ws middle after → Leads types n (type_spelling tree ++ word w ∷ ws) (in_mode (typing []) fs) after
type-ends types n w ws tree fs middle after reader g s r = record { leads = end-run types n w ws tree fs middle after reader g s r }

pub is_of_type-taken : (types : TypeReader) → ReadsTypes types → (inner : ExprTree) (declared : TypeTree) (place : Place) → Taken types inner → Taken types (is_of_type inner declared place)
is_of_type-taken types reader inner declared place t =
    record {
      taken = λ m fs b p. at_token (plain word_is.IsType place) refl (at_any word_is.OpenRound (λ spot. refl)
          (part inner word_is.Comma t b.0 below_one small (λ spot. refl)
          (type-ends types closed word_is.CloseRound [] declared (test_type inner place ∷ fs) (in_mode (has (is_of_type inner declared place)) fs) _ reader b.1 (λ own spot e. rw e refl) nothing_more)));
    }
