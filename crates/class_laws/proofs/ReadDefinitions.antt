-- Parameters, results, patterns and bodies of functions and operations are read.
use Rattle.std.proofs.Common.{◌≡◌, ℕ, Bool, true, false, nat_eq, if◌then◌else◌, List, [], ◌∷◌, ◌++◌, map, Option, Some, None, refl, ap, sym, subst, ◌∙◌, append_assoc, arith}
use Rattle.std.proofs.lemmas.List.{append-nil}
use Rattle.std.proofs.lemmas.Bool.Decides.{nat_tests}
use Rattle.std.specs.Option.{option_and_then}
use Rattle.vdm_kinds.specs.declared.name.Name.{Name}
use Rattle.vdm_kinds.specs.declared.name_at.NameAt.{NameAt}
use Rattle.vdm_kinds.specs.declared.place.Place.{Place}
use Rattle.vdm_kinds.specs.declared.sign.Sign.TheVariants as sign_is
use Rattle.abstract_syntax.specs.Types.{TypeTree, TypeTrees, no_types, one_type, type_place, basic_type, quote_type, set_type, seq_type, seq1_type, map_type, inmap_type, optional_type, bracketed_type, named_type, product_type, union_type}
use Rattle.abstract_syntax.specs.Expressions.{PatternTree}
use Rattle.abstract_syntax.specs.Classes.{Body, written, not_yet_specified, subclass_responsibility}
use Rattle.grammar_words.specs.declared.word.Word.{Word}
use Rattle.grammar_words.specs.declared.word.Word.TheVariants as word_is
use Rattle.grammar_words.specs.Tokens.{Token, plain, word_of}
use Rattle.type_reading.specs.TypeSpelling.{type_spelling, types_spelling, further_types, IsType, AreTypes, union, single}
use Rattle.grammar_trees.specs.Binding.{IsPattern, IsDeclared}
use Rattle.grammar_fronts.specs.declared.kind.Kind.TheVariants as kind
use Rattle.grammar_fronts.specs.declared.wanted.Wanted.TheVariants as want
use Rattle.grammar_fronts.specs.Viable.{after, taken, start}
use Rattle.front_laws.specs.Whole.{IsWholeFront}
use Rattle.front_laws.proofs.Whole.{type-whole}
use Rattle.stmt_trees.specs.Pieces.{Piece, again, mark, whole, Spelled}
use Rattle.stmt_trees.specs.ClassSpelling.{each_behind, list_spelling, parameters_spelling, patterns_in_brackets, body_spelling, result_spelling}
use Rattle.stmt_trees.specs.ClassGrammar.{AreAll, AreParameters, IsBody}
use Rattle.stmt_reading.specs.Leaves.{Read, onto, choice, word_in, is_word, name_again, pattern_in, type_in, list_in}
use Rattle.stmt_reading.specs.Definitions.{factors_of, parameters_in, result_in, patterns_of, body_of}
use Rattle.stmt_laws.specs.Ends.{ends_type, ends_pattern, first_word}
use Rattle.stmt_laws.proofs.WordNumbers.{word-found}
use Rattle.stmt_laws.proofs.Readers.{Reads, is_other, by_mark, at_mark, done, may_come, left_away, last_reads, then_reads, word-is_not}
use Rattle.stmt_laws.proofs.Leaves.{pattern_reads, type_reads, fronted}
use Rattle.stmt_laws.proofs.Lists.{AllRead, Between, list-reads}
use Rattle.stmt_laws.proofs.MoreParts.{fewer_end}
use Rattle.stmt_laws.proofs.Spellings.{pattern_pieces, whole-append}
use Rattle.stmt_laws.proofs.Gives.{gives_word}
use Rattle.stmt_laws.proofs.Firsts.{apart, started, no_words, by_pattern, same_pieces}
use Rattle.stmt_laws.proofs.ReadSimple.{same_result, only_close}
use Rattle.stmt_laws.proofs.ReadLoops.{word_absent, same_head, same_tail}
use Rattle.class_laws.proofs.SoundDefinitions.{brackets_in, brackets, types_of, factor_pieces, factors-alike}
use Rattle.class_laws.proofs.Behind.{arrow_ends, only_identifier, identifier_type, arrow_type}
use Rattle.class_laws.proofs.ReadItems.{any_word}

-- ---- brackets with nothing in them

brackets-come : (tokens rest : List Token) → Spelled tokens brackets rest → (place : Place) × (brackets_in tokens ≡ Some (place, rest))
brackets-come tokens rest h = (h.2.1.0, ap brackets_in (h.1.1 ∙ ap (λ ts. plain word_is.OpenRound h.1.0 ∷ ts) (h.2.1.1 ∙ ap (λ ts. plain word_is.CloseRound h.2.1.0 ∷ ts) h.2.2)))

no_empty_type : IsWholeFront kind.TypeExpr [] → ⊥
no_empty_type h = started (want.WholeType ∷ []) refl h.wanted h.viable h.whole

no_second : (front rest : List Token) (t : Token) (ts : List Token) → front ++ rest ≡ t ∷ ts → IsWholeFront kind.TypeExpr (map word_of front)
    → word_of t ≡ word_is.OpenRound → (first_word rest ≡ word_is.CloseRound → ⊥) → first_word ts ≡ word_is.CloseRound → ⊥
no_second [] rest t ts e h a b c = no_empty_type h
no_second (u ∷ []) rest t ts e h a b c = b (ap first_word (same_tail u t rest ts e) ∙ c)
no_second (u ∷ v ∷ more) rest t ts e h a b c =
    let one : word_of u ≡ word_is.OpenRound = ap word_of (same_head u t (v ∷ (more ++ rest)) ts e) ∙ a in
    let two : word_of v ≡ word_is.CloseRound = ap first_word (same_tail u t (v ∷ (more ++ rest)) ts e) ∙ c in
    let f = ap (λ w. option_and_then (taken (word_of v ∷ map word_of more)) (after w (start kind.TypeExpr))) one in
    let g = ap (λ w. option_and_then (taken (w ∷ map word_of more)) (after word_is.OpenRound (start kind.TypeExpr))) two in
    no_words h.wanted (sym g ∙ sym f ∙ h.viable)

no_brackets_by : (tokens : List Token) (found : Read Place) → word_in word_is.OpenRound tokens ≡ found
    → ((place : Place) (a : List Token) → tokens ≡ plain word_is.OpenRound place ∷ a → word_in word_is.CloseRound a ≡ None)
    → onto found (λ (place : Place) (a : List Token). word_in word_is.CloseRound a) ≡ None
no_brackets_by tokens None q none = refl
no_brackets_by tokens (Some (place, a)) q none = none place a ((gives_word word_is.OpenRound tokens).gives place a q).is

no_brackets : (t : TypeTree) → IsType t union → (tokens rest : List Token) → Spelled tokens (whole (type_spelling t)) rest
    → (first_word rest ≡ word_is.CloseRound → ⊥) → brackets_in tokens ≡ None
no_brackets t g tokens rest h b =
    let f = fronted (type_spelling t) tokens rest h in
    let whole_front = type-whole f.front t (record { spelled = f.written; grammatical = g }) in
    no_brackets_by tokens (word_in word_is.OpenRound tokens) refl (λ place a e.
    word-is_not word_is.CloseRound a (word_absent word_is.CloseRound (first_word a) (is_word word_is.CloseRound (first_word a)) refl (λ q.
    no_second f.front rest (plain word_is.OpenRound place) a (sym f.is ∙ e) whole_front refl b (word-found word_is.CloseRound (first_word a) q))))

not_close : (ends : Word → Bool) → ends word_is.CloseRound ≡ false → (w : Word) → ends w ≡ true → w ≡ word_is.CloseRound → ⊥
not_close ends fails w e q = let f = ap ends q in absurd (cc)

-- a type, where brackets with nothing in them may stand
type_in_place : {B : Type 0} (t : TypeTree) (made : TypeTree → B) (nothing : B) (ends : Word → Bool) → IsType t union
    → ((w : Word) → ends w ≡ true → ends_type w ≡ true) → ends word_is.CloseRound ≡ false
    → Reads (λ (ts : List Token). choice (brackets_in ts) (λ (place : Place) (a : List Token). Some (nothing, a))
    (onto (type_in ts) (λ (x : TypeTree) (a : List Token). Some (made x, a)))) (whole (type_spelling t)) (made t) ends
type_in_place t made nothing ends g more fails =
    record {
      reads = λ tokens rest h e.
          ap (λ o. choice o (λ place a. Some (nothing, a)) (onto (type_in tokens) (λ x a. Some (made x, a))))
          (no_brackets t g tokens rest h (not_close ends fails (first_word rest) e))
          ∙ (last_reads made (fewer_end more (type_reads t g))).reads tokens rest h e;
    }

empty_in_place : {B : Type 0} (made : TypeTree → B) (nothing : B) (ends : Word → Bool)
    → Reads (λ (ts : List Token). choice (brackets_in ts) (λ (place : Place) (a : List Token). Some (nothing, a))
    (onto (type_in ts) (λ (x : TypeTree) (a : List Token). Some (made x, a)))) brackets nothing ends
empty_in_place made nothing ends =
    record {
      reads = λ tokens rest h e.
          ap (λ o. choice o (λ place a. Some (nothing, a)) (onto (type_in tokens) (λ x a. Some (made x, a)))) (brackets-come tokens rest h).1;
    }

-- ---- parameters and results

abbrev trees_of : List TypeTree → TypeTrees
trees_of [] = no_types
trees_of (t ∷ ts) = one_type t (trees_of ts)

types-back : (ts : List TypeTree) → types_of (trees_of ts) ≡ ts
types-back [] = refl
types-back (t ∷ ts) = ap (λ (more : List TypeTree). t ∷ more) (types-back ts)

factors-good : (ts : List TypeTree) → AreAll (λ (t : TypeTree). IsType t single) ts → AreTypes (trees_of ts) single
factors-good [] g = tt
factors-good (t ∷ ts) g = (g.0, factors-good ts g.1)

one_alike : (t : TypeTree) → whole (type_spelling t) ≡ parameters_spelling (t ∷ [])
one_alike t = sym (append-nil (whole (type_spelling t)))

product-alike : (t u : TypeTree) (ts : List TypeTree)
    → whole (types_spelling (word_is.Operator sign_is.Times) (trees_of (t ∷ u ∷ ts))) ≡ parameters_spelling (t ∷ u ∷ ts)
product-alike t u ts =
    whole-append (type_spelling t) (further_types (word_is.Operator sign_is.Times) (trees_of (u ∷ ts)))
    ∙ ap (λ x. whole (type_spelling t) ++ x) (factors-alike (trees_of (u ∷ ts))
    ∙ ap (λ x. each_behind (word_is.Operator sign_is.Times) factor_pieces x) (types-back (u ∷ ts)))

one_parameter : (t : TypeTree) → factors_of t ≡ t ∷ [] → IsType t union → Reads parameters_in (parameters_spelling (t ∷ [])) (t ∷ []) arrow_ends
one_parameter t one g =
    same_pieces (one_alike t) (same_result one (type_in_place t factors_of [] arrow_ends g arrow_type refl))

pub parameters-reads : (ps : List TypeTree) → AreParameters ps → Reads parameters_in (parameters_spelling ps) ps arrow_ends
parameters-reads [] g = empty_in_place factors_of [] arrow_ends
parameters-reads (t ∷ u ∷ ts) g =
    same_pieces (product-alike t u ts) (same_result (types-back (t ∷ u ∷ ts))
    (type_in_place (product_type (trees_of (t ∷ u ∷ ts)) (type_place t)) factors_of [] arrow_ends
    (tt, tt, refl, factors-good (t ∷ u ∷ ts) g) arrow_type refl))
parameters-reads (product_type a b ∷ []) g = absurd g
parameters-reads (basic_type a b ∷ []) g = one_parameter (basic_type a b) refl g
parameters-reads (quote_type a b ∷ []) g = one_parameter (quote_type a b) refl g
parameters-reads (set_type a b ∷ []) g = one_parameter (set_type a b) refl g
parameters-reads (seq_type a b ∷ []) g = one_parameter (seq_type a b) refl g
parameters-reads (seq1_type a b ∷ []) g = one_parameter (seq1_type a b) refl g
parameters-reads (map_type a b c ∷ []) g = one_parameter (map_type a b c) refl g
parameters-reads (inmap_type a b c ∷ []) g = one_parameter (inmap_type a b c) refl g
parameters-reads (optional_type a b ∷ []) g = one_parameter (optional_type a b) refl g
parameters-reads (bracketed_type a b ∷ []) g = one_parameter (bracketed_type a b) refl g
parameters-reads (named_type a b ∷ []) g = one_parameter (named_type a b) refl g
parameters-reads (union_type a b ∷ []) g = one_parameter (union_type a b) refl g

pub result-reads : (r : Option TypeTree) → IsDeclared r → Reads result_in (result_spelling r) r only_identifier
result-reads None g = empty_in_place (λ t. Some t) None only_identifier
result-reads (Some t) g = type_in_place t (λ x. Some x) None only_identifier g identifier_type refl

-- ---- the name again

number-same : (n : ℕ) → nat_eq n n ≡ true
number-same n = grind (arith, nat_tests)

pub at_again : {B : Type 0} {b : B} {vs : List Piece} {ends : Word → Bool} (name : Name) (q : NameAt → List Token → Read B)
    → ((place : Place) → Reads (q (record { name = name; place = place })) vs b ends)
    → Reads (λ (ts : List Token). onto (name_again name ts) q) (again name ∷ vs) b ends
at_again name q more =
    record {
      reads = λ tokens rest h e.
          ap (λ ts. onto (name_again name ts) q) h.2
          ∙ ap (λ (same : Bool). onto (if same then Some (record { name = name; place = h.1 }, h.0) else None) q) (number-same name.0)
          ∙ (more h.1).reads h.0 rest h.3 e;
    }

close_pattern : (w : Word) → only_close w ≡ true → ends_pattern w ≡ true
close_pattern word_is.CloseRound e = refl
close_pattern _ e = absurd (cc)

between_patterns : Between word_is.Comma (λ (p : PatternTree). ends_pattern) only_close
between_patterns =
    record { known = refl; next = λ p. refl; last = λ p w e. close_pattern w e; other = apart word_is.Comma only_close refl }

all_patterns : (ps : List PatternTree) → AreAll IsPattern ps → AllRead pattern_in pattern_pieces (λ (p : PatternTree). ends_pattern) ps
all_patterns [] g = tt
all_patterns (p ∷ ps) g = (pattern_reads p g.0, all_patterns ps g.1)

-- what is read of the patterns: none, or a list
abbrev none_in : Place → List Token → Read (List PatternTree)
none_in place b = onto (word_in word_is.DoubleEqual b) (λ (spot : Place) (c : List Token). Some ([], c))

abbrev listed_in : List Token → Read (List PatternTree)
listed_in a =
    onto (word_in word_is.OpenRound a) (λ (place : Place) (b : List Token).
    onto (list_in word_is.Comma pattern_in b) (λ (ps : List PatternTree) (c : List Token).
    onto (word_in word_is.CloseRound c) (λ (close : Place) (d : List Token).
    onto (word_in word_is.DoubleEqual d) (λ (spot : Place) (e : List Token). Some (ps, e)))))

abbrev patterns_behind : List Token → Read (List PatternTree)
patterns_behind a = choice (brackets_in a) none_in (listed_in a)

some_patterns : (p : PatternTree) (ps : List PatternTree) (ends : Word → Bool) → AreAll IsPattern (p ∷ ps)
    → Reads listed_in
    (mark word_is.OpenRound ∷ (list_spelling word_is.Comma pattern_pieces (p ∷ ps) ++ (mark word_is.CloseRound ∷ mark word_is.DoubleEqual ∷ [])))
    (p ∷ ps) ends
some_patterns p ps ends g =
    at_mark word_is.OpenRound _ refl (λ place.
    then_reads _ (list-reads word_is.Comma pattern_in pattern_pieces (λ x. ends_pattern) only_close between_patterns p ps (all_patterns (p ∷ ps) g))
    (by_mark word_is.CloseRound refl)
    (at_mark word_is.CloseRound _ refl (λ close. at_mark word_is.DoubleEqual _ refl (λ spot. done (p ∷ ps) ends))))

no_close : (p : PatternTree) (ps : List PatternTree) → AreAll IsPattern (p ∷ ps) → (tokens rest : List Token)
    → Spelled tokens (list_spelling word_is.Comma pattern_pieces (p ∷ ps) ++ (mark word_is.CloseRound ∷ mark word_is.DoubleEqual ∷ [])) rest
    → is_other word_is.CloseRound (first_word tokens) ≡ true
no_close p ps g tokens rest h =
    let k = subst (λ x. Spelled tokens x rest) (append_assoc (pattern_pieces p) (each_behind word_is.Comma pattern_pieces ps) _) h in
    (by_pattern {ends = any_word} _ word_is.CloseRound p g.0 refl).opens tokens rest k refl

other_than : (b : Bool) → (if b then false else true) ≡ true → b ≡ false
other_than true h = absurd (cc)
other_than false h = refl

patterns-behind : (ps : List PatternTree) (ends : Word → Bool) → AreAll IsPattern ps
    → Reads patterns_behind (patterns_in_brackets ps ++ (mark word_is.DoubleEqual ∷ [])) ps ends
patterns-behind [] ends g =
    record {
      reads = λ tokens rest h e.
          let m : Spelled tokens brackets h.2.0 = (h.0, h.1, (h.2.0, h.2.1, refl)) in
          let c = brackets-come tokens h.2.0 m in
          ap (λ o. choice o none_in (listed_in tokens)) c.1
          ∙ (at_mark word_is.DoubleEqual (λ spot c. Some ([], c)) refl (λ spot. done [] ends)).reads h.2.0 rest h.2.2 e;
    }
patterns-behind (p ∷ ps) ends g =
    same_pieces (ap (λ x. mark word_is.OpenRound ∷ x)
    (sym (append_assoc (list_spelling word_is.Comma pattern_pieces (p ∷ ps)) (mark word_is.CloseRound ∷ []) (mark word_is.DoubleEqual ∷ []))))
    (record {
      reads = λ tokens rest h e.
          let none = ap brackets_in h.1.1
          ∙ word-is_not word_is.CloseRound h.0 (other_than (is_word word_is.CloseRound (first_word h.0)) (no_close p ps g h.0 rest h.2)) in
          ap (λ o. choice o none_in (listed_in tokens)) none ∙ (some_patterns p ps ends g).reads tokens rest h e;
    })

pub patterns_of-reads : (name : Name) (ps : List PatternTree) (ends : Word → Bool) → AreAll IsPattern ps
    → Reads (patterns_of name) (again name ∷ (patterns_in_brackets ps ++ (mark word_is.DoubleEqual ∷ []))) ps ends
patterns_of-reads name ps ends g = at_again name (λ second. patterns_behind) (λ place. patterns-behind ps ends g)

-- ---- bodies

pub body-reads : {A : Type 0} (one : List Token → Read A) (spell : A → List Piece) (Good : A → Type 0) (ends : Word → Bool)
    → ((a : A) → Good a → Reads one (spell a) a ends)
    → ((a : A) → Good a → (tokens rest : List Token) → Spelled tokens (spell a) rest → is_other word_is.Is (first_word tokens) ≡ true)
    → (body : Body A) → IsBody Good body → Reads (body_of one) (body_spelling spell body) body ends
body-reads one spell Good ends reads first (written a) g =
    left_away word_is.Is _ _ (record { opens = λ tokens rest h e. first a g tokens rest h }) (last_reads (λ found. written found) (reads a g))
body-reads one spell Good ends reads first not_yet_specified g =
    may_come word_is.Is _ _ refl (λ place. may_come (word_is.Operator sign_is.Not) _ _ refl (λ spot. at_mark word_is.Yet _ refl (λ yet.
    at_mark word_is.Specified _ refl (λ specified. done not_yet_specified ends))))
body-reads one spell Good ends reads first subclass_responsibility g =
    may_come word_is.Is _ _ refl (λ place. left_away (word_is.Operator sign_is.Not) _ _ (by_mark word_is.Subclass refl)
    (at_mark word_is.Subclass _ refl (λ spot. at_mark word_is.Responsibility _ refl (λ other. done subclass_responsibility ends))))
