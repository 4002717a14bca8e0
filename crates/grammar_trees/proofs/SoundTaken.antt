-- What frames make of an expression that a word ends.
use Rattle.std.proofs.Common.{◌≡◌, ℕ, ◌≤◌, List, [], ◌∷◌, ◌++◌, Option, refl, ap, sym, subst, ◌∙◌, arith, append_assoc, append-nil}
use Rattle.abstract_syntax.specs.Expressions.{ExprTree, ExprTrees, MaybeExpr, MapletTrees, FieldValueTrees, DefinedTrees, BranchTrees, CaseTrees, BindTree, BindTrees, PatternTree, PatternTrees, set_range, set_comprehension, map_enumeration, map_comprehension, sequence_comprehension, modify_record, subsequence, cases_of, no_exprs, one_expr, left_out, given_expr, no_maplets, one_maplet, no_field_values, one_field_value, no_defined, one_defined, no_branches, no_cases, one_case, bind_in, no_binds, one_bind, equal_to, no_patterns}
use Rattle.grammar_words.specs.Pulls.{far_pull, closed}
use Rattle.grammar_trees.specs.Spelling.{spelling, behind_word, exprs_spelling, branches_spelling, cases_spelling, bind_spelling}
use Rattle.grammar_trees.specs.Binding.{reach, AreTwoExprs, HasOnePattern, AreSomeBinds, AreSomeMaplets, AreSomeFields, AreSomeDefinitions, AreSomeCases, Binds, IsGiven, AreExprs, AreBranches, IsBind, AreBinds}
use Rattle.grammar_trees.specs.Lists.{and_expr, and_maplet, and_field_value, and_defined, and_branch, and_case, and_bind}
use Rattle.grammar_trees.specs.Frames.{Enclosed, Listed, Ranged, Compared, BindsFor, Conditioned, Body, Frame, State, bracket, token_of, named_test, basic_test, class_test, base_class_test, set_of, sequence_of, tuple_of, record_of, new_of, applied_to, in_set, part_of_sequence, classes, base_classes, set_each, map_each, all_of, some_of, one_of, the_one, such_one, set_such, map_such, sequence_such, all_body, some_body, one_body, the_body, let_body, such_body, def_body, else_body, body, enclosed, matched, items, tuple_start, range_end, map_key, map_value, condition, bind_set, sequence_set, left_class, right_class, tested, modified, field_value, let_value, let_such, def_value, if_test, if_then, elseif_test, elseif_then, subject, case_value, others_value, bind_patterns, sequence_bound, let_next, case_patterns, test_type, st_then, field_name, has}
use Rattle.grammar_trees.specs.Machine.{in_mode, enclose, whole_list, closes_list, behind_first, behind_item, end_range, behind_maplet, end_condition, behind_comprehension, behind_quantified, behind_one, behind_such, behind_set, behind_sequence_set, compare, behind_field, behind_definition, behind_branch, behind_case, taken, Stop, comma, close_round, close_curly, bar, maps_to, ampersand, elseif_stop, else_stop, in_stop, be_stop, end_stop}
use Rattle.grammar_words.specs.Tokens.{Token}
use Rattle.grammar_words.specs.Written.{Written, word, IsToken, at_word}
use Rattle.abstract_syntax.specs.Types.{TypeTree}
use Rattle.vdm_kinds.specs.declared.name.Name.{Name}
use Rattle.vdm_kinds.specs.declared.place.Place.{Place}
use Rattle.grammar_words.specs.declared.word.Word.TheVariants as word_is
use Rattle.grammar_trees.proofs.SoundFrames.{took_body, took_enclosed, took_opening, took_such, took_for, took, stack_took, context, BodyFits, EnclosedFits, AreSomeExprs, ListedFits, SuchFits, ForFits, IsAlone, IsOnly, Fits}
use Rattle.grammar_trees.proofs.SoundBasics.{one_further, to_refused, to_wants, to_wants_pattern, to_typing, to_has, to_has_pattern, to_awaits, before_that, at_comma-becomes, at_round-becomes, at_square-becomes, at_curly-becomes, at_maps_to-becomes, at_then-becomes, at_in-becomes, at_colon-becomes, at_end-becomes, StopToken, Becomes}
use Rattle.grammar_trees.proofs.SoundLists.{exprs-took, exprs-spelled, exprs-are, maplets-took, maplets-spelled, maplets-are, field_values-took, field_values-spelled, field_values-are, defined-took, defined-spelled, defined-are, cases-took, cases-spelled, cases-are, binds-took, binds-spelled, binds-are, branches-spelled, branches-are, took_cases, took_binds}
use Rattle.grammar_trees.proofs.ListsTaken.{closer}

-- ---- brackets

enclose-spelled : (k : Enclosed) (e : ExprTree) (place : Place) → spelling (enclose k e place) ≡ (took_enclosed k place ++ spelling e) ++ word word_is.CloseRound ∷ []
enclose-spelled bracket e place = refl
enclose-spelled token_of e place = refl
enclose-spelled (named_test type_name) e place = simp append_assoc refl
enclose-spelled (basic_test basic) e place = refl
enclose-spelled (class_test c at_c) e place = refl
enclose-spelled (base_class_test c at_c) e place = refl

enclose-binds : (k : Enclosed) (e : ExprTree) (place : Place) (m : ℕ) → EnclosedFits k place → Binds e far_pull → Binds (enclose k e place) m
enclose-binds bracket e place m h b = b
enclose-binds token_of e place m h b = b
enclose-binds (named_test type_name) e place m h b = (h, b)
enclose-binds (basic_test basic) e place m h b = b
enclose-binds (class_test c at_c) e place m h b = b
enclose-binds (base_class_test c at_c) e place m h b = b

enclose-closed : (k : Enclosed) (e : ExprTree) (place : Place) → closed ≤ reach (enclose k e place)
enclose-closed bracket e place = omega arith
enclose-closed token_of e place = omega arith
enclose-closed (named_test type_name) e place = omega arith
enclose-closed (basic_test basic) e place = omega arith
enclose-closed (class_test c at_c) e place = omega arith
enclose-closed (base_class_test c at_c) e place = omega arith

pub all_closed : closed ≤ closed
all_closed = omega arith

-- ---- lists of expressions

whole-spelled : (listed : Listed) (es : ExprTrees) (place : Place) → spelling (whole_list listed es place) ≡ took_opening listed place ++ (exprs_spelling es ++ word (closer listed) ∷ [])
whole-spelled set_of es place = refl
whole-spelled sequence_of es place = refl
whole-spelled tuple_of es place = refl
whole-spelled (record_of type_name) es place = simp append_assoc refl
whole-spelled (new_of c at_c) es place = refl
whole-spelled (applied_to head) es place = simp append_assoc refl

are-two : (es : ExprTrees) (e : ExprTree) → AreSomeExprs es → AreTwoExprs (and_expr es e)
are-two no_exprs e h = absurd h
are-two (one_expr f no_exprs) e h = tt
are-two (one_expr f (one_expr g es)) e h = tt

whole-binds : (listed : Listed) (es : ExprTrees) (e : ExprTree) (place : Place) (m : ℕ) → ListedFits listed es place m → AreExprs es → Binds e far_pull → Binds (whole_list listed (and_expr es e) place) m
whole-binds set_of es e place m h a b = exprs-are es e a b
whole-binds sequence_of es e place m h a b = exprs-are es e a b
whole-binds tuple_of es e place m h a b = (are-two es e h, exprs-are es e a b)
whole-binds (record_of type_name) es e place m h a b = (h, exprs-are es e a b)
whole-binds (new_of c at_c) es e place m h a b = exprs-are es e a b
whole-binds (applied_to head) es e place m h a b = (h.0, h.1, h.2, exprs-are es e a b)

whole-closed : (listed : Listed) (es : ExprTrees) (place : Place) → closed ≤ reach (whole_list listed es place)
whole-closed set_of es place = omega arith
whole-closed sequence_of es place = omega arith
whole-closed tuple_of es place = omega arith
whole-closed (record_of type_name) es place = omega arith
whole-closed (new_of c at_c) es place = omega arith
whole-closed (applied_to head) es place = omega arith

closes_list-becomes : (listed : Listed) (stop : Stop) (fs : List Frame) (ws : List Written) (t : Token) (s : State) → StopToken stop t → (IsToken t (word (closer listed)) → Becomes fs ws t s) → Becomes fs ws t (closes_list listed stop s)
closes_list-becomes set_of stop fs ws t s k r = at_curly-becomes stop fs ws t s k r
closes_list-becomes sequence_of stop fs ws t s k r = at_square-becomes stop fs ws t s k r
closes_list-becomes tuple_of stop fs ws t s k r = at_round-becomes stop fs ws t s k r
closes_list-becomes (record_of type_name) stop fs ws t s k r = at_round-becomes stop fs ws t s k r
closes_list-becomes (new_of c at_c) stop fs ws t s k r = at_round-becomes stop fs ws t s k r
closes_list-becomes (applied_to head) stop fs ws t s k r = at_round-becomes stop fs ws t s k r

list-closes : (listed : Listed) (es : ExprTrees) (e : ExprTree) (place : Place) (stop : Stop) (fs : List Frame) (t : Token) → StopToken stop t → Fits (items listed es place) (context fs) → Binds e far_pull → Becomes fs (took (items listed es place) ++ spelling e) t (closes_list listed stop (in_mode (has (whole_list listed (and_expr es e) place)) fs))
list-closes listed es e place stop fs t k h b =
    closes_list-becomes listed stop fs (took (items listed es place) ++ spelling e) t (in_mode (has (whole_list listed (and_expr es e) place)) fs) k (λ q.
    to_has (whole_list listed (and_expr es e) place) (word (closer listed)) q (whole-closed listed (and_expr es e) place) (whole-binds listed es e place (context fs) h.1 h.0 b)
    (whole-spelled listed (and_expr es e) place ∙ simp (exprs-spelled es e, append_assoc) refl))

behind_first-becomes : (listed : Listed) (es : ExprTrees) (e : ExprTree) (place : Place) (stop : Stop) (fs : List Frame) (t : Token) → StopToken stop t → Fits (items listed es place) (context fs) → Binds e far_pull → Becomes fs (took (items listed es place) ++ spelling e) t (behind_first listed es e place stop fs)
behind_first-becomes set_of no_exprs e place bar fs t k h b = to_wants_pattern (bind_patterns (set_each e) no_binds no_patterns place) (word word_is.Bar) k (b, tt, tt, tt, tt) (simp (append_assoc, append-nil) refl)
behind_first-becomes set_of no_exprs e place maps_to fs t k h b = to_wants (map_value no_maplets e place) (word word_is.MapsTo) k (tt, b) refl
behind_first-becomes sequence_of no_exprs e place bar fs t k h b = to_wants_pattern (sequence_bound e place) (word word_is.Bar) k b refl
behind_first-becomes listed es e place stop fs t k h b = list-closes listed es e place stop fs t k h b

listed-more : (listed : Listed) (es : ExprTrees) (e : ExprTree) (place : Place) (m : ℕ) → ListedFits listed es place m → ListedFits listed (and_expr es e) place m
listed-more set_of es e place m h = h
listed-more sequence_of es e place m h = h
listed-more tuple_of no_exprs e place m h = tt
listed-more tuple_of (one_expr f es) e place m h = tt
listed-more (record_of type_name) es e place m h = h
listed-more (new_of c at_c) es e place m h = h
listed-more (applied_to head) es e place m h = h

behind_item-becomes : (listed : Listed) (es : ExprTrees) (e : ExprTree) (place : Place) (stop : Stop) (fs : List Frame) (t : Token) → StopToken stop t → Fits (items listed es place) (context fs) → Binds e far_pull → Becomes fs (took (items listed es place) ++ spelling e) t (behind_item listed es e place stop fs)
behind_item-becomes listed es e place comma fs t k h b =
    to_wants (items listed (and_expr es e) place) (word word_is.Comma) k (exprs-are es e h.0 b, listed-more listed es e place (context fs) h.1) (simp (exprs-took es e, append_assoc) refl)
behind_item-becomes listed es e place stop fs t k h b = behind_first-becomes listed es e place stop fs t k h b

end_range-becomes : (ranged : Ranged) (first e : ExprTree) (place : Place) (stop : Stop) (fs : List Frame) (t : Token) → StopToken stop t → Fits (range_end ranged first place) (context fs) → Binds e far_pull → Becomes fs (took (range_end ranged first place) ++ spelling e) t (end_range ranged first e place stop fs)
end_range-becomes in_set first e place stop fs t k h b =
    at_curly-becomes stop fs _ t _ k (λ q. to_has (set_range first e place) (word word_is.CloseCurly) q all_closed (h.0, b) (simp append_assoc refl))
end_range-becomes (part_of_sequence target) first e place stop fs t k h b =
    at_round-becomes stop fs _ t _ k (λ q. to_has (subsequence target first e place) (word word_is.CloseRound) q all_closed (h.1.0, h.1.1, h.1.2, h.0, b) (simp append_assoc refl))

-- ---- maps

are-some-maplets : (ms : MapletTrees) (k v : ExprTree) → AreSomeMaplets (and_maplet ms k v)
are-some-maplets no_maplets k v = tt
are-some-maplets (one_maplet k' v' ms) k v = tt

behind_maplet-becomes : (ms : MapletTrees) (key e : ExprTree) (place : Place) (stop : Stop) (fs : List Frame) (t : Token) → StopToken stop t → Fits (map_value ms key place) (context fs) → Binds e far_pull → Becomes fs (took (map_value ms key place) ++ spelling e) t (behind_maplet ms key e place stop fs)
behind_maplet-becomes ms key e place comma fs t k h b =
    to_wants (map_key (and_maplet ms key e) place) (word word_is.Comma) k (maplets-are ms key e h.0 (h.1, b)) (simp (maplets-took ms key e, append_assoc) refl)
behind_maplet-becomes ms key e place close_curly fs t k h b =
    to_has (map_enumeration (and_maplet ms key e) place) (word word_is.CloseCurly) k all_closed (are-some-maplets ms key e, maplets-are ms key e h.0 (h.1, b)) (simp (maplets-spelled ms key e, append_assoc) refl)
behind_maplet-becomes no_maplets key e place bar fs t k h b =
    to_wants_pattern (bind_patterns (map_each key e) no_binds no_patterns place) (word word_is.Bar) k ((h.1, b), tt, tt, tt, tt) (simp (append_assoc, append-nil) refl)
behind_maplet-becomes _ key e place _ fs t k h b = to_refused

-- ---- comprehensions

end_condition-becomes : (such : Conditioned) (given : MaybeExpr) (place : Place) (stop : Stop) (fs : List Frame) (t : Token) → StopToken stop t → SuchFits such → IsGiven given → Becomes fs (took_such such place ++ behind_word word_is.Ampersand given) t (end_condition such given place stop fs)
end_condition-becomes (set_such e bs) given place stop fs t k h g =
    at_curly-becomes stop fs _ t _ k (λ q. to_has (set_comprehension e bs given place) (word word_is.CloseCurly) q all_closed (h.0, h.1, h.2, g) (simp append_assoc refl))
end_condition-becomes (map_such key v bs) given place stop fs t k h g =
    at_curly-becomes stop fs _ t _ k (λ q. to_has (map_comprehension key v bs given place) (word word_is.CloseCurly) q all_closed (h.0, h.1, h.2, h.3, g) (simp append_assoc refl))
end_condition-becomes (sequence_such e p set) given place stop fs t k h g =
    at_square-becomes stop fs _ t _ k (λ q. to_has (sequence_comprehension e p set given place) (word word_is.CloseSquare) q all_closed (h.0, h.1, h.2, g) (simp append_assoc refl))

-- what was written may be grouped otherwise
pub regrouped : (fs : List Frame) (v w : List Written) (t : Token) (s : State) → v ≡ w → Becomes fs v t s → Becomes fs w t s
regrouped fs v w t s e r = subst (λ (ws : List Written). Becomes fs ws t s) e r

behind_comprehension-becomes : (such : Conditioned) (for : BindsFor) (bs : BindTrees) (place : Place) (stop : Stop) (fs : List Frame) (t : Token) (ws : List Written) → StopToken stop t → SuchFits such → Fits (bind_patterns for bs no_patterns place) (context fs) → ws ≡ took_such such place → took (bind_patterns for bs no_patterns place) ≡ ws ++ word word_is.Comma ∷ [] → Becomes fs ws t (behind_comprehension such for bs place stop fs)
behind_comprehension-becomes such for bs place comma fs t ws k h f e u = to_wants_pattern (bind_patterns for bs no_patterns place) (word word_is.Comma) k f u
behind_comprehension-becomes such for bs place ampersand fs t ws k h f e u = to_wants (condition such place) (word word_is.Ampersand) k h (ap (λ (vs : List Written). vs ++ word word_is.Ampersand ∷ []) (sym e))
behind_comprehension-becomes such for bs place stop fs t ws k h f e u =
    regrouped fs (took_such such place ++ []) ws t _ (append-nil (took_such such place) ∙ sym e) (end_condition-becomes such left_out place stop fs t k h tt)

are-some-binds : (bs : BindTrees) (b : BindTree) → AreSomeBinds (and_bind bs b)
are-some-binds no_binds b = tt
are-some-binds (one_bind c bs) b = tt

behind_quantified-becomes : (b : Body) (for : BindsFor) (bs : BindTrees) (place : Place) (stop : Stop) (fs : List Frame) (t : Token) (ws : List Written) → StopToken stop t → BodyFits b → Fits (bind_patterns for bs no_patterns place) (context fs) → took_body b place ≡ ws ++ word word_is.Ampersand ∷ [] → took (bind_patterns for bs no_patterns place) ≡ ws ++ word word_is.Comma ∷ [] → Becomes fs ws t (behind_quantified b for bs place stop fs)
behind_quantified-becomes b for bs place comma fs t ws k h f e u = to_wants_pattern (bind_patterns for bs no_patterns place) (word word_is.Comma) k f u
behind_quantified-becomes b for bs place ampersand fs t ws k h f e u = to_wants (body b place) (word word_is.Ampersand) k h e
behind_quantified-becomes b for bs place _ fs t ws k h f e u = to_refused

behind_one-becomes : (b : Body) (place : Place) (stop : Stop) (fs : List Frame) (t : Token) (ws : List Written) → StopToken stop t → BodyFits b → took_body b place ≡ ws ++ word word_is.Ampersand ∷ [] → Becomes fs ws t (behind_one b place stop fs)
behind_one-becomes b place ampersand fs t ws k h e = to_wants (body b place) (word word_is.Ampersand) k h e
behind_one-becomes b place _ fs t ws k h e = to_refused

behind_such-becomes : (b : BindTree) (place : Place) (stop : Stop) (fs : List Frame) (t : Token) (ws : List Written) → StopToken stop t → IsBind b → ws ≡ at_word word_is.Let place ∷ bind_spelling b → Becomes fs ws t (behind_such b place stop fs)
behind_such-becomes b place be_stop fs t ws k h e =
    to_awaits (st_then (let_such b place)) (λ tokens a. (h, before_that fs ws (took (let_such b place)) (word word_is.Be) word_is.St t tokens (ap (λ (vs : List Written). vs ++ word word_is.Be ∷ word word_is.St ∷ []) (sym e)) k a))
behind_such-becomes b place in_stop fs t ws k h e =
    to_wants (body (such_body b left_out) place) (word word_is.In) k (h, tt) (ap (λ (vs : List Written). vs ++ word word_is.In ∷ []) (sym e))
behind_such-becomes b place _ fs t ws k h e = to_refused

-- the patterns of a bind and its set
bind-spelled : (for : BindsFor) (bs : BindTrees) (ps : PatternTrees) (e : ExprTree) (place : Place) → took (bind_set for bs ps place) ++ spelling e ≡ took_for for place ++ (took_binds bs ++ bind_spelling (bind_in ps e))
bind-spelled for bs ps e place = simp append_assoc refl

-- `iota` has one pattern
abbrev IsOnlyIn : BindsFor → BindTree → Type 0
IsOnlyIn the_one b = HasOnePattern b
IsOnlyIn _ b = Unit {0}

only-one : (for : BindsFor) (ps : PatternTrees) (e : ExprTree) → IsOnly for ps → IsOnlyIn for (bind_in ps e)
only-one the_one ps e h = h
only-one _ ps e h = tt

behind_set-becomes : (for : BindsFor) (bs : BindTrees) (b : BindTree) (place : Place) (stop : Stop) (fs : List Frame) (t : Token) → StopToken stop t → ForFits for → IsAlone for bs → AreBinds bs → IsBind b → IsOnlyIn for b → Becomes fs (took_for for place ++ (took_binds bs ++ bind_spelling b)) t (behind_set for bs b place stop fs)
behind_set-becomes (set_each e) bs b place stop fs t k h a g i o =
    behind_comprehension-becomes (set_such e (and_bind bs b)) (set_each e) (and_bind bs b) place stop fs t _ k (h, are-some-binds bs b, binds-are bs b g i) (h, tt, binds-are bs b g i, tt, tt)
    (simp (binds-spelled bs b, append_assoc, append-nil) refl) (simp (binds-took bs b, append_assoc, append-nil) refl)
behind_set-becomes (map_each key v) bs b place stop fs t k h a g i o =
    behind_comprehension-becomes (map_such key v (and_bind bs b)) (map_each key v) (and_bind bs b) place stop fs t _ k (h.0, h.1, are-some-binds bs b, binds-are bs b g i) (h, tt, binds-are bs b g i, tt, tt)
    (simp (binds-spelled bs b, append_assoc, append-nil) refl) (simp (binds-took bs b, append_assoc, append-nil) refl)
behind_set-becomes all_of bs b place stop fs t k h a g i o =
    behind_quantified-becomes (all_body (and_bind bs b)) all_of (and_bind bs b) place stop fs t _ k (are-some-binds bs b, binds-are bs b g i) (tt, tt, binds-are bs b g i, tt, tt)
    (simp (binds-spelled bs b, append_assoc, append-nil) refl) (simp (binds-took bs b, append_assoc, append-nil) refl)
behind_set-becomes some_of bs b place stop fs t k h a g i o =
    behind_quantified-becomes (some_body (and_bind bs b)) some_of (and_bind bs b) place stop fs t _ k (are-some-binds bs b, binds-are bs b g i) (tt, tt, binds-are bs b g i, tt, tt)
    (simp (binds-spelled bs b, append_assoc, append-nil) refl) (simp (binds-took bs b, append_assoc, append-nil) refl)
behind_set-becomes one_of bs b place stop fs t k h a g i o = behind_one-becomes (one_body b) place stop fs t _ k i (rw a refl)
behind_set-becomes the_one bs b place stop fs t k h a g i o = behind_one-becomes (the_body b) place stop fs t _ k (i, o) (rw a refl)
behind_set-becomes such_one bs b place stop fs t k h a g i o = behind_such-becomes b place stop fs t _ k i (rw a refl)

behind_sequence_set-becomes : (item : ExprTree) (p : PatternTree) (e : ExprTree) (place : Place) (stop : Stop) (fs : List Frame) (t : Token) → StopToken stop t → Fits (sequence_set item p place) (context fs) → Binds e far_pull → Becomes fs (took (sequence_set item p place) ++ spelling e) t (behind_sequence_set item p e place stop fs)
behind_sequence_set-becomes item p e place ampersand fs t k h b = to_wants (condition (sequence_such item p e) place) (word word_is.Ampersand) k (h.0, h.1, b) (simp append_assoc refl)
behind_sequence_set-becomes item p e place stop fs t k h b =
    regrouped fs (took_such (sequence_such item p e) place ++ []) _ t _ (simp (append_assoc, append-nil) refl) (end_condition-becomes (sequence_such item p e) left_out place stop fs t k (h.0, h.1, b) tt)

-- ---- fields, definitions, choices and cases

are-some-fields : (fields : FieldValueTrees) (n : Name) (p : Place) (e : ExprTree) → AreSomeFields (and_field_value fields n p e)
are-some-fields no_field_values n p e = tt
are-some-fields (one_field_value n' p' e' fields) n p e = tt

behind_field-becomes : (target : ExprTree) (fields : FieldValueTrees) (n : Name) (p : Place) (e : ExprTree) (place : Place) (stop : Stop) (fs : List Frame) (t : Token) → StopToken stop t → Fits (field_value target fields n p place) (context fs) → Binds e far_pull → Becomes fs (took (field_value target fields n p place) ++ spelling e) t (behind_field target (and_field_value fields n p e) place stop fs)
behind_field-becomes target fields n p e place comma fs t k h b =
    to_awaits (field_name target (and_field_value fields n p e) place) (λ tokens a. (h.0, field_values-are fields n p e h.1 b, one_further (stack_took fs) _ _ (word word_is.Comma) t tokens (simp (field_values-took fields n p e, append_assoc) refl) k a))
behind_field-becomes target fields n p e place close_round fs t k h b =
    to_has (modify_record target (and_field_value fields n p e) place) (word word_is.CloseRound) k all_closed (h.0, are-some-fields fields n p e, field_values-are fields n p e h.1 b) (simp (field_values-spelled fields n p e, append_assoc) refl)
behind_field-becomes target fields n p e place _ fs t k h b = to_refused

are-some-definitions : (ds : DefinedTrees) (p : PatternTree) (d : Option TypeTree) (e : ExprTree) → AreSomeDefinitions (and_defined ds p d e)
are-some-definitions no_defined p d e = tt
are-some-definitions (one_defined p' d' e' ds) p d e = tt

behind_definition-becomes : (ds : DefinedTrees) (p : PatternTree) (d : Option TypeTree) (e : ExprTree) (place : Place) (stop : Stop) (fs : List Frame) (t : Token) → StopToken stop t → Fits (let_value ds p d place) (context fs) → Binds e far_pull → Becomes fs (took (let_value ds p d place) ++ spelling e) t (behind_definition (and_defined ds p d e) place stop fs)
behind_definition-becomes ds p d e place comma fs t k h b =
    to_wants_pattern (let_next (and_defined ds p d e) place) (word word_is.Comma) k (defined-are ds p d e h.0 (h.1, h.2, b)) (simp (defined-took ds p d e, append_assoc) refl)
behind_definition-becomes ds p d e place in_stop fs t k h b =
    to_wants (body (let_body (and_defined ds p d e)) place) (word word_is.In) k (are-some-definitions ds p d e, defined-are ds p d e h.0 (h.1, h.2, b)) (simp (defined-spelled ds p d e, append_assoc) refl)
behind_definition-becomes ds p d e place _ fs t k h b = to_refused

behind_branch-becomes : (c v : ExprTree) (bs : BranchTrees) (place : Place) (stop : Stop) (fs : List Frame) (t : Token) (ws : List Written) → StopToken stop t → Binds c far_pull → Binds v far_pull → AreBranches bs → ws ≡ at_word word_is.If place ∷ (spelling c ++ (word word_is.Then ∷ (spelling v ++ branches_spelling bs))) → Becomes fs ws t (behind_branch c v bs place stop fs)
behind_branch-becomes c v bs place elseif_stop fs t ws k h i g e = to_wants (elseif_test c v bs place) (word word_is.Elseif) k (h, i, g) (rw e (simp append_assoc refl))
behind_branch-becomes c v bs place else_stop fs t ws k h i g e = to_wants (body (else_body c v bs) place) (word word_is.Else) k (h, i, g) (rw e (simp append_assoc refl))
behind_branch-becomes c v bs place _ fs t ws k h i g e = to_refused

are-some-cases : (cs : CaseTrees) (ps : PatternTrees) (v : ExprTree) → AreSomeCases (and_case cs ps v)
are-some-cases no_cases ps v = tt
are-some-cases (one_case ps' v' cs) ps v = tt

behind_case-becomes : (e : ExprTree) (cs : CaseTrees) (ps : PatternTrees) (v : ExprTree) (place : Place) (stop : Stop) (fs : List Frame) (t : Token) → StopToken stop t → Fits (case_value e cs ps place) (context fs) → Binds v far_pull → Becomes fs (took (case_value e cs ps place) ++ spelling v) t (behind_case e (and_case cs ps v) place stop fs)
behind_case-becomes e cs ps v place comma fs t k h b =
    to_wants_pattern (case_patterns e (and_case cs ps v) no_patterns place) (word word_is.Comma) k (h.0, cases-are cs ps v h.1 (h.2, h.3, b), tt) (simp (cases-took cs ps v, append_assoc, append-nil) refl)
behind_case-becomes e cs ps v place end_stop fs t k h b =
    to_has (cases_of e (and_case cs ps v) left_out place) (word word_is.End) k all_closed (h.0, are-some-cases cs ps v, cases-are cs ps v h.1 (h.2, h.3, b), tt) (simp (cases-spelled cs ps v, append_assoc) refl)
behind_case-becomes e cs ps v place _ fs t k h b = to_refused

-- the `,` behind a last case
cases-comma : (cs : CaseTrees) → AreSomeCases cs → took_cases cs ≡ cases_spelling cs ++ word word_is.Comma ∷ []
cases-comma no_cases h = absurd h
cases-comma (one_case ps v no_cases) h = simp (append_assoc, append-nil) refl
cases-comma (one_case ps v (one_case qs w cs)) h = simp (cases-comma (one_case qs w cs) tt, append_assoc) refl

compare-spelled : (compared : Compared) (left e : ExprTree) (place : Place) → spelling (compare compared left e place) ≡ (took (right_class compared left place) ++ spelling e) ++ word word_is.CloseRound ∷ []
compare-spelled classes left e place = simp append_assoc refl
compare-spelled base_classes left e place = simp append_assoc refl

compare-closed : (compared : Compared) (left e : ExprTree) (place : Place) → closed ≤ reach (compare compared left e place)
compare-closed classes left e place = all_closed
compare-closed base_classes left e place = all_closed

compare-binds : (compared : Compared) (left e : ExprTree) (place : Place) (m : ℕ) → Binds left far_pull → Binds e far_pull → Binds (compare compared left e place) m
compare-binds classes left e place m h b = (h, b)
compare-binds base_classes left e place m h b = (h, b)

-- ---- each frame

pub taken-becomes : (f : Frame) (e : ExprTree) (stop : Stop) (fs : List Frame) (t : Token) → StopToken stop t → Fits f (context fs) → Binds e (context (f ∷ fs)) → Becomes fs (took f ++ spelling e) t (taken f e stop fs)
taken-becomes (enclosed for place) e stop fs t k h b =
    at_round-becomes stop fs _ t _ k (λ q. to_has (enclose for e place) (word word_is.CloseRound) q (enclose-closed for e place) (enclose-binds for e place (context fs) h b) (enclose-spelled for e place))
taken-becomes (matched place) e stop fs t k h b = at_round-becomes stop fs _ t _ k (λ q. to_has_pattern (equal_to e place) (word word_is.CloseRound) q tt b refl)
taken-becomes (items listed es place) e stop fs t k h b = behind_item-becomes listed es e place stop fs t k h b
taken-becomes (tuple_start place) e stop fs t k h b = at_comma-becomes stop fs _ t _ k (λ q. to_wants (items tuple_of (one_expr e no_exprs) place) (word word_is.Comma) q ((b, tt), tt) refl)
taken-becomes (range_end ranged first place) e stop fs t k h b = end_range-becomes ranged first e place stop fs t k h b
taken-becomes (map_key ms place) e stop fs t k h b = at_maps_to-becomes stop fs _ t _ k (λ q. to_wants (map_value ms e place) (word word_is.MapsTo) q (h, b) (simp append_assoc refl))
taken-becomes (map_value ms key place) e stop fs t k h b = behind_maplet-becomes ms key e place stop fs t k h b
taken-becomes (condition such place) e stop fs t k h b =
    regrouped fs (took_such such place ++ behind_word word_is.Ampersand (given_expr e)) _ t _ (simp append_assoc refl) (end_condition-becomes such (given_expr e) place stop fs t k h b)
taken-becomes (bind_set for bs ps place) e stop fs t k h b =
    regrouped fs (took_for for place ++ (took_binds bs ++ bind_spelling (bind_in ps e))) _ t _ (sym (bind-spelled for bs ps e place)) (behind_set-becomes for bs (bind_in ps e) place stop fs t k h.0 h.1 h.2 (h.3, h.4, b) (only-one for ps e h.5))
taken-becomes (sequence_set item p place) e stop fs t k h b = behind_sequence_set-becomes item p e place stop fs t k h b
taken-becomes (left_class compared place) e stop fs t k h b = at_comma-becomes stop fs _ t _ k (λ q. to_wants (right_class compared e place) (word word_is.Comma) q b refl)
taken-becomes (right_class compared left place) e stop fs t k h b =
    at_round-becomes stop fs _ t _ k (λ q. to_has (compare compared left e place) (word word_is.CloseRound) q (compare-closed compared left e place) (compare-binds compared left e place (context fs) h b) (compare-spelled compared left e place))
taken-becomes (tested place) e stop fs t k h b = at_comma-becomes stop fs _ t _ k (λ q. to_typing (test_type e place) (word word_is.Comma) q b refl)
taken-becomes (modified place) e stop fs t k h b =
    at_comma-becomes stop fs _ t _ k (λ q. to_awaits (field_name e no_field_values place) (λ tokens a. (b, tt, one_further (stack_took fs) _ _ (word word_is.Comma) t tokens refl q a)))
taken-becomes (field_value target fields n p place) e stop fs t k h b = behind_field-becomes target fields n p e place stop fs t k h b
taken-becomes (let_value ds p d place) e stop fs t k h b = behind_definition-becomes ds p d e place stop fs t k h b
taken-becomes (let_such bind place) e stop fs t k h b = at_in-becomes stop fs _ t _ k (λ q. to_wants (body (such_body bind (given_expr e)) place) (word word_is.In) q (h, b) (simp append_assoc refl))
taken-becomes (def_value p place) e stop fs t k h b = at_in-becomes stop fs _ t _ k (λ q. to_wants (body (def_body p e) place) (word word_is.In) q (h, b) (simp append_assoc refl))
taken-becomes (if_test place) e stop fs t k h b = at_then-becomes stop fs _ t _ k (λ q. to_wants (if_then e place) (word word_is.Then) q b refl)
taken-becomes (if_then c place) e stop fs t k h b = behind_branch-becomes c e no_branches place stop fs t _ k h b tt (simp (append_assoc, append-nil) refl)
taken-becomes (elseif_test c v bs place) e stop fs t k h b = at_then-becomes stop fs _ t _ k (λ q. to_wants (elseif_then c v bs e place) (word word_is.Then) q (h.0, h.1, h.2, b) (simp append_assoc refl))
taken-becomes (elseif_then c v bs next place) e stop fs t k h b =
    behind_branch-becomes c v (and_branch bs next e) place stop fs t _ k h.0 h.1 (branches-are bs next e h.2 (h.3, b)) (simp (branches-spelled bs next e, append_assoc, append-nil) refl)
taken-becomes (subject place) e stop fs t k h b = at_colon-becomes stop fs _ t _ k (λ q. to_wants_pattern (case_patterns e no_cases no_patterns place) (word word_is.Colon) q (b, tt, tt) refl)
taken-becomes (case_value e cs ps place) v stop fs t k h b = behind_case-becomes e cs ps v place stop fs t k h b
taken-becomes (others_value e cs place) v stop fs t k h b = at_end-becomes stop fs _ t _ k (λ q. to_has (cases_of e cs (given_expr v) place) (word word_is.End) q all_closed (h.0, h.1, h.2, b) (simp (cases-comma cs h.1, append_assoc) refl))
taken-becomes _ e stop fs t k h b = to_refused
