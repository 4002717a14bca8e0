-- One step of a search passes over no binding.
use Rattle.std.proofs.Common.{◌≡◌, ℕ, ◌+◌, ◌≤◌, Bool, true, false, List, [], ◌∷◌, ◌++◌, map, length, take, drop, refl, ap, sym, ◌∙◌, subst, arith, append_assoc, Option, Some, None, IsTrue, ◌↔◌, true≢false, length-append, append-nil, if◌then◌else◌}
use Rattle.std.specs.List.{filter_map}
use Rattle.std.proofs.lemmas.List.Elements.{filter_map-append}
use Rattle.vdm_kinds.specs.declared.name.Name.{Name}
use Rattle.vdm_kinds.specs.declared.name_at.TypeName.{TypeName}
use Rattle.abstract_syntax.specs.Values.{ValueTree}
use Rattle.pattern_meaning.specs.RecordTypes.{RecordType}
use Rattle.pattern_meaning.specs.Ways.{Way, is_next, where_true}
use Rattle.pattern_meaning.specs.Bindings.{Binding, first_of, with_way, with_pair, put, value_in}
use Rattle.abstract_syntax.specs.Expressions.{PatternTrees, no_patterns}
use Rattle.patterns.specs.Todos.{TodoTree, to_split, all_ways, next_ways}
use Rattle.patterns.specs.declared.todo.Next.{Next}
use Rattle.patterns.specs.declared.search.Turn.{Turn}
use Rattle.patterns.specs.declared.search.Turn.TheVariants.{Found, Nothing, On}
use Rattle.patterns.proofs.Turns.{split_none, split_more}
use Rattle.patterns.specs.Search.{Choice, to_come, binding_of, choices_of, found_with, found_else, IsNested, Waits, Begins, outcome, ends_with, left, found, after, where_it_goes, Goes, GoesBack, Ends}
use Rattle.patterns.specs.declared.search.Search.{Search}
use Rattle.patterns.proofs.Picked.{take_all, take_front, length-take_le}
use Rattle.patterns.proofs.Crossed.{found_behind, nothing_behind}
use Rattle.patterns.proofs.Opening.{is_same-yes, is_same-no}

nested_alike : (b c : Binding) (cs ds : List Choice) → c ≡ b → ds ≡ cs → IsNested (length b) cs → IsNested (length c) ds
nested_alike b c cs ds e f h =
    subst (λ es. IsNested (length c) es) (sym f) (subst (λ x. IsNested (length x) cs) (sym e) h)

nested_more : (b : Binding) (p : Name × ValueTree) (cs : List Choice) → IsNested (length b) cs → IsNested (length (b ++ p ∷ [])) cs
unfolding IsNested
nested_more b p [] h = tt
nested_more b p (c ∷ cs) h = (let e : length (b ++ p ∷ []) ≡ length b + 1 = length-append b (p ∷ []) in let l : c.kept ≤ length b = h.0 in omega arith, h.1)

module _ (types : TypeName → Option RecordType) where
  else_more : (b : Binding) (p : Name × ValueTree) (cs : List Choice) → IsNested (length b) cs →
      found_else types (b ++ p ∷ []) cs ≡ found_else types b cs
  unfolding IsNested found_else
  else_more b p [] h = refl
  else_more b p (c ∷ cs) h =
      ap (λ x. found_with types x c.given c.todos ++ found_else types x cs) (take_front c.kept b (p ∷ []) h.0)

  pub goes_on : (old new : Search) (ws : List Way) → binding_of new.names ≡ binding_of old.names → choices_of new ≡ choices_of old →
      IsNested (length (binding_of old.names)) (choices_of old) → all_ways types new.given.now (to_come new.work) ≡ ws →
      Goes types ws true old new
  unfolding found left found_with
  goes_on old new ws b c n w = record {
    same = λ i. filter_map (with_way (b i)) (w i) ++ found_else types (b i) (c i);
    nested = nested_alike _ _ _ _ b c n;
  }

  pub goes_back : (old new : Search) (ws : List Way) → binding_of new.names ≡ binding_of old.names → choices_of new ≡ choices_of old →
      IsNested (length (binding_of old.names)) (choices_of old) → ws ≡ [] → Goes types ws false old new
  unfolding left
  goes_back old new ws b c n w = record {
    same = (λ i. found_else types (b i) (c i)) ∙ (λ i. filter_map (with_way (binding_of old.names)) (sym w i) ++ found_else types (binding_of old.names) (choices_of old));
    nested = nested_alike _ _ _ _ b c n;
  }

  pub goes_both : (todo : TodoTree) (old mid new : Search) (ws first : List Way) → Waits todo old mid →
      binding_of new.names ≡ binding_of mid.names → choices_of new ≡ choices_of mid → new.given.now ≡ mid.given.now →
      IsNested (length (binding_of old.names)) (choices_of old) → all_ways types old.given.now (to_come new.work) ≡ first →
      ws ≡ first ++ all_ways types old.given.now (todo ∷ to_come old.work) → Goes types ws true old new
  unfolding found left found_with found_else IsNested
  goes_both todo old mid new ws first wait b c g n one all =
      let b0 : Binding = binding_of old.names in
      let second : List Way = all_ways types old.given.now (todo ∷ to_come old.work) in
      let binding : binding_of new.names ≡ b0 = b ∙ wait.binding in
      let others : choices_of new ≡ record { todos = todo ∷ to_come old.work; given = old.given.now; kept = length b0 } ∷ choices_of old = c ∙ wait.others in
      let given : new.given.now ≡ old.given.now = g ∙ wait.given in
      record {
        same =
            (λ i. filter_map (with_way (binding i)) (all_ways types (given i) (to_come new.work)) ++ found_else types (binding i) (others i)) ∙
            (λ i. filter_map (with_way b0) (one i) ++ (filter_map (with_way (take_all b0 i)) second ++ found_else types (take_all b0 i) (choices_of old))) ∙
            sym (append_assoc (filter_map (with_way b0) first) (filter_map (with_way b0) second) (found_else types b0 (choices_of old))) ∙
            ap (λ xs. xs ++ found_else types b0 (choices_of old)) (sym (filter_map-append (with_way b0) first second)) ∙
            ap (λ xs. filter_map (with_way b0) xs ++ found_else types b0 (choices_of old)) (sym all);
        nested = nested_alike b0 (binding_of new.names) (record { todos = todo ∷ to_come old.work; given = old.given.now; kept = length b0 } ∷ choices_of old)
            (choices_of new) binding others (omega arith, n);
      }

  pub waits_nested : (todo : TodoTree) (old mid : Search) → Waits todo old mid → IsNested (length (binding_of old.names)) (choices_of old) →
      IsNested (length (binding_of mid.names)) (choices_of mid)
  unfolding IsNested
  waits_nested todo old mid wait n =
      nested_alike (binding_of old.names) (binding_of mid.names)
      (record { todos = todo ∷ to_come old.work; given = old.given.now; kept = length (binding_of old.names) } ∷ choices_of old) (choices_of mid)
      wait.binding wait.others (omega arith, n)

  -- what goes on while another choice waits
  pub goes_waits : (todo : TodoTree) (old mid new : Search) (ws first : List Way) → Waits todo old mid → Goes types first true mid new →
      ws ≡ first ++ all_ways types old.given.now (todo ∷ to_come old.work) → Goes types ws true old new
  unfolding left found_with found_else
  goes_waits todo old mid new ws first wait goes all =
      let b0 : Binding = binding_of old.names in
      let second : List Way = all_ways types old.given.now (todo ∷ to_come old.work) in
      record {
        same =
            goes.same ∙
            (λ i. filter_map (with_way (wait.binding i)) first ++ found_else types (wait.binding i) (wait.others i)) ∙
            (λ i. filter_map (with_way b0) first ++ (filter_map (with_way (take_all b0 i)) second ++ found_else types (take_all b0 i) (choices_of old))) ∙
            sym (append_assoc (filter_map (with_way b0) first) (filter_map (with_way b0) second) (found_else types b0 (choices_of old))) ∙
            ap (λ xs. xs ++ found_else types b0 (choices_of old)) (sym (filter_map-append (with_way b0) first second)) ∙
            ap (λ xs. filter_map (with_way b0) xs ++ found_else types b0 (choices_of old)) (sym all);
        nested = goes.nested;
      }

  -- the same by other ways that are equal
  pub goes_equal : (ws us : List Way) (on : Bool) (old new : Search) → ws ≡ us → Goes types us on old new → Goes types ws on old new
  goes_equal ws us on old new e h = subst (λ xs. Goes types xs on old new) (sym e) h

  pub goes_waits_two : (todo x y : TodoTree) (old mid new : Search) (ws : List Way) → Waits todo old mid →
      Goes types (all_ways types mid.given.now (x ∷ y ∷ to_come mid.work)) true mid new →
      ws ≡ all_ways types old.given.now (x ∷ y ∷ to_come old.work) ++ all_ways types old.given.now (todo ∷ to_come old.work) →
      Goes types ws true old new
  goes_waits_two todo x y old mid new ws wait goes all =
      goes_waits todo old mid new ws (all_ways types old.given.now (x ∷ y ∷ to_come old.work)) wait
      (goes_equal (all_ways types old.given.now (x ∷ y ∷ to_come old.work)) (all_ways types mid.given.now (x ∷ y ∷ to_come mid.work)) true mid new
      (λ i. all_ways types (sym wait.given i) (x ∷ y ∷ sym wait.work i)) goes) all

  pub goes_so : (ws : List Way) (on : Bool) (old new : Search) → (on ≡ true) × Goes types ws true old new → Goes types ws on old new
  goes_so ws on old new h = subst (λ b. Goes types ws b old new) (sym h.0) h.1

  pub goes_bound : (old new : Search) (p : Name × ValueTree) → binding_of new.names ≡ binding_of old.names ++ p ∷ [] →
      choices_of new ≡ choices_of old → new.given.now ≡ old.given.now → to_come new.work ≡ to_come old.work →
      IsNested (length (binding_of old.names)) (choices_of old) → None ≡ value_in (binding_of old.names) p.0 →
      Goes types (map (λ way. p ∷ way) (all_ways types old.given.now (to_come old.work))) true old new
  unfolding found left found_with
  goes_bound old new p b c g t n absent =
      let b0 : Binding = binding_of old.names in
      let ws : List Way = all_ways types old.given.now (to_come old.work) in
      let step : with_pair b0 p ≡ Some (b0 ++ p ∷ []) = ap (put b0 p) (sym absent) in
      record {
        same =
            (λ i. filter_map (with_way (b i)) (all_ways types (g i) (t i)) ++ found_else types (b i) (c i)) ∙
            (λ i. sym (found_behind b0 (b0 ++ p ∷ []) p ws step) i ++ else_more b0 p (choices_of old) n i);
        nested = nested_alike (b0 ++ p ∷ []) (binding_of new.names) (choices_of old) (choices_of new) b c (nested_more b0 p (choices_of old) n);
      }

  -- a name that is bound: whether it stands for the same value decides
  pub goes_by_test : (r : Bool) (old : Search) (p : Name × ValueTree) (v : ValueTree) → IsNested (length (binding_of old.names)) (choices_of old) →
      Some v ≡ value_in (binding_of old.names) p.0 → (IsTrue r ↔ v ≡ p.1) →
      Goes types (map (λ way. p ∷ way) (all_ways types old.given.now (to_come old.work))) r old old
  unfolding found left found_with
  goes_by_test true old p v n there h =
      let b0 : Binding = binding_of old.names in
      let ws : List Way = all_ways types old.given.now (to_come old.work) in
      let step : with_pair b0 p ≡ Some b0 = ap (put b0 p) (sym there) ∙ ap (λ t. if t then Some b0 else None) (is_same-yes v p.1 (h.0 refl)) in
      record {
        same = ap (λ xs. xs ++ found_else types b0 (choices_of old)) (sym (found_behind b0 b0 p ws step));
        nested = n;
      }
  goes_by_test false old p v n there h =
      let b0 : Binding = binding_of old.names in
      let ws : List Way = all_ways types old.given.now (to_come old.work) in
      let step : with_pair b0 p ≡ None =
      ap (put b0 p) (sym there) ∙ ap (λ t. if t then Some b0 else None) (is_same-no v p.1 (λ e. true≢false (sym (h.1 e)))) in
      record {
        same = ap (λ xs. xs ++ found_else types b0 (choices_of old)) (sym (nothing_behind b0 p ws step));
        nested = n;
      }

  -- a value that is given is taken, and whether it is the one that is matched decides
  pub goes_by_value : (r : Bool) (old new : Search) (v g : ValueTree) (gs : List ValueTree) → binding_of new.names ≡ binding_of old.names →
      choices_of new ≡ choices_of old → to_come new.work ≡ to_come old.work → new.given.now ≡ gs → old.given.now ≡ g ∷ gs →
      IsNested (length (binding_of old.names)) (choices_of old) → (IsTrue r ↔ v ≡ g) →
      Goes types (where_true (is_next old.given.now v) (all_ways types (drop 1 old.given.now) (to_come old.work))) r old new
  goes_by_value true old new v g gs b c t rest all n h =
      goes_on old new _ b c n
      ((λ i. all_ways types (rest i) (t i)) ∙
      sym (ap (λ u. where_true u (all_ways types gs (to_come old.work))) (is_same-yes v g (h.0 refl))) ∙
      ap (λ xs. where_true (is_next xs v) (all_ways types (drop 1 xs) (to_come old.work))) (sym all))
  goes_by_value false old new v g gs b c t rest all n h =
      goes_back old new _ b c n
      (ap (λ xs. where_true (is_next xs v) (all_ways types (drop 1 xs) (to_come old.work))) all ∙
      ap (λ u. where_true u (all_ways types gs (to_come old.work))) (is_same-no v g (λ e. true≢false (sym (h.1 e)))))

  pub goes_nowhere : (old : Search) (v : ValueTree) → old.given.now ≡ [] → IsNested (length (binding_of old.names)) (choices_of old) →
      Goes types (where_true (is_next old.given.now v) (all_ways types (drop 1 old.given.now) (to_come old.work))) false old old
  goes_nowhere old v e n =
      goes_back old old _ refl refl n (ap (λ xs. where_true (is_next xs v) (all_ways types (drop 1 xs) (to_come old.work))) e)

  pub back_to : (old new : Search) (c : Choice) → choices_of old ≡ c ∷ choices_of new → binding_of new.names ≡ take c.kept (binding_of old.names) →
      new.given.now ≡ c.given → to_come new.work ≡ c.todos → IsNested (length (binding_of old.names)) (choices_of old) →
      GoesBack types true old new
  unfolding found left found_with found_else IsNested
  back_to old new c all b g t n =
      let b0 : Binding = binding_of old.names in
      let m : (c.kept ≤ length b0) × IsNested c.kept (choices_of new) = subst (λ cs. IsNested (length b0) cs) all n in
      let kept : length (binding_of new.names) ≡ c.kept = ap length b ∙ length-take_le c.kept b0 m.0 in
      record {
        same =
            (λ i. filter_map (with_way (b i)) (all_ways types (g i) (t i)) ++ found_else types (b i) (choices_of new)) ∙
            ap (found_else types b0) (sym all);
        nested = subst (λ k. IsNested k (choices_of new)) (sym kept) m.1;
      }

  -- the same of what comes next under another name
  pub goes_as : (t u : TodoTree) (on : Bool) (old new : Search) → t ≡ u → Goes types (all_ways types old.given.now (u ∷ to_come old.work)) on old new →
      Goes types (all_ways types old.given.now (t ∷ to_come old.work)) on old new
  goes_as t u on old new e h = subst (λ x. Goes types (all_ways types old.given.now (x ∷ to_come old.work)) on old new) (sym e) h

  pub goes_next : (m n : Next) (on : Bool) (old new : Search) → m ≡ n → Goes types (next_ways types n old.given.now (to_come old.work)) on old new →
      Goes types (next_ways types m old.given.now (to_come old.work)) on old new
  goes_next m n on old new e h = subst (λ x. Goes types (next_ways types x old.given.now (to_come old.work)) on old new) (sym e) h

  -- patterns that leave nothing at the end, or something
  pub goes_split_end : (r : Bool) (old : Search) (qs : PatternTrees) (vs : List ValueTree) (n : ℕ) → qs ≡ no_patterns → (IsTrue r ↔ vs ≡ []) →
      IsNested (length (binding_of old.names)) (choices_of old) →
      Goes types (all_ways types old.given.now (to_split qs vs n ∷ to_come old.work)) r old old
  goes_split_end true old qs vs n e h m = goes_on old old _ refl refl m (split_none types qs vs old.given.now n (to_come old.work) e (h.0 refl))
  goes_split_end false old qs vs n e h m =
      goes_back old old _ refl refl m (split_more types qs vs old.given.now n (to_come old.work) e (λ f. true≢false (sym (h.1 f))))

  -- ---- a whole turn

  pub ends_found : (old new : Search) → to_come old.work ≡ [] → binding_of new.names ≡ binding_of old.names → choices_of new ≡ choices_of old →
      IsNested (length (binding_of old.names)) (choices_of old) → Ends types (found types old) Found new
  unfolding found left found_with all_ways
  ends_found old new e b c n = record {
    same =
        (λ i. b i ∷ found_else types (b i) (c i)) ∙
        ap (λ ts. filter_map (with_way (binding_of old.names)) (all_ways types old.given.now ts) ++ found_else types (binding_of old.names) (choices_of old)) (sym e);
    nested = nested_alike _ _ _ _ b c n;
  }

  pub ends_later : (old mid new last : Search) (todo : TodoTree) (on : Bool) (turn : Turn) → to_come old.work ≡ todo ∷ to_come mid.work →
      mid.given.now ≡ old.given.now → binding_of mid.names ≡ binding_of old.names → choices_of mid ≡ choices_of old →
      Goes types (all_ways types mid.given.now (todo ∷ to_come mid.work)) on mid new → Ends types (after types on new) turn last →
      Ends types (found types old) turn last
  unfolding found left found_with
  ends_later old mid new last todo on turn e g b c goes ends = record {
    same =
        ends.same ∙ goes.same ∙
        (λ i. filter_map (with_way (b i)) (all_ways types (g i) (sym e i)) ++ found_else types (b i) (c i));
    nested = ends.nested;
  }

  pub ends_on : (on : Bool) (s : Search) → on ≡ true → IsNested (length (binding_of s.names)) (choices_of s) → Ends types (after types on s) On s
  ends_on on s e n = record { same = ap (λ b. after types b s) (sym e); nested = n }

  pub ends_back : (on r : Bool) (old new : Search) → on ≡ false → r ≡ true → GoesBack types r old new → Ends types (after types on old) On new
  ends_back on r old new e f h = record {
    same = ap (λ b. where_it_goes types b new) (sym f) ∙ h.same ∙ ap (λ b. after types b old) (sym e);
    nested = h.nested;
  }

  pub ends_nowhere : (on r : Bool) (old new : Search) → on ≡ false → r ≡ false → GoesBack types r old new → Ends types (after types on old) Nothing new
  ends_nowhere on r old new e f h = record {
    same = ap (λ b. where_it_goes types b new) (sym f) ∙ h.same ∙ ap (λ b. after types b old) (sym e);
    nested = h.nested;
  }

  pub back_nowhere : (old new : Search) → choices_of old ≡ [] → binding_of new.names ≡ binding_of old.names → choices_of new ≡ choices_of old →
      IsNested (length (binding_of old.names)) (choices_of old) → GoesBack types false old new
  unfolding left found_else
  back_nowhere old new e b c n = record {
    same = ap (found_else types (binding_of old.names)) (sym e);
    nested = nested_alike _ _ _ _ b c n;
  }

-- two that come next
pub put_two : (a b c : List TodoTree) (x y : TodoTree) → c ≡ x ∷ b → b ≡ y ∷ a → c ≡ x ∷ y ∷ a
put_two a b c x y e f = e ∙ ap (λ rest. x ∷ rest) f

pub put_three : (a b c d : List TodoTree) (x y z : TodoTree) → d ≡ x ∷ c → c ≡ y ∷ b → b ≡ z ∷ a → d ≡ x ∷ y ∷ z ∷ a
put_three a b c d x y z e f g = e ∙ ap (λ rest. x ∷ rest) f ∙ ap (λ rest. x ∷ y ∷ rest) g

-- and what waits behind them
pub put_behind : (a b c d : List TodoTree) (x y : TodoTree) → d ≡ x ∷ c → c ≡ y ∷ b → b ≡ a → d ≡ x ∷ y ∷ a
put_behind a b c d x y e f g = e ∙ ap (λ rest. x ∷ rest) f ∙ ap (λ rest. x ∷ y ∷ rest) g

pub put_three_behind : (a b c d e : List TodoTree) (x y z : TodoTree) → e ≡ x ∷ d → d ≡ y ∷ c → c ≡ z ∷ b → b ≡ a → e ≡ x ∷ y ∷ z ∷ a
put_three_behind a b c d e x y z p q r s = p ∙ ap (λ rest. x ∷ rest) q ∙ ap (λ rest. x ∷ y ∷ rest) r ∙ ap (λ rest. x ∷ y ∷ z ∷ rest) s

module _ (types : TypeName → Option RecordType) where
  -- a search that begins may find all bindings
  pub begins_with_all : (todos : List TodoTree) (given : List ValueTree) (s : Search) → Begins todos given s →
      found types s ≡ filter_map (with_way []) (all_ways types given todos)
  unfolding found left found_with found_else
  begins_with_all todos given s h =
      (λ i. filter_map (with_way (h.names i)) (all_ways types (h.values i) (h.work i)) ++ found_else types (h.names i) (h.others i)) ∙
      append-nil (filter_map (with_way []) (all_ways types given todos))

  pub begins_nested : (todos : List TodoTree) (given : List ValueTree) (s : Search) → Begins todos given s →
      IsNested (length (binding_of s.names)) (choices_of s)
  unfolding IsNested
  begins_nested todos given s h = subst (λ cs. IsNested (length (binding_of s.names)) cs) (sym h.others) tt

  pub run_found : (all : List Binding) (turn : Turn) (s : Search) → Ends types all turn s → turn ≡ Found → outcome true s ≡ first_of all
  run_found all turn s h e = ap first_of (ap (λ t. ends_with types t s) (sym e) ∙ h.same)

  pub run_nothing : (all : List Binding) (turn : Turn) (s : Search) → Ends types all turn s → turn ≡ Nothing → outcome false s ≡ first_of all
  run_nothing all turn s h e = ap first_of (ap (λ t. ends_with types t s) (sym e) ∙ h.same)

  pub run_on : (all : List Binding) (turn : Turn) (s : Search) → Ends types all turn s → turn ≡ On → found types s ≡ all
  run_on all turn s h e = ap (λ t. ends_with types t s) (sym e) ∙ h.same
