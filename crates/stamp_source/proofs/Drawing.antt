-- Drawing a number keeps the rule.
use Rattle.std.proofs.Common.{◌≡◌, ◌≢◌, ℕ, ◌+◌, ◌*◌, ◌^◌, ◌%◌, ◌<◌, ◌≤◌, List, [], ◌∷◌, ◌++◌, length, set, sym, refl, ap, ◌∙◌, subst, ⊎_elim, arith, length-append}
use Rattle.std.proofs.Math.Nat.{mul-le-mul_left}
use Rattle.std.specs.Prelude.{slice_index, slice_set}
use Rattle.std.proofs.lemmas.List.Elements.{All-push}
use Rattle.std.proofs.lemmas.List.Quantifiers.{all_pairs_push}
use mathlib.Core.Option.{some}
use lib.ListN.{get_elem?}
use Rattle.atomic_table.specs.Table.{State, Me, Step, keeps, Allows}
use Rattle.atomic_table.proofs.Lists.{at_set}
use Rattle.stamp_source.specs.declared.rule.Drawn.{Drawn}
use Rattle.stamp_source.specs.declared.rule.Opening.{Opening}
use Rattle.pass_sums.specs.Counting.{total, same}
use Rattle.pass_sums.proofs.Sums.{total_append, total_set, total_same, total_most, below_next}
use Rattle.stamp_source.specs.Numbers.{times, AllBelow, IsRising}
use Rattle.stamp_source.specs.Rule.{drawn, Fits, IsKept, Draws}

-- what holds of one pass and of the others holds of each
pub each_set : (F : Drawn → Type 0) (views : List Drawn) (id : ℕ) (w : Drawn) → F w → ((j : ℕ) (u : Drawn) → get_elem? views j ≡ some u → F u)
    → (j : ℕ) (u : Drawn) → get_elem? (set views id w) j ≡ some u → F u
each_set F views id w mine others j u at = ⊎_elim (λ (t : (j ≡ id) × (w ≡ u)). subst F t.1 mine)
    (λ (t : (j ≢ id) × (get_elem? views j ≡ some u)). others j u t.1) (at_set views id j w u at)

low_longer : (next : ℕ) (numbers : List ℕ) → AllBelow next numbers → AllBelow (next + 1) numbers
low_longer next numbers low k d h = let l = low k d h in omega arith

low_push : (next n : ℕ) (numbers : List ℕ) → n ≡ next → AllBelow next numbers → AllBelow (next + 1) (numbers ++ n ∷ [])
low_push next n numbers is low = All-push (λ x. x < next + 1) numbers n (low_longer next numbers low) (omega arith)

pub rising_push : (numbers : List ℕ) (n : ℕ) → IsRising numbers → AllBelow n numbers → IsRising (numbers ++ n ∷ [])
rising_push numbers n rising low = all_pairs_push (λ x y. x < y) numbers n rising low

module _ (about : Opening) (s : State (Unit {0}) Drawn) (r : IsKept about s) (id : ℕ) (v : Drawn) (n : ℕ) (at : get_elem? s.views id ≡ some v) (is : n ≡ r.next) (some_pass : 0 < v.passes) (room : length v.numbers + 1 ≤ about.each * v.passes) where
  abbrev after : Drawn
  after = drawn v.about v.passes (v.numbers ++ n ∷ [])

  longer : length (v.numbers ++ n ∷ []) ≡ length v.numbers + 1
  longer = length-append v.numbers (n ∷ [])

  each_fits : (j : ℕ) (u : Drawn) → get_elem? (set s.views id after) j ≡ some u → Fits about (r.next + 1) u
  each_fits = let f : Fits about r.next v = r.each_fits id v at in each_set (Fits about (r.next + 1)) s.views id after
      (record {
        about_is = f.about_is;
        few = omega (arith, longer);
        low = low_push r.next n v.numbers is f.low;
        spent_is = λ z. absurd (omega arith);
      })
      (λ j u to. let h : Fits about r.next u = r.each_fits j u to in record {
        about_is = h.about_is;
        few = h.few;
        low = low_longer r.next u.numbers h.low;
        spent_is = h.spent_is;
      })

  count : about.first + total (λ (u : Drawn). length u.numbers) (set s.views id after) ≡ r.next + 1
  count = let t = total_set (λ (u : Drawn). length u.numbers) s.views id v after at in omega (arith, longer, r.count_is)

  -- no number of the range is passed over, and none behind it is drawn
  pub inside : r.next < about.first + about.each * about.passes
  inside =
      let m = total_most (λ (u : Drawn). length u.numbers) (λ (u : Drawn). u.passes) about.each (set s.views id after) (λ j u to. (each_fits j u to).few) in
      let p : total (λ (u : Drawn). u.passes) (set s.views id after) ≡ about.passes = total_same (λ (u : Drawn). u.passes) s.views id v after at refl ∙ r.passes_are in
      let e = ap (λ k. about.each * k) p in omega (arith, count)

  pub kept : IsKept about record { words = (r.next + 1) ∷ []; homes = s.homes; views = set s.views id after }
  kept = record {
    next = r.next + 1;
    words_are = refl;
    first_low = r.first_low;
    each_low = r.each_low;
    few = r.few;
    passes_are = total_same (λ u. u.passes) s.views id v after at refl ∙ r.passes_are;
    count_is = count;
    numbers_are = λ x.
        let t = total_set (λ (u : Drawn). times x u.numbers) s.views id v after at in
        let a = total_append (same x) v.numbers (n ∷ []) in
        let b = ap (same x) is in
        omega (arith, below_next r.next x, r.numbers_are x);
    each_fits = each_fits;
  }

module _ (about : Opening) where
  -- sixteen passes with 2^40 numbers each
  few_drawn : (s : State (Unit {0}) Drawn) (r : IsKept about s) → r.next ≤ 4611703610613694464
  few_drawn s r =
      let m = total_most (λ (u : Drawn). length u.numbers) (λ (u : Drawn). u.passes) about.each s.views (λ j u to. (r.each_fits j u to).few) in
      let e = ap (λ k. about.each * k) r.passes_are in
      let a : about.each * about.passes ≤ about.each * 16 = mul-le-mul_left about.each r.few in
      omega (arith, r.count_is, r.first_low, r.each_low)

  pub draws : (slots id : ℕ) (me : Me (Unit {0}) Drawn) (st : Step (Unit {0})) → me.0.passes ≡ 1 → length me.0.numbers < me.0.about.each
      → Allows (IsKept about) slots id me 0 (λ n. (n + 1) % 2 ^ 64) (Draws st me)
  draws slots id me st one room s r deep at fits =
      let n : ℕ = slice_index s.words 0 in
      let f : Fits about r.next me.0 = r.each_fits id me.0 at in
      let is : n ≡ r.next = ap (λ ws. slice_index ws 0) r.words_are in
      let told : me.0.about ≡ about = f.about_is (omega arith) in
      let each = ap (λ (o : Opening). o.each) told in
      let share : about.each * me.0.passes ≡ about.each = ap (λ k. about.each * k) one ∙ omega arith in
      let space : length me.0.numbers + 1 ≤ about.each * me.0.passes = omega arith in
      let few = few_drawn s r in
      let more : (n + 1) % 2 ^ 64 ≡ r.next + 1 = omega arith in (
        drawn me.0.about me.0.passes (me.0.numbers ++ n ∷ []),
        keeps,
        tt,
        subst (λ ws. IsKept about record { words = ws; homes = s.homes; views = set s.views id (drawn me.0.about me.0.passes (me.0.numbers ++ n ∷ [])) })
            (sym (ap (λ ws. slice_set ws 0 ((n + 1) % 2 ^ 64)) r.words_are ∙ ap (λ k. k ∷ []) more)) (kept about s r id me.0 n at is (omega arith) space),
        record {
          now_is = refl;
          above = subst (λ k. AllBelow k me.0.numbers) (sym is) f.low;
          from_first = let a = ap (λ (o : Opening). o.first) told in omega (arith, r.count_is);
          below_end = subst (λ (o : Opening). n < o.first + o.each * o.passes) (sym told) (let i = inside about s r id me.0 n at is (omega arith) space in omega arith);
        },
      )
