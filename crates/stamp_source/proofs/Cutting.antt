-- The table at the start keeps the rule, and so does cutting a pass off a view that drew nothing.
use Rattle.std.proofs.Common.{◌≡◌, ℕ, zero, suc, ◌+◌, ◌-◌, ◌^◌, ◌<◌, ◌≤◌, [], ◌∷◌, ◌++◌, length, set, sym, refl, ap, ◌∙◌, subst, ⊎_elim, arith}
use mathlib.Core.Option.{some, some-injective, some-ne-none}
use lib.ListN.{get_elem?}
use Rattle.atomic_table.specs.Table.{opening, Splits}
use Rattle.atomic_table.proofs.Lists.{at_snoc}
use Rattle.stamp_source.specs.declared.rule.Drawn.{Drawn}
use Rattle.stamp_source.specs.declared.rule.Opening.{Opening}
use Rattle.pass_sums.specs.Counting.{total, below}
use Rattle.pass_sums.proofs.Sums.{total_append, total_set}
use Rattle.stamp_source.specs.Numbers.{times}
use Rattle.stamp_source.specs.Rule.{drawn, Fits, IsKept}
use Rattle.stamp_source.proofs.Drawing.{each_set}

module _ (about : Opening) where
  fresh_fits : (next passes : ℕ) → 0 < passes → Fits about next (drawn about passes [])
  fresh_fits next passes some_pass = record { about_is = λ _. refl; few = omega arith; low = λ k d h. absurd (omega arith); spent_is = λ _. refl }

  pub begins : 0 < about.passes → about.passes ≤ 16 → about.first ≤ 2 ^ 62 → about.each ≤ 2 ^ 40 → IsKept about (opening (about.first ∷ []) [] (drawn about about.passes []))
  begins some_pass few first each = record {
    next = about.first;
    words_are = refl;
    first_low = first;
    each_low = each;
    few = few;
    passes_are = omega arith;
    count_is = omega arith;
    numbers_are = λ x. omega arith;
    each_fits = only;
  }
    where
      only : (j : ℕ) (v : Drawn) → get_elem? (drawn about about.passes [] ∷ []) j ≡ some v → Fits about about.first v
      only zero v at = subst (Fits about about.first) (some-injective (drawn about about.passes []) v at) (fresh_fits about.first about.passes some_pass)
      only (suc j) v at = absurd (some-ne-none v (sym at))

  pub splits : (id : ℕ) (v : Drawn) → 1 < v.passes → v.numbers ≡ [] → Splits (IsKept about) id v (drawn v.about (v.passes - 1) []) (drawn v.about 1 [])
  splits id v several bare s r at =
      let f : Fits about r.next v = r.each_fits id v at in
      let told : about ≡ v.about = sym (f.about_is (omega arith)) in
      let left : Drawn = drawn v.about (v.passes - 1) [] in
      let right : Drawn = drawn v.about 1 [] in
      let half : (n : ℕ) → 0 < n → Fits about r.next (drawn v.about n []) = λ n h. subst (λ o. Fits about r.next (drawn o n [])) told (fresh_fits r.next n h) in
      let sums : (h : Drawn → ℕ) → h left + h right ≡ h v → total h (set s.views id left ++ right ∷ []) ≡ total h s.views =
      λ h e. omega (arith, e, total_append h (set s.views id left) (right ∷ []), total_set h s.views id v left at) in record {
        next = r.next;
        words_are = r.words_are;
        first_low = r.first_low;
        each_low = r.each_low;
        few = r.few;
        passes_are = sums (λ u. u.passes) (omega arith) ∙ r.passes_are;
        count_is = ap (λ k. about.first + k) (sums (λ u. length u.numbers) (sym (ap length bare))) ∙ r.count_is;
        numbers_are = λ x. ap (λ k. k + below about.first x) (sums (λ u. times x u.numbers) (sym (ap (times x) bare))) ∙ r.numbers_are x;
        each_fits = λ j u to. ⊎_elim (each_set (Fits about r.next) s.views id left (half (v.passes - 1) (omega arith)) r.each_fits j u)
            (λ is. subst (Fits about r.next) is (half 1 (omega arith))) (at_snoc (set s.views id left) right u j to);
      }
