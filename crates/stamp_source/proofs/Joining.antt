-- Joining two passes keeps the rule, and when all are joined they have every number that was drawn.
use Rattle.std.proofs.Common.{◌≡◌, ℕ, ◌+◌, ◌<◌, List, length, set, sym, refl, ap, ◌∙◌, arith, length-append}
use Rattle.std.proofs.lemmas.List.Elements.{All-append}
use mathlib.Core.Option.{some}
use lib.ListN.{get_elem?}
use Rattle.atomic_table.specs.Table.{State, Joins, Final, Seen}
use Rattle.atomic_table.proofs.Lists.{set_else}
use Rattle.stamp_source.specs.declared.rule.Drawn.{Drawn}
use Rattle.stamp_source.specs.declared.rule.Opening.{Opening}
use Rattle.pass_sums.specs.Counting.{total, same, below}
use Rattle.pass_sums.proofs.Sums.{total_append, total_set, total_only}
use Rattle.stamp_source.specs.Numbers.{times}
use Rattle.stamp_source.specs.Rule.{blank, pooled, Fits, IsKept}
use Rattle.stamp_source.proofs.Drawing.{each_set}

module _ (about : Opening) where
  pub joins : (id : ℕ) (v : Drawn) (other : ℕ) (w : Drawn) → 0 < v.passes → Joins (IsKept about) id v other w (pooled v w) blank
  joins id v other w some_pass s r at apart at' =
      let both : Drawn = pooled v w in
      let views : List Drawn = set s.views id both in
      let to : get_elem? s.views other ≡ some w = sym (set_else s.views id other both apart) ∙ at' in
      let f : Fits about r.next v = r.each_fits id v at in
      let h : Fits about r.next w = r.each_fits other w to in
      let long = length-append w.numbers v.numbers in
      let sums : (k : Drawn → ℕ) → k both + k blank ≡ k v + k w → total k (set views other blank) ≡ total k s.views =
      λ k e. omega (arith, e, total_set k s.views id v both at, total_set k views other w blank at') in record {
        next = r.next;
        words_are = r.words_are;
        first_low = r.first_low;
        each_low = r.each_low;
        few = r.few;
        passes_are = sums (λ u. u.passes) (omega arith) ∙ r.passes_are;
        count_is = ap (λ k. about.first + k) (sums (λ u. length u.numbers) (omega arith)) ∙ r.count_is;
        numbers_are = λ x. ap (λ k. k + below about.first x) (sums (λ u. times x u.numbers) (omega (arith, total_append (same x) w.numbers v.numbers))) ∙ r.numbers_are x;
        each_fits = each_set (Fits about r.next) views other blank
            (record { about_is = λ z. absurd (omega arith); few = omega arith; low = λ k d z. absurd (omega arith); spent_is = λ _. refl })
            (each_set (Fits about r.next) s.views id both
            (record {
              about_is = λ _. f.about_is some_pass;
              few = let a = f.few in let b = h.few in omega arith;
              low = All-append (λ x. x < r.next) w.numbers v.numbers h.low f.low;
              spent_is = λ z. absurd (omega arith);
            })
            r.each_fits);
      }

  pub ends : (id : ℕ) (v : Drawn) (words : List ℕ) (slots : List (Unit {0})) → v.passes ≡ about.passes → Final (Seen (IsKept about) id v) words slots
      → (next : ℕ) × ((x : ℕ) → times x v.numbers + below about.first x ≡ below next x)
  ends id v words slots all final =
      let s : State (Unit {0}) Drawn = final.0 in
      let r : IsKept about s = final.1.0 in (
        r.next,
        λ x. let only = total_only (λ (u : Drawn). times x u.numbers) (λ (u : Drawn). u.passes) s.views id v final.1.1 (r.passes_are ∙ sym all)
            (λ j u to z. ap (times x) ((r.each_fits j u to).spent_is z)) in ap (λ k. k + below about.first x) (sym only) ∙ r.numbers_are x,
      )
