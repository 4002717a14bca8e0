-- Parts that are checked one behind the other, of which each says where the next is: what is told of the whole stays the same.
use Rattle.std.specs.Prelude.{◌≡◌, List, [], ◌∷◌, Option, map}
use Rattle.std.proofs.Common.{ℕ, ◌+◌, ◌<◌, ◌≤◌, length, get_or, drop, ap, sym, ◌∙◌}
use Rattle.std.proofs.lemmas.List.{drop_more, drop_all}
use Rattle.vdm_kinds.specs.declared.spec_fault.SpecFault.{SpecFault}
use Rattle.class_checks.specs.Results.{Checked}
use Rattle.stmt_scopes.specs.Refused.{refused}

-- `S` is where a part is, `X` the part as the program has it and `T` its tree
module _ {S X T : Type 0} (view : X → T) (one : S → T → (S → Checked) → Checked) (each : S → List T → (S → Checked) → Checked) where
  -- at one of them
  pub turn_taken : ((s : S) (t : T) (ts : List T) (rest : S → Checked) → each s (t ∷ ts) rest ≡ one s t (λ (m : S). each m ts rest))
      → (xs : List X) (i : ℕ) (x : X) (here next : S) (first later : Option SpecFault) (whole : (S → Checked) → Option SpecFault)
      → x ≡ get_or xs i x → i < length xs
      → ((rest : S → Checked) → refused first (one here (view x) rest) ≡ refused later (rest next))
      → ((rest : S → Checked) → refused first (each here (map view (drop i xs)) rest) ≡ whole rest)
      → (rest : S → Checked) → refused later (each next (map view (drop (i + 1) xs)) rest) ≡ whole rest
  turn_taken begun xs i x here next first later whole is below told so_far rest =
      let left : List T = map view (drop (i + 1) xs) in
      sym (told (λ (m : S). each m left rest))
      ∙ ap (refused first) (sym (begun here (view x) left rest))
      ∙ ap (λ (y : X). refused first (each here (view y ∷ left) rest)) is
      ∙ ap (λ (ys : List X). refused first (each here (map view ys) rest)) (sym (drop_more xs i x below))
      ∙ so_far rest

  -- behind the last
  pub turns_past : ((s : S) (rest : S → Checked) → each s [] rest ≡ rest s)
      → (xs : List X) (i : ℕ) (here : S) (first : Option SpecFault) (whole : (S → Checked) → Option SpecFault) → length xs ≤ i
      → ((rest : S → Checked) → refused first (each here (map view (drop i xs)) rest) ≡ whole rest)
      → (rest : S → Checked) → whole rest ≡ refused first (rest here)
  turns_past ended xs i here first whole past so_far rest =
      sym (so_far rest)
      ∙ ap (λ (ys : List X). refused first (each here (map view ys) rest)) (drop_all i xs past)
      ∙ ap (refused first) (ended here rest)
