-- The scopes behind several patterns, one behind the other.
use Rattle.std.proofs.Common.{◌≡◌, ℕ, ◌+◌, ◌<◌, List, [], ◌∷◌, ◌++◌, map, length, get_or, drop, Result, Ok, Err, IfOk, Vec, Global, refl, ap, sym, ◌∙◌, append_assoc}
use Rattle.std.proofs.lemmas.List.{drop_more}
use Rattle.form_meaning.specs.Forms.{FormTree}
use Rattle.shared_names.specs.declared.shared_map.SharedMap.{SharedMap}
use Rattle.class_checks.specs.Patterns.{with_each}
use Rattle.class_checks.specs.Scopes.{LocalForm, ScopeTree}
use Rattle.check_types.specs.Below.check_scopes.specs.declared.setting.Setting.{Setting}
use Rattle.check_patterns.specs.Shown.{local_view, bindings_in, scopes_at}
use Rattle.check_patterns.specs.declared.local_form.LocalForm.{LocalForm as Local}

one_and_others : (scope : ScopeTree) (b : List LocalForm) (bs : List (List LocalForm)) → with_each scope (b ∷ []) ++ with_each scope bs ≡ with_each scope (b ∷ bs)
one_and_others scope [] bs = refl
one_and_others scope (found ∷ more) bs = refl

pub scope_turn : (scope : ScopeTree) (xs : List (Vec Local Global)) (i : ℕ) (x : Vec Local Global) (before after whole : List ScopeTree)
    → x ≡ get_or xs i x → i < length xs → after ≡ before ++ with_each scope (map local_view x.items ∷ [])
    → before ++ with_each scope (bindings_in (drop i xs)) ≡ whole
    → after ++ with_each scope (bindings_in (drop (i + 1) xs)) ≡ whole
scope_turn scope xs i x before after whole is below pushed so_far =
    let later : List (List LocalForm) = bindings_in (drop (i + 1) xs) in
    ap (λ (made : List ScopeTree). made ++ with_each scope later) pushed
    ∙ append_assoc before (with_each scope (map local_view x.items ∷ [])) (with_each scope later)
    ∙ ap (λ (made : List ScopeTree). before ++ made) (one_and_others scope (map local_view x.items) later)
    ∙ ap (λ (y : Vec Local Global). before ++ with_each scope (map local_view y.items ∷ later)) is
    ∙ ap (λ (ys : List (Vec Local Global)). before ++ with_each scope (bindings_in ys)) (sym (drop_more xs i x below))
    ∙ so_far

-- the same scopes, said otherwise
pub same_scopes : {E : Type 0} (r : Result (Vec (SharedMap FormTree) Global) E) (setting : Setting) (xs ys : List ScopeTree) → xs ≡ ys
    → IfOk r (λ all. scopes_at setting all.items ≡ xs) → IfOk r (λ all. scopes_at setting all.items ≡ ys)
same_scopes (Ok all) setting xs ys e is = is ∙ e
same_scopes (Err error) setting xs ys e is = tt
