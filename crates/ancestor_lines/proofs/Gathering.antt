-- Lists that are gathered from the last one on, and names by their numbers.
use Rattle.std.proofs.Common.{◌≡◌, ℕ, zero, suc, ◌+◌, ◌-◌, ◌<◌, List, [], ◌∷◌, ◌++◌, length, get_or, map, take, reverse, ap, sym, ◌∙◌, arith}
use Rattle.std.specs.List.{flat_map}
use Rattle.std.proofs.lemmas.List.{append-nil, take_more, length-reverse, get_or-reverse}
use Rattle.std.proofs.lemmas.List.Concat.{flat_map-append}
use Rattle.vdm_tree.specs.declared.class_def.ClassDef.{ClassDef}
use Rattle.vdm_tree.specs.ClassView.{class_view}
use Rattle.ancestor_lines.specs.Parts.{name_at}

pub gathered_more : {B : Type 0} (f : ℕ → List B) (line : List ℕ) (found now more : List B) (passed : ℕ) → passed < length line
    → found ≡ flat_map f (take passed (reverse line)) → more ≡ f (get_or line (length line - 1 - passed) 0) → now ≡ found ++ more
    → now ≡ flat_map f (take (passed + 1) (reverse line))
gathered_more {B} f line found now more passed l is e n =
    let at : get_or (reverse line) passed 0 ≡ get_or line (length line - 1 - passed) 0 = get_or-reverse line passed 0 l in
    n
    ∙ ap (λ (xs : List B). xs ++ more) is
    ∙ ap (λ (xs : List B). flat_map f (take passed (reverse line)) ++ xs) (e ∙ ap f (sym at) ∙ sym (append-nil (f (get_or (reverse line) passed 0))))
    ∙ sym (flat_map-append f (take passed (reverse line)) (get_or (reverse line) passed 0 ∷ []))
    ∙ ap (flat_map f) (sym (take_more (reverse line) passed 0 (omega (arith, length-reverse line))))

pub name_there : (classes : List ClassDef) (k : ℕ) (class : ClassDef) → k < length classes → class ≡ get_or classes k class
    → class.name ≡ name_at (map class_view classes) k
name_there [] k class l e = absurd (omega arith)
name_there (c ∷ classes) zero class l e = ap (λ (x : ClassDef). x.name) e
name_there (c ∷ classes) (suc k) class l e = name_there classes k class (omega arith) e
