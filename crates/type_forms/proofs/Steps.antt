-- Alternatives that are still to be opened.
use Rattle.std.proofs.Common.{◌≡◌, Bool, List, [], ◌∷◌, ◌++◌, Result, Ok, Err, IfOk, refl, ap, sym, ◌∙◌}
use Rattle.vdm_kinds.specs.declared.name.Name.{Name}
use Rattle.abstract_syntax.specs.Classes.{TypeDefTree}
use Rattle.expr_tree.specs.Alternatives.{Finder}
use Rattle.form_meaning.specs.Forms.{FormTree, one_of, AltTrees, no_alts, one_alt, followed_by}
use Rattle.form_meaning.specs.Types.{alt_opened, alts_opened, opened_by}
use Rattle.type_forms.specs.declared.form.Alt.{Alt}
use Rattle.type_forms.specs.Pending.{turned}
use Rattle.type_forms.specs.Tree.{alt_of, alt_trees}
use Rattle.type_forms.proofs.Lists.{alt_pushed}

pub turned_pushed : (xs : List Alt) (a : Alt) (later : AltTrees) → turned (xs ++ a ∷ []) later ≡ one_alt (alt_of a) (turned xs later)
turned_pushed [] a later = refl
turned_pushed (x ∷ xs) a later = turned_pushed xs a (one_alt (alt_of x) later)

-- one is taken from the end of a list and put on the stack
pub turned_step : (before after : List Alt) (a : Alt) (pending next : List Alt) (whole : AltTrees) → before ≡ after ++ a ∷ [] → next ≡ pending ++ a ∷ []
    → followed_by (alt_trees before) (turned pending no_alts) ≡ whole → followed_by (alt_trees after) (turned next no_alts) ≡ whole
turned_step before after a pending next whole taken pushed is =
    ap (λ (p : List Alt). followed_by (alt_trees after) (turned p no_alts)) pushed
    ∙ ap (followed_by (alt_trees after)) (turned_pushed pending a no_alts)
    ∙ sym (alt_pushed after a (turned pending no_alts))
    ∙ ap (λ (b : List Alt). followed_by (alt_trees b) (turned pending no_alts)) (sym taken)
    ∙ is

-- one after another
pub opened_then : (find : Finder) (is_class : Name → Bool) (f : FormTree → TypeDefTree → FormTree) (known : FormTree) (alts later : AltTrees)
    → alts_opened find is_class f known (followed_by alts later) ≡ alts_opened find is_class f (alts_opened find is_class f known alts) later
opened_then find is_class f known no_alts later = refl
opened_then find is_class f known (one_alt a alts) later = opened_then find is_class f (alt_opened find is_class f known a) alts later

-- the alternatives of a form are the next
pub form_put : (find : Finder) (is_class : Name → Bool) (f : FormTree → TypeDefTree → FormTree) (known form : FormTree) (shared own later all : AltTrees)
    → form ≡ one_of shared → own ≡ shared → all ≡ followed_by own later
    → alts_opened find is_class f known all ≡ alts_opened find is_class f (opened_by find is_class f known form) later
form_put find is_class f known form shared own later all shape same put =
    ap (alts_opened find is_class f known) put
    ∙ opened_then find is_class f known own later
    ∙ ap (λ (alts : AltTrees). alts_opened find is_class f (alts_opened find is_class f known alts) later) same
    ∙ ap (λ (g : FormTree). alts_opened find is_class f (opened_by find is_class f known g) later) (sym shape)

-- the next one is opened
pub next_opened : (find : Finder) (is_class : Name → Bool) (f : FormTree → TypeDefTree → FormTree) (known : FormTree) (before after : List Alt) (a : Alt)
    (made whole : FormTree) → before ≡ after ++ a ∷ []
    → made ≡ alts_opened find is_class f (alt_opened find is_class f known (alt_of a)) (turned after no_alts)
    → alts_opened find is_class f known (turned before no_alts) ≡ whole → made ≡ whole
next_opened find is_class f known before after a made whole popped is invariant =
    is
    ∙ ap (alts_opened find is_class f known) (sym (ap (λ (p : List Alt). turned p no_alts) popped ∙ turned_pushed after a no_alts))
    ∙ invariant

pub if_made : {A E : Type 0} (r : Result A E) (of : A → FormTree) (x y : FormTree) → x ≡ y → IfOk r (λ n. of n ≡ x) → IfOk r (λ n. of n ≡ y)
if_made (Ok n) of x y same is = is ∙ same
if_made (Err e) of x y same is = tt
