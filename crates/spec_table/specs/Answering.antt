-- Members of one class that answer alike, of which there is one alone where nothing is refused.
use Rattle.std.proofs.Common.{◌≡◌, ℕ, true, false, not, Some, length, nat_eq, eqb-true, refl, ap, subst}
use Rattle.std.specs.List.{find, IsDistinct}
use Rattle.vdm_kinds.specs.declared.name.Name.{Name}
use Rattle.abstract_syntax.specs.Classes.{ClassTree, is_same_name}
use Rattle.class_meaning.specs.Faults.{clashes, differ_in_number}
use Rattle.class_meaning.specs.Members.{Member, of_type, of_value, of_variable, of_function, of_operation, member_name, class_members, answers}
use Rattle.class_meaning.specs.declared.ask.Ask.{Ask}
use Rattle.class_meaning.specs.declared.ask.Ask.TheVariants.{AsType, ByName, Called}
use Rattle.class_meaning.proofs.Numbers.{not_both, and_left, and_right, and_both}
use Rattle.spec_table.specs.Among.{Among, only_found, differ_or_same}

abbrev pub ask_name : Ask → Name
ask_name (AsType name) = name
ask_name (ByName name) = name
ask_name (Called name n) = name

pub same_both : (n a b : ℕ) → nat_eq n a ≡ true → nat_eq n b ≡ true → nat_eq a b ≡ true
same_both n a b s t = subst (λ (k : ℕ). nat_eq k b ≡ true) (eqb-true n a s) t

pub name_answers : (ask : Ask) (m : Member) → answers ask m ≡ true → is_same_name (ask_name ask) (member_name m) ≡ true
name_answers (AsType name) (of_type t) e = e
name_answers (ByName name) (of_value v) e = e
name_answers (ByName name) (of_variable v) e = e
name_answers (Called name n) (of_function f) e = and_left (is_same_name name f.name) (nat_eq n (length f.patterns)) e
name_answers (Called name n) (of_operation o) e = and_left (is_same_name name o.name) (nat_eq n (length o.patterns)) e
name_answers _ _ e = not_both e refl

no_difference : (ask : Ask) (a b : Member) → answers ask a ≡ true → answers ask b ≡ true → differ_in_number a b ≡ false
no_difference (Called name n) (of_function a) (of_function b) s t =
    ap not (same_both n (length a.patterns) (length b.patterns)
    (and_right (is_same_name name a.name) (nat_eq n (length a.patterns)) s)
    (and_right (is_same_name name b.name) (nat_eq n (length b.patterns)) t))
no_difference (Called name n) (of_operation a) (of_operation b) s t =
    ap not (same_both n (length a.patterns) (length b.patterns)
    (and_right (is_same_name name a.name) (nat_eq n (length a.patterns)) s)
    (and_right (is_same_name name b.name) (nat_eq n (length b.patterns)) t))
no_difference (AsType name) (of_function a) (of_function b) s t = not_both s refl
no_difference (AsType name) (of_operation a) (of_operation b) s t = not_both s refl
no_difference (ByName name) (of_function a) (of_function b) s t = not_both s refl
no_difference (ByName name) (of_operation a) (of_operation b) s t = not_both s refl
no_difference _ _ _ s t = refl

pub both_clash : (ask : Ask) (a b : Member) → answers ask a ≡ true → answers ask b ≡ true → clashes a b ≡ true
both_clash ask a b s t =
    and_both (is_same_name (member_name a) (member_name b)) (not (differ_in_number a b))
    (same_both (ask_name ask).0 (member_name a).0 (member_name b).0 (name_answers ask a s) (name_answers ask b t))
    (ap not (no_difference ask a b s t))

-- what stands in a class and answers is the first answer
pub answers_first : (class : ClassTree) → IsDistinct clashes (class_members class) → (ask : Ask) (m : Member) → Among m (class_members class) → answers ask m ≡ true
    → find (answers ask) (class_members class) ≡ Some m
answers_first class apart ask m h t =
    only_found (answers ask) (class_members class) m
    (λ x l s. differ_or_same clashes (class_members class) apart x m l h (both_clash ask x m s t) (both_clash ask m x t s)) h t
