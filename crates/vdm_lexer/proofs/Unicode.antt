-- The letters of identifiers are those of Unicode.
use Rattle.std.proofs.Common.{◌≡◌, ℕ, ◌<◌, ◌==◌, ◌||◌, Bool, true, false, cond, nat_lt, refl, ap, sym, ◌∙◌, arith}
use Rattle.std.specs.Char.{is_ascii_alphabetic, is_ascii_alphanumeric}
use Rattle.std.proofs.lemmas.Bool.Decides.{nat_tests}
use Rattle.unicode_ident.specs.Ident.{is_xid_start, is_xid_continue}
use Rattle.unicode_ident.proofs.IdentLemmas.{is_xid_start-ascii, is_xid_continue-ascii}
use Rattle.vdm_lexer.specs.Characters.{is_letter, is_of_word}

pub letter-unicode : (c : ℕ) → is_letter c ≡ is_xid_start c
letter-unicode c = by (nat_lt c 128) refl
  where
    by : (ascii : Bool) → nat_lt c 128 ≡ ascii → cond ascii (is_ascii_alphabetic c) (is_xid_start c) ≡ is_xid_start c
    by true e = let small : c < 128 = grind (arith, nat_tests) in sym (is_xid_start-ascii c small)
    by false e = refl

or-false : (a : Bool) → a ≡ (a || false)
or-false true = refl
or-false false = refl

pub of_word-unicode : (c : ℕ) → is_of_word c ≡ (is_xid_continue c || c == 39)
of_word-unicode c = by (nat_lt c 128) refl
  where
    by : (ascii : Bool) → nat_lt c 128 ≡ ascii → cond ascii (is_ascii_alphanumeric c || c == 95 || c == 39) (is_xid_continue c) ≡ (is_xid_continue c || c == 39)
    by true e =
        let small : c < 128 = grind (arith, nat_tests) in
        ap (λ (b : Bool). b || c == 39) (sym (is_xid_continue-ascii c small))
    by false e =
        let other : (c == 39) ≡ false = grind (arith, nat_tests) in
        or-false (is_xid_continue c) ∙ ap (λ (b : Bool). is_xid_continue c || b) (sym other)
