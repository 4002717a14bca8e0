use Rattle.std.proofs.Common.{ℕ, take, sym, ◌∙◌, subst, arith}
use Rattle.std.specs.Str.{IsUtf8}
use Rattle.std.proofs.lemmas.Str.{utf8_valid_len-IsUtf8}
use Rattle.std.proofs.Math.Seq.{take-length}
use Rattle.vdm_lexer.proofs.decoded.valid_length.Goals as goal

pub returns-in-Ok : goal.returns-in-Ok
returns-in-Ok c = record {
  valid = sym (utf8_valid_len-IsUtf8 c.args.text.now c.in-Ok.ensures.cases.1);
  within = omega arith;
  text = subst IsUtf8 (sym (take-length c.args.text.now)) c.in-Ok.ensures.cases.1;
}

pub returns-in-Err : goal.returns-in-Err
returns-in-Err c =
    let short = c.in-Err.ensures.cases.1.short in
    record {
      valid = c.valid_up_to.ensures ∙ c.in-Err.ensures.valid_len;
      within = omega arith;
      text = subst (λ (n : ℕ). IsUtf8 (take n c.args.text.now)) (sym c.valid_up_to.ensures) c.in-Err.ensures.cases.1.front;
    }
