-- From a pattern that is ready to the text of what it stands for.
use Rattle.std.proofs.Common.{ℕ, ◌≡◌, ◌≤◌, Bool, true, false, cond, List, ◌++◌, length, ◌∙◌, ap, subst, arith}
use Rattle.std.specs.Prelude.{Ok, nat_lt}
use Rattle.rosie_prepare.specs.Lines.{compile_line}
use Rattle.rosie_prepare.specs.Prepared.{Ready, bodies}
use Rattle.rosie_inspect.specs.Expansions.{IsExpansion}
use Rattle.rosie_inspect.proofs.Rows.{one_pattern_text}
use Rattle.rpl_core.specs.Core.{Core}
use Rattle.rpl_core.specs.Instr.{Instr}
use Rattle.rpl_core.specs.Programs.{IsCode}
use Rattle.rpl_core.proofs.Codes.{code_holds}
use Rattle.rpl_codegen.specs.Compiled.{HasLongCode}
use Rattle.rosie_inspect.specs.Listing.{lines}
use Rattle.rosie_cli.specs.Planned.{Expands, with_code}
use Rattle.rosie_cli.specs.Plans.{Plan, refusal, whole_answer}

-- what is ready has the rules R, as cores, and is shown as this text
module _ (r : Ready) (R : List Core) (same : bodies r.rules ≡ R) (text : List ℕ)
    (shown : IsExpansion r.rules r.expr r.goal text) (p : Plan) where
  -- without the code
  pub plain_plan : (wants : Bool) → wants ≡ false → Expands wants (Ok r) p → p ≡ whole_answer text
  plain_plan true e is = absurd (cc)
  plain_plan false e is = is.2 ∙ ap whole_answer (one_pattern_text r.rules r.expr r.goal is.0 text is.1 shown)

  coded : (wants : Bool) → wants ≡ true → Expands wants (Ok r) p → (code : List Instr) → IsCode R r.goal code →
      p ≡ with_code text code
  coded false e is code h = absurd (cc)
  coded true e is code h =
      is.2.2
      ∙ ap (λ c. with_code is.0 c)
      (code_holds R r.goal is.2.0 code (subst (λ x. IsCode x r.goal is.2.0) same is.2.1) h)
      ∙ ap (λ x. with_code x code) (one_pattern_text r.rules r.expr r.goal is.0 text is.1 shown)

  -- with a code that is within its limit
  pub coded_plan : (wants : Bool) → wants ≡ true → Expands wants (Ok r) p → (code : List Instr) →
      IsCode R r.goal code → length code ≤ 1048576 → p ≡ whole_answer (text ++ lines 0 code)
  coded_plan wants e is code h fits =
      let test : nat_lt 1048576 (length code) ≡ false = grind (arith, fits) in
      coded wants e is code h ∙ ap (λ b. cond b (refusal compile_line) (whole_answer (text ++ lines 0 code))) test

  -- and one whose code isn't
  pub long_plan : (wants : Bool) → wants ≡ true → Expands wants (Ok r) p → HasLongCode R r.goal →
      p ≡ refusal compile_line
  long_plan wants e is long =
      let more = long.2 in
      let test : nat_lt 1048576 (length long.0) ≡ true = grind (arith, more) in
      coded wants e is long.0 long.1
      ∙ ap (λ b. cond b (refusal compile_line) (whole_answer (text ++ lines 0 long.0))) test
