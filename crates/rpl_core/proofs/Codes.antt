-- A goal has at most one code: what it reaches decides which rules are marked.
use Rattle.std.proofs.Common.{◌≡◌, ℕ, refl, sym, ap, ◌∙◌}
use Rattle.std.specs.Prelude.{Bool, true, false}
use mathlib.Core.Path.{fun_ext}
use Rattle.rpl_core.specs.Programs.{program}
use Rattle.rpl_core.specs.Laws.{CodeLaw}

same_bool : (a b : Bool) → (a ≡ true → b ≡ true) → (b ≡ true → a ≡ true) → a ≡ b
same_bool true b f g = sym (f refl)
same_bool false true f g = g refl
same_bool false false f g = refl

-- a goal has at most one code over a table
pub code_holds : CodeLaw
code_holds R g c d x y =
    let same : (r : ℕ) → x.marks r ≡ y.marks r =
    λ r. same_bool (x.marks r) (y.marks r) (λ e. (y.exact r).1 ((x.exact r).0 e))
    (λ e. (x.exact r).1 ((y.exact r).0 e)) in
    x.same ∙ ap (λ m. program m R g) (fun_ext same) ∙ sym y.same
