use Rattle.std.proofs.Common.{◌≡◌, ◌<◌, ◌++◌, List, [], length, refl, ℕ}
use Rattle.std.specs.Prelude.{Bool, Err, IfOk, IsTrue, Ok, Result, false, true}
use Rattle.rosie_run.specs.Parts.{Pushes}
use Rattle.rosie_cli.proofs.expand_run.ExpandedTextTextSource.push_next.Goals as goal

pushes : {E : Type 0} (r : Result Bool E) (left0 left1 out0 out1 : List ℕ)
    → IfOk r (λ some. out0 ++ left0 ≡ out1 ++ left1) → IfOk r (λ some. IsTrue some → length out0 < length out1)
    → IfOk r (λ some. some ≡ false → (left0 ≡ []) × (left1 ≡ []) × (out1 ≡ out0)) → Pushes r left0 left1 out0 out1
pushes (Ok true) left0 left1 out0 out1 text grows ends = (text, grows refl)
pushes (Ok false) left0 left1 out0 out1 text grows ends = ends refl
pushes (Err e) left0 left1 out0 out1 text grows ends = tt

pub returns : goal.returns
returns c =
    let e = c.push_next.ensures in pushes c.push_next.result _ _ _ _ e.text e.grows e.ends
