use Rattle.std.proofs.Common.{arith, sym, ap, subst, ◌≡◌, ◌++◌, ◌∷◌, [], ℕ, List, length, ◌∙◌, string_bytes}
use Rattle.std.specs.Ordering.{is_lt}
use Rattle.std.specs.Prelude.{not}
use Rattle.rosie_inspect.specs.Ascending.{AreWritten}
use Rattle.rosie_inspect.proofs.Writing.{next_written}
use Rattle.rosie_inspect.proofs.ascending.Ascending.push.Goals as goal

pub returns : goal.returns
returns c = λ t done w.
    let old = string_bytes c.args.self.now.text in
    let front = c.args.front.now in
    let end = c.args.end.now in
    let bytes = c.as_bytes-bytes.result.now in
    let new = string_bytes c.push_str-2.new.self in
    let start = c.len-start.result in
    let is : bytes ≡ (old ++ front) ++ end =
    c.as_bytes-bytes.ensures.value ∙ c.in_ok-push_str-2.ensures.bytes
    ∙ ap (λ l. l ++ end) c.in_ok-push_str.ensures.bytes in
    let at : start ≡ length old = omega (arith, c.len-start.ensures, c.args.self.now.text.bytes.ok.0) in
    let rises : not (is_lt c.cmp.result) ≡ not c.is_lt-ascends.result = ap not (sym c.is_lt-ascends.ensures) in
    let P : List ℕ → Type 0 = λ l. AreWritten (done ++ (front ++ end) ∷ []) l start in
    subst P c.as_bytes-bytes.ensures.value
    (next_written done old front end bytes c.args.self.now.last start c.cmp.result at c.args.self.now.within
    is c.cmp.ensures (rises ∙ t) w)
