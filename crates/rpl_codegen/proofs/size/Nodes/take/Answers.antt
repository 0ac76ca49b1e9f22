use Rattle.std.proofs.Common.{◌≡◌, ◌∙◌, ℕ, zero, suc, ◌+◌, List, [], ◌∷◌, ◌++◌, ap, arith, drop, refl, take}
use Rattle.rpl_codegen.proofs.size.Nodes.take.Goals as goal

one_more : {A : Type 0} (n : ℕ) (xs : List A) → drop n xs ≡ take 1 (drop n xs) ++ drop (suc n) xs
one_more zero [] = refl
one_more zero (x ∷ xs) = refl
one_more (suc n) [] = refl
one_more (suc n) (x ∷ xs) = one_more n xs

pub returns-clause-taken : goal.returns-clause-taken
returns-clause-taken c =
    let n = c.args.self.now.next in
    let xs = c.args.self.now.list.items in
    let next : suc n ≡ n + 1 = omega arith in
    record { same = refl; taken = one_more n xs ∙ ap (λ k. take 1 (drop n xs) ++ drop k xs) next }
