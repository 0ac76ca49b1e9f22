-- The first rule of each module.
use Rattle.std.specs.Prelude.{ℕ, ◌+◌, List, [], ◌∷◌, length}
use Rattle.rpl_scope.specs.Packages.{Module}

-- the numbers of the first rules of some modules, where the first of these has the number n
abbrev pub firsts_from : ℕ → List Module → List ℕ
firsts_from n [] = []
firsts_from n (m ∷ ms) = n ∷ firsts_from (n + length m.rules) ms

abbrev pub firsts : List Module → List ℕ
firsts ms = firsts_from 2 ms
