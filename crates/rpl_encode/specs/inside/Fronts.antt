-- The front of the object of a node, up to the place where it starts, and what comes after it.
use Rattle.std.specs.Prelude.{ℕ, ◌+◌, Bool, List, ◌∷◌, ◌++◌, codes, decimal}
use Rattle.rpl_print.specs.Quoted.{quoted}
use Rattle.rpl_encode.specs.inside.Walk.{comma, ending}

-- the first of all or not, with this type
abbrev pub front : Bool → List ℕ → List ℕ
front first label = comma first ++ (codes "{\"type\":" ++ (quoted label ++ codes ",\"s\":"))

-- both places, each one higher, what stands for the text, and the ending
abbrev pub after_front : ℕ → ℕ → List ℕ → Bool → List ℕ
after_front start end text has_subs =
    decimal (start + 1)
    ++ (codes ",\"e\":" ++ (decimal (end + 1) ++ (codes ",\"data\":\"" ++ (text ++ 34 ∷ ending has_subs))))
