-- Where rules begin, as they are listed and found.
use Rattle.std.proofs.Common.{◌≡◌, ℕ, zero, suc, ◌<◌, ◌≤◌, List, [], ◌∷◌, ◌++◌, length, get_or, refl, sym, ap, ◌∙◌}
use Rattle.std.proofs.Common.{arith}
use Rattle.std.proofs.lemmas.Bool.{lt-ltb}
use Rattle.std.specs.Prelude.{Bool, true, false, if◌then◌else◌, nat_lt}
use Rattle.rpl_codegen.specs.inside.Starts.{start_from}
use Rattle.rpl_codegen.specs.declared.starts.Start.{Start}

-- one more
pub start_push : (ss : List Start) (x : Start) (r e : ℕ)
    → start_from (ss ++ x ∷ []) r e ≡ start_from ss r (if nat_lt x.rule r then e else x.address)
start_push [] x r e = refl
start_push (s ∷ ss) x r e = go (start_push ss x r e) (nat_lt s.rule r)
  where
    go : start_from (ss ++ x ∷ []) r e ≡ start_from ss r (if nat_lt x.rule r then e else x.address) → (b : Bool)
        → (if b then start_from (ss ++ x ∷ []) r e else s.address)
        ≡ (if b then start_from ss r (if nat_lt x.rule r then e else x.address) else s.address)
    go same true = same
    go same false = refl

not_below : (k r : ℕ) → r ≤ k → nat_lt k r ≡ false
not_below k r le = grind (arith, le)

pub start_up : (ss : List Start) (x : Start) (r e : ℕ) → r ≤ x.rule
    → start_from (ss ++ x ∷ []) r e ≡ start_from ss r x.address
start_up ss x r e le = start_push ss x r e
    ∙ ap (λ b. start_from ss r (if b then e else x.address)) (not_below x.rule r le)

pub start_past : (ss : List Start) (x : Start) (r e : ℕ) → x.rule < r
    → start_from (ss ++ x ∷ []) r e ≡ start_from ss r e
start_past ss x r e lt = start_push ss x r e
    ∙ ap (λ b. start_from ss r (if b then e else x.address)) (lt-ltb x.rule r lt)

-- the first that isn't below
pub at_first : (ss : List Start) (i r e : ℕ) (x : Start) → i < length ss → x ≡ get_or ss i x
    → ((k : ℕ) → k < i → nat_lt (get_or ss k x).rule r ≡ true) → nat_lt x.rule r ≡ false → start_from ss r e ≡ x.address
at_first [] i r e x lt is below here = absurd (omega arith)
at_first (s ∷ ss) zero r e x lt is below here =
    let off : nat_lt s.rule r ≡ false = ap (λ (y : Start). nat_lt y.rule r) (sym is) ∙ here in
    ap (λ b. if b then start_from ss r e else s.address) off ∙ ap (λ (y : Start). y.address) (sym is)
at_first (s ∷ ss) (suc i) r e x lt is below here =
    ap (λ b. if b then start_from ss r e else s.address) (below 0 (omega arith))
    ∙ at_first ss i r e x (omega arith) is (λ k l. below (suc k) (omega arith)) here

pub at_none : (ss : List Start) (r e : ℕ) (d : Start) → ((k : ℕ) → k < length ss → nat_lt (get_or ss k d).rule r ≡ true)
    → start_from ss r e ≡ e
at_none [] r e d below = refl
at_none (s ∷ ss) r e d below =
    ap (λ b. if b then start_from ss r e else s.address) (below 0 (omega arith))
    ∙ at_none ss r e d (λ k l. below (suc k) (omega arith))
