-- Hexadecimal digits, one after the other.
use Rattle.std.proofs.Common.{◌≡◌, ℕ, suc, ◌+◌, ◌*◌, ◌^◌, ◌<◌, ◌≤◌, List, [], ◌∷◌, length, drop, get_or, Some, None}
use Rattle.std.proofs.Common.{refl, ap, ◌∙◌, arith, drop-cons}
use Rattle.std.specs.Prelude.{nat_lt, if◌then◌else◌}
use Rattle.std.specs.Char.{digit_value}
use Rattle.std.proofs.lemmas.Bool.{lt-ltb, le-ltb}
use Rattle.std.proofs.Math.Pow.{pow_mono}
use Rattle.std.proofs.Math.Nat.{pow-suc}
use Rattle.std.proofs.lemmas.List.{drop_all}
use Rattle.rpl_text.specs.Escapes.{hex}

-- the first digit is added to the number so far, and the others follow; if it is no digit there is no number
pub hex_cons : (m v b : ℕ) (bs : List ℕ)
    → hex (suc m) v (b ∷ bs) ≡ (if nat_lt (digit_value b) 16 then hex m (16 * v + digit_value b) bs else None)
unfolding hex
hex_cons m v b bs = refl

-- if a digit is missing there is no number
pub hex_nil : (m v : ℕ) → hex (suc m) v [] ≡ None
unfolding hex
hex_nil m v = refl

front : (i b : ℕ) (bs : List ℕ) → i < length bs → get_or bs i 0 ≡ b → drop i bs ≡ b ∷ drop (i + 1) bs
front i b bs lt g = let n : suc i ≡ i + 1 = omega arith in drop-cons bs i 0 lt ∙ ap (λ x. x ∷ drop (suc i) bs) g
    ∙ ap (λ k. b ∷ drop k bs) n

-- one digit more
pub hex_digit : (n m v i b : ℕ) (bs : List ℕ) → n ≡ suc m → i < length bs → get_or bs i 0 ≡ b → digit_value b < 16
    → hex n v (drop i bs) ≡ hex m (16 * v + digit_value b) (drop (i + 1) bs)
hex_digit n m v i b bs e lt g d =
    ap (λ k. hex k v (drop i bs)) e ∙ ap (hex (suc m) v) (front i b bs lt g) ∙ hex_cons m v b (drop (i + 1) bs)
    ∙ ap (λ t. if t then hex m (16 * v + digit_value b) (drop (i + 1) bs) else None) (lt-ltb (digit_value b) 16 d)

-- no digit there
pub hex_other : (n m v i b : ℕ) (bs : List ℕ) → n ≡ suc m → i < length bs → get_or bs i 0 ≡ b → 16 ≤ digit_value b
    → hex n v (drop i bs) ≡ None
hex_other n m v i b bs e lt g d =
    ap (λ k. hex k v (drop i bs)) e ∙ ap (hex (suc m) v) (front i b bs lt g) ∙ hex_cons m v b (drop (i + 1) bs)
    ∙ ap (λ t. if t then hex m (16 * v + digit_value b) (drop (i + 1) bs) else None) (le-ltb (digit_value b) 16 d)

-- nothing there
pub hex_end : (n m v i : ℕ) (bs : List ℕ) → n ≡ suc m → length bs ≤ i → hex n v (drop i bs) ≡ None
hex_end n m v i bs e le = ap (λ k. hex k v (drop i bs)) e ∙ ap (hex (suc m) v) (drop_all i bs le) ∙ hex_nil m v

pub hex_done : (n v : ℕ) (bs : List ℕ) → n ≡ 0 → hex n v bs ≡ Some v
unfolding hex
hex_done n v bs e = ap (λ k. hex k v bs) e

-- four bits more
pub sixteen : (i : ℕ) → 2 ^ (4 * (i + 1)) ≡ 16 * 2 ^ (4 * i)
sixteen i =
    let e : 4 * (i + 1) ≡ suc (suc (suc (suc (4 * i)))) = omega arith in
    let a = pow-suc 2 (4 * i) in
    let b = pow-suc 2 (suc (4 * i)) in
    let c = pow-suc 2 (suc (suc (4 * i))) in
    let d = pow-suc 2 (suc (suc (suc (4 * i)))) in
    ap (λ k. 2 ^ k) e ∙ omega arith

pub below_word : (i : ℕ) → i < 8 → 2 ^ (4 * (i + 1)) ≤ 2 ^ 32
below_word i lt = pow_mono {i = 4 * (i + 1)} {j = 32} (omega arith)
