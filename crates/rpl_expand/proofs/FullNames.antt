-- Rules of two modules or of two names have two full names.
use Rattle.std.proofs.Common.{◌≡◌, ◌≢◌, ◌<◌, ℕ, List, [], ◌∷◌, ◌++◌, refl, sym, ap, subst, ◌∙◌, arith}
use Rattle.std.specs.Prelude.{Bool, true, false, if◌then◌else◌, codes}
use Rattle.std.specs.Str.{bytes_eq}
use Rattle.std.proofs.lemmas.Slice.Eq.{bytes_eq-Decides}
use Rattle.rpl_syntax.specs.Modules as S
use Rattle.rpl_names.specs.Tables.{boundary_name, full_name}

-- no dot is in it, and each character comes after the space
abbrev pub IsUnbroken : List ℕ → Type 0
IsUnbroken [] = Unit {0}
IsUnbroken (c ∷ n) = (c ≢ 46) × (32 < c) × IsUnbroken n

-- nor in the name of a rule of a text
abbrev pub AreUnbroken : List S.Rule → Type 0
AreUnbroken [] = Unit {0}
AreUnbroken (b ∷ bs) = IsUnbroken b.name × AreUnbroken bs

abbrev pub IsUnbrokenEntry : S.Entry → Type 0
IsUnbrokenEntry (S.One b) = IsUnbroken b.name
IsUnbrokenEntry (S.Block h v) = AreUnbroken h × AreUnbroken v

abbrev pub AreUnbrokenEntries : List S.Entry → Type 0
AreUnbrokenEntries [] = Unit {0}
AreUnbrokenEntries (e ∷ es) = IsUnbrokenEntry e × AreUnbrokenEntries es

pub dotted : (b n : List ℕ) → IsUnbroken (b ++ 46 ∷ n) → ⊥
dotted [] n h = h.0 refl
dotted (c ∷ b) n h = dotted b n h.2

first_same : (x y : ℕ) (a b : List ℕ) → ◌≡◌ {A = List ℕ} (x ∷ a) (y ∷ b) → x ≡ y
first_same x y a b h = cc

rest_same : (x y : ℕ) (a b : List ℕ) → ◌≡◌ {A = List ℕ} (x ∷ a) (y ∷ b) → a ≡ b
rest_same x y a b h = cc

-- what stands after the last dot, and before it
pub split : (a b m n : List ℕ) → IsUnbroken m → IsUnbroken n → a ++ 46 ∷ m ≡ b ++ 46 ∷ n → (a ≡ b) × (m ≡ n)
split [] [] m n g h e = (refl, rest_same 46 46 m n e)
split [] (c ∷ b) m n g h e = absurd (dotted b n (subst IsUnbroken (rest_same 46 c m (b ++ 46 ∷ n) e) g))
split (c ∷ a) [] m n g h e = absurd (dotted a m (subst IsUnbroken (sym (rest_same c 46 (a ++ 46 ∷ m) n e)) h))
split (c ∷ a) (d ∷ b) m n g h e =
    let r = split a b m n g h (rest_same c d (a ++ 46 ∷ m) (b ++ 46 ∷ n) e) in
    let f : c ≡ d = first_same c d (a ++ 46 ∷ m) (b ++ 46 ∷ n) e in
    (ap (λ x. x ∷ a) f ∙ ap (λ l. d ∷ l) r.0, r.1)

-- the package name of no imported module or root
abbrev pub star : List ℕ
star = codes "*"

top_same : (b c : Bool) (m n : List ℕ) → bytes_eq m boundary_name ≡ b → bytes_eq n boundary_name ≡ c → IsUnbroken m
    → IsUnbroken n
    → (if b then codes "*.~" else m) ≡ (if c then codes "*.~" else n) → m ≡ n
top_same true true m n p q g h e =
    (bytes_eq-Decides m boundary_name).0 p ∙ sym ((bytes_eq-Decides n boundary_name).0 q)
top_same true false m n p q g h e = absurd (dotted star boundary_name (subst IsUnbroken (sym e) h))
top_same false true m n p q g h e = absurd (dotted star boundary_name (subst IsUnbroken e g))
top_same false false m n p q g h e = e

no_dot : ◌≡◌ {A = ℕ} 126 46 → ⊥
no_dot x = omega (arith, x)

pub mark_unbroken : IsUnbroken boundary_name
mark_unbroken = (no_dot, omega arith, tt)

star_first : (l n : List ℕ) → IsUnbroken n → star ++ 46 ∷ boundary_name ≡ l ++ 46 ∷ n → star ≡ l
star_first l n h e = (split star l boundary_name n mark_unbroken h e).0

top_apart : (b : Bool) (m l n : List ℕ) → IsUnbroken m → IsUnbroken n → l ≢ star
    → (if b then codes "*.~" else m) ≡ l ++ 46 ∷ n → ⊥
top_apart true m l n g h apart e = apart (sym (star_first l n h e))
top_apart false m l n g h apart e = dotted l n (subst IsUnbroken e g)

-- with one full name, rules are of one package name and have one name
pub full_same : (l k m n : List ℕ) → IsUnbroken m → IsUnbroken n → l ≢ star → k ≢ star → full_name l m ≡ full_name k n
    → (l ≡ k) × (m ≡ n)
full_same [] [] m n g h p q e =
    (refl, top_same (bytes_eq m boundary_name) (bytes_eq n boundary_name) m n refl refl g h e)
full_same [] (d ∷ k) m n g h p q e = absurd (top_apart (bytes_eq m boundary_name) m (d ∷ k) n g h q e)
full_same (c ∷ l) [] m n g h p q e = absurd (top_apart (bytes_eq n boundary_name) n (c ∷ l) m h g p (sym e))
full_same (c ∷ l) (d ∷ k) m n g h p q e = split (c ∷ l) (d ∷ k) m n g h e
