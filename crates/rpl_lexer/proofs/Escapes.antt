-- What an escape at the front of some bytes is made of.
use Rattle.std.proofs.Common.{◌≡◌, inl, inr, ℕ, zero, suc, ◌+◌, ◌*◌, List, [], ◌∷◌, ◌++◌, length, Option, Some, None}
use Rattle.std.proofs.Common.{refl, sym, ap, ◌∙◌, arith}
use Rattle.std.specs.Prelude.{true, false, ◌&&◌, is_some, nat_eq, nat_le, nat_lt, if◌then◌else◌}
use Rattle.std.specs.Char.{digit_value}
use Rattle.std.proofs.lemmas.Bool.{cases_Bool}
use Rattle.rpl_text.specs.Characters.{is_char}
use Rattle.rpl_text.specs.Escapes.{hex, numbered, is_kept, escape}
use Rattle.rpl_text.proofs.Hex.{hex_cons, hex_nil}

-- an escape, and what is after it
pub record Front (y : List ℕ) : Type 0 where
  pub char : ℕ
  pub escaped : List ℕ
  pub behind : List ℕ
  pub is : y ≡ escaped ++ behind
  pub means : escape escaped ≡ Some (char, length escaped)

-- n digits, which give w, and what is after them
record Digits (n v w : ℕ) (cs : List ℕ) : Type 0 where
  digits : List ℕ
  behind : List ℕ
  is : cs ≡ digits ++ behind
  long : length digits ≡ n
  read : hex n v digits ≡ Some w

hex_zero : (v : ℕ) (cs : List ℕ) → hex 0 v cs ≡ Some v
unfolding hex
hex_zero v cs = refl

none_some : {P : Type 0} (w : ℕ) → None ≡ Some w → P
none_some w e = absurd (cc)

digits : (n v w : ℕ) (cs : List ℕ) → hex n v cs ≡ Some w → Digits n v w cs
digits zero v w cs e = record {
  digits = [];
  behind = cs;
  is = refl;
  long = refl;
  read = hex_zero v [] ∙ sym (hex_zero v cs) ∙ e;
}
digits (suc n) v w [] e = none_some w (sym (hex_nil n v) ∙ e)
digits (suc n) v w (c ∷ cs) e =
    let x = 16 * v + digit_value c in
    let s = sym (hex_cons n v c cs) ∙ e in
    elim (cases_Bool (nat_lt (digit_value c) 16)) [
      | inl t ↦
          let g = digits n x w cs (sym (ap (λ b. if b then hex n x cs else None) t) ∙ s) in
          record {
            digits = c ∷ g.digits;
            behind = g.behind;
            is = ap (λ y. c ∷ y) g.is;
            long = ap suc g.long;
            read = hex_cons n v c g.digits ∙ ap (λ b. if b then hex n x g.digits else None) t ∙ g.read;
          }
      | inr f ↦ none_some w (sym (ap (λ b. if b then hex n x cs else None) f) ∙ s)
    ]

-- an escape of one letter, and one of a letter and digits
letter : (d v : ℕ) (cs : List ℕ) → escape (d ∷ []) ≡ Some (v, 1) → Front (d ∷ cs)
letter d v cs e = record { char = v; escaped = d ∷ []; behind = cs; is = refl; means = e }

no_some : {P : Type 0} → false ≡ true → P
no_some e = absurd (cc)

lettered : (d n last : ℕ) (cs : List ℕ) (o : Option ℕ) → hex n 0 cs ≡ o → is_some {T = ℕ × ℕ} (numbered n last o) ≡ true
    → ((y : List ℕ) → escape (d ∷ y) ≡ numbered n last (hex n 0 y)) → Front (d ∷ cs)
lettered d n last cs None h t f = no_some t
lettered d n last cs (Some v) h t f =
    let g = digits n 0 v cs h in
    elim (cases_Bool (is_char v && nat_le v last)) [
      | inl k ↦
          let e : 1 + n ≡ suc (length g.digits) = omega (arith, g.long) in
          record {
            char = v;
            escaped = d ∷ g.digits;
            behind = g.behind;
            is = ap (λ y. d ∷ y) g.is;
            means =
                f g.digits ∙ ap (numbered n last) g.read ∙ ap (λ b. if b then Some (v, 1 + n) else None) k
                ∙ ap (λ x. Some (v, x)) e;
          }
      | inr k ↦ no_some (sym (ap (λ b. is_some {T = ℕ × ℕ} (if b then Some (v, 1 + n) else None)) k) ∙ t)
    ]

pub none_escaped : {P : Type 0} → is_some (escape []) ≡ true → P
unfolding escape
none_escaped e = absurd (cc)

pub front : (d : ℕ) (cs : List ℕ) → is_some (escape (d ∷ cs)) ≡ true → Front (d ∷ cs)
unfolding escape
front d cs t = elim (cases_Bool (is_kept d)) [
  | inl a ↦ letter d d cs (rw a refl)
  | inr a ↦ elim (cases_Bool (nat_eq d 110)) [
    | inl b ↦ letter d 10 cs (rw (a, b) refl)
    | inr b ↦ elim (cases_Bool (nat_eq d 114)) [
      | inl g ↦ letter d 13 cs (rw (a, b, g) refl)
      | inr g ↦ elim (cases_Bool (nat_eq d 116)) [
        | inl i ↦ letter d 9 cs (rw (a, b, g, i) refl)
        | inr i ↦ elim (cases_Bool (nat_eq d 120)) [
          | inl j ↦ lettered d 2 0x7f cs (hex 2 0 cs) refl (rw (a, b, g, i, j) at t) (λ y. rw (a, b, g, i, j) refl)
          | inr j ↦ elim (cases_Bool (nat_eq d 117)) [
            | inl k ↦
                lettered d 4 0x10_ffff cs (hex 4 0 cs) refl (rw (a, b, g, i, j, k) at t)
                (λ y. rw (a, b, g, i, j, k) refl)
            | inr k ↦ elim (cases_Bool (nat_eq d 85)) [
              | inl l ↦
                  lettered d 8 0x10_ffff cs (hex 8 0 cs) refl (rw (a, b, g, i, j, k, l) at t)
                  (λ y. rw (a, b, g, i, j, k, l) refl)
              | inr l ↦ no_some (rw (a, b, g, i, j, k, l) at t)
            ]
          ]
        ]
      ]
    ]
  ]
]
