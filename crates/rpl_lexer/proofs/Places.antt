-- The parts of bounds, one after the other.
use Rattle.std.proofs.Common.{◌≡◌, ℕ, ◌+◌, List, sym, ap, ◌∙◌}
use Rattle.std.specs.Prelude.{Bool, true, false}
use Rattle.rpl_lexer.specs.declared.bounds.Span.{Span}
use Rattle.rpl_lexer.specs.declared.bounds.Parts.{Parts}
use Rattle.rpl_lexer.specs.Bytes.{is_space, past, has}
use Rattle.rpl_lexer.specs.Braces.{digits_from, parts_by, parts}

whole : (bs : List ℕ) (least : Span) (c : ℕ) (b : Bool) → least ≡ digits_from bs 0 → c ≡ past is_space bs least.end
    → has bs c 44 ≡ b → parts_by bs least c b ≡ parts bs
whole bs least c b e f h =
    ap (parts_by bs least c) (sym h) ∙ ap (λ x. parts_by bs least x (has bs x 44)) f
    ∙ ap (λ x. parts_by bs x (past is_space bs x.end) (has bs (past is_space bs x.end) 44)) e

with_comma : (least : Span) (bs : List ℕ) (c k : ℕ) (most : Span) → most ≡ digits_from bs (c + 1)
    → k ≡ past is_space bs most.end
    → ◌≡◌ {A = Parts} (record { least = least; comma = true; most = most; close = k }) (parts_by bs least c true)
with_comma least bs c k most e f =
    ap (λ (x : ℕ). record { least = least; comma = true; most = most; close = x }) f
    ∙ ap (λ (x : Span). record { least = least; comma = true; most = x; close = past is_space bs x.end }) e

pub parts_comma : (bs : List ℕ) (least most : Span) (c k : ℕ) → least ≡ digits_from bs 0
    → c ≡ past is_space bs least.end → has bs c 44 ≡ true → most ≡ digits_from bs (c + 1)
    → k ≡ past is_space bs most.end
    → ◌≡◌ {A = Parts} (record { least = least; comma = true; most = most; close = k }) (parts bs)
parts_comma bs least most c k e f h g i = with_comma least bs c k most g i ∙ whole bs least c true e f h

pub parts_plain : (bs : List ℕ) (least : Span) (c : ℕ) → least ≡ digits_from bs 0 → c ≡ past is_space bs least.end
    → has bs c 44 ≡ false
    → ◌≡◌ {A = Parts} (record {
      least = least;
      comma = false;
      most = record { start = c; end = c };
      close = c;
    }) (parts bs)
parts_plain bs least c e f h = whole bs least c false e f h
