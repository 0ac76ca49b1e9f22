-- The texts of fronts, and what is written of a note.
use Rattle.std.proofs.Common.{inl, inr, ◌≡◌, Bool, true, ltb, ℕ, suc, ◌+◌, List, [], ◌∷◌, ◌++◌, length, take, None}
use Rattle.std.proofs.Common.{Some, refl, sym, ap, ap₂, ◌∙◌, arith, append_assoc}
use Rattle.std.specs.Prelude.{map, chars, string_bytes, slice_get, option_map, get_or, decimal, codes, encode_utf8_all}
use Rattle.std.proofs.lemmas.List.{map-append}
use Rattle.std.proofs.lemmas.Option.{slice_get_cases, slice_get_read, get_or_from_slice_get, slice_get-map}
use Rattle.std.proofs.lemmas.Str.{encodes-chars, IsUtf8-string_bytes}
use Rattle.std.proofs.lemmas.Bool.{ltb-true}
use Rattle.json.specs.Print.{escape}
use Rattle.rpl_tree.specs.Trees.{label_in}
use Rattle.rpl_encode.specs.Texts.{fields}
use Rattle.rpl_encode.specs.inside.Fronts.{front}
use Rattle.rpl_encode.specs.inside.Walk.{comma, ending}
use Rattle.std.proofs.Math.Seq.{take-suc}
use Rattle.rpl_encode.specs.declared.front.Front.{Front}

-- the texts of these fronts
abbrev pub texts_in : List Front → List (List ℕ)
texts_in = map (λ front. chars (string_bytes front.label))

-- one more text after those up to a number
pub one_more : (labels : List (List ℕ)) (list : List Front) (front : Front) (n : ℕ) (text : List ℕ)
    → texts_in list ≡ take n labels → slice_get labels n ≡ Some text → chars (string_bytes front.label) ≡ text
    → texts_in (list ++ front ∷ []) ≡ take (n + 1) labels
one_more labels list front n text so_far got same =
    elim (slice_get_cases labels n).1 [
      | inl w ↦
          let one : n + 1 ≡ suc n = omega arith in
          map-append (λ f. chars (string_bytes f.label)) list (front ∷ [])
          ∙ ap₂ (λ xs x. xs ++ x ∷ []) so_far (same ∙ sym (get_or_from_slice_get labels n text text got))
          ∙ sym (take-suc labels n text w.1)
          ∙ ap (λ k. take k labels) (sym one)
      | inr w ↦ absurd (let e : None ≡ Some text = sym w.1 ∙ got in cc)
    ]

-- the bytes of the text with a number are those of its front
pub text_with : (list : List Front) (n : ℕ) (front : Front) → true ≡ ltb n (length list) → front ≡ get_or list n front
    → encode_utf8_all (label_in (texts_in list) n) ≡ string_bytes front.label
text_with list n front inside is =
    let got = slice_get_read list (length list) n front refl (ltb-true _ _ (sym inside)) is in
    ap encode_utf8_all (get_or_from_slice_get (texts_in list) n (chars (string_bytes front.label)) []
    (slice_get-map (λ f. chars (string_bytes f.label)) list n
    ∙ ap (option_map (λ f. chars (string_bytes f.label))) got))
    ∙ encodes-chars (string_bytes front.label) (IsUtf8-string_bytes front.label)

note_group : (o c l d k t e : List ℕ)
    → (((o ++ (c ++ (codes "{\"type\":" ++ ((34 ∷ (l ++ 34 ∷ [])) ++ codes ",\"s\":"))))
    ++ (d ++ (codes ",\"e\":" ++ (k ++ codes ",\"data\":\"")))) ++ t) ++ 34 ∷ e ≡ o
    ++ (c ++ ((codes "{\"type\":"
    ++ ((34 ∷ (l ++ 34 ∷ []))
    ++ (codes ",\"s\":" ++ (d ++ (codes ",\"e\":" ++ (k ++ (codes ",\"data\":" ++ (34 ∷ (t ++ 34 ∷ []))))))))) ++ e))
note_group o c l d k t e = simp append_assoc

-- the object of a note, written in four parts
pub note_whole : (first sub : Bool) (label text : List ℕ) (place : ℕ) (o o1 o2 o3 o4 : List ℕ)
    → o1 ≡ o ++ front first label
    → o2 ≡ o1 ++ (decimal (place + 1) ++ (codes ",\"e\":" ++ (decimal (place + 1) ++ codes ",\"data\":\"")))
    → o3 ≡ o2 ++ escape text → o4 ≡ o3 ++ 34 ∷ ending sub
    → o4 ≡ o ++ (comma first ++ (fields label place place text ++ ending sub))
note_whole first sub label text place o o1 o2 o3 o4 e f g h =
    h
    ∙ ap (λ x. x ++ 34 ∷ ending sub) (g
    ∙ ap (λ x. x ++ escape text) (f
    ∙ ap (λ x. x ++ (decimal (place + 1) ++ (codes ",\"e\":" ++ (decimal (place + 1) ++ codes ",\"data\":\"")))) e))
    ∙ note_group o (comma first) (escape label) (decimal (place + 1)) (decimal (place + 1)) (escape text) (ending sub)
