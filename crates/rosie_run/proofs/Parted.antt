-- A text that is written in parts.
use Rattle.std.proofs.Common.{ℕ, zero, suc, ◌≡◌, ◌+◌, ◌<◌, ◌≤◌, Bool, false, true, ◌||◌, List, [], ◌∷◌, ◌++◌, length}
use Rattle.std.proofs.Common.{take, drop, length-append, length-drop, refl, sym, ◌∙◌, ap, subst, arith}
use Rattle.rosie_io.specs.Counts.{capped}
use Rattle.rosie_run.specs.Going.{GivesPiece, NeverReads, StoodAt}
use Rattle.rosie_run.specs.Outputs.{Fronts, IsFront, Telling, Texts, Wrote}
use Rattle.rosie_run.specs.Parts.{IsParted, part_bytes, whole_of}
use Rattle.rosie_run.specs.Report.{Piece, costs, errs, has, is_fault, is_hit, is_stop, outs, text_piece, up_to_stop}
use Rattle.rosie_run.specs.Runs.{Breaks}
use Rattle.rosie_run.specs.Tallies.{counted, tally_of}
use Rattle.rosie_run.specs.Where.{Nowhere}
use Rattle.rosie_run.specs.declared.ended.Ended.{Ended}
use Rattle.rosie_run.specs.declared.ended.Ended.TheVariants as E
use Rattle.rosie_run.specs.declared.mark.Mark.TheVariants.{Hit}
use Rattle.rosie_run.specs.declared.tally.Tally.{Tally}
use Rattle.rosie_run.proofs.Onward.{up_alone}
use Rattle.rosie_run.proofs.Pieces.{costs_one, errs_one, has_one, outs_one, up_all}
use Rattle.std.proofs.Math.Bool.{or-false}
use Rattle.std.proofs.lemmas.List.{append-nil, take-append-drop}

-- a part and the rest of its text
pub whole_is : (part rest : List ℕ) → whole_of part rest ≡ part ++ rest
whole_is part [] = sym (append-nil part)
whole_is part (byte ∷ more) = refl

-- each text has its parts
pub parted : (n : ℕ) (text : List ℕ) → length text ≤ n → (ps : List Piece) × IsParted text ps
parted n [] h = ([], refl)
parted zero (x ∷ xs) h = absurd (omega arith)
parted (suc n) (x ∷ xs) h =
    let more = parted n (drop part_bytes (x ∷ xs)) (omega (arith, length-drop part_bytes (x ∷ xs))) in
    (text_piece (take part_bytes (x ∷ xs)) ∷ more.0, (omega arith, refl, more.1))

-- a part that is full, or the last one, is the front of the text
cut_is : (n : ℕ) (part rest : List ℕ) → length part ≤ n → (length part < n → rest ≡ [])
    → (take n (part ++ rest) ≡ part) × (drop n (part ++ rest) ≡ rest)
cut_is zero [] rest fits full = (refl, refl)
cut_is (suc n) [] rest fits full = let e = full (omega arith) in (ap (take (suc n)) e, ap (drop (suc n)) e ∙ sym e)
cut_is zero (x ∷ xs) rest fits full = absurd (omega arith)
cut_is (suc n) (x ∷ xs) rest fits full =
    let h = cut_is n xs rest (omega arith) (λ l. full (omega arith)) in (ap (λ ys. x ∷ ys) h.0, h.1)

module _ (part rest old : List ℕ) (split : part ++ rest ≡ old) (fits : length part ≤ part_bytes) (full :
    length part < part_bytes → rest ≡ []) where
  pub gives_part : (ps : List Piece) (n : ℕ) → IsParted old ps → 0 < length part
      → GivesPiece ps (IsParted rest) Hit part [] n n
  gives_part [] n h some =
      let l = ap length split in let z = ap length h in absurd (omega (arith, length-append part rest))
  gives_part (p ∷ ps) n h some =
      let c = cut_is part_bytes part rest fits full in
      let front : part ≡ take part_bytes old = sym c.0 ∙ ap (take part_bytes) split in
      let back : drop part_bytes old ≡ rest = ap (drop part_bytes) (sym split) ∙ c.1 in
      let is : text_piece part ≡ p = ap text_piece front ∙ sym h.1 in record {
        piece = p;
        more = ps;
        is = refl;
        made = record {
          marks = ap (λ (q : Piece). q.mark) is;
          writes = ap (λ (q : Piece). q.out) is;
          tells = ap (λ (q : Piece). q.err) is;
        };
        steps = let e = ap (λ (q : Piece). q.cost) is in omega arith;
        comes = subst (λ text. IsParted text ps) back h.2;
      }

  pub gives_none : (ps : List Piece) → IsParted old ps → length part ≡ 0 → ps ≡ []
  gives_none [] h none = refl
  gives_none (p ∷ ps) h none =
      let some = h.0 in let l = ap length split in
      let e = ap length (full (omega arith)) in absurd (omega (arith, length-append part rest))

-- no part ends the run, and none is a fault
parted_goes : (text : List ℕ) (ps : List Piece) → IsParted text ps → has is_stop ps ≡ false
unfolding has
parted_goes text [] h = refl
parted_goes text (p ∷ ps) h =
    ap (λ (q : Piece). is_stop q.mark || has is_stop ps) h.1 ∙ parted_goes (drop part_bytes text) ps h.2

parted_well : (text : List ℕ) (ps : List Piece) → IsParted text ps → has is_fault ps ≡ false
unfolding has
parted_well text [] h = refl
parted_well text (p ∷ ps) h =
    ap (λ (q : Piece). is_fault q.mark || has is_fault ps) h.1 ∙ parted_well (drop part_bytes text) ps h.2

-- together they are the text
parted_outs : (text : List ℕ) (ps : List Piece) → IsParted text ps → outs ps ≡ text
unfolding outs
parted_outs text [] h = sym h
parted_outs text (p ∷ ps) h =
    ap (λ (q : Piece). q.out ++ outs ps) h.1
    ∙ ap (λ xs. take part_bytes text ++ xs) (parted_outs (drop part_bytes text) ps h.2)
    ∙ take-append-drop part_bytes text

parted_errs : (text : List ℕ) (ps : List Piece) → IsParted text ps → errs ps ≡ []
unfolding errs
parted_errs text [] h = refl
parted_errs text (p ∷ ps) h =
    ap (λ (q : Piece). q.err ++ errs ps) h.1 ∙ parted_errs (drop part_bytes text) ps h.2

parted_costs : (text : List ℕ) (ps : List Piece) → IsParted text ps → costs ps ≡ 0
unfolding costs
parted_costs text [] h = refl
parted_costs text (p ∷ ps) h =
    let e = ap (λ (q : Piece). q.cost) h.1 in let more = parted_costs (drop part_bytes text) ps h.2 in omega arith

tallied : Bool → Bool → Bool → Tally
tallied s f h = record { stop = s; fault = f; hit = h }

same_tally : (s s' f f' h h' : Bool) → s ≡ s' → f ≡ f' → h ≡ h' → tallied s f h ≡ tallied s' f' h'
same_tally s s' f f' h h' a b d = ap (λ x. tallied x f h) a ∙ ap (λ x. tallied s' x h) b ∙ ap (λ x. tallied s' f' x) d

or_true : (b : Bool) → (b || true) ≡ true
or_true true = refl
or_true false = refl

pub text_tally : (text : List ℕ) (ps : List Piece) → IsParted text ps → (t t' : Tally) → t ≡ tally_of (up_to_stop ps)
    → t' ≡ counted t Hit → t' ≡ tally_of (up_to_stop (text_piece text ∷ []))
unfolding tallied
text_tally text ps parts t t' is sums =
    let up = up_all ps (parted_goes text ps parts) in let alone = up_alone (text_piece text) in
    sums ∙ ap (λ x. counted x Hit) is
    ∙ same_tally _ _ _ _ _ _
    (or-false (has is_stop (up_to_stop ps)) ∙ ap (has is_stop) up ∙ parted_goes text ps parts
    ∙ sym (ap (has is_stop) alone ∙ has_one is_stop (text_piece text)))
    (or-false (has is_fault (up_to_stop ps)) ∙ ap (has is_fault) up ∙ parted_well text ps parts
    ∙ sym (ap (has is_fault) alone ∙ has_one is_fault (text_piece text)))
    (or_true (has is_hit (up_to_stop ps)) ∙ sym (ap (has is_hit) alone ∙ has_one is_hit (text_piece text)))

module _ (W : Telling) (text : List ℕ) (ps : List Piece) (parts : IsParted text ps) (a b : Texts) where
  abbrev one : List Piece
  one = text_piece text ∷ []

  same_outs : outs (up_to_stop ps) ≡ outs (up_to_stop one)
  same_outs = ap outs (up_all ps (parted_goes text ps parts)) ∙ parted_outs text ps parts
      ∙ sym (ap outs (up_alone (text_piece text)) ∙ outs_one (text_piece text))

  same_errs : errs (up_to_stop ps) ≡ errs (up_to_stop one)
  same_errs = ap errs (up_all ps (parted_goes text ps parts)) ∙ parted_errs text ps parts
      ∙ sym (ap errs (up_alone (text_piece text)) ∙ errs_one (text_piece text))

  same_costs : costs (up_to_stop ps) ≡ costs (up_to_stop one)
  same_costs = ap costs (up_all ps (parted_goes text ps parts)) ∙ parted_costs text ps parts
      ∙ sym (ap costs (up_alone (text_piece text)) ∙ costs_one (text_piece text))

  -- where the parts are written, the text is
  pub text_wrote : Wrote W (up_to_stop ps) a b → Wrote W (up_to_stop one) a b
  text_wrote h = record {
    out = λ t. h.out t ∙ ap (λ xs. a.out ++ xs) same_outs;
    err = λ t. h.err t ∙ ap (λ xs. a.err ++ xs) same_errs;
    number = λ t. h.number t ∙ ap (λ xs. capped (a.number + length xs)) same_outs;
    steps = h.steps ∙ ap (λ k. a.steps + k) same_costs;
  }

  text_fronts : Fronts W (up_to_stop ps) a b → Fronts W (up_to_stop one) a b
  text_fronts h = record {
    out = λ t. subst (IsFront a.out b.out) same_outs (h.out t);
    err = λ t. subst (IsFront a.err b.err) same_errs (h.err t);
  }

  pub text_breaks : (e : Ended) (name : List ℕ) → Breaks e W ps (StoodAt (λ how k. NeverReads how) name) a b
      → Breaks e W one Nowhere a b
  text_breaks E.NoMemory name h = text_fronts h
  text_breaks E.WriteFault name h = text_fronts h
  text_breaks (E.Cut why line) name h = absurd h.stood.1
