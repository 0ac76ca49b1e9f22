-- The run of the header, the rows and the last lines, one after the other.
use Rattle.std.proofs.Common.{ℕ, ◌≡◌, ◌+◌, ◌-◌, ◌^◌, ◌≤◌, Bool, true, false, List, [], ◌∷◌, ◌++◌, length}
use Rattle.std.proofs.Common.{Ok, refl, sym, ◌∙◌, ap, subst, arith}
use Rattle.rosie_run.specs.Outputs.{Telling, Texts, Wrote}
use Rattle.rosie_run.specs.Report.{Piece, has, is_stop}
use Rattle.rosie_run.specs.Runs.{Breaks, Runs, Stands}
use Rattle.rosie_run.specs.Sources.{Moment, Span}
use Rattle.rosie_run.specs.Tallies.{added, tally_of}
use Rattle.rosie_run.specs.Where.{InInputs, Nowhere, in_file, in_standard}
use Rattle.rosie_run.specs.declared.ended.Ended.{Ended}
use Rattle.rosie_io.specs.declared.stop.ReadStop.{ReadStop}
use Rattle.rosie_run.specs.declared.tally.Tally.{Tally}
use Rattle.rosie_run.proofs.Inward.{breaks_later}
use Rattle.rosie_run.proofs.Onward.{goes_by, stops_by, up_alone}
use Rattle.rosie_run.proofs.Pieces.{has_one, has_up, stands_end, stands_first, stands_on, stands_stop, tally_append}
use Rattle.rosie_run.proofs.Pieces.{up_all}
use Rattle.rosie_columns_cli.specs.Report.{Tree, header_text, inputs_of, last_text, note, pieces, rows}
use Rattle.rosie_columns_cli.specs.declared.words.Asked.{Asked}

-- where reading stood, after one piece more
inputs_shift : (names : List (List ℕ)) (before : List (List ℕ) → ℕ) (tree : Tree) (whole : Bool)
    (i0 i1 f0 f1 : Moment) (why : ReadStop) (file : List ℕ) (k : ℕ)
    → InInputs names before tree whole i0 i1 f0 f1 why file k
    → InInputs names (λ front. 1 + before front) tree whole i0 i1 f0 f1 why file (1 + k)
inputs_shift names before tree whole i0 i1 f0 f1 why file k (in_file front back n is isn't x e) =
    in_file front back n is isn't x (omega arith)
inputs_shift names before tree whole i0 i1 f0 f1 why file k (in_standard front back n is at none x e) =
    in_standard front back n is at none x (omega arith)

module _ (W : Telling) (a : Asked) (tree : Tree) (i f : Span) where
  abbrev first : Piece
  first = note (header_text a) []

  abbrev between : List Piece
  between = rows a tree i.before.rest (inputs_of a)

  abbrev last : Piece
  last = note [] (last_text a tree i.before.rest)

  abbrev all : List Piece
  all = pieces (Ok a) tree i.before.rest

  -- where reading stood among the rows, and in the whole
  abbrev P : ReadStop → List ℕ → ℕ → Type 0
  P =
      InInputs (inputs_of a) (λ front. length (rows a tree i.before.rest front)) tree false i.before i.after
      f.before f.after

  abbrev Q : ReadStop → List ℕ → ℕ → Type 0
  Q =
      InInputs (inputs_of a) (λ front. 1 + length (rows a tree i.before.rest front)) tree false i.before i.after
      f.before f.after

  nowhere : (n : ℕ) (why : ReadStop) (file : List ℕ) (k : ℕ) → Nowhere why file k → Q why file (n + k)
  nowhere n why file k x = absurd x

  shift : (why : ReadStop) (file : List ℕ) (k : ℕ) → P why file k → Q why file (1 + k)
  shift why file k x =
      inputs_shift (inputs_of a) (λ front. length (rows a tree i.before.rest front)) tree false i.before i.after
      f.before f.after why file k x

  module _ (b d : Texts) (fits : W.counts → b.number ≤ 2 ^ 64 - 1) (text : List ℕ) (is : text ≡ header_text a) where
    begins : Stands W all [] all b b (tally_of [])
    begins = stands_first W all b b (tally_of []) refl fits refl

    pub first_breaks : (e : Ended) → Breaks e W (note text [] ∷ []) Nowhere b d → Breaks e W all Q b d
    first_breaks e h =
        breaks_later W e all [] (first ∷ []) (between ++ last ∷ []) Nowhere Q b b d (tally_of []) begins (nowhere 0)
        (subst (λ x. Breaks e W (note x [] ∷ []) Nowhere b d) is h)

    pub first_done : (t : Tally) → Runs (Ok t) W (note text [] ∷ []) Nowhere b d
        → Stands W all (first ∷ []) (between ++ last ∷ []) b d t
    first_done t h =
        let same = subst (λ x. Runs (Ok t) W (note x [] ∷ []) Nowhere b d) is h in
        stands_on W all [] (first ∷ []) (between ++ last ∷ []) b b d (tally_of []) t begins
        (subst (λ ps. Wrote W ps b d) (up_alone first) same.0) (has_one is_stop first)
        (same.1 ∙ ap tally_of (up_alone first) ∙ tally_append [] (first ∷ []))

  module _ (b d z : Texts) (t : Tally) (s : Stands W all (first ∷ []) (between ++ last ∷ []) b d t) where
    pub rows_break : (e : Ended) → Breaks e W between P d z → Breaks e W all Q b z
    rows_break e h = breaks_later W e all (first ∷ []) between (last ∷ []) P Q b d z t s shift h

    module _ (part t' : Tally) (h : Runs (Ok part) W between P d z) (sums : t' ≡ added t part) where
      none_yet : t.stop ≡ false
      none_yet = ap (λ (x : Tally). x.stop) s.comes_to ∙ s.goes_on

      part_stop : part.stop ≡ has is_stop between
      part_stop = ap (λ (x : Tally). x.stop) h.1 ∙ has_up between

      -- a piece of the rows ends the run
      pub rows_stop : t'.stop ≡ true → Runs (Ok t') W all Q b z
      rows_stop stop =
          let off = stops_by t.stop part.stop none_yet (sym (ap (λ (x : Tally). x.stop) sums) ∙ stop) in
          stands_stop W all (first ∷ []) between (last ∷ []) b d z t t' s (sym part_stop ∙ off) h.0
          (sums ∙ ap (added t) h.1)

      pub rows_goes : t'.stop ≡ false → part.stop ≡ false
      rows_goes goes = goes_by t.stop part.stop none_yet (sym (ap (λ (x : Tally). x.stop) sums) ∙ goes)

      -- or they are passed
      pub rows_done : t'.stop ≡ false → Stands W all (first ∷ between) (last ∷ []) b z t'
      rows_done goes =
          let clear : has is_stop between ≡ false = sym part_stop ∙ rows_goes goes in
          stands_on W all (first ∷ []) between (last ∷ []) b d z t t' s
          (subst (λ ps. Wrote W ps d z) (up_all between clear) h.0) clear
          (sums ∙ ap (added t) (h.1 ∙ ap tally_of (up_all between clear)))

  module _ (b d z : Texts) (t : Tally) (s : Stands W all (first ∷ between) (last ∷ []) b d t) (text : List ℕ)
      (is : text ≡ last_text a tree i.before.rest) where
    pub last_breaks : (e : Ended) → Breaks e W (note [] text ∷ []) Nowhere d z → Breaks e W all Q b z
    last_breaks e h =
        breaks_later W e all (first ∷ between) (last ∷ []) [] Nowhere Q b d z t s (nowhere (length (first ∷ between)))
        (subst (λ x. Breaks e W (note [] x ∷ []) Nowhere d z) is h)

    pub last_done : (part t' : Tally) → Runs (Ok part) W (note [] text ∷ []) Nowhere d z → t' ≡ added t part
        → Runs (Ok t') W all Q b z
    last_done part t' h sums =
        let same = subst (λ x. Runs (Ok part) W (note [] x ∷ []) Nowhere d z) is h in
        stands_end W all (first ∷ between ++ last ∷ []) [] b z t'
        (stands_on W all (first ∷ between) (last ∷ []) [] b d z t t' s
        (subst (λ ps. Wrote W ps d z) (up_alone last) same.0) (has_one is_stop last)
        (sums ∙ ap (added t) (same.1 ∙ ap tally_of (up_alone last)))) refl
