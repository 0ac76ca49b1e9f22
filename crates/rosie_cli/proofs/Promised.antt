-- That a run over allowed lines has no fault.
use Rattle.std.proofs.Common.{ℕ, suc, ◌≡◌, ◌+◌, Bool, true, false, ◌||◌, cond, List, [], ◌∷◌, ◌++◌}
use Rattle.std.proofs.Common.{length, refl, sym, ◌∙◌, ap, subst, arith}
use Rattle.std.specs.Prelude.{Option, Some, None, codes, map, nat_lt}
use Rattle.std.specs.List.{All}
use Rattle.std.specs.Str.{is_utf8}
use Rattle.rosie_io.specs.Lines.{lines}
use Rattle.rosie_io.specs.Opening.{file_of}
use Rattle.rosie_run.specs.Inputs.{is_standard, file_pieces, one_pieces, left_after, inputs_pieces, reads_standard}
use Rattle.rosie_run.specs.Lines.{Makes, line_fault, line_piece, pieces_from, input_pieces}
use Rattle.rosie_run.specs.Report.{Piece, has, is_stop, is_fault, fault_piece, text_piece}
use Rattle.rosie_run.specs.declared.lines.Reading.{Reading}
use Rattle.rosie_run.specs.declared.mark.Mark.{Mark}
use Rattle.rosie_run.proofs.Onward.{lines_none}
use Rattle.rosie_run.proofs.Pieces.{has_nil, has_append, has_up, up_all}
use Rattle.rosie_jobs.specs.Lines.{line_reading}
use Rattle.rosie_jobs.specs.Limits.{IsAllowed}
use Rattle.rosie_jobs.specs.Budgets.{Pays}
use Rattle.rosie_jobs.specs.Makers.{Maker, makes_of}
use Rattle.rosie_jobs.proofs.Allowed.{IsGood, good_made, short_line, text_line}
use Rattle.rosie_suites.proofs.Paid.{suite_clean}
use Rattle.rosie_cli.specs.Plans.{Plan, Says, Writes, Tries, RunsOnInputs, pieces, Samples, Replays, report}
use Rattle.rosie_jobs.specs.SampleCounts.{counts_piece, line_pieces, muted, sample_pieces}
use Rattle.rosie_jobs.specs.SampleLines.{sample}
use Rattle.rosie_jobs.specs.SampleRuns.{Sampled}
use Rattle.rosie_session.proofs.Sessions.{never_stops}
use Rattle.rosie_cli.specs.Promises.{IsPromised}
use Rattle.rosie_cli.specs.Limits.{FileKeepsLimits, KeepsLimits}

-- no piece ends the run, and none has no answer
record Clean (ps : List Piece) : Type 0 where
  stays : has is_stop ps ≡ false
  answers : has is_fault ps ≡ false

good_else : (b : Bool) (p q : Piece) → b ≡ false → IsGood q → IsGood (cond b p q)
good_else b p q e h = subst (λ x. IsGood (cond x p q)) (sym e) h

good_then : (b : Bool) (p q : Piece) → b ≡ true → IsGood p → IsGood (cond b p q)
good_then b p q e h = subst (λ x. IsGood (cond x p q)) (sym e) h

clean_nil : Clean []
clean_nil = record { stays = has_nil is_stop; answers = has_nil is_fault }

clean_cons : (p : Piece) (ps : List Piece) → IsGood p → Clean ps → Clean (p ∷ ps)
unfolding has
clean_cons p ps g h = record {
  stays = ap (λ b. b || has is_stop ps) g.0 ∙ h.stays;
  answers = ap (λ b. b || has is_fault ps) g.1 ∙ h.answers;
}

clean_append : (ps qs : List Piece) → Clean ps → Clean qs → Clean (ps ++ qs)
clean_append ps qs h k = record {
  stays = has_append is_stop ps qs ∙ ap (λ b. b || has is_stop qs) h.stays ∙ k.stays;
  answers = has_append is_fault ps qs ∙ ap (λ b. b || has is_fault qs) h.answers ∙ k.answers;
}

module _ (m : Maker) (due : Pays m) (whole : Bool) where
  abbrev makes : Makes
  makes = makes_of m

  abbrev r : Reading
  r = line_reading whole

  good_line : (file : List ℕ) (n : ℕ) (line : List ℕ) → IsAllowed m line → IsGood (line_piece makes r file n line)
  unfolding line_piece
  good_line file n line a =
      let h = short_line m line a in
      let short : nat_lt 16777216 (length line) ≡ false = grind (arith, h) in
      good_else (nat_lt 16777216 (length line)) (fault_piece (line_fault file n (codes "line too long")))
      (cond (is_utf8 line) (makes file n line) (fault_piece (line_fault file n (codes "not UTF-8")))) short
      (good_then (is_utf8 line) (makes file n line) (fault_piece (line_fault file n (codes "not UTF-8")))
      (text_line m line a) (good_made m due file n line a))

  clean_lines : (file : List ℕ) (n : ℕ) (ls : List (List ℕ)) → All (IsAllowed m) ls
      → Clean (pieces_from makes r file n ls)
  unfolding pieces_from
  clean_lines file n [] a = clean_nil
  clean_lines file n (line ∷ more) a =
      clean_cons (line_piece makes r file (n + 1) line) (pieces_from makes r file (n + 1) more)
      (good_line file (n + 1) line (a 0 line (omega arith)))
      (clean_lines file (n + 1) more (λ k d h. a (suc k) d (omega arith)))

  clean_file : (path : List ℕ) (file : Option (List ℕ)) → FileKeepsLimits m whole file
      → Clean (file_pieces makes r path file)
  clean_file path None h = absurd h
  clean_file path (Some bytes) h = clean_lines path 0 (lines whole bytes) h

  clean_one : (tree : List (List ℕ × List ℕ)) (left name : List ℕ) (b : Bool) → is_standard name ≡ b
      → (b ≡ true → All (IsAllowed m) (lines whole left)) → (b ≡ false → FileKeepsLimits m whole (file_of name tree))
      → Clean (one_pieces makes r tree left name)
  clean_one tree left name true e h k =
      subst (λ x. Clean (cond x (input_pieces makes r name left) (file_pieces makes r name (file_of name tree))))
      (sym e)
      (clean_lines name 0 (lines whole left) (h refl))
  clean_one tree left name false e h k =
      subst (λ x. Clean (cond x (input_pieces makes r name left) (file_pieces makes r name (file_of name tree))))
      (sym e)
      (clean_file name (file_of name tree) (k refl))

  none_allowed : (ls : List (List ℕ)) → ls ≡ [] → All (IsAllowed m) ls
  none_allowed ls e = subst (All (IsAllowed m)) (sym e) (λ k d h. absurd (omega arith))

  left_allowed : (left name : List ℕ) (more : Bool) (b : Bool) → is_standard name ≡ b
      → ((b || more) ≡ true → All (IsAllowed m) (lines whole left)) → more ≡ true
      → All (IsAllowed m) (lines whole (left_after name left))
  left_allowed left name more true e h again =
      none_allowed (lines whole (left_after name left)) (ap (λ x. lines whole (cond x [] left)) e ∙ lines_none whole)
  left_allowed left name more false e h again =
      subst (λ x. All (IsAllowed m) (lines whole (cond x [] left))) (sym e) (h again)

  clean_inputs : (tree : List (List ℕ × List ℕ)) (left : List ℕ) (names : List (List ℕ))
      → (reads_standard names ≡ true → All (IsAllowed m) (lines whole left))
      → ((front back : List (List ℕ)) (name : List ℕ) → names ≡ front ++ name ∷ back → is_standard name ≡ false
      → FileKeepsLimits m whole (file_of name tree))
      → Clean (inputs_pieces makes r tree left names)
  unfolding inputs_pieces
  clean_inputs tree left [] h k = clean_nil
  clean_inputs tree left (name ∷ more) h k =
      let here : (is_standard name || reads_standard more) ≡ true → All (IsAllowed m) (lines whole left) = h in
      clean_append (one_pieces makes r tree left name) (inputs_pieces makes r tree (left_after name left) more)
      (clean_one tree left name (is_standard name) refl (λ e. here (ap (λ b. b || reads_standard more) e))
      (λ e. k [] more name refl e))
      (clean_inputs tree (left_after name left) more
      (left_allowed left name (reads_standard more) (is_standard name) refl here)
      (λ front back n e isn't. k (name ∷ front) back n (ap (λ xs. name ∷ xs) e) isn't))

has_muted : (test : Mark → Bool) (ps : List Piece) → has test (map muted ps) ≡ has test ps
unfolding has
has_muted test [] = refl
has_muted test (p ∷ ps) = ap (λ b. test p.mark || b) (has_muted test ps)

clean_sample : (r : Sampled) → Pays r.maker → All (IsAllowed r.maker) (sample r.seed r.lines)
    → Clean (sample_pieces (makes_of r.maker) r.seed r.lines)
unfolding sample_pieces
clean_sample r due h =
    let all = line_pieces (makes_of r.maker) r.seed r.lines in
    let clean : Clean all = clean_lines r.maker due false (codes "-") 0 (sample r.seed r.lines) h in
    clean_append (map muted all) (counts_piece r.lines all ∷ [])
    (record { stays = has_muted is_stop all ∙ clean.stays; answers = has_muted is_fault all ∙ clean.answers })
    (clean_cons (counts_piece r.lines all) [] (refl, refl) clean_nil)

plan_clean : (plan : Plan) (tree : List (List ℕ × List ℕ)) (input : List ℕ) → IsPromised plan
    → KeepsLimits plan tree input → Clean (pieces plan tree input)
plan_clean (Says ps) tree input due h = record { stays = h.0; answers = h.1 }
plan_clean (Writes bytes) tree input due h = clean_cons (text_piece bytes) [] (refl, refl) clean_nil
plan_clean (Tries b trials) tree input due h =
    let clean = suite_clean b trials due.0 h in record { stays = clean.stays; answers = clean.answers }
plan_clean (RunsOnInputs m whole names) tree input due h =
    clean_inputs m due.0 whole tree input names h.standard h.files
plan_clean (Samples r) tree input due h = clean_sample r due.0 h
plan_clean (Replays w) tree input due h = record { stays = never_stops w input; answers = h }

-- a sound run has neither
pub no_stop : (plan : Plan) (tree : List (List ℕ × List ℕ)) (input : List ℕ) → IsPromised plan
    → KeepsLimits plan tree input → has is_stop (report plan tree input) ≡ false
unfolding report
no_stop plan tree input due h = has_up (pieces plan tree input) ∙ (plan_clean plan tree input due h).stays

pub no_fault : (plan : Plan) (tree : List (List ℕ × List ℕ)) (input : List ℕ) → IsPromised plan
    → KeepsLimits plan tree input → has is_fault (report plan tree input) ≡ false
unfolding report
no_fault plan tree input due h =
    let clean = plan_clean plan tree input due h in
    ap (has is_fault) (up_all (pieces plan tree input) clean.stays) ∙ clean.answers
