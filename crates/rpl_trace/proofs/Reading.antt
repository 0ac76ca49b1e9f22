-- What happened, read from its end, gives the lines of the evaluations.
use Rattle.std.proofs.Common.{◌≡◌, ℕ, ◌+◌, ◌-◌, List, [], ◌∷◌, ◌++◌, reverse, Option, Some, None, Result, Ok, Err, refl}
use Rattle.std.proofs.Common.{sym, ap, subst, ◌∙◌, append_assoc, arith}
use Rattle.std.specs.Prelude.{map, OnOk}
use Rattle.std.specs.Option.{option_map}
use Rattle.std.proofs.lemmas.List.{append-nil}
use Rattle.rpl_text.specs.Places.{index, IsPlace}
use Rattle.rpl_trace.specs.Evaluations.{Kind, Ending, Evaluations, NoneLeft, One, joined}
use Rattle.rpl_trace.specs.Kinds.{kind_seen}
use Rattle.rpl_trace.specs.inside.Seen.{end_seen, EndStands, EventStands, EventsStand}
use Rattle.rpl_trace.specs.inside.Standing.{Standing, Whole, Inside, Broken, add, ended, vanished, after, standing}
use Rattle.rpl_trace.specs.inside.Lines.{Row, rows, depth_in, Fits, rows_of, row_seen, LineStands, LinesStand}
use Rattle.rpl_trace.specs.inside.Lines.{EndsStand, ends_in, rows_in, IsRead, Reads}
use Rattle.rpl_trace.specs.declared.event.End.{End}
use Rattle.rpl_trace.specs.declared.event.Event.{Event}
use Rattle.rpl_trace.specs.declared.event.Event.TheVariants as V
use Rattle.rpl_trace.specs.declared.event.Kind as D
use Rattle.rpl_trace.specs.declared.lines.Line.{Line}
use Rattle.rpl_trace.specs.declared.lines.Backwards.{Backwards}
use Rattle.rpl_trace.proofs.States.{last_first}

rows_joined : (d : ℕ) (f g : Evaluations) → rows d (joined f g) ≡ rows d f ++ rows d g
rows_joined d NoneLeft g = refl
rows_joined d (One k i e f r) g =
    let x : Row = record { depth = d; kind = k; start = i; ending = e } in
    ap (λ y. x ∷ (rows (d + 1) f ++ y)) (rows_joined d r g)
    ∙ ap (λ y. x ∷ y) (sym (append_assoc (rows (d + 1) f) (rows d r) (rows d g)))

fits_add : (s : Standing) (g : Evaluations) (es : List (Option Ending)) → Fits (add s g) es → Fits s es
fits_add (Whole f) g [] h = h
fits_add (Whole f) g (e ∷ es) h = h
fits_add (Inside s k i f) g [] h = h
fits_add (Inside s k i f) g (e ∷ es) h = h
fits_add Broken g es h = h

rows_add : (s : Standing) (g : Evaluations) (es : List (Option Ending)) → Fits s es
    → rows_of (add s g) es ≡ rows_of s es ++ rows (depth_in es) g
rows_add (Whole f) g [] h = rows_joined 0 f g
rows_add (Whole f) g (e ∷ es) h = absurd h
rows_add (Inside s k i f) g [] h = absurd h
rows_add (Inside s k i f) g (None ∷ es) h =
    ap (λ x. rows_of s es ++ x) (rows_joined (depth_in es) f g)
    ∙ sym (append_assoc (rows_of s es) (rows (depth_in es) f) (rows (depth_in es) g))
rows_add (Inside s k i f) g (Some e ∷ es) h =
    let x : Row = record { depth = depth_in es; kind = k; start = i; ending = e } in
    let d = depth_in es + 1 in
    ap (λ y. rows_of s es ++ x ∷ y) (rows_joined d f g) ∙ sym (append_assoc (rows_of s es) (x ∷ rows d f) (rows d g))
rows_add Broken g es h = absurd h

-- an end
ended_fits : (e : Ending) (s : Standing) (es : List (Option Ending)) → Fits (ended e s) es → Fits s (Some e ∷ es)
ended_fits e (Whole f) es h = absurd h
ended_fits e (Inside s k i f) es h = fits_add s (One k i e f NoneLeft) es h
ended_fits e Broken es h = absurd h

ended_rows : (e : Ending) (s : Standing) (es : List (Option Ending)) → Fits (ended e s) es
    → rows_of s (Some e ∷ es) ≡ rows_of (ended e s) es
ended_rows e (Whole f) es h = absurd h
ended_rows e (Inside s k i f) es h =
    let x : Row = record { depth = depth_in es; kind = k; start = i; ending = e } in
    ap (λ y. rows_of s es ++ x ∷ y) (sym (append-nil (rows (depth_in es + 1) f)))
    ∙ sym (rows_add s (One k i e f NoneLeft) es (fits_add s (One k i e f NoneLeft) es h))
ended_rows e Broken es h = absurd h

vanished_fits : (s : Standing) (es : List (Option Ending)) → Fits (vanished s) es → Fits s (None ∷ es)
vanished_fits (Whole f) es h = absurd h
vanished_fits (Inside s k i f) es h = fits_add s f es h
vanished_fits Broken es h = absurd h

vanished_rows : (s : Standing) (es : List (Option Ending)) → Fits (vanished s) es
    → rows_of s (None ∷ es) ≡ rows_of (vanished s) es
vanished_rows (Whole f) es h = absurd h
vanished_rows (Inside s k i f) es h = sym (rows_add s f es (fits_add s f es h))
vanished_rows Broken es h = absurd h

-- ---- one event

abbrev seen_ends : List ℕ → List (Option End) → List (Option Ending)
seen_ends t es = map (option_map (end_seen t)) es

pub reads_end : (t : List ℕ) (s : Standing) (e : End) (old new : Backwards)
    → new.ends.items ≡ old.ends.items ++ Some e ∷ [] → new.lines.items ≡ old.lines.items → new.depth ≡ old.depth + 1
    → IsRead t old → EndStands t e → Fits (after t (V.Ends e) s) (ends_in t old) → Reads t s (V.Ends e) old new
reads_end t s e old new ho hl hd r a h =
    let o : reverse new.ends.items ≡ Some e ∷ reverse old.ends.items = ap reverse ho
    ∙ last_first old.ends.items (Some e) in
    let F : List (Option End) → Type 0 = λ x. Fits s (seen_ends t x) in
    let S : List (Option End) → Type 0 = EndsStand t in
    let L : List Line → Type 0 = λ x. LinesStand t (reverse x) in
    let d = r.depth in
    record {
      fits = subst F (sym o) (ended_fits (end_seen t e) s (ends_in t old) h);
      rows =
          ap (λ x. rows_of s (seen_ends t x) ++ rows_in t new) o
          ∙ ap (λ x. rows_of s (seen_ends t (Some e ∷ reverse old.ends.items)) ++ map (row_seen t) (reverse x)) hl
          ∙ ap (λ x. x ++ rows_in t old) (ended_rows (end_seen t e) s (ends_in t old) h);
      read = record {
        depth = hd ∙ ap (λ x. x + 1) d ∙ ap (λ x. depth_in (seen_ends t x)) (sym o);
        ends = subst S (sym o) (a, r.ends);
        lines = subst L (sym hl) r.lines;
      };
    }

pub reads_vanished : (t : List ℕ) (s : Standing) (old new : Backwards)
    → new.ends.items ≡ old.ends.items ++ None ∷ [] → new.lines.items ≡ old.lines.items → new.depth ≡ old.depth
    → IsRead t old → Fits (after t V.Vanishes s) (ends_in t old) → Reads t s V.Vanishes old new
reads_vanished t s old new ho hl hd r h =
    let o : reverse new.ends.items ≡ None ∷ reverse old.ends.items = ap reverse ho ∙ last_first old.ends.items None in
    let F : List (Option End) → Type 0 = λ x. Fits s (seen_ends t x) in
    let S : List (Option End) → Type 0 = EndsStand t in
    let L : List Line → Type 0 = λ x. LinesStand t (reverse x) in
    record {
      fits = subst F (sym o) (vanished_fits s (ends_in t old) h);
      rows =
          ap (λ x. rows_of s (seen_ends t x) ++ rows_in t new) o
          ∙ ap (λ x. rows_of s (seen_ends t (None ∷ reverse old.ends.items)) ++ map (row_seen t) (reverse x)) hl
          ∙ ap (λ x. x ++ rows_in t old) (vanished_rows s (ends_in t old) h);
      read = record {
        depth = hd ∙ r.depth ∙ ap (λ x. depth_in (seen_ends t x)) (sym o);
        ends = subst S (sym o) r.ends;
        lines = subst L (sym hl) r.lines;
      };
    }

-- where an evaluation begins, its end has been read
pub opened_first : (t : List ℕ) (old : Backwards) (x : Option End) (rest : List (Option End))
    → old.ends.items ≡ rest ++ x ∷ [] → reverse old.ends.items ≡ x ∷ reverse rest
opened_first t old x rest h = ap reverse h ∙ last_first rest x

pub depth_some : (t : List ℕ) (old : Backwards) (e : End) (rest : List (Option End))
    → old.ends.items ≡ rest ++ Some e ∷ [] → IsRead t old → old.depth ≡ depth_in (seen_ends t (reverse rest)) + 1
depth_some t old e rest h r = r.depth ∙ ap (λ x. depth_in (seen_ends t x)) (opened_first t old (Some e) rest h)

pub reads_begin : (t : List ℕ) (s : Standing) (k : D.Kind) (start : ℕ) (e : End) (l : Line) (old new : Backwards)
    → old.ends.items ≡ new.ends.items ++ Some e ∷ [] → new.lines.items ≡ old.lines.items ++ l ∷ []
    → new.depth + 1 ≡ old.depth
    → l ≡ record { depth = new.depth; kind = k; start = start; end = e }
    → IsRead t old → IsPlace t start → Fits (after t (V.Begins k start) s) (ends_in t old)
    → Reads t s (V.Begins k start) old new
reads_begin t s k start e l old new ho hl hd is r a h =
    let o = opened_first t old (Some e) new.ends.items ho in
    let m : reverse new.lines.items ≡ l ∷ reverse old.lines.items = ap reverse hl ∙ last_first old.lines.items l in
    let F : List (Option End) → Type 0 = λ x. Fits (Inside s (kind_seen k) (index t start) NoneLeft) (seen_ends t x) in
    let S : List (Option End) → Type 0 = EndsStand t in
    let L : List Line → Type 0 = LinesStand t in
    let M : Line → Type 0 = LineStands t in
    let es = subst S o r.ends in
    let deep : new.depth ≡ depth_in (ends_in t new) = let d = depth_some t old e new.ends.items ho r in omega arith in
    let row : Row = record {
      depth = depth_in (ends_in t new);
      kind = kind_seen k;
      start = index t start;
      ending = end_seen t e;
    } in
    let same : row_seen t l ≡ row = ap (row_seen t) is
    ∙ ap (λ (x : ℕ). let y : Row = record {
      depth = x;
      kind = kind_seen k;
      start = index t start;
      ending = end_seen t e;
    } in y) deep in
    record {
      fits = subst F o h;
      rows =
          ap (λ x. rows_of s (ends_in t new) ++ map (row_seen t) x) m
          ∙ ap (λ x. rows_of s (ends_in t new) ++ x ∷ rows_in t old) same
          ∙ sym (append_assoc (rows_of s (ends_in t new)) (row ∷ []) (rows_in t old))
          ∙ ap (λ x. rows_of (Inside s (kind_seen k) (index t start) NoneLeft) (seen_ends t x) ++ rows_in t old)
          (sym o);
      read = record {
        depth = deep;
        ends = es.1;
        lines = subst L (sym m) (subst M (sym is) (a, es.0), r.lines);
      };
    }

pub reads_added : {A B : Type 0} (t : List ℕ) (s : Standing) (k : D.Kind) (start : ℕ) (e : End) (old new :
    Backwards) (rest : List (Option End)) (r : Result A B)
    → old.ends.items ≡ rest ++ Some e ∷ [] → new.ends.items ≡ rest → new.depth ≡ old.depth - 1
    → OnOk r (new.lines.items ≡ old.lines.items ++ record {
      depth = old.depth - 1;
      kind = k;
      start = start;
      end = e;
    } ∷ [])
    → IsRead t old → IsPlace t start → Fits (after t (V.Begins k start) s) (ends_in t old)
    → OnOk r (Reads t s (V.Begins k start) old new)
reads_added t s k start e old new rest (Ok x) ho hr hd hl r a h =
    let ends : old.ends.items ≡ new.ends.items ++ Some e ∷ [] = ho ∙ ap (λ y. y ++ Some e ∷ []) (sym hr) in
    let deep = depth_some t old e rest ho r in
    let l : Line = record { depth = old.depth - 1; kind = k; start = start; end = e } in
    reads_begin t s k start e l old new ends hl (omega arith) (ap (λ (x : ℕ). let y : Line =
    record { depth = x; kind = k; start = start; end = e } in y) (sym hd)) r a h
reads_added t s k start e old new rest (Err x) ho hr hd hl r a h = tt

-- one that is none has no line
pub reads_nothing : (t : List ℕ) (s : Standing) (k : D.Kind) (start : ℕ) (old new : Backwards)
    → old.ends.items ≡ new.ends.items ++ None ∷ [] → new.lines.items ≡ old.lines.items → new.depth ≡ old.depth
    → IsRead t old → Fits (after t (V.Begins k start) s) (ends_in t old) → Reads t s (V.Begins k start) old new
reads_nothing t s k start old new ho hl hd r h =
    let o = opened_first t old None new.ends.items ho in
    let F : List (Option End) → Type 0 = λ x. Fits (Inside s (kind_seen k) (index t start) NoneLeft) (seen_ends t x) in
    let S : List (Option End) → Type 0 = EndsStand t in
    let L : List Line → Type 0 = λ x. LinesStand t (reverse x) in
    record {
      fits = subst F o h;
      rows =
          ap (λ x. rows_of s (ends_in t new) ++ map (row_seen t) (reverse x)) hl
          ∙ ap (λ x. x ++ rows_in t old) (sym (append-nil (rows_of s (ends_in t new))))
          ∙ ap (λ x. rows_of (Inside s (kind_seen k) (index t start) NoneLeft) (seen_ends t x) ++ rows_in t old)
          (sym o);
      read = record {
        depth = hd ∙ r.depth ∙ ap (λ x. depth_in (seen_ends t x)) o;
        ends = subst S o r.ends;
        lines = subst L (sym hl) r.lines;
      };
    }

pub none_open : (t : List ℕ) (s : Standing) (k : Kind) (i : ℕ) (old : Backwards) → old.ends.items ≡ []
    → Fits (Inside s k i NoneLeft) (ends_in t old) → ⊥
none_open t s k i old ho h =
    let F : List (Option End) → Type 0 = λ x. Fits (Inside s k i NoneLeft) (seen_ends t (reverse x)) in
    subst F ho h

-- ---- all events

-- the events before those that were read, and the lines of those
pub record Half (t : List ℕ) (f : Evaluations) (events : List Event) (b : Backwards) : Type 0 where
  pub stand : EventsStand t events
  pub fits : Fits (standing t events) (ends_in t b)
  pub rows : rows_of (standing t events) (ends_in t b) ++ rows_in t b ≡ rows 0 f
  pub read : IsRead t b

pub half_begins : (t : List ℕ) (f : Evaluations) (events : List Event) (b : Backwards) → EventsStand t events
    → standing t events ≡ Whole f → ends_in t b ≡ [] → rows_in t b ≡ [] → IsRead t b → Half t f events b
half_begins t f events b st w e r k =
    let F : Standing → List (Option Ending) → Type 0 = λ s es. Fits s es in
    record {
      stand = st;
      fits = subst (λ s. Fits s (ends_in t b)) (sym w) (subst (λ es. Fits (Whole f) es) (sym e) tt);
      rows = ap (λ s. rows_of s (ends_in t b) ++ rows_in t b) w ∙ ap (λ es. rows_of (Whole f) es ++ rows_in t b) e
          ∙ ap (λ xs. rows 0 f ++ xs) r ∙ append-nil (rows 0 f);
      read = k;
    }

pub half_goes_on : (t : List ℕ) (f : Evaluations) (all events : List Event) (x : Event) (b c : Backwards)
    → all ≡ x ∷ events → Half t f all b
    → (IsRead t b → EventStands t x → Fits (after t x (standing t events)) (ends_in t b)
    → Reads t (standing t events) x b c) → Half t f events c
half_goes_on t f all events x b c e h k =
    let P : List Event → Type 0 = λ xs. Half t f xs b in
    let g = subst P e h in
    let r = k g.read g.stand.0 g.fits in
    record { stand = g.stand.1; fits = r.fits; rows = r.rows ∙ g.rows; read = r.read }

no_ends : (es : List (Option Ending)) → Fits (Whole NoneLeft) es → rows_of (Whole NoneLeft) es ≡ []
no_ends [] h = refl
no_ends (e ∷ es) h = absurd h

pub half_ends : (t : List ℕ) (f : Evaluations) (events : List Event) (b : Backwards) → events ≡ [] → Half t f events b
    → rows_in t b ≡ rows 0 f
half_ends t f events b e h =
    let P : List Event → Type 0 = λ xs. Half t f xs b in
    let g = subst P e h in
    ap (λ xs. xs ++ rows_in t b) (sym (no_ends (ends_in t b) g.fits)) ∙ g.rows
