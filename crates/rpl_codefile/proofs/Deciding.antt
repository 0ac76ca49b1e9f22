-- Bytes are a spelling of a code, or of none: what is read of them is tried.
use Rattle.std.proofs.Common.{◌≡◌, ℕ, zero, suc, ◌+◌, ◌<◌, ◌≤◌, ◌^◌, List, [], ◌∷◌, ◌++◌, length, drop, Option, Some}
use Rattle.std.proofs.Common.{None, refl, sym, ap, ◌∙◌, subst, arith, inl, inr, ⊎_elim}
use Rattle.std.proofs.lemmas.Bool.{cases_eq, cases_lt}
use Rattle.std.proofs.lemmas.List.Elements.{All-nil, All-cons, All-head, All-tail}
use Rattle.std.specs.Prelude.{◌⊎◌, Bool, true, false, encode_utf8_all}
use Rattle.std.specs.Int.{w32}
use Rattle.std.specs.List.{All, Contains}
use Rattle.std.specs.Str.{all_scalars}
use Rattle.rpl_text.specs.Options.{◌>>=◌}
use Rattle.regex_class.specs.Ranges.{Range}
use Rattle.rpl_classes.specs.Sets.{IsNormal}
use Rattle.rpl_classes.specs.Norm.{norm}
use Rattle.rpl_classes.proofs.Normal.{norm_normal}
use Rattle.rpl_core.specs.Instr.{Instr}
use Rattle.rpl_core.specs.declared.instr.Instr as R
use Rattle.rpl_core.specs.declared.instr.Instr.TheVariants as V
use Rattle.rpl_intern.specs.Uses.{Keeps, sets_in, labels_in}
use Rattle.rpl_codefile.proofs.Shapes.{Dec, dec_both, dec_iff, list_same}
use Rattle.rpl_codefile.specs.Spelling.{File, FitsFile, FitsSet, FitsText, IsFile, Short, ShortRange, Spells}
use Rattle.rpl_codefile.specs.Spelling.{SpellsNone, says, spelling}
use Rattle.rpl_codefile.specs.inside.Reading.{file_at, instr_at, items_at, number_at, range_at, set_at, text_at}
use Rattle.rpl_codefile.proofs.Again.{c0, c1, c2, c3, c4, c5}
use Rattle.rpl_codefile.proofs.Decides.{no_file, nothing_read_holds, other_spelling_holds}

-- ---- tests

bool_dec : (b : Bool) → Dec (b ≡ true)
bool_dec true = inl refl
bool_dec false = inr (λ e. absurd (cc))

lt_dec : (a b : ℕ) → Dec (a < b)
lt_dec a b = ⊎_elim (λ lt. inl lt) (λ le. inr (λ lt. omega (arith, le, lt))) (cases_lt a b)

le_dec : (a b : ℕ) → Dec (a ≤ b)
le_dec a b = ⊎_elim (λ lt. inr (λ le. omega (arith, le, lt))) (λ le. inl le) (cases_lt b a)

all_dec : {A : Type 0} (P : A → Type 0) → ((x : A) → Dec (P x)) → (xs : List A) → Dec (All P xs)
all_dec P d [] = inl (All-nil P)
all_dec P d (x ∷ xs) =
    dec_iff (λ h. All-cons P x xs h.0 h.1) (λ h. (All-head P x xs h, All-tail P x xs h))
    (dec_both (d x) (all_dec P d xs))

abbrev range_with : ℕ → ℕ → Range
range_with a b = (a, b)

range_same : (x y : Range) → Dec (x ≡ y)
range_same x y = dec_iff to from (dec_both (cases_eq x.0 y.0) (cases_eq x.1 y.1))
  where
    to : (x.0 ≡ y.0) × (x.1 ≡ y.1) → x ≡ y
    to h = ap (λ a. range_with a x.1) h.0 ∙ ap (range_with y.0) h.1

    from : x ≡ y → (x.0 ≡ y.0) × (x.1 ≡ y.1)
    from e = (ap (λ (z : Range). z.0) e, ap (λ (z : Range). z.1) e)

contains_rest : {A : Type 0} (x y : A) (xs : List A) → (x ≡ y → ⊥) → Contains (x ∷ xs) y → Contains xs y
contains_rest x y xs ne (zero, lt, e) = absurd (ne e)
contains_rest x y xs ne (suc k, lt, e) = (k, omega (arith, lt), e)

contains_dec : {A : Type 0} → ((x y : A) → Dec (x ≡ y)) → (xs : List A) (y : A) → Dec (Contains xs y)
contains_dec d [] y = inr (λ h. let lt = h.1 in absurd (omega (arith, lt)))
contains_dec d (x ∷ xs) y = ⊎_elim
    (λ e. inl (0, omega arith, e))
    (λ ne. dec_iff (λ h. let lt = h.1 in (suc h.0, omega (arith, lt), h.2)) (contains_rest x y xs ne)
    (contains_dec d xs y))
    (d x y)

-- uses that a table keeps
keeps_dec : {A : Type 0} → ((x y : A) → Dec (x ≡ y)) → (table xs other : List A) → Dec (Keeps table xs other)
keeps_dec d table [] other = list_same d other table
keeps_dec d table (x ∷ xs) other = ⊎_elim
    (λ c. dec_iff (λ k. inl (c, k)) (λ k. ⊎_elim (λ u. u.1) (λ u. absurd (u.0 c)) k) (keeps_dec d table xs other))
    (λ n. dec_iff (λ k. inr (n, k)) (λ k. ⊎_elim (λ u. absurd (n u.0)) (λ u. u.1) k)
    (keeps_dec d (table ++ x ∷ []) xs other))
    (contains_dec d table x)

short_dec : (i : R.Instr) → Dec (Short i)
short_dec (V.Set n) = lt_dec n (2 ^ 32)
short_dec (V.Choice n) = lt_dec n (2 ^ 32)
short_dec (V.Commit n) = lt_dec n (2 ^ 32)
short_dec (V.BackCommit n) = lt_dec n (2 ^ 32)
short_dec (V.Back n) = lt_dec n (2 ^ 32)
short_dec (V.Meet n) = lt_dec n (2 ^ 32)
short_dec (V.Call n) = lt_dec n (2 ^ 32)
short_dec (V.Open n) = lt_dec n (2 ^ 32)
short_dec (V.Note n) = lt_dec n (2 ^ 32)
short_dec (V.PartialCommit n) = lt_dec n (2 ^ 32)
short_dec (V.Span n) = lt_dec n (2 ^ 32)
short_dec (V.TestSet l k) = dec_both (lt_dec l (2 ^ 32)) (lt_dec k (2 ^ 32))
short_dec _ = inl tt

short_range_dec : (r : Range) → Dec (ShortRange r)
short_range_dec r = dec_both (lt_dec r.0 (2 ^ 32)) (lt_dec r.1 (2 ^ 32))

text_dec : (x : List ℕ) → Dec (FitsText x)
text_dec x = dec_both (bool_dec (all_scalars x)) (lt_dec (length (encode_utf8_all x)) (2 ^ 64))

-- ---- sets that are read are in their one form

read_some : {A B : Type 0} (o : Option A) (f : A → Option B) (y : B) → (o >>= f) ≡ Some y
    → (x : A) × (o ≡ Some x) × (f x ≡ Some y)
read_some None f y e = absurd (cc)
read_some (Some x) f y e = (x, refl, e)

some_one : {A : Type 0} (x y : A) → Some x ≡ Some y → x ≡ y
some_one x y e = cc

abbrev set_rest : ℕ × List ℕ → Option (List Range × List ℕ)
set_rest n = items_at range_at n.0 n.1 >>= λ rs. Some (norm rs.0, rs.1)

set_normal : (bytes : List ℕ) (r : List Range × List ℕ) → set_at bytes ≡ Some r → IsNormal r.0
unfolding set_at
set_normal bytes r e =
    let a = read_some (number_at w32 bytes) set_rest r e in
    let b = read_some (items_at range_at a.0.0 a.0.1) (λ rs. Some (norm rs.0, rs.1)) r a.2 in
    subst (λ (x : List Range × List ℕ). IsNormal x.0) (some_one (norm b.0.0, b.0.1) r b.2) (norm_normal b.0.0)

abbrev item_rest : {X : Type 0} → (List ℕ → Option (X × List ℕ)) → ℕ → X × List ℕ → Option (List X × List ℕ)
item_rest read n first = items_at read n first.1 >>= λ others. Some (first.0 ∷ others.0, others.1)

items_all : {X : Type 0} (read : List ℕ → Option (X × List ℕ)) (P : X → Type 0)
    → ((bytes : List ℕ) (r : X × List ℕ) → read bytes ≡ Some r → P r.0)
    → (n : ℕ) (bytes : List ℕ) (r : List X × List ℕ) → items_at read n bytes ≡ Some r → All P r.0
unfolding items_at
items_all {X} read P h zero bytes r e =
    subst (λ (x : List X × List ℕ). All P x.0) (some_one ([], bytes) r e) (All-nil P)
items_all {X} read P h (suc n) bytes r e =
    let a = read_some (read bytes) (item_rest read n) r e in
    let b = read_some (items_at read n a.0.1) (λ others. Some (a.0.0 ∷ others.0, others.1)) r a.2 in
    subst (λ (x : List X × List ℕ). All P x.0) (some_one (a.0.0 ∷ b.0.0, b.0.1) r b.2)
    (All-cons P a.0.0 b.0.0 (h bytes a.0 a.1) (items_all read P h n a.0.1 b.0 b.1))

file_normal : (bytes : List ℕ) (f : File) → file_at bytes ≡ Some f → All IsNormal f.sets
unfolding file_at
file_normal bytes f e =
    let a = read_some (number_at w32 bytes) c0 f e in
    let b = read_some (items_at set_at a.0.0 a.0.1) c1 f a.2 in
    let c = read_some (number_at w32 b.0.1) (c2 b.0.0) f b.2 in
    let d = read_some (items_at text_at c.0.0 c.0.1) (c3 b.0.0) f c.2 in
    let g = read_some (number_at w32 d.0.1) (c4 b.0.0 d.0.0) f d.2 in
    let h = read_some (items_at instr_at g.0.0 g.0.1) (c5 b.0.0 d.0.0) f g.2 in
    let made : File = record { code = h.0.0; sets = b.0.0; texts = d.0.0 } in
    subst (λ (x : File). All IsNormal x.sets) (some_one made f h.2)
    (items_all set_at IsNormal set_normal a.0.0 a.0.1 b.0 b.1)

-- ---- what is read is a file, or isn't

set_dec : (s : List Range) → IsNormal s → Dec (FitsSet s)
set_dec s normal =
    dec_iff (λ h. record { long = h.0; ranges = h.1; normal = normal }) (λ f. (f.long, f.ranges))
    (dec_both (lt_dec (length s) (2 ^ 32)) (all_dec ShortRange short_range_dec s))

sets_dec : (ss : List (List Range)) → All IsNormal ss → Dec (All FitsSet ss)
sets_dec [] h = inl (All-nil FitsSet)
sets_dec (s ∷ ss) h =
    dec_iff (λ k. All-cons FitsSet s ss k.0 k.1) (λ k. (All-head FitsSet s ss k, All-tail FitsSet s ss k))
    (dec_both (set_dec s (All-head IsNormal s ss h)) (sets_dec ss (All-tail IsNormal s ss h)))

fits_dec : (f : File) → All IsNormal f.sets → Dec (FitsFile f)
fits_dec f normal =
    dec_iff
    (λ h. record {
      sets_few = h.0;
      texts_few = h.1.0;
      code_few = h.1.1.0;
      sets = h.1.1.1.0;
      texts = h.1.1.1.1.0;
      code = h.1.1.1.1.1;
    })
    (λ k. (k.sets_few, (k.texts_few, (k.code_few, (k.sets, (k.texts, k.code))))))
    (dec_both (lt_dec (length f.sets) (2 ^ 32)) (dec_both (lt_dec (length f.texts) (2 ^ 32))
    (dec_both (lt_dec (length f.code) (2 ^ 32)) (dec_both (sets_dec f.sets normal)
    (dec_both (all_dec FitsText text_dec f.texts) (all_dec Short short_dec f.code))))))

file_dec : (f : File) → All IsNormal f.sets → Dec (IsFile f)
file_dec f normal =
    dec_iff
    (λ h. record {
      some = h.0;
      limit = h.1.0;
      in_range = h.1.1.0;
      sets = h.1.1.1.0;
      texts = h.1.1.1.1.0;
      fits = h.1.1.1.1.1;
    })
    (λ k. (k.some, (k.limit, (k.in_range, (k.sets, (k.texts, k.fits))))))
    (dec_both (lt_dec 0 (length f.code)) (dec_both (le_dec (length f.code) 1048576)
    (dec_both (bool_dec _) (dec_both (keeps_dec (list_same range_same) [] (sets_in (says f)) f.sets)
    (dec_both (keeps_dec (list_same cases_eq) [] (labels_in (says f)) f.texts) (fits_dec f normal))))))

-- it is spelled, or nothing is
pub spelled_decided : (bytes : List ℕ) → ((code : List Instr) × Spells code bytes) ⊎ SpellsNone bytes
spelled_decided bytes = by_read (file_at (drop 8 bytes)) refl
  where
    by_file : (f : File) → file_at (drop 8 bytes) ≡ Some f → spelling f ≡ bytes
        → ((code : List Instr) × Spells code bytes) ⊎ SpellsNone bytes
    by_file f e same = ⊎_elim
        (λ is. inl (says f, record { file = f; is_file = is; code_is = refl; bytes_are = sym same }))
        (λ n. inr (no_file bytes f e n))
        (file_dec f (file_normal (drop 8 bytes) f e))

    by_read : (o : Option File) → file_at (drop 8 bytes) ≡ o → ((code : List Instr) × Spells code bytes)
        ⊎ SpellsNone bytes
    by_read None e = inr (nothing_read_holds bytes e)
    by_read (Some f) e =
        ⊎_elim (by_file f e) (λ ne. inr (other_spelling_holds bytes f e ne)) (list_same cases_eq (spelling f) bytes)
