-- Classes by their names.
use Rattle.std.proofs.Common.{◌≡◌, ℕ, zero, suc, List, [], ◌∷◌, Option, Some, None, refl, subst, sym, ap, ◌∙◌, arith}
use Rattle.std.proofs.Common.{inl, inr}
use Rattle.std.specs.Prelude.{Bool, true, false, ◌≢◌, nat_lt, ◌||◌, ◌&&◌, if◌then◌else◌, Result, Ok, Err}
use Rattle.rpl_classes.specs.Faults.{IsNamed}
use Rattle.rpl_classes.specs.declared.fault.SetFault.{SetFault}
use Rattle.rpl_classes.specs.declared.fault.SetFault.TheVariants.{UnknownClass}
use Rattle.std.specs.Str.{bytes_eq}
use Rattle.std.specs.Option.{option_map, option_or}
use Rattle.std.specs.Str.{IsAscii, IsUtf8, chars}
use Rattle.std.specs.Prelude.{encode_utf8_all, IfOk, IfSome}
use Rattle.std.proofs.lemmas.Str.{chars-IsAscii, encodes-IsAscii, encodes-chars}
use Rattle.std.specs.List.{list_all}
use Rattle.std.proofs.lemmas.Str.Ascii.{IsAscii-nil, IsAscii-cons}
use Rattle.rpl_unicode.specs.Named.{members}
use Rattle.rpl_unicode.specs.Faults.{IsClass}
use Rattle.rpl_unicode.specs.declared.fault.ClassFault.TheVariants as U
use Rattle.std.specs.Cmp.Lexicographic.{bytes_decides}
use Rattle.std.proofs.lemmas.Bool.{and_parts, ltb-true, cases_Bool, cases_order, and_right, false_from_ne_true}
use Rattle.std.proofs.lemmas.Bool.Decides.{nat_tests}
use Rattle.rpl_text.specs.Named.{first_named}
use Rattle.regex_class.specs.Ranges.{Range, in_range, in_ranges}
use Rattle.regex_class.proofs.RangesLemmas.{in_range_tells, in_ranges-nil, in_ranges-cons}
use Rattle.rpl_classes.specs.Sets.{is_char, IsNormal, HasJust}
use Rattle.rpl_classes.specs.Algebra.{singles, set_of}
use Rattle.rpl_classes.specs.Classes.{in_class, name_of, class_named, test_named}
use Rattle.rpl_classes.specs.declared.classes.NamedClass.{NamedClass}
use Rattle.rpl_classes.specs.declared.classes.NamedClass.TheVariants.{Alpha, Digit, Alnum, Upper, Lower, Space, Blank}
use Rattle.rpl_classes.specs.declared.classes.NamedClass.TheVariants.{Punct, Xdigit, Cntrl, Graph, Print}
use Rattle.rpl_classes.proofs.Normal.{norm_just, norm_normal, norm_only}

no_name : (ks : List NamedClass) (name : List ℕ) → ((k : NamedClass) → name_of k ≢ name)
    → first_named name_of ks name ≡ None
no_name [] name h = refl
no_name (k ∷ ks) name h =
    let f : bytes_eq (name_of k) name ≡ false =
    false_from_ne_true _ (λ e. h k ((bytes_decides (name_of k) name).0 e)) in
    ap (λ b. if b then Some k else first_named name_of ks name) f ∙ no_name ks name h

pub no_class : (name : List ℕ) → ((k : NamedClass) → name_of k ≢ name) → None ≡ class_named name
unfolding class_named
no_class name h = sym
    (no_name (Alpha ∷ Digit ∷ Alnum ∷ Upper ∷ Lower ∷ Space ∷ Blank ∷ Punct ∷ Xdigit ∷ Cntrl ∷ Graph ∷ Print ∷ []) name
    h)

pub own_name : (k : NamedClass) → class_named (name_of k) ≡ Some k
unfolding class_named
own_name Alpha = refl
own_name Digit = refl
own_name Alnum = refl
own_name Upper = refl
own_name Lower = refl
own_name Space = refl
own_name Blank = refl
own_name Punct = refl
own_name Xdigit = refl
own_name Cntrl = refl
own_name Graph = refl
own_name Print = refl

singles_zero : (p : ℕ → Bool) → singles p 0 ≡ []
unfolding singles
singles_zero p = refl

singles_suc : (p : ℕ → Bool) (n : ℕ) → singles p (suc n) ≡ (if p n then (n, n) ∷ singles p n else singles p n)
unfolding singles
singles_suc p n = refl

below_zero : (c : ℕ) (b : Bool) → false ≡ (nat_lt c 0 && b)
below_zero c b = grind (arith, nat_tests)

with_one : (p : ℕ → Bool) (n c : ℕ) → p n ≡ true → (in_range (n, n) c || (nat_lt c n && p c))
    ≡ (nat_lt c (suc n) && p c)
with_one p n c h = elim (cases_order c n) [
  | inl e ↦ let t : in_range (n, n) c ≡ true = grind (arith, in_range_tells (n, n) c) in
      let l : nat_lt c (suc n) ≡ true = grind (arith, nat_tests) in
      ap (λ b. b || (nat_lt c n && p c)) t ∙ sym (ap (λ b. b && p c) l ∙ ap p e ∙ h)
  | inr d ↦ let f : in_range (n, n) c ≡ false = grind (arith, in_range_tells (n, n) c) in
      let l : nat_lt c n ≡ nat_lt c (suc n) = grind (arith, nat_tests) in
      ap (λ b. b || (nat_lt c n && p c)) f ∙ ap (λ b. b && p c) l
]

without_one : (p : ℕ → Bool) (n c : ℕ) → p n ≡ false → (nat_lt c n && p c) ≡ (nat_lt c (suc n) && p c)
without_one p n c h = elim (cases_order c n) [
  | inl e ↦ let q : p c ≡ false = ap p e ∙ h in and_right (nat_lt c n) (p c) q
      ∙ sym (and_right (nat_lt c (suc n)) (p c) q)
  | inr d ↦ let l : nat_lt c n ≡ nat_lt c (suc n) = grind (arith, nat_tests) in ap (λ b. b && p c) l
]

-- the members of numbers that pass a test
pub singles_members : (p : ℕ → Bool) (n c : ℕ) → in_ranges (singles p n) c ≡ (nat_lt c n && p c)
singles_members p zero c = ap (λ l. in_ranges l c) (singles_zero p) ∙ in_ranges-nil c ∙ below_zero c (p c)
singles_members p (suc n) c = ap (λ l. in_ranges l c) (singles_suc p n) ∙ elim (cases_Bool (p n)) [
  | inl h ↦ ap (λ b. in_ranges (if b then (n, n) ∷ singles p n else singles p n) c) h
      ∙ in_ranges-cons (n, n) (singles p n) c
      ∙ ap (λ b. in_range (n, n) c || b) (singles_members p n c) ∙ with_one p n c h
  | inr h ↦ ap (λ b. in_ranges (if b then (n, n) ∷ singles p n else singles p n) c) h ∙ singles_members p n c
      ∙ without_one p n c h
]

char_low : (c : ℕ) → is_char c ≡ true → nat_lt c 0x11_0000 ≡ true
char_low c h = grind (arith, nat_tests)

-- of the characters those of the numbers that pass a test are the ones that pass it
singles_just : (p : ℕ → Bool) → HasJust (singles p 0x11_0000) p
singles_just p c e = singles_members p 0x11_0000 c ∙ ap (λ b. b && p c) (char_low c e)

-- the set of a test, and the only list that is it
pub set_just : (p : ℕ → Bool) → HasJust (set_of p) p
unfolding set_of
set_just p c e = norm_just (singles p 0x11_0000) c e ∙ singles_just p c e

-- the set of the characters that pass a test is in normal form
pub set_normal : (p : ℕ → Bool) → IsNormal (set_of p)
unfolding set_of
set_normal p = norm_normal (singles p 0x11_0000)

pub set_only : (p : ℕ → Bool) (s : List Range) → IsNormal s → HasJust s p → s ≡ set_of p
unfolding set_of
set_only p s n h = norm_only (singles p 0x11_0000) s n (λ c e. h c e ∙ sym (singles_just p c e))

-- ---- names: a class's own name is ASCII, so it is the same in bytes and in characters

ascii_from : (bs : List ℕ) → list_all (λ b. nat_lt b 128) bs ≡ true → IsAscii bs
ascii_from [] h = IsAscii-nil
ascii_from (b ∷ bs) h = let p = and_parts (nat_lt b 128) (list_all (λ x. nat_lt x 128) bs) h in
    IsAscii-cons b bs (ltb-true b 128 p.0) (ascii_from bs p.1)

ascii_name : (k : NamedClass) → IsAscii (name_of k)
ascii_name Alpha = ascii_from (name_of Alpha) refl
ascii_name Digit = ascii_from (name_of Digit) refl
ascii_name Alnum = ascii_from (name_of Alnum) refl
ascii_name Upper = ascii_from (name_of Upper) refl
ascii_name Lower = ascii_from (name_of Lower) refl
ascii_name Space = ascii_from (name_of Space) refl
ascii_name Blank = ascii_from (name_of Blank) refl
ascii_name Punct = ascii_from (name_of Punct) refl
ascii_name Xdigit = ascii_from (name_of Xdigit) refl
ascii_name Cntrl = ascii_from (name_of Cntrl) refl
ascii_name Graph = ascii_from (name_of Graph) refl
ascii_name Print = ascii_from (name_of Print) refl

pub test_found : (k : NamedClass) (bs : List ℕ) → name_of k ≡ bs → test_named (chars bs) ≡ Some (in_class k)
test_found k bs e =
    let name : class_named (chars bs) ≡ Some k =
    ap class_named (ap chars (sym e) ∙ chars-IsAscii (name_of k) (ascii_name k)) ∙ own_name k in
    ap (λ (o : Option NamedClass). option_or (option_map in_class o) (members (chars bs))) name

pub test_other : (bs : List ℕ) → IsUtf8 bs → ((k : NamedClass) → name_of k ≢ bs)
    → test_named (chars bs) ≡ members (chars bs)
test_other bs u h =
    let name : class_named (chars bs) ≡ None =
    sym (no_class (chars bs) (λ k e. h k (sym (encodes-IsAscii (name_of k) (ascii_name k))
    ∙ (ap encode_utf8_all e ∙ encodes-chars bs u)))) in
    ap (λ (o : Option NamedClass). option_or (option_map in_class o) (members (chars bs))) name

-- ---- what a call answers that looks for a name

pub named_as : (o q : Option (ℕ → Bool)) (r : Result (List Range) SetFault) → q ≡ o → IsNamed (option_map set_of o) r
    → IsNamed (option_map set_of q) r
named_as o q r e h = subst (λ x. IsNamed (option_map set_of x) r) (sym e) h

pub named_test : (p : ℕ → Bool) (q : Option (ℕ → Bool)) (s : List Range) → q ≡ Some p → IsNormal s → HasJust s p
    → IsNamed (option_map set_of q) (Ok s)
named_test p q s e n h = named_as (Some p) q (Ok s) e (set_only p s n h)

pub named_members : (o : Option (ℕ → Bool)) (r : Result (List Range) SetFault) → IsNamed (option_map set_of o) r
    → IfOk r (λ s. IfSome o (HasJust s))
named_members (Some p) (Ok s) h = subst (λ l. HasJust l p) (sym h) (set_just p)
named_members None (Ok s) h = absurd h
named_members (Some p) (Err e) h = tt
named_members None (Err e) h = tt

-- a set that Unicode has a name for
pub class_normal : (o : Option (ℕ → Bool)) (s : List Range) → IsClass o (Ok s) → IsNormal s
class_normal (Some p) s h = h.normal
class_normal None s h = absurd h

pub class_named_so : (o : Option (ℕ → Bool)) (s t : List Range) → t ≡ s → IsClass o (Ok s)
    → IsNamed (option_map set_of o) (Ok t)
class_named_so (Some p) s t e h = e ∙ set_only p s h.normal h.members
class_named_so None s t e h = absurd h

pub class_unknown : (o : Option (ℕ → Bool)) → IsClass o (Err U.UnknownClass)
    → IsNamed (option_map set_of o) (Err (UnknownClass 0))
class_unknown (Some p) h = absurd (cc h)
class_unknown None h = λ _. refl
