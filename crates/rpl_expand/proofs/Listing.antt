-- No name is listed twice, and each character of one comes after the space.
use Rattle.std.proofs.Common.{arith, ◌≡◌, ◌≢◌, ◌<◌, ℕ, List, [], ◌∷◌, ◌++◌, Option, Some, None, refl, sym, ap, subst}
use Rattle.std.specs.Prelude.{Bool, true, false, Result, Ok, Err, map, cond, slice_get}
use Rattle.std.specs.List.{AllByRecursion, flat_map}
use Rattle.std.proofs.lemmas.List.Elements.{All-contains, All-from_recursion}
use Rattle.std.specs.Str.{bytes_eq}
use Rattle.rpl_syntax.specs.declared.name.QName.{QName}
use Rattle.rpl_scope.specs.Bodies.{written}
use Rattle.rpl_scope.specs.Packages.{Module}
use Rattle.rpl_scope.specs.declared.module.Entry.{Entry}
use Rattle.rpl_scope.specs.declared.module.Prefix.{Prefix}
use Rattle.rpl_names.specs.Names.{all_listed, known_in, listed, listed_by, names_of}
use Rattle.rpl_names.specs.Roots.{Packages}
use Rattle.rpl_names.specs.Tables.{boundary_name}
use Rattle.rpl_names.specs.Targets.{resolved}
use Rattle.rpl_names.specs.declared.names.Listed.{Listed}
use Rattle.rpl_names.specs.declared.targets.NameFault.{NameFault}
use Rattle.rpl_names.specs.declared.targets.Target.{Target}
use Rattle.rpl_expand.proofs.Apart.{AllApart, Lacks, NoneOf, apart_append, apart_distinct, keys, lacks_append}
use Rattle.rpl_expand.proofs.Distinct.{AllUnder, set_apart}
use Rattle.rpl_expand.proofs.FullNames.{IsUnbroken, dotted, split}
use Rattle.rpl_expand.proofs.Lists.{all_append}
use Rattle.rpl_expand.proofs.Under.{AreUnder}
use Rattle.rpl_expand.specs.LoadLaws.{NoNameHasASpace, NoNameTwice}

-- names as they are written
abbrev words : List QName → List (List ℕ)
words [] = []
words (q ∷ qs) = written q.prefix q.name ∷ words qs

words_append : (ps qs : List QName) → words (ps ++ qs) ≡ words ps ++ words qs
words_append [] qs = refl
words_append (p ∷ ps) qs = ap (λ ws. written p.prefix p.name ∷ ws) (words_append ps qs)

-- ---- those that are listed are some of those that are known

abbrev named : List Listed → List (List ℕ)
named ls = map (λ l. l.name) ls

module _ (p : Packages) where
  lacks_by : (q : QName) (x : List ℕ) (rest : List Listed) (b : Bool) (r : Result Target NameFault)
      → x ≢ written q.prefix q.name → Lacks (named rest) x → Lacks (named (cond b [] (listed_by p q r) ++ rest)) x
  lacks_by q x rest true r d l = l
  lacks_by q x rest false (Ok t) d l = (d, l)
  lacks_by q x rest false (Err f) d l = l

  listed_lacks : (qs : List QName) (x : List ℕ) → Lacks (words qs) x → Lacks (named (flat_map (listed p) qs)) x
  listed_lacks [] x l = tt
  listed_lacks (q ∷ qs) x l =
      lacks_by q x (flat_map (listed p) qs) (bytes_eq q.name boundary_name) (resolved p None q) l.0
      (listed_lacks qs x l.1)

  apart_by : (q : QName) (rest : List Listed) (b : Bool) (r : Result Target NameFault)
      → Lacks (named rest) (written q.prefix q.name) → AllApart (named rest)
      → AllApart (named (cond b [] (listed_by p q r) ++ rest))
  apart_by q rest true r l a = a
  apart_by q rest false (Ok t) l a = (l, a)
  apart_by q rest false (Err f) l a = a

  listed_apart : (qs : List QName) → AllApart (words qs) → AllApart (named (flat_map (listed p) qs))
  listed_apart [] a = tt
  listed_apart (q ∷ qs) a =
      apart_by q (flat_map (listed p) qs) (bytes_eq q.name boundary_name) (resolved p None q)
      (listed_lacks qs (written q.prefix q.name) a.0) (listed_apart qs a.1)

  -- and what holds of all that are known holds of them
  all_by : (P : List ℕ → Type 0) (q : QName) (rest : List Listed) (b : Bool) (r : Result Target NameFault)
      → P (written q.prefix q.name) → AllByRecursion P (named rest)
      → AllByRecursion P (named (cond b [] (listed_by p q r) ++ rest))
  all_by P q rest true r h a = a
  all_by P q rest false (Ok t) h a = (h, a)
  all_by P q rest false (Err f) h a = a

  listed_all : (P : List ℕ → Type 0) (qs : List QName) → AllByRecursion P (words qs)
      → AllByRecursion P (named (flat_map (listed p) qs))
  listed_all P [] a = tt
  listed_all P (q ∷ qs) a =
      all_by P q (flat_map (listed p) qs) (bytes_eq q.name boundary_name) (resolved p None q) a.0 (listed_all P qs a.1)

-- ---- the names of one module

-- names after a prefix
abbrev under : List ℕ → List (List ℕ) → List (List ℕ)
under p [] = []
under p (n ∷ ns) = (p ++ 46 ∷ n) ∷ under p ns

own_words : (es : List (List ℕ × Entry)) → words (map (λ e. record { prefix = None; name = e.0; at = 0 }) es) ≡ keys es
own_words [] = refl
own_words (e ∷ es) = ap (λ ws. e.0 ∷ ws) (own_words es)

under_words : (p : List ℕ) (es : List (List ℕ × Entry))
    → words (map (λ e. record { prefix = Some p; name = e.0; at = 0 }) es) ≡ under p (keys es)
under_words p [] = refl
under_words p (e ∷ es) = ap (λ ws. (p ++ 46 ∷ e.0) ∷ ws) (under_words p es)

under_lacks : (p n : List ℕ) (ns : List (List ℕ)) → IsUnbroken n → AllByRecursion IsUnbroken ns → Lacks ns n
    → Lacks (under p ns) (p ++ 46 ∷ n)
under_lacks p n [] d ds l = tt
under_lacks p n (m ∷ ns) d ds l =
    (λ e. l.0 (split p p n m d ds.0 e).1, under_lacks p n ns d ds.1 l.1)

under_apart : (p : List ℕ) (ns : List (List ℕ)) → AllByRecursion IsUnbroken ns → AllApart ns → AllApart (under p ns)
under_apart p [] ds a = tt
under_apart p (n ∷ ns) ds a = (under_lacks p n ns ds.0 ds.1 a.0, under_apart p ns ds.1 a.1)

abbrev HasNoSpace : List ℕ → Type 0
HasNoSpace n = AllByRecursion (λ (c : ℕ). 32 < c) n

spaceless : (n : List ℕ) → IsUnbroken n → HasNoSpace n
spaceless [] h = tt
spaceless (c ∷ n) h = (h.1, spaceless n h.2)

own_spaceless : (ns : List (List ℕ)) → AllByRecursion IsUnbroken ns → AllByRecursion HasNoSpace ns
own_spaceless [] h = tt
own_spaceless (n ∷ ns) h = (spaceless n h.0, own_spaceless ns h.1)

joined_spaceless : (p n : List ℕ) → IsUnbroken p → IsUnbroken n → HasNoSpace (p ++ 46 ∷ n)
joined_spaceless [] n h k = (omega arith, spaceless n k)
joined_spaceless (c ∷ p) n h k = (h.1, joined_spaceless p n h.2 k)

under_spaceless : (p : List ℕ) (ns : List (List ℕ)) → IsUnbroken p → AllByRecursion IsUnbroken ns
    → AllByRecursion HasNoSpace (under p ns)
under_spaceless p [] h k = tt
under_spaceless p (n ∷ ns) h k = (joined_spaceless p n h k.0, under_spaceless p ns h k.1)

-- ---- the names of all modules under prefixes

-- x is no name after this prefix
abbrev Avoids : List ℕ → List ℕ → Type 0
Avoids x q = (n : List ℕ) → IsUnbroken n → x ≢ q ++ 46 ∷ n

avoids_under : (x q : List ℕ) (ns : List (List ℕ)) → AllByRecursion IsUnbroken ns → Avoids x q → Lacks (under q ns) x
avoids_under x q [] ds f = tt
avoids_under x q (n ∷ ns) ds f = (f n ds.0, avoids_under x q ns ds.1 f)

-- a name without a dot avoids every prefix
plain_avoids : (x : List ℕ) (qs : List (List ℕ)) → IsUnbroken x → AllByRecursion (Avoids x) qs
plain_avoids x [] d = tt
plain_avoids x (q ∷ qs) d = (λ n e same. dotted q n (subst IsUnbroken same d), plain_avoids x qs d)

-- a name after a prefix avoids all other ones
under_avoids : (p n : List ℕ) (qs : List (List ℕ)) → IsUnbroken n → Lacks qs p
    → AllByRecursion (Avoids (p ++ 46 ∷ n)) qs
under_avoids p n [] d l = tt
under_avoids p n (q ∷ qs) d l = (λ m e same. l.0 (split p q n m d e same).0, under_avoids p n qs d l.1)

module _ (ms : List Module) (all : AllUnder ms) where
  abbrev after : List (List ℕ × Prefix) → List QName
  after es = flat_map (λ e. names_of (Some e.0) (slice_get ms e.1.number)) es

  module_lacks : (x q : List ℕ) (o : Option Module) → ((m : Module) → o ≡ Some m → AreUnder m) → Avoids x q
      → Lacks (words (names_of (Some q) o)) x
  module_lacks x q None f a = tt
  module_lacks x q (Some m) f a =
      subst (λ ws. Lacks ws x) (sym (under_words q m.names)) (avoids_under x q (keys m.names) (f m refl).plain a)

  after_lacks : (x : List ℕ) (es : List (List ℕ × Prefix)) → AllByRecursion (Avoids x) (keys es)
      → Lacks (words (after es)) x
  after_lacks x [] a = tt
  after_lacks x (e ∷ es) a =
      let own = names_of (Some e.0) (slice_get ms e.1.number) in
      subst (λ ws. Lacks ws x) (sym (words_append own (after es)))
      (lacks_append (words own) (words (after es)) x
      (module_lacks x e.0 (slice_get ms e.1.number) (λ m at. all.each e.1.number m at) a.0) (after_lacks x es a.1))

  module_apart : (q : List ℕ) (o : Option Module) → ((m : Module) → o ≡ Some m → AreUnder m)
      → AllApart (words (names_of (Some q) o))
  module_apart q None f = tt
  module_apart q (Some m) f =
      subst AllApart (sym (under_words q m.names)) (under_apart q (keys m.names) (f m refl).plain (f m refl).names)

  under_none : (p : List ℕ) (es : List (List ℕ × Prefix)) (ns : List (List ℕ)) → Lacks (keys es) p
      → AllByRecursion IsUnbroken ns → NoneOf (under p ns) (words (after es))
  under_none p es [] l ds = tt
  under_none p es (n ∷ ns) l ds =
      (after_lacks (p ++ 46 ∷ n) es (under_avoids p n (keys es) ds.0 l), under_none p es ns l ds.1)

  module_none : (p : List ℕ) (es : List (List ℕ × Prefix)) (o : Option Module)
      → ((m : Module) → o ≡ Some m → AreUnder m) → Lacks (keys es) p
      → NoneOf (words (names_of (Some p) o)) (words (after es))
  module_none p es None f l = tt
  module_none p es (Some m) f l =
      subst (λ ws. NoneOf ws (words (after es))) (sym (under_words p m.names))
      (under_none p es (keys m.names) l (f m refl).plain)

  after_apart : (es : List (List ℕ × Prefix)) → AllApart (keys es) → AllApart (words (after es))
  after_apart [] a = tt
  after_apart (e ∷ es) a =
      let i = e.1.number in
      let own = names_of (Some e.0) (slice_get ms i) in
      let f : (m : Module) → slice_get ms i ≡ Some m → AreUnder m = λ m at. all.each i m at in
      subst AllApart (sym (words_append own (after es)))
      (apart_append (words own) (words (after es)) (module_apart e.0 (slice_get ms i) f) (after_apart es a.1)
      (module_none e.0 es (slice_get ms i) f a.0))

  own_none : (es : List (List ℕ × Prefix)) (ns : List (List ℕ)) → AllByRecursion IsUnbroken ns
      → NoneOf ns (words (after es))
  own_none es [] ds = tt
  own_none es (n ∷ ns) ds = (after_lacks n es (plain_avoids n (keys es) ds.0), own_none es ns ds.1)

  -- ---- all that the top module knows

  known_apart : (m : Module) → AreUnder m → AllApart (words (known_in ms (Some m)))
  known_apart m h =
      subst AllApart (sym (words_append (names_of None (Some m)) (after m.prefixes)))
      (subst (λ ws. AllApart (ws ++ words (after m.prefixes))) (sym (own_words m.names))
      (apart_append (keys m.names) (words (after m.prefixes)) h.names (after_apart m.prefixes h.prefixes)
      (own_none m.prefixes (keys m.names) h.plain)))

  -- ---- and none of them has a space

  module_spaceless : (q : List ℕ) (o : Option Module) → ((m : Module) → o ≡ Some m → AreUnder m) → IsUnbroken q
      → AllByRecursion HasNoSpace (words (names_of (Some q) o))
  module_spaceless q None f h = tt
  module_spaceless q (Some m) f h =
      subst (AllByRecursion HasNoSpace) (sym (under_words q m.names))
      (under_spaceless q (keys m.names) h (f m refl).plain)

  after_spaceless : (es : List (List ℕ × Prefix)) → AllByRecursion IsUnbroken (keys es)
      → AllByRecursion HasNoSpace (words (after es))
  after_spaceless [] h = tt
  after_spaceless (e ∷ es) h =
      let own = names_of (Some e.0) (slice_get ms e.1.number) in
      subst (AllByRecursion HasNoSpace) (sym (words_append own (after es)))
      (all_append HasNoSpace (words own) (words (after es))
      (module_spaceless e.0 (slice_get ms e.1.number) (λ m at. all.each e.1.number m at) h.0) (after_spaceless es h.1))

  known_spaceless : (m : Module) → AreUnder m → AllByRecursion HasNoSpace (words (known_in ms (Some m)))
  known_spaceless m h =
      subst (AllByRecursion HasNoSpace) (sym (words_append (names_of None (Some m)) (after m.prefixes)))
      (subst (λ ws. AllByRecursion HasNoSpace (ws ++ words (after m.prefixes))) (sym (own_words m.names))
      (all_append HasNoSpace (keys m.names) (words (after m.prefixes)) (own_spaceless (keys m.names) h.plain)
      (after_spaceless m.prefixes h.clear)))

pub no_name_has_a_space : NoNameHasASpace
no_name_has_a_space p b n c stands has =
    let h = set_apart p b in
    let ms = p.stock.modules in
    let all = h.apart.under in
    let known = known_spaceless ms all h.top.home (all.each p.top h.top.home h.top.at) in
    let names = listed_all p HasNoSpace (known_in ms (slice_get ms p.top))
    (subst (λ o. AllByRecursion HasNoSpace (words (known_in ms o))) (sym h.top.at) known) in
    let here = All-contains HasNoSpace (named (all_listed p)) n
    (All-from_recursion HasNoSpace (named (all_listed p)) names) stands in
    All-contains (λ (x : ℕ). 32 < x) n c (All-from_recursion (λ (x : ℕ). 32 < x) n here) has

pub no_name_twice : NoNameTwice
no_name_twice p b =
    let h = set_apart p b in
    let ms = p.stock.modules in
    let all = h.apart.under in
    let known = known_apart ms all h.top.home (all.each p.top h.top.home h.top.at) in
    apart_distinct (named (all_listed p))
    (listed_apart p (known_in ms (slice_get ms p.top))
    (subst (λ o. AllApart (words (known_in ms o))) (sym h.top.at) known))
