-- Steps of the roots.
use Rattle.std.proofs.Common.{◌≡◌, inl, inr, ℕ, ◌+◌, ◌<◌, ◌≤◌, List, Option, [], ◌∷◌, length, drop, get_or}
use Rattle.std.proofs.Common.{Some, None, sym, ap}
use Rattle.std.proofs.Common.{◌++◌, refl, true, false, ap₂, ◌∙◌, arith}
use Rattle.std.specs.Prelude.{if◌then◌else◌, Ok, Err, is_some, nat_lt, encode_utf8_all}
use Rattle.rosie_io.specs.Opening.{file_of}
use Rattle.rpl_syntax.specs.Modules.{ParsedModule}
use Rattle.rpl_syntax.specs.declared.name.QName.{QName}
use Rattle.rpl_scope.specs.Faults.{Or, ◌>>=◌, IsStop, StopIs, fault, fault_at}
use Rattle.rpl_scope.specs.Imports.{with_prefix}
use Rattle.rpl_scope.specs.Packages.{Module, first_of}
use Rattle.rpl_scope.specs.declared.fault.LoadKind.TheVariants.{Duplicate, RootMissing, TooManyPackages}
use Rattle.rpl_scope.specs.declared.fault.Stop.{Stop}
use Rattle.rpl_scope.proofs.Checking.{front}
use Rattle.rpl_scope.proofs.Stops.{told}
use Rattle.rpl_package.specs.Asking.{IsTold, Outcome, at_once, and_then, in_bytes}
use Rattle.rpl_package.specs.inside.Reading.{IsQuiet}
use Rattle.rpl_package.specs.inside.Stopping.{Comes, MayStop, StopFor}
use Rattle.rpl_names.specs.Loading.{World, Stock, State, own_text, taken_up, walk}
use Rattle.rpl_names.specs.Roots.{top_head, named_root, root_text, with_root, counted, next, asked_root}
use Rattle.rpl_names.specs.Roots.{file_root, read_root, root_at}
use Rattle.rpl_names.specs.declared.roots.Root.{Root}
use Rattle.rpl_names.specs.declared.roots.Root.TheVariants.{File, Given}
use Rattle.rpl_names.specs.declared.stock.Head.{Head}
use Rattle.rpl_package.proofs.Locating.{read_stops}
use Rattle.rpl_package.proofs.Outcomes.{Follows, comes_lead, same, trail, then_follows, there, may}
use Rattle.rpl_package.proofs.Outcomes.{may_before, may_lead}
use Rattle.rpl_package.proofs.Outcomes.{may_then, only_made, told_before, told_lead, told_then}

pub named_free : (w : World) (f : List ℕ) (t : ParsedModule) (q : QName) (s : State)
    → is_some (first_of q.name s.own.prefixes) ≡ false
    → named_root w f t q s ≡ and_then (own_text w (walk w w.most) s.stock (top_head ∷ []) f None q.name t)
    (λ u. at_once (Ok (with_root q.name s.own u)))
named_free w f t q s h =
    ap (λ b. if b then at_once (fault f q.at (Duplicate q.name))
    else and_then (own_text w (walk w w.most) s.stock (top_head ∷ []) f None q.name t)
    (λ u. at_once (Ok (with_root q.name s.own u)))) h

-- a root whose package name is no prefix yet goes on as a text of its own
named_leads : {m : List (List ℕ)} (w : World) (f : List ℕ) (t : ParsedModule) (q : QName) (s : State) (hs :
    List Head) (l : List ℕ)
    → is_some (first_of q.name s.own.prefixes) ≡ false → hs ≡ top_head ∷ [] → l ≡ q.name
    → Follows m m (and_then (own_text w (walk w w.most) s.stock hs f None l t)
    (λ u. at_once (Ok (with_root q.name s.own u)))) (named_root w f t q s)
named_leads w f t q s hs l free held label =
    same _ _ (ap₂ (λ h n. and_then (own_text w (walk w w.most) s.stock h f None n t)
    (λ u. at_once (Ok (with_root q.name s.own u)))) held label ∙ sym (named_free w f t q s free))

pub roomy : {m : List (List ℕ)} (w : World) (f : List ℕ) (t : ParsedModule) (q : QName) (s : State)
    → nat_lt (length s.stock.modules + 1) w.most ≡ true
    → Follows m m (named_root w f t q s) (root_text w f t (Some q) s)
roomy w f t q s h =
    same _ _ (sym (ap (λ b. if b then named_root w f t q s else at_once (fault f q.at TooManyPackages)) h))

pub root_is : {m : List (List ℕ)} (w : World) (f : List ℕ) (t : ParsedModule) (q : QName) (n : Option QName) (s : State)
    → n ≡ Some q → nat_lt (length s.stock.modules + 1) w.most ≡ true
    → Follows m m (named_root w f t q s) (root_text w f t n s)
root_is w f t q n s name h =
    trail _ _ _ (roomy w f t q s h) (same _ _ (ap (λ o. root_text w f t o s) (sym name)))

-- a root for which there is no room stops
pub root_full : {m : List (List ℕ)} (w : World) (f : List ℕ) (t : ParsedModule) (q : QName) (n : Option QName)
    (s : State) (stop : Stop)
    → n ≡ Some q → nat_lt (length s.stock.modules + 1) w.most ≡ false → IsStop stop (fault_at f q.at TooManyPackages)
    → MayStop m m stop (root_text w f t n s)
root_full w f t q n s stop name h is =
    may_lead stop _ _
    (same _ _ (sym (ap (λ o. root_text w f t o s) name
    ∙ ap (λ b. if b then named_root w f t q s else at_once (fault f q.at TooManyPackages)) h)))
    (may stop _ (told _ stop _ is refl))

-- the roots that are left, with the first of them
pub counted_front : (k : ℕ) (rs : List Root) (i : ℕ) (r : Root) → i < length rs → r ≡ get_or rs i r
    → counted k (drop i rs) ≡ (next k r, r) ∷ counted (next k r) (drop (i + 1) rs)
counted_front k rs i r lt h = ap (counted k) (front rs i r lt h)

-- a root that is a file asks for it, so the files tell
pub root_tells : (T : Type 0) (w : World) (p : List ℕ) (s : State) → IsTold T (root_at w p s).asked → T
root_tells T w p s (inl tells) = tells
root_tells T w p s (inr none) = absurd (cc)

-- a file that is there, and is read
pub file_led : {m n : List (List ℕ)} (w : World) (p : List ℕ) (s : State) (bytes : List ℕ) (t : ParsedModule)
    → file_of (encode_utf8_all p) w.tree ≡ Some bytes → w.text p bytes ≡ Ok t
    → n ≡ m ++ encode_utf8_all p ∷ []
    → Follows n m (root_text w p t t.name s) (and_then (asked_root w p) (file_root w p s))
file_led w p s bytes t found read asked =
    trail (root_text w p t t.name s) (read_root w p bytes s) (and_then (asked_root w p) (file_root w p s))
    (then_follows (at_once (w.text p bytes)) t (λ u. root_text w p u u.name s) (there t (w.text p bytes) read))
    (then_follows (asked_root w p) (Some bytes) (file_root w p s) (record { answer = ap Ok found; asked = asked }))

-- one that is there, and is not read
pub file_unread : {m n : List (List ℕ)} (w : World) (p : List ℕ) (s : State) (bytes : List ℕ) (stop : Stop)
    → file_of (encode_utf8_all p) w.tree ≡ Some bytes → StopIs stop (w.text p bytes) → n ≡ m ++ encode_utf8_all p ∷ []
    → MayStop m n stop (root_at w p s)
file_unread w p s bytes stop found is asked =
    may_lead stop _ _
    (then_follows (asked_root w p) (Some bytes) (file_root w p s) (record { answer = ap Ok found; asked = asked }))
    (may_then stop (at_once (w.text p bytes)) (λ u. root_text w p u u.name s) (may stop (w.text p bytes) is))

-- one that is missing
pub file_missing : {m n : List (List ℕ)} (w : World) (p : List ℕ) (s : State) (stop : Stop)
    → file_of (encode_utf8_all p) w.tree ≡ None → IsStop stop (fault_at p 0 RootMissing)
    → n ≡ m ++ encode_utf8_all p ∷ [] → MayStop m n stop (root_at w p s)
file_missing w p s stop none is asked =
    may_lead stop _ _
    (then_follows (asked_root w p) None (file_root w p s) (record { answer = ap Ok none; asked = asked }))
    (may stop _ (told _ stop _ is refl))

-- and one whose read fails
pub file_failed : {m n : List (List ℕ)} (w : World) (p : List ℕ) (s : State) (stop : Stop) → IsQuiet stop
    → StopFor p stop → n ≡ m ++ encode_utf8_all p ∷ [] → MayStop m n stop (root_at w p s)
file_failed w p s stop quiet stops asked =
    may_then stop (asked_root w p) (file_root w p s)
    (record { paths = p ∷ []; asked = asked; stops = read_stops stop (asked_root w p) p [] refl quiet stops })

-- there are no more roots that are given themselves than roots
pub next_few : (k : ℕ) (r : Root) → next k r ≤ k + 1
next_few k (File p) = omega arith
next_few k (Given t) = omega arith

-- a root's own module that is taken up is a prefix
root_taken : (r : Or State) (name : List ℕ) (top : Module) (n : ℕ) (s : Stock)
    → (r >>= λ u. Ok (taken_up u)) ≡ Ok (n, s)
    → (r >>= λ u. Ok (with_root name top u)) ≡ Ok (
      Some n,
      record {
        stock = s;
        own = with_prefix top name (record { since = length top.rules; number = n });
      },
    )
root_taken (Ok u) name top n s h =
    let e : taken_up u ≡ (n, s) = cc in
    ap (λ x. Ok (
      Some x.0,
      record {
        stock = x.1;
        own = with_prefix top name (record { since = length top.rules; number = x.0 });
      },
    )) e
root_taken (Err e) name top n s h = absurd (cc)

module _ (K : Type 0) (w : World) (f : List ℕ) (t : ParsedModule) (q : QName) (s : State) (hs : List Head) (l :
    List ℕ) (free : is_some (first_of q.name s.own.prefixes) ≡ false) (held : hs ≡ top_head ∷ []) (label : l ≡ q.name)
    (told : IsTold K (named_root w f t q s).asked) where
  abbrev own : Outcome State
  own = own_text w (walk w w.most) s.stock hs f None l t

  abbrev up : Outcome (ℕ × Stock)
  up = and_then own (λ u. at_once (Ok (taken_up u)))

  up_told : IsTold K up.asked
  up_told = told_before K own taken_up (told_then K own (λ u. at_once (Ok (with_root q.name s.own u)))
      (told_lead K _ _ (named_leads {m = []} w f t q s hs l free held label) told))

  -- what stops the loading of its own module stops the root
  pub named_stops : {m n : List (List ℕ)} (stop : Stop) → (IsTold K up.asked → MayStop m n stop up)
      → MayStop m n stop (named_root w f t q s)
  named_stops stop h =
      may_lead stop _ _ (named_leads w f t q s hs l free held label)
      (may_then stop own (λ u. at_once (Ok (with_root q.name s.own u))) (may_before stop own taken_up (h up_told)))

  -- and where it is loaded, its package name is a prefix
  pub named_taken : {m n : List (List ℕ)} (j : ℕ) (v : Stock) → (IsTold K up.asked → Comes m n (j, v) up)
      → Comes m n (
        Some j,
        record {
          stock = v;
          own = with_prefix s.own q.name (record { since = length s.own.rules; number = j });
        },
      ) (named_root w f t q s)
  named_taken {m} j v h =
      let c = h up_told in
      let made = and_then own (λ u. at_once (Ok (with_root q.name s.own u))) in
      comes_lead _ made _ (named_leads w f t q s hs l free held label)
      (record {
        answer = root_taken own.answer q.name s.own j v c.answer;
        asked = c.asked
            ∙ ap (λ ps. m ++ in_bytes ps) (only_made own taken_up ∙ sym (only_made own (with_root q.name s.own)));
      })
