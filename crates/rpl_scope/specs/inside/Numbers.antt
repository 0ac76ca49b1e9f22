-- The numbers of names, from 0, as they are looked up: by a hash, and where two names share it by the name.
use Rattle.std.specs.Prelude.{ℕ, ◌≡◌, ◌⊎◌, List, Option, Some, None, String, if◌then◌else◌, slice_get, chars, IsUtf8}
use Rattle.std.specs.BTreeMap.{BTreeMap, get, get_by_text}
use Rattle.std.specs.Hash.FoldHasher.{finish, initial, write}
use Rattle.std.specs.List.{IsDistinct}
use Rattle.std.specs.Map.{keys_of}
use Rattle.std.specs.Ordering.{nat_cmp}
use Rattle.std.specs.Str.{bytes_eq}

abbrev pub hash : List ℕ → ℕ
hash bs = finish (write initial bs)

-- a look-up by the hash of these bytes, or else by themselves, comes to the number i
abbrev pub Finds : {Z : Type 0} → BTreeMap ℕ ℕ → BTreeMap (String Z) ℕ → List ℕ → ℕ → Type 0
Finds hashes others bs i = (get nat_cmp hashes (hash bs) ≡ Some i) ⊎ (get_by_text others bs ≡ Some i)

-- a look-up by the bytes of this name comes to the number i
abbrev pub FindsName : {Z : Type 0} → BTreeMap ℕ ℕ → BTreeMap (String Z) ℕ → List ℕ → ℕ → Type 0
FindsName hashes others n i = (bs : List ℕ) × IsUtf8 bs × (chars bs ≡ n) × Finds hashes others bs i

-- each name's number is found, and no name is there twice
pub record IsNumbered {Z A : Type 0} (pairs : List (List ℕ × A)) (hashes : BTreeMap ℕ ℕ)
    (others : BTreeMap (String Z) ℕ) : Type 0 where
  pub finds : (i : ℕ) (p : List ℕ × A) → slice_get pairs i ≡ Some p → FindsName hashes others p.0 i
  pub apart : IsDistinct bytes_eq (keys_of pairs)

-- what stands in a pair, if it has this name
abbrev pub value_if : {A : Type 0} → List ℕ → Option (List ℕ × A) → Option A
value_if n None = None
value_if n (Some p) = if bytes_eq n p.0 then Some p.1 else None

-- what stands at a number, if it is that of this name
abbrev pub value_at : {A : Type 0} → List ℕ → Option ℕ → List (List ℕ × A) → Option A
value_at n None pairs = None
value_at n (Some i) pairs = value_if n (slice_get pairs i)
