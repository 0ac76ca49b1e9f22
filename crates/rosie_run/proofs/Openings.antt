-- Which paths several steps ask to be opened, one after the other.
use Rattle.std.proofs.Common.{◌≡◌, ◌++◌, ◌∷◌, ℕ, List, [], ap, arith, refl, sym, subst, ◌∙◌}
use Rattle.std.proofs.lemmas.List.{append_assoc}
use Rattle.std.proofs.lemmas.List.Elements.{Contains-append_left, Contains-append_right}
use Rattle.std.specs.List.{Contains}
use Rattle.std.specs.Prelude.{Result, Ok, Err, encode_utf8_all}
use Rattle.rosie_run.specs.Unready.{AskedFor, AskedTill, HasAsked}
use Rattle.rosie_run.specs.declared.unready.Unready.{Unready}
use Rattle.rosie_run.specs.declared.unready.Unready.TheVariants.{NoMemory, Refused, ReadFault}

-- a path whose read failed is one of those that are to be asked for
pub was_asked : (path : List ℕ) (all ps : List (List ℕ)) → AskedTill (ReadFault path) all ps
    → Contains all (encode_utf8_all path)
was_asked path all ps (front, more, last, split) =
    let p = encode_utf8_all path in
    subst (λ xs. Contains xs p) (sym split)
    (Contains-append_left ps more p
    (subst (λ xs. Contains xs p) (sym last) (Contains-append_right front (p ∷ []) p (0, omega arith, refl))))

till_after : (u : Unready) (first all ps : List (List ℕ)) → AskedTill u all ps
    → AskedTill u (first ++ all) (first ++ ps)
till_after NoMemory first all ps (rest, split) =
    (rest, ap (λ xs. first ++ xs) split ∙ sym (append_assoc first ps rest))
till_after (Refused line) first all ps is = ap (λ xs. first ++ xs) is
till_after (ReadFault path) first all ps (front, rest, last, split) = (
  first ++ front,
  rest,
  ap (λ xs. first ++ xs) last ∙ sym (append_assoc first front (encode_utf8_all path ∷ [])),
  ap (λ xs. first ++ xs) split ∙ sym (append_assoc first ps rest),
)

for_after : {X : Type 0} (r : Result X Unready) (first all ps : List (List ℕ)) → AskedFor r all ps
    → AskedFor r (first ++ all) (first ++ ps)
for_after (Ok x) first all ps is = ap (λ xs. first ++ xs) is
for_after (Err u) first all ps till = till_after u first all ps till

-- a step that follows one that asked for `first`
pub asked_after : {X : Type 0} (before mid now first all : List (List ℕ)) (r : Result X Unready)
    → mid ≡ before ++ first → HasAsked mid now r all → HasAsked before now r (first ++ all)
asked_after before mid now first all r made (ps, is, for) = (
  first ++ ps,
  is ∙ ap (λ xs. xs ++ ps) made ∙ append_assoc before first ps,
  for_after r first all ps for,
)
