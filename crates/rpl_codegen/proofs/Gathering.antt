-- How heads are gathered.
use Rattle.std.proofs.Common.{◌≡◌, ℕ, List, [], ◌++◌, Option, Some, None, refl, sym, ap, ap₂, ◌∙◌, append_assoc, arith}
use Rattle.std.proofs.lemmas.List.{append-nil}
use Rattle.std.proofs.lemmas.Bool.{false≢true}
use Rattle.std.specs.Prelude.{Bool, true, false, ◌||◌, if◌then◌else◌, min, option_map}
use Rattle.regex_class.specs.Ranges.{Range, in_ranges}
use Rattle.regex_class.proofs.RangesLemmas.{in_ranges-append}
use Rattle.rpl_classes.specs.Norm.{norm}
use Rattle.rpl_classes.proofs.Normal.{norm_alike, norm_just}
use Rattle.rpl_core.specs.Head.{both_heads}
use Rattle.rpl_codegen.specs.inside.Sizes.{tried_len}

some_same : (a b : List Range) → Some a ≡ Some b → a ≡ b
some_same a b e = cc

none_some : (s : List Range) → None ≡ Some s → ⊥
none_some s e = cc

-- ranges of one normal form have one with others after them
norm_front : (a b s : List Range) → norm a ≡ norm b → norm (a ++ s) ≡ norm (b ++ s)
norm_front a b s e = norm_alike (a ++ s) (b ++ s) (λ c h.
    in_ranges-append a s c
    ∙ ap (λ x. x || in_ranges s c) (sym (norm_just a c h) ∙ ap (λ l. in_ranges l c) e ∙ norm_just b c h)
    ∙ sym (in_ranges-append b s c))

-- and so have heads
heads_front : (a b h : Option (List Range)) → option_map norm a ≡ option_map norm b
    → option_map norm (both_heads a h) ≡ option_map norm (both_heads b h)
heads_front None None h e = refl
heads_front None (Some b) h e = absurd (none_some (norm b) e)
heads_front (Some a) None h e = absurd (none_some (norm a) (sym e))
heads_front (Some a) (Some b) None e = refl
heads_front (Some a) (Some b) (Some s) e = ap Some (norm_front a b s (some_same (norm a) (norm b) e))

heads_in_turn : (a b c : Option (List Range)) → both_heads (both_heads a b) c ≡ both_heads a (both_heads b c)
heads_in_turn None b c = refl
heads_in_turn (Some a) None c = refl
heads_in_turn (Some a) (Some b) None = refl
heads_in_turn (Some a) (Some b) (Some c) = ap Some (append_assoc a b c)

pub last_head : (h : Option (List Range)) → both_heads h (Some []) ≡ h
last_head None = refl
last_head (Some s) = ap Some (append-nil s)

-- a set more, where each part so far has a head
pub heads_added : (found : Bool) (old mid new s : List Range) (seen h : Option (List Range)) → found ≡ true
    → norm mid ≡ norm old → new ≡ mid ++ s → (if found then Some old else None) ≡ seen → h ≡ Some s
    → option_map norm (if found then Some new else None) ≡ option_map norm (both_heads seen h)
heads_added true old mid new s seen h t m n v e = ap Some (ap norm n ∙ norm_front mid old s m)
    ∙ ap (option_map norm) (ap₂ both_heads v (sym e))
heads_added false old mid new s seen h t m n v e = absurd (false≢true t)

-- a head more, before those of the other parts
pub heads_more : (old new h rest : Option (List Range)) → option_map norm new ≡ option_map norm (both_heads old h)
    → option_map norm (both_heads new rest) ≡ option_map norm (both_heads old (both_heads h rest))
heads_more old new h rest e = heads_front new (both_heads old h) rest e
    ∙ ap (option_map norm) (heads_in_turn old h rest)

-- a size up to the limit, with the instructions around it
pub capped_tried : (h : Option (List Range)) (n m : ℕ) → n ≡ min 1048577 m
    → min 1048577 (tried_len h n) ≡ min 1048577 (tried_len h m)
capped_tried None n m e = omega (arith, e)
capped_tried (Some s) n m e = omega (arith, e)
