-- Lines and tokens worked by hand.
use Rattle.std.specs.Prelude.{◌≡◌, refl, [], ◌∷◌, Some, None, true, false, codes}
use Rattle.rpl_core.specs.Forest.{NoTree, Tree}
use Rattle.rpl_unittest.specs.declared.test.Verb.TheVariants as V
use Rattle.rpl_unittest.specs.Verdicts.{is_met}
use Rattle.rpl_unittest.specs.Comments.{comment_of, reading_of, Name, Qualified, Local, Text, Comma}

plain : comment_of (codes "-- test p accepts \"a\"") ≡ Some (codes " test p accepts \"a\"")
plain = refl

tight : comment_of (codes "\t --test\tp") ≡ Some (codes "test\tp")
tight = refl

no_space : comment_of (codes "-- test") ≡ None
no_space = refl

longer : comment_of (codes "-- tests p") ≡ None
longer = refl

behind_code : comment_of (codes "p = \"a\" -- test p") ≡ None
behind_code = refl

one_dash : comment_of (codes "- test p") ≡ None
one_dash = refl

accepts : reading_of
    (Name (codes "test") ∷ Name (codes "p") ∷ Name (codes "accepts") ∷ Text (codes "a") ∷ Comma ∷ Text [] ∷ []) ≡ Some
    (record { name = codes "p"; verb = V.Accepts; part = None; texts = codes "a" ∷ [] ∷ [] })
accepts = refl

includes : reading_of
    (Name (codes "test") ∷ Local ∷ Name (codes "p") ∷ Name (codes "includes") ∷ Qualified (codes "n.q") ∷ Text
    (codes "ab") ∷ []) ≡ Some (record
    { name = codes "p"; verb = V.Includes; part = Some (codes "n.q"); texts = codes "ab" ∷ [] })
includes = refl

likes : reading_of (Name (codes "test") ∷ Name (codes "p") ∷ Name (codes "likes") ∷ Text (codes "a") ∷ []) ≡ None
likes = refl

no_text : reading_of (Name (codes "test") ∷ Name (codes "p") ∷ Name (codes "accepts") ∷ []) ≡ None
no_text = refl

comma_behind : reading_of
    (Name (codes "test") ∷ Name (codes "p") ∷ Name (codes "accepts") ∷ Text (codes "a") ∷ Comma ∷ []) ≡ None
comma_behind = refl

-- the pattern p over "ab", with a node q below it or without one
whole : is_met V.Accepts [] [] (codes "ab") (Some (Tree (codes "p") 0 2 NoTree NoTree)) ≡ true
whole = refl

short : is_met V.Rejects [] [] (codes "ab") (Some (Tree (codes "p") 0 1 NoTree NoTree)) ≡ true
short = refl

no_match_excludes : is_met V.Excludes [] (codes "q") (codes "ab") None ≡ false
no_match_excludes = refl
