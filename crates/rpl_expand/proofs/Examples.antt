-- The expansion computes.
use Rattle.std.proofs.Common.{◌≡◌, ℕ, List, [], ◌∷◌, Some, None, refl}
use Rattle.std.specs.Prelude.{codes, true, false}
use Rattle.rpl_syntax.specs.declared.name.QName.{QName}
use Rattle.rpl_syntax.specs.declared.expr.Sign.TheVariants as S
use Rattle.rpl_syntax.specs.declared.expr.Mark.TheVariants as M
use Rattle.rpl_syntax.specs.Expression.{Expr, Cons, one}
use Rattle.rpl_syntax.specs.Expression as X
use Rattle.rpl_core.specs.Core.{Core, Set, Seq, Choice, Many, Not, And, Behind, Call, Capture, Note, Start, End}
use Rattle.rpl_core.specs.Core.{NoMore, Then}
use Rattle.rpl_classes.specs.Algebra.{others, widened}
use Rattle.rpl_macro.specs.Casings.{single}
use Rattle.rpl_macro.specs.Kinds.{kind_of}
use Rattle.rpl_macro.specs.declared.casing.Casing.TheVariants.{Plain}
use Rattle.rpl_forms.specs.Sizes.{nodes, deep}
use Rattle.rpl_forms.specs.Forms.{pair, empty, or_nothing, any}
use Rattle.rpl_expand.specs.Expansion.{Scope, core}

abbrev q : List ℕ → QName
q n = record { prefix = None; name = n; at = 0 }

-- The rules 0 and 1 are built in, 2 is `"ab"` under a capture, 3 calls 2, and 4 stands in a block. Each name is 3.
abbrev ab : Core
ab = pair (Set (single 97)) (Set (single 98))

abbrev s : Scope
s = record { rule = λ n. 3; boundary = 0; inners = Some empty ∷ Some empty ∷ Some ab ∷ Some ab ∷ None ∷ [] }

abbrev in_block : Scope
in_block = record { rule = λ n. 4; boundary = 0; inners = s.inners }

abbrev a : Expr
a = X.Text (97 ∷ [])

abbrev A : Core
A = Set (single 97)

-- a text of none, one and several characters
text_none : core Plain s (X.Text []) ≡ Seq NoMore
text_none = refl

text_one : core Plain s a ≡ A
text_one = refl

text_some : core Plain s (X.Text (97 ∷ 98 ∷ [])) ≡ ab
text_some = refl

class : core Plain s (X.Class ((48, 57) ∷ []) false) ≡ Set ((48, 57) ∷ [])
class = refl

class_not : core Plain s (X.Class ((48, 57) ∷ []) true) ≡ Set (others ((48, 57) ∷ []))
class_not = refl

any_one : core Plain s X.Any ≡ Set ((0, 0xd7ff) ∷ (0xe000, 0x10_ffff) ∷ [])
any_one = refl

edges : core Plain s (X.Raw (Cons X.Start (Cons X.End (Cons X.Boundary (one (X.Name (q [])))))))
    ≡ Seq (Then Start (Then End (Then (Call 0) (Then (Call 3) NoMore))))
edges = refl

-- groups of one item, and of more
raw_one : core Plain s (X.Raw (one a)) ≡ A
raw_one = refl

cooked_one : core Plain s (X.Cooked (one a)) ≡ A
cooked_one = refl

raw_more : core Plain s (X.Raw (Cons a (one a))) ≡ pair A A
raw_more = refl

-- ("a" !"a" "a")
spaces : core Plain s (X.Cooked (Cons a (Cons (X.Prefix S.Not a) (one a))))
    ≡ Seq (Then A (Then (Call 0) (Then (Not A) (Then A NoMore))))
spaces = refl

-- a macro isn't a prefix, whatever it is used on
spaces_macro : core Plain s (X.Cooked (Cons (X.Macro (q (codes "none")) (X.Prefix S.Not a)) (one a)))
    ≡ Seq (Then (Not A) (Then (Call 0) (Then A NoMore)))
unfolding kind_of
spaces_macro = refl

both : core Plain s (X.Both a (X.Choice (Cons a (one a)))) ≡ pair (And A) (Choice (Then A (Then A NoMore)))
both = refl

predicates : core Plain s (X.Raw (Cons (X.Prefix S.Ahead a) (one (X.Prefix S.Behind a)))) ≡ pair (And A) (Behind 1 1 A)
predicates = refl

-- {"a"}*, {"a"}+, {"a"}?, {"a"}{1}, {"a"}{0}, {"a"}{1,2}
star : core Plain s (X.Repeat a 0 None) ≡ Many A
star = refl

plus : core Plain s (X.Repeat a 1 None) ≡ pair A (Many A)
plus = refl

optional : core Plain s (X.Repeat a 0 (Some 1)) ≡ Seq (Then (or_nothing A) NoMore)
optional = refl

once : core Plain s (X.Repeat a 1 (Some 1)) ≡ Seq (Then A NoMore)
once = refl

never : core Plain s (X.Repeat a 0 (Some 0)) ≡ Seq NoMore
never = refl

one_or_two : core Plain s (X.Repeat a 1 (Some 2)) ≡ pair A (or_nothing A)
one_or_two = refl

-- the same of ("a")
abbrev t : Core
t = pair (Call 0) A

cooked_star : core Plain s (X.Repeat (X.Cooked (one a)) 0 None) ≡ or_nothing (pair A (Many t))
cooked_star = refl

cooked_plus : core Plain s (X.Repeat (X.Cooked (one a)) 1 None) ≡ pair A (Many t)
cooked_plus = refl

cooked_two : core Plain s (X.Repeat (X.Cooked (one a)) 2 None) ≡ Seq (Then A (Then t (Then (Many t) NoMore)))
cooked_two = refl

cooked_never : core Plain s (X.Repeat (X.Cooked (one a)) 0 (Some 0)) ≡ Seq NoMore
cooked_never = refl

cooked_optional : core Plain s (X.Repeat (X.Cooked (one a)) 0 (Some 1)) ≡ or_nothing (Seq (Then A NoMore))
cooked_optional = refl

cooked_to_two : core Plain s (X.Repeat (X.Cooked (one a)) 0 (Some 2)) ≡ or_nothing (pair A (or_nothing t))
cooked_to_two = refl

cooked_bounds : core Plain s (X.Repeat (X.Cooked (one a)) 2 (Some 3))
    ≡ Seq (Then A (Then t (Then (or_nothing t) NoMore)))
cooked_bounds = refl

marked : core Plain s (X.Marked M.Skip a) ≡ Capture (codes "find.<search>") A
marked = refl

-- macros
search : core Plain s (X.Macro (q (codes "find")) a)
    ≡ pair (Many (pair (Not A) (Set any))) (Capture (codes "find.*") A)
unfolding kind_of
search = refl

search_size : nodes (core Plain s (X.Macro (q (codes "find")) a)) ≡ 8
unfolding kind_of
search_size = refl

search_deep : deep (core Plain s (X.Macro (q (codes "find")) a)) ≡ 5
unfolding kind_of
search_deep = refl

cased : core Plain s (X.Macro (q (codes "ci")) (X.Raw (Cons a (one (X.Name (q []))))))
    ≡ pair (Set (widened (single 97))) (Call 3)
unfolding kind_of
cased = refl

cased_class : core Plain s (X.Macro (q (codes "ci")) (X.Class ((97, 97) ∷ []) true))
    ≡ Set (others (widened ((97, 97) ∷ [])))
unfolding kind_of
cased_class = refl

-- a message keeps its text under `ci`
cased_message : core Plain s (X.Macro (q (codes "ci")) (X.Macro (q (codes "message")) a)) ≡ Note (97 ∷ [])
unfolding kind_of
cased_message = refl

stopped : core Plain s (X.Macro (q (codes "error")) a) ≡ pair (Note (97 ∷ [])) (Call 1)
unfolding kind_of
stopped = refl

-- look-behind: the rule 3 stands for "ab", a rule of a block for its call, and notes are gone
inlines : core Plain s (X.Prefix S.Behind (X.Name (q []))) ≡ Behind 2 2 ab
inlines = refl

inlines_block : core Plain in_block (X.Prefix S.Behind (X.Name (q []))) ≡ Behind 0 0 (Call 4)
inlines_block = refl

inlines_many : core Plain s (X.Prefix S.Behind (X.Repeat a 0 None)) ≡ Behind 0 0 (Many A)
inlines_many = refl

inlines_note : core Plain s (X.Prefix S.Behind (X.Choice (Cons (X.Note (97 ∷ [])) (one (X.Text (97 ∷ 98 ∷ []))))))
    ≡ Behind 0 2 (Choice (Then (Seq NoMore) (Then ab NoMore)))
inlines_note = refl
