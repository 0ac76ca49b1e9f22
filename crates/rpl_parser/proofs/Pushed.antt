-- What one more rule stands for.
use Rattle.std.proofs.Common.{◌≡◌, List, [], ◌∷◌, ◌++◌, Some, refl, sym, ap, ◌∙◌}
use Rattle.rpl_syntax.specs.Modules.{Rule, Entry, One, Block, rule_of, rules_of, entry_of, entries_of}
use Rattle.rpl_syntax.specs.declared.module.Binding.{Binding}
use Rattle.rpl_syntax.specs.declared.module.Item.{Item}
use Rattle.rpl_parser.specs.Walks.{Walk, ruled, shut}
use Rattle.rpl_parser.specs.inside.Walked.{inside}
use Rattle.rpl_parser.specs.declared.walk.Stage.TheVariants.{Ruled}

rules_more : (bs : List Binding) (b : Binding) → rules_of (bs ++ b ∷ []) ≡ rules_of bs ++ rule_of b ∷ []
rules_more [] b = refl
rules_more (c ∷ bs) b = ap (λ x. rule_of c ∷ x) (rules_more bs b)

pub rules_pushed : (new old : List Binding) (b : Binding) → new ≡ old ++ b ∷ []
    → rules_of new ≡ rules_of old ++ rule_of b ∷ []
rules_pushed new old b e = ap rules_of e ∙ rules_more old b

entries_more : (is : List Item) (i : Item) → entries_of (is ++ i ∷ []) ≡ entries_of is ++ entry_of i ∷ []
entries_more [] i = refl
entries_more (j ∷ is) i = ap (λ x. entry_of j ∷ x) (entries_more is i)

pub items_pushed : (new old : List Item) (i : Item) → new ≡ old ++ i ∷ []
    → entries_of new ≡ entries_of old ++ entry_of i ∷ []
items_pushed new old i e = ap entries_of e ∙ entries_more old i

pub inside_is : (w : Walk) (r : Rule) (rs : List Rule) → rs ≡ w.rules ++ r ∷ []
    → Some (inside w r) ≡ Some (record w { rules = rs })
inside_is w r rs e = ap (λ x. Some (record w { rules = x })) (sym e)

pub ruled_is : (w : Walk) (r : Rule) (is : List Entry) → is ≡ w.items ++ One r ∷ []
    → Some (ruled w r) ≡ Some (record w { stage = Ruled; items = is })
ruled_is w r is e = ap (λ x. Some (record w { stage = Ruled; items = x })) (sym e)

pub shut_is : (w : Walk) (is : List Entry) (hs rs : List Rule) → is ≡ w.items ++ Block w.hidden w.rules ∷ [] → hs ≡ []
    → rs ≡ [] → Some (shut w) ≡ Some (record w { stage = Ruled; items = is; hidden = hs; rules = rs })
shut_is w is hs rs e h k =
    ap (λ x. Some (record w { stage = Ruled; items = x; hidden = []; rules = [] })) (sym e)
    ∙ (ap (λ x. Some (record w { stage = Ruled; items = is; hidden = x; rules = [] })) (sym h)
    ∙ ap (λ x. Some (record w { stage = Ruled; items = is; hidden = hs; rules = x })) (sym k))
