-- One induction on the core: its fragment has what it needs, where the rules that it calls begin as their frames do.
use Rattle.std.proofs.Common.{◌≡◌, ℕ, suc, ◌+◌, ◌-◌, List, [], ◌∷◌, ◌++◌, length, Option, Some, None, refl, ap, subst}
use Rattle.std.proofs.Common.{arith, length-append}
use Rattle.std.proofs.lemmas.Bool.{eq-eqb, or_left, or_right}
use Rattle.std.specs.Prelude.{◌≢◌, true, false}
use Rattle.regex_class.specs.Ranges.{Range}
use Rattle.rpl_core.specs.Core.{Core, Set, Seq, Choice, Many, Not, And, Behind, Call, Capture, Note, Start, End, Halt}
use Rattle.rpl_core.specs.Core.{Cores, NoMore, Then}
use Rattle.rpl_core.specs.Head.{head, lone_set}
use Rattle.rpl_core.specs.Instr.{Instr}
use Rattle.rpl_core.specs.Instr as I
use Rattle.rpl_core.specs.Code.{Placed, choice_code, tested_choice, many_code, not_code, code, code_all, code_first}
use Rattle.rpl_core.specs.Programs.{calls, calls_any}
use Rattle.rpl_safe.specs.Safe.{Shape, Shapes, fresh}
use Rattle.rpl_safe.proofs.Standing.{Stands, stands_front, stands_back, each_append}
use Rattle.rpl_safe.proofs.Shaping.{Shaped, pushed, choice_shapes, tested_shapes, many_shapes, not_shapes, shapes_of}
use Rattle.rpl_safe.proofs.Shaping.{shapes_all, shapes_first}
use Rattle.rpl_safe.proofs.Parts.{Fine, Lined, Lies, one_lies, none_lies, tested_lies, many_lies, not_lies, and_lies}
use Rattle.rpl_safe.proofs.Parts.{lengths_entry, lengths_long, behind_lies, call_fine, capture_lies}

module _ (shapes : Shapes) (at : ℕ → ℕ) where
  -- one instruction
  one_lined : (i : ℕ → Instr) → Lined shapes (λ a. i a ∷ []) (λ s a. s ∷ [])
  one_lined i = record { long = λ s a. refl; entry = λ s a st out. st.0 }

  choice_lined : (x y : Placed) (p q : Shaped) → Lined shapes x p → Lined shapes y q
      → Lined shapes (choice_code x y) (choice_shapes x p q)
  choice_lined x y p q hx hy = record { long = long; entry = λ s a st out. st.0 }
    where
      long : (s : Shape) (a : ℕ) → length (choice_shapes x p q s a) ≡ length (choice_code x y a)
      long s a =
          let l1 = a + 1 + length (x (a + 1)) + 1 in
          let r = pushed l1 s in
          omega (
            arith,
            length-append (p r (a + 1)) (r ∷ q s l1),
            length-append (x (a + 1)) (I.Commit (l1 + length (y l1)) ∷ y l1),
            hx.long r (a + 1),
            hy.long s l1,
          )

  tested_lined : (o : Option (List Range)) (x y : Placed) (p q : Shaped) → Lined shapes x p → Lined shapes y q
      → Lined shapes (tested_choice o x y) (tested_shapes o x p q)
  tested_lined None x y p q hx hy = choice_lined x y p q hx hy
  tested_lined (Some k) x y p q hx hy = let h = choice_lined x y p q hx hy in
      record { long = λ s a. ap suc (h.long s (a + 1)); entry = λ s a st out. st.0 }

  -- a body between a choice and some instructions
  around_long : (x : Placed) (p : Shaped) → Lined shapes x p → (r : Shape) (b : ℕ) (u : List Shape) (y : List Instr)
      → length u ≡ length y → length (p r b ++ u) ≡ length (x b ++ y)
  around_long x p hx r b u y e = omega (arith, length-append (p r b) u, length-append (x b) y, hx.long r b, e)

  many_lined : (o : Option (List Range)) (x : Placed) (p : Shaped) → Lined shapes x p
      → Lined shapes (many_code o x) (many_shapes o x p)
  many_lined None x p hx = record {
    long = λ s a. ap suc (around_long x p hx _ (a + 1) _ _ refl);
    entry = λ s a st out. st.0;
  }
  many_lined (Some k) x p hx = one_lined (λ a. I.Span k)

  not_lined : (o : Option (List Range)) (x : Placed) (p : Shaped) → Lined shapes x p
      → Lined shapes (not_code o x) (not_shapes o x p)
  not_lined None x p hx = record {
    long = λ s a. ap suc (around_long x p hx _ (a + 1) _ _ refl);
    entry = λ s a st out. st.0;
  }
  not_lined (Some k) x p hx = record { long = λ s a. refl; entry = λ s a st out. st.0 }

  -- one fragment and then another
  then_lined : (x y : Placed) (p q : Shaped) → Lined shapes x p → Lined shapes y q
      → Lined shapes (λ a. x a ++ y (a + length (x a))) (λ s a. p s a ++ q s (a + length (x a)))
  then_lined x y p q hx hy = record { long = long; entry = entry }
    where
      long : (s : Shape) (a : ℕ) → length (p s a ++ q s (a + length (x a))) ≡ length (x a ++ y (a + length (x a)))
      long s a = let m = a + length (x a) in
          omega (arith, length-append (p s a) (q s m), length-append (x a) (y m), hx.long s a, hy.long s m)

      entry : (s : Shape) (a : ℕ) → Stands shapes a (p s a ++ q s (a + length (x a)))
          → shapes (a + length (x a ++ y (a + length (x a)))) ≡ Some s → shapes a ≡ Some s
      entry s a st out =
          let m = a + length (x a) in
          let front = stands_front shapes a (p s a) (q s m) st in
          let back = stands_back shapes a (length (x a)) (p s a) (q s m) (hx.long s a) st in
          let len : a + length (x a ++ y m) ≡ m + length (y m) = omega (arith, length-append (x a) (y m)) in
          hx.entry s a front (hy.entry s m back (subst (λ n. shapes n ≡ Some s) len out))

  mutual
    pub lined : (e : Core) → Lined shapes (code at e) (shapes_of at e)
    lined (Set k) = one_lined (λ a. I.Set k)
    lined (Seq ps) = lined_all ps
    lined (Choice ps) = lined_first ps
    lined (Many p) = many_lined (lone_set p) (code at p) (shapes_of at p) (lined p)
    lined (Not p) = not_lined (lone_set p) (code at p) (shapes_of at p) (lined p)
    lined (And p) = record {
      long =
          λ s a. ap suc (around_long (code at p) (shapes_of at p) (lined p) _ (a + 1) _ _ refl);
      entry = λ s a st out. st.0;
    }
    lined (Behind l m p) =
        record {
          long = λ s a. lengths_long shapes 0 0 (code at p) (shapes_of at p) (lined p) _ (m + 1 - l) l s a;
          entry = λ s a st out. lengths_entry shapes 0 0 (code at p) (shapes_of at p) (m + 1 - l) s a st;
        }
    lined (Call r) = one_lined (λ a. I.Call (at r))
    lined (Capture c p) =
        record {
          long = λ s a. ap suc (around_long (code at p) (shapes_of at p) (lined p) _ (a + 1) _ _ refl);
          entry = λ s a st out. st.0;
        }
    lined (Note x) = one_lined (λ a. I.Note x)
    lined Start = one_lined (λ a. I.Start)
    lined End = one_lined (λ a. I.End)
    lined Halt = one_lined (λ a. I.Halt)

    lined_all : (ps : Cores) → Lined shapes (code_all at ps) (shapes_all at ps)
    lined_all NoMore = record {
      long = λ s a. refl;
      entry = λ s a st out. let e : a + 0 ≡ a = omega arith in
          subst (λ m. shapes m ≡ Some s) e out;
    }
    lined_all (Then p ps) =
        then_lined (code at p) (code_all at ps) (shapes_of at p) (shapes_all at ps) (lined p) (lined_all ps)

    lined_first : (ps : Cores) → Lined shapes (code_first at ps) (shapes_first at ps)
    lined_first NoMore = one_lined (λ a. I.Fail)
    lined_first (Then p NoMore) = lined p
    lined_first (Then p (Then q ps)) =
        tested_lined (head p) (code at p) (code_first at (Then q ps)) (shapes_of at p) (shapes_first at (Then q ps))
        (lined p) (lined_first (Then q ps))

  -- the rule's first address isn't 0, and begins its frame
  abbrev pub Linked : ℕ → Type 0
  Linked r = (at r ≢ 0) × (shapes (at r) ≡ Some (fresh (at r)))

  module _ (f c : ℕ) where
    mutual
      pub lies : (e : Core) → ((r : ℕ) → calls e r ≡ true → Linked r) → Lies shapes f c (code at e) (shapes_of at e)
      lies (Set k) go = one_lies shapes f c (I.Set k) (λ a s. refl)
      lies (Seq ps) go = lies_all ps go
      lies (Choice ps) go = lies_first ps go
      lies (Many p) go = many_lies shapes f c (lone_set p) (code at p) (shapes_of at p) (lined p) (lies p go)
      lies (Not p) go = not_lies shapes f c (lone_set p) (code at p) (shapes_of at p) (lined p) (lies p go)
      lies (And p) go = and_lies shapes f c (code at p) (shapes_of at p) (lined p) (lies p go)
      lies (Behind l m p) go = behind_lies shapes f c (code at p) (shapes_of at p) (lined p) (lies p go) (m + 1 - l) l
      lies (Call r) go = λ s a e le lc st out. let k = go r (eq-eqb r r refl) in
          (call_fine shapes f c a (at r) s e le lc k.0 k.1 out, tt)
      lies (Capture x p) go = capture_lies shapes f c x (code at p) (shapes_of at p) (lined p) (lies p go)
      lies (Note x) go = one_lies shapes f c (I.Note x) (λ a s. refl)
      lies Start go = one_lies shapes f c I.Start (λ a s. refl)
      lies End go = one_lies shapes f c I.End (λ a s. refl)
      lies Halt go = none_lies shapes f c I.Halt (λ a s. refl)

      lies_all : (ps : Cores) → ((r : ℕ) → calls_any ps r ≡ true → Linked r)
          → Lies shapes f c (code_all at ps) (shapes_all at ps)
      lies_all NoMore go s a e le lc st out = tt
      lies_all (Then p ps) go s a e le lc st out =
          let m = a + length (code at p a) in
          let front = stands_front shapes a (shapes_of at p s a) (shapes_all at ps s m) st in
          let back = stands_back shapes a (length (code at p a)) (shapes_of at p s a) (shapes_all at ps s m)
          ((lined p).long s a) st in
          let len : a + length (code_all at (Then p ps) a) ≡ m + length (code_all at ps m) =
          omega (arith, length-append (code at p a) (code_all at ps m)) in
          let end = subst (λ n. shapes n ≡ Some s) len out in
          let middle = (lined_all ps).entry s m back end in
          each_append (Fine shapes f c) a (code at p a) (code_all at ps m) (shapes_of at p s a) (shapes_all at ps s m)
          (lies p (λ r h. go r (or_left (calls p r) (calls_any ps r) h)) s a e le lc front middle)
          (lies_all ps (λ r h. go r (or_right (calls p r) (calls_any ps r) h)) s m e (omega (arith, le)) lc back end)

      lies_first : (ps : Cores) → ((r : ℕ) → calls_any ps r ≡ true → Linked r)
          → Lies shapes f c (code_first at ps) (shapes_first at ps)
      lies_first NoMore go = none_lies shapes f c I.Fail (λ a s. refl)
      lies_first (Then p NoMore) go = lies p (λ r h. go r (or_left (calls p r) false h))
      lies_first (Then p (Then q ps)) go =
          tested_lies shapes f c (head p) (code at p) (code_first at (Then q ps)) (shapes_of at p)
          (shapes_first at (Then q ps)) (lined p) (lined_first (Then q ps))
          (lies p (λ r h. go r (or_left (calls p r) (calls_any (Then q ps) r) h)))
          (lies_first (Then q ps) (λ r h. go r (or_right (calls p r) (calls_any (Then q ps) r) h)))
