-- Statements that are in order are those of a module.
use Rattle.std.proofs.Common.{◌≡◌, ℕ, List, [], ◌∷◌, ◌++◌, Option, Some, None, append_assoc, refl, sym, ap, ◌∙◌, ◌⊎◌}
use Rattle.std.proofs.Common.{inl, inr}
use Rattle.std.proofs.lemmas.List.{append-nil}
use Rattle.std.specs.Prelude.{Bool, true, false}
use Rattle.rpl_text.specs.Options.{◌>>=◌}
use Rattle.rpl_syntax.specs.Modules.{Rule, One, Block}
use Rattle.rpl_syntax.specs.declared.module.Import.{Import}
use Rattle.rpl_syntax.proofs.Sound.{some_is}
use Rattle.rpl_parser.specs.Spelling as L
use Rattle.rpl_parser.specs.Spelling.{Line}
use Rattle.rpl_parser.specs.Order as O
use Rattle.rpl_parser.specs.Order.{Placed, placed, Title, Importing, Part, Outline, rule_line, rule_lines, part_lines}
use Rattle.rpl_parser.specs.Order.{parts_lines, import_lines, title_lines, version_lines, outline_lines, part_entry}
use Rattle.rpl_parser.specs.Order.{part_entries, all_imports, title_name, NoneLocal, LocalOutside, AllLocalOutside}
use Rattle.rpl_parser.specs.Walks.{Walk, begun, block_begun}
use Rattle.rpl_parser.specs.declared.walk.Numbered.{Numbered}
use Rattle.rpl_parser.specs.declared.walk.Stage.{Stage}
use Rattle.rpl_parser.specs.declared.walk.Stage.TheVariants.{Begun, Versioned, Packaged, Ruled, InBlock, BehindIn}
use Rattle.rpl_parser.proofs.Ordered.{ends, order, out, inside, more_items, more_imports, outline_walk}

-- ---- parts

record PartsAfter (w v : Walk) (ls : List Placed) : Type 0 where
  pub parts : List Part
  pub lines : ls ≡ parts_lines parts
  pub blocks : AllLocalOutside parts
  pub stage : Stage
  pub is : v ≡ out stage (more_items w (part_entries parts))

-- the rest of a block after these hidden and these visible rules, and the parts after it
record BlockAfter (w : Walk) (hs rs : List Rule) (v : Walk) (ls : List Placed) : Type 0 where
  pub rules : List Rule
  pub closes : ℕ
  pub behind : List Placed
  pub lines : ls ≡ rule_lines rules (placed closes L.Closes ∷ behind)
  pub none_local : NoneLocal rules
  pub after : PartsAfter (more_items w (Block hs (rs ++ rules) ∷ [])) v behind

-- the rules before an `in`, and the rest of the block
record SplitAfter (w : Walk) (rs : List Rule) (v : Walk) (ls : List Placed) : Type 0 where
  pub rules : List Rule
  pub splits : ℕ
  pub behind : List Placed
  pub lines : ls ≡ rule_lines rules (placed splits L.Splits ∷ behind)
  pub none_local : NoneLocal rules
  pub after : BlockAfter w (rs ++ rules) [] v behind

record After (ls : List Placed) : Type 0 where
  pub ruled : (w v : Walk) → order (out Ruled w) ls ≡ Some v → PartsAfter w v ls
  pub behind_in : (w : Walk) (hs rs : List Rule) (v : Walk) → order (inside BehindIn hs rs w) ls ≡ Some v
      → ends ls ≡ true → BlockAfter w hs rs v ls
  pub in_block : (w : Walk) (hs rs : List Rule) (v : Walk) → order (inside InBlock hs rs w) ls ≡ Some v → ends ls ≡ true
      → BlockAfter w hs rs v ls ⊎ SplitAfter w rs v ls

parts_end : (st : Stage) (w v : Walk) → Some (out st w) ≡ Some v → PartsAfter w v []
parts_end st w v e =
    record {
      parts = [];
      lines = refl;
      blocks = tt;
      stage = st;
      is = sym (some_is _ _ e)
          ∙ ap (λ x. out st (record w { items = x })) (sym (append-nil w.items));
    }

one_part : (p : Part) (w v : Walk) (q : List Placed) → LocalOutside p
    → PartsAfter (more_items w (part_entry p ∷ [])) v q → PartsAfter w v (part_lines p q)
one_part p w v q h a =
    record {
      parts = p ∷ a.parts;
      lines = ap (part_lines p) a.lines;
      blocks = (h, a.blocks);
      stage = a.stage;
      is = a.is ∙ ap (λ x. out a.stage (record w { items = x }))
          (append_assoc w.items (part_entry p ∷ []) (part_entries a.parts));
    }

closed_after : (w : Walk) (hs rs : List Rule) (v : Walk) (at : ℕ) (ls : List Placed)
    → PartsAfter (more_items w (Block hs rs ∷ [])) v ls → BlockAfter w hs rs v (placed at L.Closes ∷ ls)
closed_after w hs rs v at ls a =
    record {
      rules = [];
      closes = at;
      behind = ls;
      lines = refl;
      none_local = tt;
      after = record {
        parts = a.parts;
        lines = a.lines;
        blocks = a.blocks;
        stage = a.stage;
        is = a.is ∙ ap (λ x. out a.stage (more_items (more_items w (Block hs x ∷ [])) (part_entries a.parts)))
            (sym (append-nil rs));
      };
    }

one_rule : (w : Walk) (hs rs : List Rule) (v : Walk) (r : Rule) (ls : List Placed) → r.local ≡ false
    → BlockAfter w hs (rs ++ r ∷ []) v ls → BlockAfter w hs rs v (rule_line r ∷ ls)
one_rule w hs rs v r ls h a =
    record {
      rules = r ∷ a.rules;
      closes = a.closes;
      behind = a.behind;
      lines = ap (λ x. rule_line r ∷ x) a.lines;
      none_local = (h, a.none_local);
      after = record {
        parts = a.after.parts;
        lines = a.after.lines;
        blocks = a.after.blocks;
        stage = a.after.stage;
        is = a.after.is ∙ ap
            (λ x. out a.after.stage (more_items (more_items w (Block hs x ∷ [])) (part_entries a.after.parts)))
            (append_assoc rs (r ∷ []) a.rules);
      };
    }

split_now : (w : Walk) (hs rs : List Rule) (v : Walk) (at : ℕ) (ls : List Placed) → BlockAfter w rs [] v ls
    → SplitAfter w rs v (placed at L.Splits ∷ ls)
split_now w hs rs v at ls a =
    record {
      rules = [];
      splits = at;
      behind = ls;
      lines = refl;
      none_local = tt;
      after = record {
        rules = a.rules;
        closes = a.closes;
        behind = a.behind;
        lines = a.lines;
        none_local = a.none_local;
        after = record {
          parts = a.after.parts;
          lines = a.after.lines;
          blocks = a.after.blocks;
          stage = a.after.stage;
          is = a.after.is
              ∙ ap (λ x. out a.after.stage
              (more_items (more_items w (Block x a.rules ∷ [])) (part_entries a.after.parts)))
              (sym (append-nil rs));
        };
      };
    }

split_later : (w : Walk) (rs : List Rule) (v : Walk) (r : Rule) (ls : List Placed) → r.local ≡ false
    → SplitAfter w (rs ++ r ∷ []) v ls → SplitAfter w rs v (rule_line r ∷ ls)
split_later w rs v r ls h a =
    record {
      rules = r ∷ a.rules;
      splits = a.splits;
      behind = a.behind;
      lines = ap (λ x. rule_line r ∷ x) a.lines;
      none_local = (h, a.none_local);
      after = record {
        rules = a.after.rules;
        closes = a.after.closes;
        behind = a.after.behind;
        lines = a.after.lines;
        none_local = a.after.none_local;
        after = record {
          parts = a.after.after.parts;
          lines = a.after.after.lines;
          blocks = a.after.after.blocks;
          stage = a.after.after.stage;
          is = a.after.after.is
              ∙ ap (λ x. out a.after.after.stage (more_items (more_items w (Block x a.after.rules ∷ []))
              (part_entries a.after.after.parts))) (append_assoc rs (r ∷ []) a.rules);
        };
      };
    }

-- a block that is opened
opened_after : (w v : Walk) (at : ℕ) (ls : List Placed) → BlockAfter w [] [] v ls ⊎ SplitAfter w [] v ls
    → PartsAfter w v (placed at L.Opens ∷ ls)
opened_after w v at ls (inl b) =
    let a = one_part (O.Whole at b.rules b.closes) w v b.behind b.none_local b.after in
    record {
      parts = a.parts;
      lines = ap (λ x. placed at L.Opens ∷ x) b.lines ∙ a.lines;
      blocks = a.blocks;
      stage = a.stage;
      is = a.is;
    }
opened_after w v at ls (inr b) =
    let c = b.after in
    let a = one_part (O.Halves at b.rules b.splits c.rules c.closes) w v c.behind (b.none_local, c.none_local) c.after
    in
    record {
      parts = a.parts;
      lines = ap (λ x. placed at L.Opens ∷ x) (b.lines
          ∙ ap (λ y. rule_lines b.rules (placed b.splits L.Splits ∷ y)) c.lines) ∙ a.lines;
      blocks = a.blocks;
      stage = a.stage;
      is = a.is;
    }

module _ (ls : List Placed) (h : After ls) where
  opens_by : (w v : Walk) (at : ℕ) (c : Bool) → ends ls ≡ c → (block_begun (out Ruled w) c >>= λ u. order u ls) ≡ Some v
      → PartsAfter w v (placed at L.Opens ∷ ls)
  opens_by w v at true k e = opened_after w v at ls (h.in_block w [] [] v e k)
  opens_by w v at false k e = absurd cc

  ruled_more : (l : Line) (at : ℕ) (w v : Walk) → order (out Ruled w) (placed at l ∷ ls) ≡ Some v
      → PartsAfter w v (placed at l ∷ ls)
  ruled_more (L.Binds local alias n x) at w v e =
      let r : Rule = record { name = n; at = at; local = local; alias = alias; body = x } in
      one_part (O.Alone r) w v ls tt (h.ruled (more_items w (One r ∷ [])) v e)
  ruled_more L.Opens at w v e = opens_by w v at (ends ls) refl e
  ruled_more (L.Version a b) at w v e = absurd cc
  ruled_more (L.Package n) at w v e = absurd cc
  ruled_more (L.Imports es) at w v e = absurd cc
  ruled_more L.Splits at w v e = absurd cc
  ruled_more L.Closes at w v e = absurd cc

  behind_more : (l : Line) (at : ℕ) (w : Walk) (hs rs : List Rule) (v : Walk)
      → order (inside BehindIn hs rs w) (placed at l ∷ ls) ≡ Some v → ends (placed at l ∷ ls) ≡ true
      → BlockAfter w hs rs v (placed at l ∷ ls)
  behind_more (L.Binds false alias n x) at w hs rs v e k =
      let r : Rule = record { name = n; at = at; local = false; alias = alias; body = x } in
      one_rule w hs rs v r ls refl (h.behind_in w hs (rs ++ r ∷ []) v e k)
  behind_more (L.Binds true alias n x) at w hs rs v e k = absurd cc
  behind_more L.Closes at w hs rs v e k = closed_after w hs rs v at ls (h.ruled (more_items w (Block hs rs ∷ [])) v e)
  behind_more (L.Version a b) at w hs rs v e k = absurd cc
  behind_more (L.Package n) at w hs rs v e k = absurd cc
  behind_more (L.Imports es) at w hs rs v e k = absurd cc
  behind_more L.Opens at w hs rs v e k = absurd cc
  behind_more L.Splits at w hs rs v e k = absurd cc

  block_more : (l : Line) (at : ℕ) (w : Walk) (hs rs : List Rule) (v : Walk)
      → order (inside InBlock hs rs w) (placed at l ∷ ls) ≡ Some v → ends (placed at l ∷ ls) ≡ true
      → BlockAfter w hs rs v (placed at l ∷ ls) ⊎ SplitAfter w rs v (placed at l ∷ ls)
  block_more (L.Binds false alias n x) at w hs rs v e k =
      let r : Rule = record { name = n; at = at; local = false; alias = alias; body = x } in
      elim (h.in_block w hs (rs ++ r ∷ []) v e k) [
        | inl a ↦ inl (one_rule w hs rs v r ls refl a)
        | inr a ↦
            inr (split_later w rs v r ls refl a)
      ]
  block_more (L.Binds true alias n x) at w hs rs v e k = absurd cc
  block_more L.Closes at w hs rs v e k =
      inl (closed_after w hs rs v at ls (h.ruled (more_items w (Block hs rs ∷ [])) v e))
  block_more L.Splits at w hs rs v e k = inr (split_now w hs rs v at ls (h.behind_in w rs [] v e k))
  block_more (L.Version a b) at w hs rs v e k = absurd cc
  block_more (L.Package n) at w hs rs v e k = absurd cc
  block_more (L.Imports es) at w hs rs v e k = absurd cc
  block_more L.Opens at w hs rs v e k = absurd cc

after : (ls : List Placed) → After ls
after [] =
    record {
      ruled = λ w v e. parts_end Ruled w v e;
      behind_in = λ w hs rs v e k. absurd cc;
      in_block = λ w hs rs v e k. absurd cc;
    }
after (l ∷ ls) =
    record {
      ruled = λ w v e. ruled_more ls (after ls) l.line l.at w v e;
      behind_in = λ w hs rs v e k. behind_more ls (after ls) l.line l.at w hs rs v e k;
      in_block = λ w hs rs v e k. block_more ls (after ls) l.line l.at w hs rs v e k;
    }

-- ---- imports, package and version

record ImportsAfter (w v : Walk) (ls : List Placed) : Type 0 where
  pub imports : List Importing
  pub parts : List Part
  pub lines : ls ≡ import_lines imports (parts_lines parts)
  pub blocks : AllLocalOutside parts
  pub stage : Stage
  pub is : v ≡ out stage (more_items (more_imports w (all_imports imports)) (part_entries parts))

no_imports : (w v : Walk) (ls : List Placed) → PartsAfter w v ls → ImportsAfter w v ls
no_imports w v ls a =
    record {
      imports = [];
      parts = a.parts;
      lines = a.lines;
      blocks = a.blocks;
      stage = a.stage;
      is = a.is ∙ ap (λ x. out a.stage (more_items (record w { imports = x }) (part_entries a.parts)))
          (sym (append-nil w.imports));
    }

one_import : (w v : Walk) (at : ℕ) (es : List Import) (ls : List Placed) → ImportsAfter (more_imports w es) v ls
    → ImportsAfter w v (placed at (L.Imports es) ∷ ls)
one_import w v at es ls a =
    record {
      imports = record { at = at; entries = es } ∷ a.imports;
      parts = a.parts;
      lines = ap (λ x. placed at (L.Imports es) ∷ x) a.lines;
      blocks = a.blocks;
      stage = a.stage;
      is = a.is ∙ ap (λ x. out a.stage (more_items (record w { imports = x }) (part_entries a.parts)))
          (append_assoc w.imports es (all_imports a.imports));
    }

packaged_more : (ls : List Placed) → ((w v : Walk) → order (out Packaged w) ls ≡ Some v → ImportsAfter w v ls)
    → (l : Line) (at : ℕ) (w v : Walk) → order (out Packaged w) (placed at l ∷ ls) ≡ Some v
    → ImportsAfter w v (placed at l ∷ ls)
packaged_more ls h (L.Imports es) at w v e = one_import w v at es ls (h (more_imports w es) v e)
packaged_more ls h (L.Binds local alias n x) at w v e =
    no_imports w v _ ((after (placed at (L.Binds local alias n x) ∷ ls)).ruled w v e)
packaged_more ls h L.Opens at w v e = no_imports w v _ ((after (placed at L.Opens ∷ ls)).ruled w v e)
packaged_more ls h (L.Version a b) at w v e = absurd cc
packaged_more ls h (L.Package n) at w v e = absurd cc
packaged_more ls h L.Splits at w v e = absurd cc
packaged_more ls h L.Closes at w v e = absurd cc

packaged_after : (ls : List Placed) (w v : Walk) → order (out Packaged w) ls ≡ Some v → ImportsAfter w v ls
packaged_after [] w v e = no_imports w v [] (parts_end Packaged w v e)
packaged_after (l ∷ ls) w v e = packaged_more ls (packaged_after ls) l.line l.at w v e

-- which module it is
pub record Outlined (v : Walk) (ls : List Placed) : Type 0 where
  pub tree : Outline
  pub lines : ls ≡ outline_lines tree
  pub blocks : AllLocalOutside tree.parts
  pub stage : Stage
  pub is : v ≡ out stage (outline_walk tree)

abbrev headed : Option Numbered → Option Title → Walk
headed v t = record begun { version = v; name = title_name t }

with_head : (n : Option Numbered) (t : Option Title) (v : Walk) (ls : List Placed) → ImportsAfter (headed n t) v ls
    → Outlined v (version_lines n (title_lines t ls))
with_head n t v ls a =
    record {
      tree = record { version = n; title = t; imports = a.imports; parts = a.parts };
      lines = ap (λ x. version_lines n (title_lines t x)) a.lines;
      blocks = a.blocks;
      stage = a.stage;
      is = a.is;
    }

-- after the version
versioned_after : (n : Option Numbered) (l : Line) (at : ℕ) (ls : List Placed) (v : Walk)
    → order (out Versioned (record begun { version = n })) (placed at l ∷ ls) ≡ Some v
    → Outlined v (version_lines n (placed at l ∷ ls))
versioned_after n (L.Package m) at ls v e =
    let t : Option Title = Some (record { at = at; name = m }) in
    with_head n t v ls (packaged_after ls (headed n t) v e)
versioned_after n (L.Imports es) at ls v e =
    with_head n None v _ (packaged_after (placed at (L.Imports es) ∷ ls) (headed n None) v e)
versioned_after n (L.Binds local alias m x) at ls v e =
    with_head n None v _ (packaged_after (placed at (L.Binds local alias m x) ∷ ls) (headed n None) v e)
versioned_after n L.Opens at ls v e = with_head n None v _ (packaged_after (placed at L.Opens ∷ ls) (headed n None) v e)
versioned_after n (L.Version a b) at ls v e = absurd cc
versioned_after n L.Splits at ls v e = absurd cc
versioned_after n L.Closes at ls v e = absurd cc

version_only : (n : Numbered) (ls : List Placed) (v : Walk)
    → order (out Versioned (record begun { version = Some n })) ls ≡ Some v → Outlined v (version_lines (Some n) ls)
version_only n [] v e =
    with_head (Some n) None v []
    (no_imports (headed (Some n) None) v [] (parts_end Versioned (headed (Some n) None) v e))
version_only n (l ∷ ls) v e = versioned_after (Some n) l.line l.at ls v e

begun_after : (l : Line) (at : ℕ) (ls : List Placed) (v : Walk) → order begun (placed at l ∷ ls) ≡ Some v
    → Outlined v (placed at l ∷ ls)
begun_after (L.Version a b) at ls v e = version_only (record { at = at; major = a; minor = b }) ls v e
begun_after (L.Package m) at ls v e = versioned_after None (L.Package m) at ls v e
begun_after (L.Imports es) at ls v e = versioned_after None (L.Imports es) at ls v e
begun_after (L.Binds local alias m x) at ls v e = versioned_after None (L.Binds local alias m x) at ls v e
begun_after L.Opens at ls v e = versioned_after None L.Opens at ls v e
begun_after L.Splits at ls v e = absurd cc
begun_after L.Closes at ls v e = absurd cc

pub order_sound : (ls : List Placed) (v : Walk) → order begun ls ≡ Some v → Outlined v ls
order_sound [] v e = with_head None None v [] (no_imports begun v [] (parts_end Begun begun v e))
order_sound (l ∷ ls) v e = begun_after l.line l.at ls v e
