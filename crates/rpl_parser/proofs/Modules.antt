-- What is read as a module is one, and each module is read.
use Rattle.std.proofs.Common.{◌≡◌, ◌≢◌, ℕ, zero, suc, ◌+◌, ◌<◌, List, [], ◌∷◌, ◌++◌, length, take, drop, Option, Some}
use Rattle.std.proofs.Common.{None, Result, Ok, Err, refl, sym, ap, subst, ◌∙◌, ◌⊎◌, inl, inr, arith}
use Rattle.std.proofs.lemmas.List.{length-drop, length-append, take-append-drop}
use Rattle.std.specs.Prelude.{Bool, true, false, if◌then◌else◌, ◌||◌, IfOk, IfErr}
use Rattle.rpl_text.specs.Options.{◌>>=◌}
use Rattle.rpl_lexer.specs.declared.token.Token.{Token as Lexeme}
use Rattle.rpl_syntax.specs.Modules.{ParsedModule, said}
use Rattle.rpl_syntax.specs.declared.module.Module.{Module}
use Rattle.rpl_syntax.proofs.Sound.{bind_some, some_is}
use Rattle.rpl_parser.specs.Levels.{ground_level, too_deep}
use Rattle.rpl_parser.specs.Lines.{line_of}
use Rattle.rpl_parser.specs.ModuleFaults.{first_of, others_of, PiecesAre, HasPlace, PieceFault, StatementFault}
use Rattle.rpl_parser.specs.ModuleFaults.{VersionFault, IsModuleFault}
use Rattle.rpl_parser.specs.Order.{Placed, placed, outline_lines, outline_said, Outline, IsKnown, AllLocalOutside}
use Rattle.rpl_parser.specs.Order.{Spelt, Stands, AreLines, ReadsModule, IsModule}
use Rattle.rpl_parser.specs.Statements.{is_known}
use Rattle.rpl_parser.specs.Spelling.{Line, spell_statement}
use Rattle.rpl_parser.specs.Tokens.{tokens_of, first_place, first_bad}
use Rattle.rpl_parser.specs.Pieces.{piece_len, closes_later}
use Rattle.rpl_parser.specs.Walks.{Walk, begun, place, by_bad, by_place, by_line, by_level, step, by_version, finish}
use Rattle.rpl_parser.specs.Walks.{go_on, walk, module_of}
use Rattle.rpl_parser.specs.Answers.{Answers}
use Rattle.rpl_parser.specs.declared.fault.ParseFault.{ParseFault}
use Rattle.rpl_parser.specs.declared.fault.ParseKind.{ParseKind}
use Rattle.rpl_parser.specs.declared.fault.ParseKind.TheVariants.{NoMemory, TooDeep, Syntax, BadBounds, Class, Version}
use Rattle.rpl_parser.specs.declared.walk.Numbered.{Numbered}
use Rattle.rpl_parser.proofs.Cutting.{starts, piece_is, statement_starts, is_end, closes_behind, tokens_both, take_all}
use Rattle.rpl_parser.proofs.Cutting.{drop_all}
use Rattle.rpl_parser.proofs.Faults.{OfPayload, bad_kind}
use Rattle.rpl_parser.proofs.Reached.{reach, reach_on, place_true, place_closed, place_any, may_begin, begin_reach}
use Rattle.rpl_parser.proofs.Ordered.{ends, order, out, outline_walk, order_again}
use Rattle.rpl_parser.proofs.Outlined.{order_sound}
use Rattle.rpl_parser.proofs.Spelled.{line_again, line_sound, line_unique}
use Rattle.rpl_parser.proofs.Walking.{tokens_len, walk_end, walk_on}

-- ---- the tokens of statements

spelt : (s : List ℕ) (p : List Lexeme) (l : Placed) → Stands s p l → Spelt s p l
spelt s p l h = record { place = h.place; spelled = h.spelled }

spelt_all : (s : List ℕ) (ts : List Lexeme) (ls : List Placed) → AreLines (Stands s) ts ls → AreLines (Spelt s) ts ls
spelt_all s ts [] h = h
spelt_all s ts (l ∷ ls) h = (h.0, h.1, h.2, spelt s h.0 l h.3, spelt_all s h.1 ls h.4)

-- the tokens of a statement and of what stands after it
stands_tokens : (s : List ℕ) (p q : List Lexeme) (l : Placed) (h : Spelt s p l)
    → tokens_of s (p ++ q) ≡ spell_statement h.spelled.tree ++ tokens_of s q
stands_tokens s p q l h = tokens_both s p q ∙ ap (λ x. x ++ tokens_of s q) h.spelled.spelled

lines_start : (s : List ℕ) (ts : List Lexeme) (ls : List Placed) → AreLines (Spelt s) ts ls
    → starts (tokens_of s ts) ≡ true
lines_start s ts [] h = ap (λ x. starts (tokens_of s x)) h
lines_start s ts (l ∷ ls) h =
    ap (λ x. starts (tokens_of s x)) h.2
    ∙ (ap starts (stands_tokens s h.0 h.1 l h.3) ∙ statement_starts h.3.spelled.tree (tokens_of s h.1))

lines_close : (s : List ℕ) (ts : List Lexeme) (ls : List Placed) → AreLines (Spelt s) ts ls
    → closes_later (tokens_of s ts) ≡ ends ls
lines_close s ts [] h = ap (λ x. closes_later (tokens_of s x)) h
lines_close s ts (l ∷ ls) h =
    ap (λ x. closes_later (tokens_of s x)) h.2
    ∙ (ap closes_later (stands_tokens s h.0 h.1 l h.3)
    ∙ (closes_behind h.3.spelled.tree (tokens_of s h.1)
    ∙ (ap (λ x. is_end x || closes_later (tokens_of s h.1)) (sym h.3.spelled.stands_for)
    ∙ ap (λ b. is_end l.line || b) (lines_close s h.1 ls h.4))))

-- a statement's tokens are the first piece
piece_at : (s : List ℕ) (p q : List Lexeme) (l : Placed) → Spelt s p l → starts (tokens_of s q) ≡ true
    → piece_len (tokens_of s (p ++ q)) ≡ length p
piece_at s p q l h k =
    ap piece_len (stands_tokens s p q l h)
    ∙ (piece_is h.spelled.tree (tokens_of s q) k ∙ (ap length (sym h.spelled.spelled) ∙ tokens_len s p))

not_empty : (s : List ℕ) (p : List Lexeme) (l : Placed) → Spelt s p l → length p ≢ 0
not_empty s (t ∷ p) l h e = omega (arith, e)
not_empty s [] l h e = absurd (cc (line_again [] l.line h.spelled))

-- ---- no tokens spell two modules

module _ (s : List ℕ) (ts p q : List Lexeme) (l : Placed) (ls : List Placed) (e : ts ≡ p ++ q) (h : Spelt s p l) (k :
    AreLines (Spelt s) q ls) where
  first_len : piece_len (tokens_of s ts) ≡ length p
  first_len = ap (λ x. piece_len (tokens_of s x)) e ∙ piece_at s p q l h (lines_start s q ls k)

  first_is : take (piece_len (tokens_of s ts)) ts ≡ p
  first_is = ap (λ n. take n ts) first_len ∙ (ap (take (length p)) e ∙ take_all p q)

  others_are : drop (piece_len (tokens_of s ts)) ts ≡ q
  others_are = ap (λ n. drop n ts) first_len ∙ (ap (drop (length p)) e ∙ drop_all p q)

  some_tokens : length ts ≢ 0
  some_tokens n =
      let long : length ts ≡ length p + length q = ap length e ∙ length-append p q in
      let none : length p ≡ 0 = omega (arith, n, long) in
      not_empty s p l h none

line_same : (s : List ℕ) (p : List Lexeme) (l m : Placed) → Spelt s p l → Spelt s p m → l ≡ m
line_same s p l m h k =
    ap (λ x. placed x l.line) (h.place ∙ sym k.place)
    ∙ ap (placed m.at) (line_unique (tokens_of s p) l.line m.line h.spelled k.spelled)

lines_same : (s : List ℕ) (ls ms : List Placed) (ts : List Lexeme) → AreLines (Spelt s) ts ls → AreLines (Spelt s) ts ms
    → ls ≡ ms
lines_same s [] [] ts h k = refl
lines_same s [] (m ∷ ms) ts h k = absurd (some_tokens s ts k.0 k.1 m ms k.2 k.3 k.4 (ap length h))
lines_same s (l ∷ ls) [] ts h k = absurd (some_tokens s ts h.0 h.1 l ls h.2 h.3 h.4 (ap length k))
lines_same s (l ∷ ls) (m ∷ ms) ts h k =
    let p : h.0 ≡ k.0 = sym (first_is s ts h.0 h.1 l ls h.2 h.3 h.4) ∙ first_is s ts k.0 k.1 m ms k.2 k.3 k.4 in
    let q : h.1 ≡ k.1 = sym (others_are s ts h.0 h.1 l ls h.2 h.3 h.4) ∙ others_are s ts k.0 k.1 m ms k.2 k.3 k.4 in
    ap (λ x. x ∷ ls) (line_same s k.0 l m (subst (λ x. Spelt s x l) p h.3) k.3)
    ∙ ap (λ xs. m ∷ xs) (lines_same s ls ms k.1 (subst (λ x. AreLines (Spelt s) x ls) q h.4) k.4)

abbrev told : Walk → ParsedModule
told w = record { name = w.name; imports = w.imports; items = w.items }

some_walk : (v w : Walk) → Some v ≡ Some w → v ≡ w
some_walk v w e = some_is v w e

pub reading_unique : (s : List ℕ) (ts : List Lexeme) (m n : ParsedModule) → ReadsModule s ts m → ReadsModule s ts n
    → m ≡ n
reading_unique s ts m n h k =
    let a = order_again h.tree h.blocks in
    let b = order_again k.tree k.blocks in
    let same = lines_same s (outline_lines h.tree) (outline_lines k.tree) ts h.spelled k.spelled in
    let walks = some_walk (out a.stage (outline_walk h.tree)) (out b.stage (outline_walk k.tree)) (sym a.ordered
    ∙ (ap (order begun) same ∙ b.ordered)) in
    h.stands_for ∙ (ap told walks ∙ sym k.stands_for)

pub module_reads : (s : List ℕ) (ts : List Lexeme) (m : ParsedModule) → IsModule s ts m → ReadsModule s ts m
module_reads s ts m h =
    record {
      tree = h.tree;
      spelled = spelt_all s ts (outline_lines h.tree) h.spelled;
      stands_for = h.stands_for;
      blocks = h.blocks;
    }

-- ---- each module is read

step_again : (s : List ℕ) (w v : Walk) (c : Bool) (p : List Lexeme) (l : Placed) → Stands s p l
    → place w l.at c l.line ≡ Some v → step s w c p ≡ Ok v
step_again s w v c p l h e =
    ap (λ d. by_level d (by_line (first_place p) (first_bad s p) w c (line_of (tokens_of s p)))) h.shallow
    ∙ (ap (by_line (first_place p) (first_bad s p) w c) (line_again (tokens_of s p) l.line h.spelled)
    ∙ (ap (λ at. by_place (first_place p) (first_bad s p) (place w at c l.line)) (sym h.place)
    ∙ (ap (by_place (first_place p) (first_bad s p)) e ∙ ap (by_bad v) h.good)))

lines_again : (ls : List Placed) (n : ℕ) (s : List ℕ) (w v : Walk) (ts : List Lexeme) → length ts < n
    → AreLines (Stands s) ts ls → order w ls ≡ Some v → walk n s w ts ≡ finish v
lines_again [] n s w v ts lt h e =
    walk_end n s w ts (tokens_len s ts ∙ ap length h) ∙ ap finish (some_is w v e)
lines_again (l ∷ ls) zero s w v ts lt h e = absurd (omega (arith, lt))
lines_again (l ∷ ls) (suc n) s w v ts lt h e =
    let p = h.0 in
    let q = h.1 in
    let b = bind_some (place w l.at (ends ls) l.line) _ _ e in
    let is = spelt s p l h.3 in
    let are = spelt_all s q ls h.4 in
    let part = first_is s ts p q l ls h.2 is are in
    let rest = others_are s ts p q l ls h.2 is are in
    let now =
    ap (λ x. step s w (closes_later (tokens_of s x)) (take (piece_len (tokens_of s ts)) ts)) rest
    ∙ (ap (λ x. step s w (closes_later (tokens_of s q)) x) part
    ∙ (ap (λ c. step s w c p) (lines_close s q ls are) ∙ step_again s w b.0 (ends ls) p l h.3 b.1)) in
    let some = not_empty s p l is in
    let long : length ts ≡ length p + length q = ap length h.2 ∙ length-append p q in
    let ne : length (tokens_of s ts) ≢ 0 = λ k. some (omega (arith, k, long, tokens_len s ts)) in
    let positive : 0 < length p = omega (arith, some) in
    let short : length q < n = omega (arith, lt, long, positive) in
    walk_on (suc n) n s w refl b.0 ts ne now ∙ (ap (walk n s b.0) rest ∙ lines_again ls n s b.0 v q short h.4 b.2)

-- the module, where the version is known
abbrev by_known : ParsedModule → Numbered → Bool → Result ParsedModule ParseFault
by_known m v known = if known then Ok m else Err (record { at = v.at; kind = Version })

finish_again : (o : Outline) → IsKnown o.version → by_version (outline_said o) o.version ≡ Ok (outline_said o)
finish_again o h = by_number o.version h
  where
    by_number : (v : Option Numbered) → IsKnown v → by_version (outline_said o) v ≡ Ok (outline_said o)
    by_number None k = refl
    by_number (Some v) k = ap (by_known (outline_said o) v) k

pub module_again : (s : List ℕ) (ts : List Lexeme) (m : ParsedModule) → IsModule s ts m → module_of s ts ≡ Ok m
module_again s ts m h =
    let o = order_again h.tree h.blocks in
    lines_again (outline_lines h.tree) (suc (length ts)) s begun (out o.stage (outline_walk h.tree)) ts (omega arith)
    h.spelled o.ordered
    ∙ (finish_again h.tree h.version ∙ ap (λ x. Ok x) (sym h.stands_for))

-- ---- statement by statement

-- a statement that stands in its place
record StepAt (s : List ℕ) (w : Walk) (c : Bool) (p : List Lexeme) (v : Walk) : Type 0 where
  pub line : Line
  pub shallow : too_deep s ground_level p ≡ None
  pub read : line_of (tokens_of s p) ≡ Some line
  pub good : first_bad s p ≡ None
  pub stands : place w (first_place p) c line ≡ Some v

ok_is : (w v : Walk) → by_bad w None ≡ Ok v → w ≡ v
ok_is w v e = cc

module _ (s : List ℕ) (w : Walk) (c : Bool) (p : List Lexeme) (v : Walk) where
  step_by : (d : Option ℕ) (l : Option Line) (b : Option ParseFault) → too_deep s ground_level p ≡ d
      → line_of (tokens_of s p) ≡ l → first_bad s p ≡ b → by_level d (by_line (first_place p) b w c l) ≡ Ok v
      → StepAt s w c p v
  step_by None (Some l) b ed el eb e = placed_by (place w (first_place p) c l) b refl eb e
    where
      placed_by : (o : Option Walk) (b : Option ParseFault) → place w (first_place p) c l ≡ o → first_bad s p ≡ b
          → by_place (first_place p) b o ≡ Ok v → StepAt s w c p v
      placed_by (Some u) None ep eb e = record {
        line = l;
        shallow = ed;
        read = el;
        good = eb;
        stands = ep ∙ ap (λ x. Some x) (ok_is u v e);
      }
      placed_by (Some u) (Some f) ep eb e = absurd cc
      placed_by None b ep eb e = absurd cc
  step_by None None b ed el eb e = absurd cc
  step_by (Some d) l b ed el eb e = absurd cc

  step_sound : step s w c p ≡ Ok v → StepAt s w c p v
  step_sound e = step_by (too_deep s ground_level p) (line_of (tokens_of s p)) (first_bad s p) refl refl refl e

-- all that is left are statements
record Left (s : List ℕ) (w : Walk) (ts : List Lexeme) (r : Result ParsedModule ParseFault) : Type 0 where
  pub lines : List Placed
  pub spelled : AreLines (Stands s) ts lines
  pub last : Walk
  pub ordered : order w lines ≡ Some last
  pub done : r ≡ finish last

-- a piece after some statements is at fault
record Stopped (s : List ℕ) (w : Walk) (ts : List Lexeme) (r : Result ParsedModule ParseFault) : Type 0 where
  pub lines : List Placed
  pub first : Lexeme
  pub more : List Lexeme
  pub pieces : PiecesAre s ts lines (first ∷ more)
  pub last : Walk
  pub reached : reach w lines ≡ Some last
  pub fault : ParseFault
  pub stop : step s last (closes_later (tokens_of s (others_of s (first ∷ more)))) (first_of s (first ∷ more))
      ≡ Err fault
  pub done : r ≡ Err fault

module _ (n : ℕ) (s : List ℕ) (w : Walk) (t : Lexeme) (ts : List Lexeme) where
  -- after the first piece
  abbrev on : Walk → Result ParsedModule ParseFault
  on v = walk n s v (others_of s (t ∷ ts))

  abbrev whole : Result ParsedModule ParseFault
  whole = walk (suc n) s w (t ∷ ts)

  abbrev first_step : Result Walk ParseFault
  first_step = step s w (closes_later (tokens_of s (others_of s (t ∷ ts)))) (first_of s (t ∷ ts))

  one_more : (v : Walk) → first_step ≡ Ok v → Left s v (others_of s (t ∷ ts)) (on v)
      ⊎ Stopped s v (others_of s (t ∷ ts)) (on v) → Left s w (t ∷ ts) whole ⊎ Stopped s w (t ∷ ts) whole
  one_more v e (inl c) =
      let p = first_of s (t ∷ ts) in
      let q = others_of s (t ∷ ts) in
      let h = step_sound s w (closes_later (tokens_of s q)) p v e in
      inl (record {
        lines = placed (first_place p) h.line ∷ c.lines;
        spelled = (
          p,
          q,
          sym (take-append-drop (piece_len (tokens_of s (t ∷ ts))) (t ∷ ts)),
          record {
            place = refl;
            shallow = h.shallow;
            spelled = line_sound (tokens_of s p) h.line h.read;
            good = h.good;
          },
          c.spelled,
        );
        last = c.last;
        ordered = ap (λ o. o >>= λ u. order u c.lines)
            (ap (λ b. place w (first_place p) b h.line)
            (sym (lines_close s q c.lines (spelt_all s q c.lines c.spelled)))
            ∙ h.stands) ∙ c.ordered;
        done = ap (λ r. go_on r on) e ∙ c.done;
      })
  one_more v e (inr c) =
      let p = first_of s (t ∷ ts) in
      let q = others_of s (t ∷ ts) in
      let h = step_sound s w (closes_later (tokens_of s q)) p v e in
      inr (record {
        lines = placed (first_place p) h.line ∷ c.lines;
        first = c.first;
        more = c.more;
        pieces = (
          record {
            place = refl;
            shallow = h.shallow;
            spelled = line_sound (tokens_of s p) h.line h.read;
            good = h.good;
          },
          place_closed h.line w v (first_place p) (tokens_of s q) h.stands,
          c.pieces,
        );
        last = c.last;
        reached = ap (λ o. o >>= λ u. reach u c.lines)
            (place_true h.line w v (first_place p) (closes_later (tokens_of s q)) h.stands) ∙ c.reached;
        fault = c.fault;
        stop = c.stop;
        done = ap (λ r. go_on r on) e ∙ c.done;
      })

  by_step : ((v : Walk) → Left s v (others_of s (t ∷ ts)) (on v) ⊎ Stopped s v (others_of s (t ∷ ts)) (on v))
      → (r : Result Walk ParseFault) → first_step ≡ r → Left s w (t ∷ ts) whole ⊎ Stopped s w (t ∷ ts) whole
  by_step h (Ok v) e = one_more v e (h v)
  by_step h (Err f) e =
      inr (record {
        lines = [];
        first = t;
        more = ts;
        pieces = refl;
        last = w;
        reached = refl;
        fault = f;
        stop = e;
        done = ap (λ r. go_on r on) e;
      })

walk_ends : (n : ℕ) (s : List ℕ) (w : Walk) (ts : List Lexeme) → length ts < n → Left s w ts (walk n s w ts)
    ⊎ Stopped s w ts (walk n s w ts)
walk_ends zero s w ts lt = absurd (omega (arith, lt))
walk_ends (suc n) s w [] lt = inl (record { lines = []; spelled = refl; last = w; ordered = refl; done = refl })
walk_ends (suc n) s w (t ∷ ts) lt =
    let k = piece_len (tokens_of s (t ∷ ts)) in
    let some : 0 < k = omega arith in
    let short : length (drop k (t ∷ ts)) < n = omega (arith, lt, some, length-drop k (t ∷ ts)) in
    by_step n s w t ts (λ v. walk_ends n s v (drop k (t ∷ ts)) short)
    (step s w (closes_later (tokens_of s (drop k (t ∷ ts)))) (take k (t ∷ ts))) refl

module_ends : (s : List ℕ) (ts : List Lexeme) → Left s begun ts (module_of s ts) ⊎ Stopped s begun ts (module_of s ts)
module_ends s ts = walk_ends (suc (length ts)) s begun ts (omega arith)

-- ---- what is read is a module

-- the module that is told, where its version is known
record Finished (o : Outline) (m : ParsedModule) : Type 0 where
  pub said : m ≡ outline_said o
  pub version : IsKnown o.version

finish_sound : (o : Outline) (m : ParsedModule) → by_version (outline_said o) o.version ≡ Ok m → Finished o m
finish_sound o m e = by_number o.version refl e
  where
    ok_said : (x : ParsedModule) → by_version x None ≡ Ok m → x ≡ m
    ok_said x k = cc

    by_test : (v : Numbered) (b : Bool) → o.version ≡ Some v → is_known v ≡ b → by_known (outline_said o) v b ≡ Ok m
        → Finished o m
    by_test v true ev eb k = record { said = sym (ok_said (outline_said o) k); version = subst IsKnown (sym ev) eb }
    by_test v false ev eb k = absurd cc

    by_number : (v : Option Numbered) → o.version ≡ v → by_version (outline_said o) v ≡ Ok m → Finished o m
    by_number None ev k = record { said = sym (ok_said (outline_said o) k); version = subst IsKnown (sym ev) tt }
    by_number (Some v) ev k = by_test v (is_known v) ev refl k

-- what the reading of the statements returns for a text is its module
pub module_sound : (s : List ℕ) (ts : List Lexeme) (m : ParsedModule) → module_of s ts ≡ Ok m → IsModule s ts m
module_sound s ts m e =
    elim (module_ends s ts) [
      | inl c ↦
          let o = order_sound c.lines c.last c.ordered in
          let f = finish_sound o.tree m (sym (ap finish o.is) ∙ (sym c.done ∙ e)) in
          record {
            tree = o.tree;
            spelled = subst (AreLines (Stands s) ts) o.lines c.spelled;
            stands_for = f.said;
            blocks = o.blocks;
            version = f.version;
          }
      | inr c ↦ absurd (cc (c.done, e))
    ]

-- ---- what is answered as a fault is one

abbrev walk_err : ParseFault → Result Walk ParseFault
walk_err f = Err f

err_is : (f g : ParseFault) → walk_err f ≡ Err g → f ≡ g
err_is f g e = cc

abbrev said_err : ParseFault → Result ParsedModule ParseFault
said_err f = Err f

said_err_is : (f g : ParseFault) → said_err f ≡ Err g → f ≡ g
said_err_is f g e = cc

same_fault : (f g : ParseFault) → said_err f ≡ Err g → walk_err f ≡ Err g
same_fault f g e = ap (λ x. Err x) (said_err_is f g e)

version_fault : (s : List ℕ) (ts : List Lexeme) (f : ParseFault) (o : Outline)
    → AreLines (Stands s) ts (outline_lines o) → AllLocalOutside o.parts → by_version (outline_said o) o.version ≡ Err f
    → VersionFault s ts f
version_fault s ts f o h k e = by_number o.version refl e
  where
    by_test : (v : Numbered) (b : Bool) → o.version ≡ Some v → is_known v ≡ b → by_known (outline_said o) v b ≡ Err f
        → VersionFault s ts f
    by_test v true ev eb x = absurd cc
    by_test v false ev eb x = record {
      tree = o;
      number = v;
      spelled = h;
      blocks = k;
      version = ev;
      unknown = eb;
      is = sym (said_err_is (record { at = v.at; kind = Version }) f x);
    }

    by_number : (v : Option Numbered) → o.version ≡ v → by_version (outline_said o) v ≡ Err f → VersionFault s ts f
    by_number None ev x = absurd cc
    by_number (Some v) ev x = by_test v (is_known v) ev refl x

module _ (s : List ℕ) (before : List Placed) (u : Walk) (reached : reach begun before ≡ Some u) (p q :
    List Lexeme) where
  -- after those before it and the statement
  next_reach : (l : Line) → reach begun (before ++ placed (first_place p) l ∷ [])
      ≡ (place u (first_place p) true l >>= λ v. reach v [])
  next_reach l = reach_on before (placed (first_place p) l ∷ []) begun u reached

  has_place : (l : Line) (v : Walk) → line_of (tokens_of s p) ≡ Some l
      → place u (first_place p) (closes_later (tokens_of s q)) l ≡ Some v → HasPlace s before p q
  has_place l v el ep =
      record {
        line = l;
        spelled = line_sound (tokens_of s p) l el;
        begins = may_begin (before ++ placed (first_place p) l ∷ []) v (next_reach l
            ∙ ap (λ o. o >>= λ x. reach x []) (place_true l u v (first_place p) (closes_later (tokens_of s q)) ep));
        closed = place_closed l u v (first_place p) (tokens_of s q) ep;
      }

  -- where it has a place, the walk finds it
  place_found : (h : HasPlace s before p q)
      → (v : Walk) × (place u (first_place p) (closes_later (tokens_of s q)) h.line ≡ Some v)
  place_found h =
      let r = begin_reach (before ++ placed (first_place p) h.line ∷ []) h.begins in
      let b = bind_some (place u (first_place p) true h.line) _ _ (sym (next_reach h.line) ∙ r.1) in
      (b.0, place_any h.line u b.0 (first_place p) (tokens_of s q) b.1 h.closed)

  no_line : line_of (tokens_of s p) ≡ None → HasPlace s before p q → ⊥
  no_line el h = absurd (cc (el, line_again (tokens_of s p) h.line h.spelled))

  no_place : (l : Line) → line_of (tokens_of s p) ≡ Some l → place u (first_place p) (closes_later (tokens_of s q)) l
      ≡ None → HasPlace s before p q → ⊥
  no_place l el ep h =
      let same = some_is l h.line (sym el ∙ line_again (tokens_of s p) h.line h.spelled) in
      let found = ap (place u (first_place p) (closes_later (tokens_of s q))) same ∙ (place_found h).1 in
      absurd (cc (ep, found))

  payload_fault : (k : ParseKind) (f : ParseFault) → OfPayload k → too_deep s ground_level p ≡ None
      → HasPlace s before p q → first_bad s p ≡ Some f → PieceFault k s before p q f
  payload_fault (BadBounds least most) f h d r e = (d, r, e)
  payload_fault (Class fault) f h d r e = (d, r, e)
  payload_fault NoMemory f h d r e = absurd h
  payload_fault TooDeep f h d r e = absurd h
  payload_fault Syntax f h d r e = absurd h
  payload_fault Version f h d r e = absurd h

  module _ (f : ParseFault) where
    is_fault : (g : ParseFault) → g ≡ f → PieceFault g.kind s before p q g → PieceFault f.kind s before p q f
    is_fault g e h = subst (λ x. PieceFault x.kind s before p q x) e h

    place_fault : (l : Line) (o : Option Walk) (b : Option ParseFault) → too_deep s ground_level p ≡ None
        → line_of (tokens_of s p) ≡ Some l → place u (first_place p) (closes_later (tokens_of s q)) l ≡ o
        → first_bad s p ≡ b → by_place (first_place p) b o ≡ Err f → PieceFault f.kind s before p q f
    place_fault l None b ed el ep eb e =
        is_fault (record { at = first_place p; kind = Syntax }) (err_is _ f e) (ed, no_place l el ep, refl)
    place_fault l (Some v) (Some g) ed el ep eb e =
        is_fault g (err_is g f e) (payload_fault g.kind g (bad_kind s p g eb) ed (has_place l v el ep) eb)
    place_fault l (Some v) None ed el ep eb e = absurd cc

    piece_by : (d : Option ℕ) (o : Option Line) → too_deep s ground_level p ≡ d → line_of (tokens_of s p) ≡ o
        → by_level d (by_line (first_place p) (first_bad s p) u (closes_later (tokens_of s q)) o) ≡ Err f
        → PieceFault f.kind s before p q f
    piece_by (Some d) o ed el e = is_fault (record { at = d; kind = TooDeep }) (err_is _ f e) ed
    piece_by None None ed el e =
        is_fault (record { at = first_place p; kind = Syntax }) (err_is _ f e) (ed, no_line el, refl)
    piece_by None (Some l) ed el e =
        place_fault l (place u (first_place p) (closes_later (tokens_of s q)) l) (first_bad s p) ed el refl refl e

    piece_fault : step s u (closes_later (tokens_of s q)) p ≡ Err f → PieceFault f.kind s before p q f
    piece_fault e = piece_by (too_deep s ground_level p) (line_of (tokens_of s p)) refl refl e

pub fault_sound : (s : List ℕ) (ts : List Lexeme) (f : ParseFault) → module_of s ts ≡ Err f → IsModuleFault s ts f
fault_sound s ts f e =
    elim (module_ends s ts) [
      | inl c ↦
          let o = order_sound c.lines c.last c.ordered in
          inr (version_fault s ts f o.tree (subst (AreLines (Stands s) ts) o.lines c.spelled) o.blocks
          (sym (ap finish o.is) ∙ (sym c.done ∙ e)))
      | inr c ↦
          let p = first_of s (c.first ∷ c.more) in
          let q = others_of s (c.first ∷ c.more) in
          let same = same_fault c.fault f (sym c.done ∙ e) in
          inl (record {
            before = c.lines;
            first = c.first;
            more = c.more;
            pieces = c.pieces;
            begins = may_begin c.lines c.last c.reached;
            fault = piece_fault s c.lines c.last c.reached p q f (c.stop ∙ same);
          })
    ]

-- ---- what is a fault is answered

-- the level, the place and what is bad of a piece, put together
module _ (s : List ℕ) (before : List Placed) (u : Walk) (reached : reach begun before ≡ Some u) (p q : List Lexeme) (f :
    ParseFault) where
  abbrev answer : Option ℕ → Option Line → Result Walk ParseFault
  answer d o = by_level d (by_line (first_place p) (first_bad s p) u (closes_later (tokens_of s q)) o)

  -- a syntax fault: no line, or a line without a place
  syntax_by : (o : Option Line) → line_of (tokens_of s p) ≡ o → (HasPlace s before p q → ⊥)
      → answer None o ≡ Err (record { at = first_place p; kind = Syntax })
  syntax_by None el h = refl
  syntax_by (Some l) el h = by_walk (place u (first_place p) (closes_later (tokens_of s q)) l) refl
    where
      by_walk : (o : Option Walk) → place u (first_place p) (closes_later (tokens_of s q)) l ≡ o
          → by_place (first_place p) (first_bad s p) (place u (first_place p) (closes_later (tokens_of s q)) l)
          ≡ Err (record { at = first_place p; kind = Syntax })
      by_walk None ep = ap (by_place (first_place p) (first_bad s p)) ep
      by_walk (Some v) ep = absurd (h (has_place s before u reached p q l v el ep))

  bad_by : HasPlace s before p q → first_bad s p ≡ Some f → answer None (line_of (tokens_of s p)) ≡ Err f
  bad_by h e =
      let v = place_found s before u reached p q h in
      ap (answer None) (line_again (tokens_of s p) h.line h.spelled)
      ∙ (ap (by_place (first_place p) (first_bad s p)) v.1 ∙ ap (by_bad v.0) e)

  kind_by : (k : ParseKind) → f.kind ≡ k → PieceFault k s before p q f → step s u (closes_later (tokens_of s q)) p
      ≡ Err f
  kind_by TooDeep ek h = ap (λ d. answer d (line_of (tokens_of s p))) h
      ∙ ap (λ k. Err (record { at = f.at; kind = k })) (sym ek)
  kind_by Syntax ek h =
      ap (λ d. answer d (line_of (tokens_of s p))) h.0
      ∙ (syntax_by (line_of (tokens_of s p)) refl h.1
      ∙ (ap (λ a. Err (record { at = a; kind = Syntax })) (sym h.2)
      ∙ ap (λ k. Err (record { at = f.at; kind = k })) (sym ek)))
  kind_by (BadBounds least most) ek h = ap (λ d. answer d (line_of (tokens_of s p))) h.0 ∙ bad_by h.1 h.2
  kind_by (Class fault) ek h = ap (λ d. answer d (line_of (tokens_of s p))) h.0 ∙ bad_by h.1 h.2
  kind_by NoMemory ek h = absurd h
  kind_by Version ek h = absurd h

pieces_again : (ls : List Placed) (n : ℕ) (s : List ℕ) (w u : Walk) (ts : List Lexeme) (first : Lexeme) (more :
    List Lexeme) (f : ParseFault) → length ts < n → PiecesAre s ts ls (first ∷ more) → reach w ls ≡ Some u
    → step s u (closes_later (tokens_of s (others_of s (first ∷ more)))) (first_of s (first ∷ more)) ≡ Err f
    → walk n s w ts ≡ Err f
pieces_again ls zero s w u ts first more f lt h r e = absurd (omega (arith, lt))
pieces_again [] (suc n) s w u ts first more f lt h r e =
    ap (walk (suc n) s w) h ∙ (ap (λ x. walk (suc n) s x (first ∷ more)) (some_is w u r)
    ∙ ap (λ o. go_on o (λ v. walk n s v (others_of s (first ∷ more)))) e)
pieces_again (l ∷ ls) (suc n) s w u [] first more f lt h r e = absurd (not_empty s [] l (spelt s [] l h.0) refl)
pieces_again (l ∷ ls) (suc n) s w u (t ∷ ts) first more f lt h r e =
    let b = bind_some (place w l.at true l.line) _ _ r in
    let p = first_of s (t ∷ ts) in
    let q = others_of s (t ∷ ts) in
    let k = piece_len (tokens_of s (t ∷ ts)) in
    let some : 0 < k = omega arith in
    let short : length q < n = omega (arith, lt, some, length-drop k (t ∷ ts)) in
    let now = step_again s w b.0 (closes_later (tokens_of s q)) p l h.0
    (place_any l.line w b.0 l.at (tokens_of s q) b.1 h.1) in
    ap (λ o. go_on o (λ v. walk n s v q)) now ∙ pieces_again ls n s b.0 u q first more f short h.2 b.2 e

version_again : (s : List ℕ) (ts : List Lexeme) (f : ParseFault) → VersionFault s ts f → module_of s ts ≡ Err f
version_again s ts f h =
    let o = order_again h.tree h.blocks in
    lines_again (outline_lines h.tree) (suc (length ts)) s begun (out o.stage (outline_walk h.tree)) ts (omega arith)
    h.spelled o.ordered
    ∙ (ap (by_version (outline_said h.tree)) h.version ∙ (ap (by_known (outline_said h.tree) h.number) h.unknown
    ∙ ap (λ x. Err x) (sym h.is)))

statement_again : (s : List ℕ) (ts : List Lexeme) (f : ParseFault) → StatementFault s ts f → module_of s ts ≡ Err f
statement_again s ts f h =
    let r = begin_reach h.before h.begins in
    let p = first_of s (h.first ∷ h.more) in
    let q = others_of s (h.first ∷ h.more) in
    pieces_again h.before (suc (length ts)) s begun r.0 ts h.first h.more f (omega arith) h.pieces r.1
    (kind_by s h.before r.0 r.1 p q f f.kind refl h.fault)

pub fault_again : (s : List ℕ) (ts : List Lexeme) (f : ParseFault) → IsModuleFault s ts f → module_of s ts ≡ Err f
fault_again s ts f (inl h) = statement_again s ts f h
fault_again s ts f (inr h) = version_again s ts f h

-- ---- what a function returned

pub answers_ok : (s : List ℕ) (ts : List Lexeme) (r : Result Module ParseFault) → Answers said r (module_of s ts)
    → IfOk r (λ m. IsModule s ts (said m))
answers_ok s ts (Ok m) h = module_sound s ts (said m) h
answers_ok s ts (Err f) h = tt

pub answers_err : (s : List ℕ) (ts : List Lexeme) (r : Result Module ParseFault) → Answers said r (module_of s ts)
    → IfErr r (λ f. f.kind ≢ NoMemory → IsModuleFault s ts f)
answers_err s ts (Ok m) h = tt
answers_err s ts (Err f) h = λ ne. fault_sound s ts f (h.0 ne)

-- ---- one or the other

pub module_or_fault : (s : List ℕ) (ts : List Lexeme) → ((m : ParsedModule) × IsModule s ts m)
    ⊎ ((f : ParseFault) × IsModuleFault s ts f)
module_or_fault s ts = by_answer (module_of s ts) refl
  where
    by_answer : (r : Result ParsedModule ParseFault) → module_of s ts ≡ r → ((m : ParsedModule) × IsModule s ts m)
        ⊎ ((f : ParseFault) × IsModuleFault s ts f)
    by_answer (Ok m) e = inl (m, module_sound s ts m e)
    by_answer (Err f) e = inr (f, fault_sound s ts f e)
