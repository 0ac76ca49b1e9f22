-- Names of classes, found piece by piece.
use Rattle.std.proofs.Common.{Option, Some, None, ◌≡◌, ℕ, ◌-◌, List, [], ◌∷◌, take, drop, refl, sym, ap, ◌∙◌, arith}
use Rattle.std.specs.Option.{option_map}
use Rattle.std.specs.Prelude.{Bool, true, false, ◌&&◌, if◌then◌else◌, slice_range, Ok, Err}
use Rattle.regex_class.specs.Ranges.{Range}
use Rattle.rpl_classes.specs.Algebra.{others}
use Rattle.rpl_classes.specs.Classes.{set_named}
use Rattle.rpl_classes.specs.Faults.{IsNamed}
use Rattle.rpl_classes.specs.inside.Signed.{signed_named}
use Rattle.rpl_classes.specs.declared.fault.SetFault.TheVariants.{UnknownClass}
use Rattle.std.proofs.lemmas.Bool.{and_from, cond-true, cond-false, true_from_ne_false, false_from_ne_true}
use Rattle.rpl_text.specs.Places.{index, IsPlace}
use Rattle.rpl_classes.specs.Symbols.{Placed, symbols_from, first, place, rest, begins}
use Rattle.rpl_classes.specs.Lists.{changed, char_of}
use Rattle.rpl_classes.specs.Brackets.{is_word, word, past_word, is_name, named, name, class}
use Rattle.rpl_classes.specs.inside.Scanned.{Passed, Worded, NameFound, ClassFound}
use Rattle.rpl_classes.proofs.Steps.{word_cons, past_word_cons}
use Rattle.rpl_classes.proofs.ListSteps.{shape, place_from}

past_none : (t : List ℕ) (p : ℕ) → is_word (first (symbols_from t p)) ≡ false
    → past_word (symbols_from t p) ≡ symbols_from t p
past_none t p f =
    let s = shape t p in
    ap past_word s.is ∙ past_word_cons (p, s.symbol) s.others
    ∙ cond-false (is_word s.symbol) (past_word s.others) ((p, s.symbol) ∷ s.others)
    (sym (ap (λ l. is_word (first l)) s.is) ∙ f) ∙ sym s.is

word_some : (t : List ℕ) (p : ℕ) → is_word (first (symbols_from t p)) ≡ true → word (symbols_from t p) ≡ [] → ⊥
word_some t p f e =
    let s = shape t p in
    let g : char_of s.symbol ∷ word s.others ≡ [] =
    sym (ap word s.is ∙ word_cons (p, s.symbol) s.others
    ∙ cond-true (is_word s.symbol) (char_of s.symbol ∷ word s.others) [] (sym (ap (λ l. is_word (first l)) s.is) ∙ f))
    ∙ e in
    absurd (cc)

slice_empty : (t : List ℕ) (a : ℕ) → slice_range t a a ≡ []
slice_empty t a = let n : a - a ≡ 0 = omega arith in ap (λ k. take k (drop a t)) n

-- where nothing was passed no name stands
pub no_name : (t : List ℕ) (p e : ℕ) → Worded t p e → e ≡ p → is_name (symbols_from t p) ≡ false
no_name t p e w h =
    let f : is_word (first (symbols_from t p)) ≡ false =
    false_from_ne_true _ (λ b. word_some t p b (w.word ∙ ap (λ k. slice_range t (index t p) (index t k)) h
    ∙ slice_empty t (index t p))) in
    ap (λ b. b && (begins 58 (past_word (symbols_from t p)) && begins 93 (rest (past_word (symbols_from t p))))) f

pub some_name : (t : List ℕ) (p e : ℕ) → Worded t p e → (e ≡ p → ⊥) → is_word (first (symbols_from t p)) ≡ true
some_name t p e w n =
    true_from_ne_false _ (λ f. n (sym (place_from t e) ∙ ap place (sym w.past.left ∙ past_none t p f) ∙ place_from t p))

pub name_found : (t : List ℕ) (p e c q : ℕ) → IsPlace t p → Worded t p e → (e ≡ p → ⊥)
    → begins 58 (symbols_from t e) ≡ true → Passed t e (rest (symbols_from t e)) c
    → begins 93 (symbols_from t c) ≡ true → Passed t c (rest (symbols_from t c)) q → NameFound t p e q
name_found t p e c q h w n a p1 b p2 =
    let after : rest (past_word (symbols_from t p)) ≡ symbols_from t c = ap rest w.past.left ∙ p1.left in
    record {
      is = and_from _ _ (some_name t p e w n) (and_from _ _ (ap (begins 58) w.past.left ∙ a) (ap (begins 93) after
          ∙ b));
      text = w.word;
      start = h;
      end = w.past.next;
      order = w.past.forward;
      behind = record {
        left = ap rest after ∙ p2.left;
        next = p2.next;
        forward = omega (arith, w.past.forward, p1.forward, p2.forward);
      };
    }

-- what a found class reads as
pub class_reads : (t : List ℕ) (p at : ℕ) (negated : Bool) (o e q : ℕ) → ClassFound t p negated o e q
    → class at (symbols_from t p)
    ≡ (if negated then changed others (named at (set_named (word (symbols_from t o))) (symbols_from t q))
    else named at (set_named (word (symbols_from t o))) (symbols_from t q))
class_reads t p at true o e q f =
    cond-true (begins 94 (rest (symbols_from t p))) (changed others (name at (rest (rest (symbols_from t p)))))
    (name at (rest (symbols_from t p))) f.mark
    ∙ ap (λ s. changed others (name at s)) f.start
    ∙ ap (λ s. changed others (named at (set_named (word (symbols_from t o))) s)) f.name.behind.left
class_reads t p at false o e q f =
    cond-false (begins 94 (rest (symbols_from t p))) (changed others (name at (rest (rest (symbols_from t p)))))
    (name at (rest (symbols_from t p))) f.mark
    ∙ ap (name at) f.start ∙ ap (named at (set_named (word (symbols_from t o)))) f.name.behind.left

named_some : (o : Option (List Range)) (s : List Range) → IsNamed o (Ok s) → o ≡ Some s
named_some None s h = absurd h
named_some (Some a) s h = ap Some (sym h)

named_none : (o : Option (List Range)) (k : ℕ) → IsNamed o (Err (UnknownClass k)) → o ≡ None
named_none None k h = refl
named_none (Some a) k h = absurd (cc)

changed_some : (at : ℕ) (o : Option (List Range)) (s : List Placed) (a : List Range) → option_map others o ≡ Some a
    → changed others (named at o s) ≡ Ok (a, s)
changed_some at None s a e = absurd (cc)
changed_some at (Some b) s a e = ap (λ x. Ok (x, s)) (cc)

changed_none : (at : ℕ) (o : Option (List Range)) (s : List Placed) → option_map others o ≡ None
    → changed others (named at o s) ≡ Err (UnknownClass at)
changed_none at None s e = refl
changed_none at (Some b) s e = absurd (cc)

-- a class that has a set, and one that has none
pub class_set_found : (t : List ℕ) (p at : ℕ) (negated : Bool) (o e q : ℕ) (bs : List ℕ) (a : List Range)
    → ClassFound t p negated o e q → bs ≡ word (symbols_from t o)
    → IsNamed (signed_named negated bs) (Ok a) → class at (symbols_from t p) ≡ Ok (a, symbols_from t q)
class_set_found t p at true o e q bs a f b h =
    class_reads t p at true o e q f
    ∙ changed_some at (set_named (word (symbols_from t o))) (symbols_from t q) a
    (ap (λ x. option_map others (set_named x)) (sym b) ∙ named_some (option_map others (set_named bs)) a h)
class_set_found t p at false o e q bs a f b h =
    class_reads t p at false o e q f
    ∙ ap (λ x. named at x (symbols_from t q)) (ap set_named (sym b) ∙ named_some (set_named bs) a h)

pub class_unknown : (t : List ℕ) (p at : ℕ) (negated : Bool) (o e q k : ℕ) (bs : List ℕ) → ClassFound t p negated o e q
    → bs ≡ word (symbols_from t o)
    → IsNamed (signed_named negated bs) (Err (UnknownClass k)) → class at (symbols_from t p) ≡ Err (UnknownClass at)
class_unknown t p at true o e q k bs f b h =
    class_reads t p at true o e q f
    ∙ changed_none at (set_named (word (symbols_from t o))) (symbols_from t q)
    (ap (λ x. option_map others (set_named x)) (sym b) ∙ named_none (option_map others (set_named bs)) k h)
class_unknown t p at false o e q k bs f b h =
    class_reads t p at false o e q f
    ∙ ap (λ x. named at x (symbols_from t q)) (ap set_named (sym b) ∙ named_none (set_named bs) k h)
