-- With which statements a module can begin.
use Rattle.std.proofs.Common.{◌≡◌, ℕ, List, [], ◌∷◌, ◌++◌, Option, Some, refl, sym, ap, ◌∙◌, ◌⊎◌, inl, inr}
use Rattle.std.proofs.lemmas.List.{append-nil}
use Rattle.std.specs.Prelude.{Bool, true, false, ◌||◌}
use Rattle.rpl_text.specs.Options.{◌>>=◌}
use Rattle.rpl_syntax.specs.declared.token.Token.{Token}
use Rattle.rpl_syntax.proofs.Sound.{bind_some, some_is}
use Rattle.rpl_parser.specs.ModuleFaults.{IsClosed, MayBegin}
use Rattle.rpl_parser.specs.Order.{Placed, placed}
use Rattle.rpl_parser.specs.Spelling as L
use Rattle.rpl_parser.specs.Spelling.{Line}
use Rattle.rpl_parser.specs.Pieces.{closes_later}
use Rattle.rpl_parser.specs.Walks.{Walk, begun, opened, closed, shut, place}
use Rattle.rpl_parser.specs.declared.walk.Stage.{Stage}
use Rattle.rpl_parser.specs.declared.walk.Stage.TheVariants.{Begun, Versioned, Packaged, Ruled, InBlock, BehindIn}
use Rattle.rpl_parser.proofs.Cutting.{is_end}
use Rattle.rpl_parser.proofs.Ordered.{ends, order, out, outline_walk, order_again}
use Rattle.rpl_parser.proofs.Outlined.{order_sound}

-- after these statements, where each may stand there and each block is closed later
abbrev pub reach : Walk → List Placed → Option Walk
reach w [] = Some w
reach w (l ∷ ls) = place w l.at true l.line >>= λ v. reach v ls

pub reach_on : (xs ys : List Placed) (w u : Walk) → reach w xs ≡ Some u → reach w (xs ++ ys) ≡ reach u ys
reach_on [] ys w u e = ap (λ x. reach x ys) (some_is w u e)
reach_on (l ∷ xs) ys w u e =
    let b = bind_some (place w l.at true l.line) _ _ e in
    ap (λ o. o >>= λ v. reach v (xs ++ ys)) b.1 ∙ reach_on xs ys b.0 u b.2

reach_front : (xs ys : List Placed) (w v : Walk) → reach w (xs ++ ys) ≡ Some v → (u : Walk) × (reach w xs ≡ Some u)
reach_front [] ys w v e = (w, refl)
reach_front (l ∷ xs) ys w v e =
    let b = bind_some (place w l.at true l.line) _ _ e in
    let h = reach_front xs ys b.0 v b.2 in
    (h.0, ap (λ o. o >>= λ x. reach x xs) b.1 ∙ h.1)

-- ---- a block that is opened

opens_true : (st : Stage) (w v : Walk) (c : Bool) → opened w st c ≡ Some v → c ≡ true
opens_true st w v true e = refl
opens_true Begun w v false e = absurd cc
opens_true Versioned w v false e = absurd cc
opens_true Packaged w v false e = absurd cc
opens_true Ruled w v false e = absurd cc
opens_true InBlock w v false e = absurd cc
opens_true BehindIn w v false e = absurd cc

pub place_true : (l : Line) (w v : Walk) (at : ℕ) (c : Bool) → place w at c l ≡ Some v → place w at true l ≡ Some v
place_true L.Opens w v at c e = ap (opened w w.stage) (sym (opens_true w.stage w v c e)) ∙ e
place_true (L.Version a b) w v at c e = e
place_true (L.Package n) w v at c e = e
place_true (L.Imports es) w v at c e = e
place_true (L.Binds local alias n x) w v at c e = e
place_true L.Splits w v at c e = e
place_true L.Closes w v at c e = e

pub place_closed : (l : Line) (w v : Walk) (at : ℕ) (r : List Token) → place w at (closes_later r) l ≡ Some v
    → IsClosed l r
place_closed L.Opens w v at r e = opens_true w.stage w v (closes_later r) e
place_closed (L.Version a b) w v at r e = tt
place_closed (L.Package n) w v at r e = tt
place_closed (L.Imports es) w v at r e = tt
place_closed (L.Binds local alias n x) w v at r e = tt
place_closed L.Splits w v at r e = tt
place_closed L.Closes w v at r e = tt

pub place_any : (l : Line) (w v : Walk) (at : ℕ) (r : List Token) → place w at true l ≡ Some v → IsClosed l r
    → place w at (closes_later r) l ≡ Some v
place_any L.Opens w v at r e h = ap (opened w w.stage) h ∙ e
place_any (L.Version a b) w v at r e h = e
place_any (L.Package n) w v at r e h = e
place_any (L.Imports es) w v at r e h = e
place_any (L.Binds local alias n x) w v at r e h = e
place_any L.Splits w v at r e h = e
place_any L.Closes w v at r e h = e

-- ---- in a block

abbrev is_inside : Stage → Bool
is_inside InBlock = true
is_inside BehindIn = true
is_inside _ = false

opened_inside : (st : Stage) (w v : Walk) → opened w st true ≡ Some v → is_inside v.stage ≡ true
opened_inside InBlock w v e = absurd cc
opened_inside BehindIn w v e = absurd cc
opened_inside Begun w v e = ap (λ (x : Walk). is_inside x.stage) (sym (some_is _ _ e))
opened_inside Versioned w v e = ap (λ (x : Walk). is_inside x.stage) (sym (some_is _ _ e))
opened_inside Packaged w v e = ap (λ (x : Walk). is_inside x.stage) (sym (some_is _ _ e))
opened_inside Ruled w v e = ap (λ (x : Walk). is_inside x.stage) (sym (some_is _ _ e))

closes_inside : (st : Stage) (w : Walk) → is_inside st ≡ true → closed w st ≡ Some (shut w)
closes_inside InBlock w h = refl
closes_inside BehindIn w h = refl
closes_inside Begun w h = absurd cc
closes_inside Versioned w h = absurd cc
closes_inside Packaged w h = absurd cc
closes_inside Ruled w h = absurd cc

abbrev at_stage : Stage → Walk → Walk
at_stage st w = record w { stage = st }

-- a statement of a block closes it, or the block goes on
inside_step : (st : Stage) (l : Line) (w v : Walk) (at : ℕ) → is_inside st ≡ true
    → place (at_stage st w) at true l ≡ Some v → (is_end l ≡ true) ⊎ (is_inside v.stage ≡ true)
inside_step InBlock L.Closes w v at h e = inl refl
inside_step BehindIn L.Closes w v at h e = inl refl
inside_step InBlock (L.Binds false alias n x) w v at h e =
    inr (ap (λ (y : Walk). is_inside y.stage) (sym (some_is _ _ e)))
inside_step BehindIn (L.Binds false alias n x) w v at h e =
    inr (ap (λ (y : Walk). is_inside y.stage) (sym (some_is _ _ e)))
inside_step InBlock L.Splits w v at h e = inr (ap (λ (y : Walk). is_inside y.stage) (sym (some_is _ _ e)))
inside_step InBlock (L.Binds true alias n x) w v at h e = absurd cc
inside_step BehindIn (L.Binds true alias n x) w v at h e = absurd cc
inside_step BehindIn L.Splits w v at h e = absurd cc
inside_step InBlock _ w v at h e = absurd cc
inside_step BehindIn _ w v at h e = absurd cc
inside_step Begun _ w v at h e = absurd cc
inside_step Versioned _ w v at h e = absurd cc
inside_step Packaged _ w v at h e = absurd cc
inside_step Ruled _ w v at h e = absurd cc

or_true : (b : Bool) → (b || true) ≡ true
or_true true = refl
or_true false = refl

-- a block that is left was closed
ends_must : (ls : List Placed) (w v : Walk) → is_inside w.stage ≡ true → reach w ls ≡ Some v → is_inside v.stage ≡ false
    → ends ls ≡ true
ends_must [] w v h e k =
    let same = ap (λ (x : Walk). is_inside x.stage) (some_is w v e) in
    absurd (cc (same, h, k))
ends_must (l ∷ ls) w v h e k =
    let b = bind_some (place w l.at true l.line) _ _ e in
    elim (inside_step w.stage l.line w b.0 l.at h b.1) [
      | inl c ↦ ap (λ x. x || ends ls) c
      | inr c ↦ ap (λ x. is_end l.line || x) (ends_must ls b.0 v c b.2 k) ∙ or_true (is_end l.line)
    ]

place_ends : (l : Line) (ls : List Placed) (w u v : Walk) (at : ℕ) → place w at true l ≡ Some u → reach u ls ≡ Some v
    → is_inside v.stage ≡ false → place w at (ends ls) l ≡ Some u
place_ends L.Opens ls w u v at e r k =
    ap (opened w w.stage) (ends_must ls u v (opened_inside w.stage w u e) r k) ∙ e
place_ends (L.Version a b) ls w u v at e r k = e
place_ends (L.Package n) ls w u v at e r k = e
place_ends (L.Imports es) ls w u v at e r k = e
place_ends (L.Binds local alias n x) ls w u v at e r k = e
place_ends L.Splits ls w u v at e r k = e
place_ends L.Closes ls w u v at e r k = e

reach_order : (ls : List Placed) (w v : Walk) → reach w ls ≡ Some v → is_inside v.stage ≡ false → order w ls ≡ Some v
reach_order [] w v e k = e
reach_order (l ∷ ls) w v e k =
    let b = bind_some (place w l.at true l.line) _ _ e in
    ap (λ o. o >>= λ x. order x ls) (place_ends l.line ls w b.0 v l.at b.1 b.2 k) ∙ reach_order ls b.0 v b.2 k

order_reach : (ls : List Placed) (w v : Walk) → order w ls ≡ Some v → reach w ls ≡ Some v
order_reach [] w v e = e
order_reach (l ∷ ls) w v e =
    let b = bind_some (place w l.at (ends ls) l.line) _ _ e in
    ap (λ o. o >>= λ x. reach x ls) (place_true l.line w b.0 l.at (ends ls) b.1) ∙ order_reach ls b.0 v b.2

-- ---- the beginnings of modules

pub may_begin : (ls : List Placed) (w : Walk) → reach begun ls ≡ Some w → MayBegin ls
may_begin ls w e = by_stage (is_inside w.stage) refl
  where
    by_stage : (b : Bool) → is_inside w.stage ≡ b → MayBegin ls
    by_stage false k =
        let o = order_sound ls w (reach_order ls begun w e k) in
        record { more = []; tree = o.tree; lines = append-nil ls ∙ o.lines; blocks = o.blocks }
    by_stage true k =
        let end = placed 0 L.Closes ∷ [] in
        let all = reach_on ls end begun w e ∙ ap (λ o. o >>= λ x. reach x []) (closes_inside w.stage w k) in
        let o = order_sound (ls ++ end) (shut w) (reach_order (ls ++ end) begun (shut w) all refl) in
        record { more = end; tree = o.tree; lines = o.lines; blocks = o.blocks }

pub begin_reach : (ls : List Placed) → MayBegin ls → (u : Walk) × (reach begun ls ≡ Some u)
begin_reach ls h =
    let o = order_again h.tree h.blocks in
    let v = out o.stage (outline_walk h.tree) in
    reach_front ls h.more begun v (order_reach (ls ++ h.more) begun v (ap (order begun) h.lines ∙ o.ordered))
