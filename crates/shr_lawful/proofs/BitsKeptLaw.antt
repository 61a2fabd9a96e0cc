-- SPDX-License-Identifier: GPL-2.0-only
-- A worker's map has each bit that an earlier command of it set where it filled a list, unless it was cleared since, of a run.
use Rattle.shr_lawful.proofs.Common.{◌≡◌, ◌≢◌, ◌⊎◌, inl, inr, ⊎_elim, ℕ, zero, suc, ◌+◌, ◌<◌, Bool, true, false, cond, List, [], ◌∷◌, ◌++◌, sym, refl, ap, subst, ◌∙◌, arith, append_assoc, eq-eqb, ne_eqb, slice_get, Some, ◌==◌, append-nil, map-append, same_Some, none-some, dite, ℕ_discrete, Script, Has, map_has, Deed, by_seat, part, AreSo, among, Moment, moment_next, IsSo, Event, Mapped, raised, cleared, mapped, WorkerState, Report, IsSetLast, IsRun, Step, IsAmong, steps_of, AreStepsChained, BringsWork, cleared_in, maps_in, at_start}
use Rattle.shr_lawful.proofs.LineParts.{part_has}
use Rattle.shr_model.proofs.Members.{Has_left, Has_right}
use Rattle.shr_seats.specs.Lines as lines
use Rattle.shr_lawful.proofs.LineOrder.{of_kind}
use Rattle.shr_lawful.proofs.Gathering.{work_of}
use Rattle.shr_lawful.proofs.Listed.{among_has, has_among, either}

-- ---- lists
-- what stands before an element and behind it
record IsAt {A : Type 0} (xs : List A) (x : A) : Type 0 where
  front : List A
  back : List A
  is : xs ≡ front ++ x ∷ back

found_at : {A : Type 0} (xs : List A) (x : A) → Has xs x → IsAt xs x
found_at [] x h = absurd h
found_at {A} (y ∷ xs) x (inl e) = record { front = []; back = xs; is = ap (λ (z : A). z ∷ xs) e }
found_at {A} (y ∷ xs) x (inr h) = let t = found_at xs x h in record { front = y ∷ t.front; back = t.back; is = ap (λ (l : List A). y ∷ l) t.is }

-- ---- a line and the deeds of one seat
-- a line is cut where the deeds of a seat are
record IsCut (j : ℕ) (line before after : List (Deed Event)) (d : Deed Event) : Type 0 where
  front : List (Deed Event)
  back : List (Deed Event)
  is : line ≡ front ++ d ∷ back
  before_is : part j front ≡ before
  after_is : part j back ≡ after

first_same : {A : Type 0} (x y : A) (xs ys : List A) → x ∷ xs ≡ y ∷ ys → (x ≡ y) × (xs ≡ ys)
first_same x y xs ys e = (cc, cc)

cut_at : (j : ℕ) (line before after : List (Deed Event)) (d : Deed Event) → part j line ≡ before ++ d ∷ after → IsCut j line before after d
cut_at j [] [] after d e = absurd (cc)
cut_at j [] (p ∷ before) after d e = absurd (cc)
cut_at j (y ∷ line) before after d e = by_cases (λ first. cut_at j line first after d) (y.seat == j) refl where
  behind : (b : Bool) → (y.seat == j) ≡ b → (l : List (Deed Event)) → part j (y ∷ l) ≡ cond b (y ∷ part j l) (part j l)
  behind b is l = ap (λ (c : Bool). cond c (y ∷ part j l) (part j l)) is

  own : ((first : List (Deed Event)) → part j line ≡ first ++ d ∷ after → IsCut j line first after d) → (before : List (Deed Event)) → (y.seat == j) ≡ true → y ∷ part j line ≡ before ++ d ∷ after → IsCut j (y ∷ line) before after d
  own rest [] is e = let t = first_same y d (part j line) after e in record { front = []; back = line; is = ap (λ (z : Deed Event). z ∷ line) t.0; before_is = refl; after_is = t.1 }
  own rest (p ∷ before) is e = let t = first_same y p (part j line) (before ++ d ∷ after) e in let r = rest before t.1 in record {
    front = y ∷ r.front;
    back = r.back;
    is = ap (λ (l : List (Deed Event)). y ∷ l) r.is;
    before_is = behind true is r.front ∙ (ap (λ (z : Deed Event). z ∷ part j r.front) t.0 ∙ ap (λ (l : List (Deed Event)). p ∷ l) r.before_is);
    after_is = r.after_is;
  }

  by_cases : ((first : List (Deed Event)) → part j line ≡ first ++ d ∷ after → IsCut j line first after d) → (b : Bool) → (y.seat == j) ≡ b → IsCut j (y ∷ line) before after d
  by_cases rest true is = own rest before is (sym (behind true is line) ∙ e)
  by_cases rest false is = let r = rest before (sym (behind false is line) ∙ e) in record {
    front = y ∷ r.front;
    back = r.back;
    is = ap (λ (l : List (Deed Event)). y ∷ l) r.is;
    before_is = behind false is r.front ∙ r.before_is;
    after_is = r.after_is;
  }

-- ---- moments
so_at : (ids : ℕ) (t : Moment) (front back : List (Deed Event)) (d : Deed Event) → AreSo moment_next (λ u y. IsSo ids u y.act) t (front ++ d ∷ back) → IsSo ids (lines.state_after moment_next t front) d.act
so_at ids t [] back d h = h.0
so_at ids t (y ∷ front) back d h = so_at ids (moment_next t y) front back d h.1

after_both : (t : Moment) (xs ys : List (Deed Event)) → lines.state_after moment_next t (xs ++ ys) ≡ lines.state_after moment_next (lines.state_after moment_next t xs) ys
after_both t [] ys = refl
after_both t (x ∷ xs) ys = after_both (moment_next t x) xs ys

-- an event leaves a bit that is 1 so, or clears it
stays : (k : ℕ) (t : Moment) (e : Event) → t.bits k ≡ 1 → (e ≡ cleared k) ⊎ ((moment_next t (record { seat = 0; act = e })).bits k ≡ 1)
stays k t (raised j) one = inr ((elim (k == j) as (λ (b : Bool). cond b 1 (t.bits k) ≡ 1) [ true ↦ refl | false ↦ one ]))
stays k t (cleared j) one = dite (ℕ_discrete k j) (λ e. inl (ap cleared (sym e))) (λ n. inr (ap (λ (b : Bool). cond b 0 (t.bits k)) (ne_eqb k j n) ∙ one))
stays k t e one = inr one

-- a bit that was 1 and isn't later was cleared in between
cleared_between : (k : ℕ) (t : Moment) (line : List (Deed Event)) → t.bits k ≡ 1 → (lines.state_after moment_next t line).bits k ≢ 1 → (d : Deed Event) × Has line d × (d.act ≡ cleared k)
cleared_between k t [] one later = absurd (later one)
cleared_between k t (d ∷ line) one later = ⊎_elim (λ e. (d, inl refl, e)) (λ still. let r = cleared_between k (moment_next t d) line still later in (r.0, inr r.1, r.2)) (stays k t d.act one)

-- ---- what a worker did, step by step
-- a step from this one on did this
record IsDoneBy (mine : List Step) (d : Deed Event) : Type 0 where
  k : ℕ
  step : Step
  at : slice_get mine k ≡ Some step
  brings : BringsWork step.before step.after step.work
  has : Has (by_seat step.before.core.seat brings.core.did) d

-- what a worker had done before a step, and by its end, behind what it had done at first
record IsBehind (t : WorkerState) (mine : List Step) (k : ℕ) (y : Step) : Type 0 where
  more : List (Deed Event)
  is : y.before.core.did ≡ t.core.did ++ more
  each : (d : Deed Event) → Has more d → (by : IsDoneBy mine d) × (by.k < k)

abbrev deeds : WorkerState → List (Deed Event)
deeds t = t.core.did

behind_first : (t : WorkerState) (mine : List Step) (k : ℕ) (y : Step) → AreStepsChained t mine → slice_get mine k ≡ Some y → IsBehind t mine k y
behind_first t [] k y c e = absurd (none-some y e)
behind_first t (x ∷ mine) zero y c e = record { more = []; is = ap (λ (z : Step). deeds z.before) (sym (same_Some x y e)) ∙ (ap deeds c.0 ∙ sym (append-nil (deeds t))); each = λ d none. absurd none }
behind_first t (x ∷ mine) (suc k) y c e =
    let r = behind_first x.after mine k y c.2 e in
    let own = by_seat x.before.core.seat c.1.core.did in record {
      more = own ++ r.more;
      is = r.is ∙ (ap (λ (l : List (Deed Event)). l ++ r.more) (c.1.core.noted ∙ ap (λ (u : WorkerState). deeds u ++ own) c.0) ∙ append_assoc (deeds t) own r.more);
      each = λ d has. either own r.more d has
          (λ here. (record { k = 0; step = x; at = refl; brings = c.1; has = here }, omega arith))
          (λ later. let b = r.each d later in let lt = b.1 in (record { k = suc b.0.k; step = b.0.step; at = b.0.at; brings = b.0.brings; has = b.0.has }, omega (arith, lt)));
    }

-- and behind an earlier step
record IsBetween (mine : List Step) (k later : ℕ) (x y : Step) : Type 0 where
  more : List (Deed Event)
  is : y.before.core.did ≡ x.after.core.did ++ more
  each : (d : Deed Event) → Has more d → (by : IsDoneBy mine d) × (k < by.k) × (by.k < later)

between_steps : (t : WorkerState) (mine : List Step) (k later : ℕ) (x y : Step) → AreStepsChained t mine → k < later → slice_get mine k ≡ Some x → slice_get mine later ≡ Some y → IsBetween mine k later x y
between_steps t [] k later x y c lt e d = absurd (none-some x e)
between_steps t (z ∷ mine) k zero x y c lt e d = absurd (omega (arith, lt))
between_steps t (z ∷ mine) zero (suc later) x y c lt e d =
    let r = behind_first z.after mine later y c.2 d in record {
      more = r.more;
      is = r.is ∙ ap (λ (v : Step). deeds v.after ++ r.more) (same_Some z x e);
      each = λ w has. let b = r.each w has in let less = b.1 in (record { k = suc b.0.k; step = b.0.step; at = b.0.at; brings = b.0.brings; has = b.0.has }, omega arith, omega (arith, less));
    }
between_steps t (z ∷ mine) (suc k) (suc later) x y c lt e d =
    let r = between_steps z.after mine k later x y c.2 (omega (arith, lt)) e d in record {
      more = r.more;
      is = r.is;
      each = λ w has. let b = r.each w has in let low = b.1 in let less = b.2 in (record { k = suc b.0.k; step = b.0.step; at = b.0.at; brings = b.0.brings; has = b.0.has }, omega (arith, low), omega (arith, less));
    }

-- the step that did what was done by the end of another
done_by : (t : WorkerState) (mine : List Step) (k : ℕ) (y : Step) (d : Deed Event) → AreStepsChained t mine → t.core.did ≡ [] → slice_get mine k ≡ Some y → Has y.after.core.did d → (c : BringsWork y.before y.after y.work) → IsDoneBy mine d
done_by t mine k y d c none at has brings =
    let r = behind_first t mine k y c at in
    either y.before.core.did (by_seat y.before.core.seat brings.core.did) d (subst (λ (l : List (Deed Event)). Has l d) brings.core.noted has)
    (λ early. (r.each d (subst (λ (l : List (Deed Event)). Has l d) (r.is ∙ ap (λ (l : List (Deed Event)). l ++ r.more) none) early)).0)
    (λ late. record { k = k; step = y; at = at; brings = brings; has = late })

-- ---- a clearing of this kind is of a step's bits
cleared_of : (acts : List Event) (k : ℕ) → Has acts (cleared k) → Has (among cleared_in acts) k
cleared_of [] k h = absurd h
cleared_of (e ∷ acts) k (inl is) = subst (λ (y : Event). Has (cleared_in y ++ among cleared_in acts) k) (sym is) (inl refl)
cleared_of (e ∷ acts) k (inr h) = Has_right (cleared_in e) (among cleared_in acts) k (cleared_of acts k h)

by_act : (j : ℕ) (acts : List Event) (d : Deed Event) → Has (by_seat j acts) d → Has acts d.act
by_act j acts d h = let t = map_has (λ (e : Event). record { seat = j; act = e }) acts d h in subst (Has acts) (ap (λ (z : Deed Event). z.act) t.2) t.1

cleared_step : (mine : List Step) (d : Deed Event) (k : ℕ) → d.act ≡ cleared k → (by : IsDoneBy mine d) → IsAmong k by.step.work.core.cleared
cleared_step mine d k is by =
    let acts = by.brings.core.did in
    let has : Has acts (cleared k) = subst (Has acts) is (by_act by.step.before.core.seat acts d by.has) in
    has_among by.step.work.core.cleared k (subst (λ (l : List ℕ). Has l k) by.brings.core.kinds.cleared (cleared_of acts k has))

has_mapped : (acts : List Event) (m : Mapped) → Has (among maps_in acts) m → Has acts (mapped m)
has_mapped acts m h = let f = of_kind maps_in acts m h in subst (Has acts) (mapped_of f.0 m f.2) f.1 where
  mapped_of : (e : Event) (n : Mapped) → Has (maps_in e) n → e ≡ mapped n
  mapped_of (mapped x) n (inl e) = ap mapped e
  mapped_of (mapped x) n (inr none) = absurd none
  mapped_of e n has = absurd has

-- the deeds of a worker from the setting of a bit to the loading of a map
regroup : {A : Type 0} (whole after before first xb f bk more v w rest : List A) (d e : A) → whole ≡ after ++ rest → after ≡ before ++ (v ++ e ∷ w) → before ≡ first ++ more → first ≡ xb ++ (f ++ d ∷ bk)
    → whole ≡ (xb ++ f) ++ d ∷ ((bk ++ (more ++ v)) ++ e ∷ (w ++ rest))
regroup whole after before first xb f bk more v w rest d e p q t u =
    p ∙ (ap (λ l. l ++ rest) (q ∙ ap (λ l. l ++ (v ++ e ∷ w)) (t ∙ ap (λ l. l ++ more) u)) ∙ simp append_assoc)

by_seat_at : (j : ℕ) (acts front back : List Event) (e : Event) → acts ≡ front ++ e ∷ back → by_seat j acts ≡ by_seat j front ++ record { seat = j; act = e } ∷ by_seat j back
by_seat_at j acts front back e is = ap (by_seat j) is ∙ map-append (λ (a : Event). record { seat = j; act = a }) front (e ∷ back)

module _ (s : Script) (r : Report) (workers : List (List Step)) (run : IsRun s r workers) where
  -- a step that cleared the bit of a place, of another worker or of a command after this one
  pub record IsClearedSince (place worker k : ℕ) : Type 0 where
    pub by : ℕ
    pub number : ℕ
    pub step : Step
    pub at : slice_get (steps_of workers by) number ≡ Some step
    pub has : IsAmong place step.work.core.cleared
    pub since : (by ≢ worker) ⊎ (k < number)

  module _ (worker k later place : ℕ) (x y : Step) (m : Mapped) (lt : k < later) (at_x : slice_get (steps_of workers worker) k ≡ Some x) (at_y : slice_get (steps_of workers worker) later ≡ Some y) (set : IsSetLast x place) (has : IsAmong m y.work.core.maps) where
    abbrev mine : List Step
    mine = steps_of workers worker

    abbrev j : ℕ
    j = 1 + worker

    brings : BringsWork y.before y.after y.work
    brings = work_of s r workers run worker later y at_y

    between : IsBetween mine k later x y
    between = between_steps (run.steps.first worker) mine k later x y (run.steps.chained worker) lt at_x at_y

    -- the map among the later step's events
    map_at : IsAt brings.core.did (mapped m)
    map_at = found_at brings.core.did (mapped m) (has_mapped brings.core.did m (subst (λ (l : List Mapped). Has l m) (sym brings.core.kinds.maps) (among_has y.work.core.maps m has)))

    abbrev setting : Deed Event
    setting = record { seat = x.before.core.seat; act = raised place }

    abbrev loading : Deed Event
    loading = record { seat = y.before.core.seat; act = mapped m }

    -- what the worker did in between
    abbrev rest_of_x : List (Deed Event)
    rest_of_x = by_seat x.before.core.seat set.back

    abbrev start_of_y : List (Deed Event)
    start_of_y = by_seat y.before.core.seat map_at.front

    abbrev own : List (Deed Event)
    own = rest_of_x ++ (between.more ++ start_of_y)

    own_part : (rest : List (Deed Event)) × (part j run.order.line ≡ (x.before.core.did ++ by_seat x.before.core.seat set.front) ++ setting ∷ (own ++ loading ∷ rest))
    own_part = let b = run.order.parts worker later y at_y in (
      by_seat y.before.core.seat map_at.back ++ b.0,
      regroup (part j run.order.line) y.after.core.did y.before.core.did x.after.core.did x.before.core.did (by_seat x.before.core.seat set.front) rest_of_x between.more start_of_y (by_seat y.before.core.seat map_at.back) b.0 setting loading
          b.1 (brings.core.noted ∙ ap (λ (l : List (Deed Event)). y.before.core.did ++ l) (by_seat_at y.before.core.seat brings.core.did map_at.front map_at.back (mapped m) map_at.is)) between.is
          (set.did ∙ ap (λ (l : List (Deed Event)). x.before.core.did ++ l) (by_seat_at x.before.core.seat (set.front ++ raised place ∷ set.back) set.front set.back (raised place) refl)),
    )

    outer : IsCut j run.order.line (x.before.core.did ++ by_seat x.before.core.seat set.front) (own ++ loading ∷ own_part.0) setting
    outer = cut_at j run.order.line (x.before.core.did ++ by_seat x.before.core.seat set.front) (own ++ loading ∷ own_part.0) setting own_part.1

    inner : IsCut j outer.back own own_part.0 loading
    inner = cut_at j outer.back own own_part.0 loading outer.after_is

    -- the moment behind the setting
    abbrev begun : Moment
    begun = moment_next (lines.state_after moment_next (at_start 0) outer.front) setting

    line_is : run.order.line ≡ (outer.front ++ setting ∷ inner.front) ++ loading ∷ inner.back
    line_is = outer.is ∙ (ap (λ (l : List (Deed Event)). outer.front ++ setting ∷ l) inner.is ∙ sym (append_assoc outer.front (setting ∷ inner.front) (loading ∷ inner.back)))

    is_so : IsSo s.ids (lines.state_after moment_next begun inner.front) (mapped m)
    is_so = subst (λ (t : Moment). IsSo s.ids t (mapped m)) (after_both (at_start 0) outer.front (setting ∷ inner.front))
        (so_at s.ids (at_start 0) (outer.front ++ setting ∷ inner.front) inner.back loading (subst (AreSo moment_next (λ u z. IsSo s.ids u z.act) (at_start 0)) line_is run.order.events))

    -- it was cleared by this worker
    of_own : (d : Deed Event) → Has own d → d.act ≡ cleared place → IsClearedSince place worker k
    of_own d in_own is = either rest_of_x (between.more ++ start_of_y) d in_own
        (λ early. absurd (let none = cleared_of set.back place (subst (Has set.back) is (by_act x.before.core.seat set.back d early)) in subst (λ (l : List ℕ). Has l place) set.clears_none none))
        (λ more. either between.more start_of_y d more
        (λ amid. let b = between.each d amid in record { by = worker; number = b.0.k; step = b.0.step; at = b.0.at; has = cleared_step mine d place is b.0; since = inr b.1 })
        (λ late.
        let in_y : Has (by_seat y.before.core.seat brings.core.did) d = subst (λ (l : List (Deed Event)). Has l d) (sym (by_seat_at y.before.core.seat brings.core.did map_at.front map_at.back (mapped m) map_at.is)) (Has_left start_of_y (loading ∷ by_seat y.before.core.seat map_at.back) d late) in
        let b : IsDoneBy mine d = record { k = later; step = y; at = at_y; brings = brings; has = in_y } in
        record { by = worker; number = later; step = y; at = at_y; has = cleared_step mine d place is b; since = inr lt }))

    -- it was cleared by another
    of_other : (d : Deed Event) → Has run.order.line d → d.act ≡ cleared place → d.seat ≢ j → IsClearedSince place worker k
    of_other d in_line is other =
        let o = run.order.clearings d place (has_among run.order.line d in_line) is in
        let b = done_by (run.steps.first o.worker) (steps_of workers o.worker) o.k o.step d (run.steps.chained o.worker) (run.steps.new o.worker).did o.at (among_has o.step.after.core.did d o.among) (work_of s r workers run o.worker o.k o.step o.at) in
        record { by = o.worker; number = b.k; step = b.step; at = b.at; has = cleared_step (steps_of workers o.worker) d place is b; since = inl (λ same. other (o.seat ∙ ap (λ (n : ℕ). 1 + n) same)) }

    -- a map that lacks the bit tells that it was cleared in between
    pub was_cleared_by : ((t : Moment) → IsSo s.ids t (mapped m) → t.bits place ≢ 1) → IsClearedSince place worker k
    was_cleared_by lacks =
        let one : begun.bits place ≡ 1 = ap {B = ℕ} (λ (b : Bool). cond b 1 ((lines.state_after moment_next (at_start 0) outer.front).bits place)) (eq-eqb place place refl) in
        let d = cleared_between place begun inner.front one (lacks (lines.state_after moment_next begun inner.front) is_so) in
        dite (ℕ_discrete d.0.seat j)
        (λ same. of_own d.0 (subst (λ (l : List (Deed Event)). Has l d.0) inner.before_is (part_has d.0 j inner.front same d.1)) d.2)
        (λ other. of_other d.0 (subst (λ (l : List (Deed Event)). Has l d.0) (sym (outer.is ∙ ap (λ (l : List (Deed Event)). outer.front ++ setting ∷ l) inner.is))
        (Has_right outer.front (setting ∷ (inner.front ++ loading ∷ inner.back)) d.0 (inr (Has_left inner.front (loading ∷ inner.back) d.0 d.1)))) d.2 other)
