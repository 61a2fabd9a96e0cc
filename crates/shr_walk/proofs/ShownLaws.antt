-- SPDX-License-Identifier: GPL-2.0-only
-- What was shown after what was shown.
use Rattle.shr_walk.proofs.Common.{◌≡◌, ℕ, ◌<◌, ◌^◌, List, [], ◌∷◌, ◌++◌, sym, ap, subst, arith, Contains, Entry, Place, Spent, Attempt, MapSeen, Outcome, PassRecord, place_number, Begins, Each-append, Each-none, Each-one, begins_all, begins_more, Uses, nothing, Known, Mapped, groups_in, shape_of, Shape, Knows, IsAttempted, tries_in, work_in, born_none, born_then, place_of_walk, Option, None, Some, pass_of, WornSeen, PassSeen, WorkerState, Work, no_work, then_work, Does, Shared, Walk, Contains-append_left, HasShown, IsWalkSeen}
use Rattle.std.specs.Option.{IfSome}
use Rattle.shr_base.specs.declared.replies.Spent.TheVariants as spent

-- an attempt without a pass freed nothing
pub shown_none : (x : Shared) (place : Place) (o : Outcome) (t : WorkerState) → place.id < (shape_of x.core).ids → pass_of o ≡ None → HasShown x place o [] t
shown_none x place o t inside none = record {
  id = inside;
  pass = subst (λ (p : Option PassRecord). IfSome p (PassSeen x place t)) (sym none) tt;
  born = born_none (groups_in (shape_of x.core));
}

-- ---- what a pass told stays known
module _ (t u : WorkerState) (w : Work) (does : Does t u w) where
  knows_later : (j : ℕ) (es : List Entry) → Knows t.core j es → Knows u.core j es
  knows_later j es h = subst (λ (l : List Known). Contains l (record { place = j; entries = es })) (sym does.core.known.1) (Contains-append_left t.core.traces.known does.core.known.0 (record { place = j; entries = es }) h)

  worn_later : (shape : Shape) (place : Place) (s : Spent) → WornSeen shape place s t → WornSeen shape place s u
  worn_later shape place (spent.List at entries items) h = record { here = h.here; over = h.over; known = h.known; knows = knows_later (place_number place) h.known h.knows; one_more = h.one_more; held = h.held; journal = h.journal; there = h.there }
  worn_later shape place (spent.Charges charges uncharges) h = let c = ap (λ (y : Uses). y.charges) does.uses in let d = ap (λ (y : Uses). y.uncharges) does.uses in let m = h.charged in let n = h.uncharged in record { over = h.over; charged = omega (arith, c, m); uncharged = omega (arith, d, n) }
  worn_later shape place (spent.Lookups id seen) h = h

  pub pass_later : (x : Shared) (place : Place) (p : PassRecord) → PassSeen x place t p → PassSeen x place u p
  pass_later x place p h = record {
    closed = λ some. let c = h.closed some in (c.0, knows_later (place_number place) c.0 c.1, c.2);
    worn = λ s e. worn_later (shape_of x.core) place s (h.worn s e);
  }

  pub told_later : (x : Shared) (place : Place) (o : Option PassRecord) → IfSome o (PassSeen x place t) → IfSome o (PassSeen x place u)
  told_later x place None h = tt
  told_later x place (Some p) h = pass_later x place p h

-- what was shown stays so as the worker goes on
pub seen_later : (x : Shared) (walk : Walk) (maps : List MapSeen) (attempts : List Attempt) (s t u : WorkerState) (v w : Work) → Does t u v → IsWalkSeen x walk maps attempts s t w → IsWalkSeen x walk maps attempts s u w
seen_later x walk maps attempts s t u v w does h = record {
  ids = h.ids;
  bits = h.bits;
  set = h.set;
  passes = λ j a at. told_later t u v does x (place_of_walk walk a.id) (pass_of a.outcome) (h.passes j a at);
  born = h.born;
}

-- the bits set before an earlier state begin those of a later one
pub seen_earlier : (x : Shared) (walk : Walk) (maps : List MapSeen) (attempts : List Attempt) (s t u : WorkerState) (v w : Work) → Does s t v → IsWalkSeen x walk maps attempts t u w → IsWalkSeen x walk maps attempts s u w
seen_earlier x walk maps attempts s t u v w does h = record {
  ids = h.ids;
  bits = h.bits;
  set = λ j m at. begins_more s.core.marks.sets t.core.marks.sets m.set (v.core.sets, does.core.sets) (h.set j m at);
  passes = h.passes;
  born = h.born;
}

-- nothing was shown
pub seen_none : (x : Shared) (walk : Walk) (s : WorkerState) → IsWalkSeen x walk [] [] s s no_work
seen_none x walk s = record {
  ids = Each-none (λ (a : Attempt). a.id < (shape_of x.core).ids);
  bits = Each-none (λ (m : MapSeen). m.bits < 2 ^ 64);
  set = Each-none (λ (m : Mapped). Begins s.core.marks.sets m.set);
  passes = Each-none (λ (a : Attempt). IfSome (pass_of a.outcome) (PassSeen x (place_of_walk walk a.id) s));
  born = born_none (groups_in (shape_of x.core));
}

-- what one run of attempts showed and then another was shown by both
pub seen_then : (x : Shared) (walk : Walk) (maps more : List MapSeen) (xs ys : List Attempt) (s t u : WorkerState) (v w : Work) → Does s t v → Does t u w → IsWalkSeen x walk maps xs s t v → IsWalkSeen x walk more ys t u w
    → IsWalkSeen x walk (maps ++ more) (xs ++ ys) s u (then_work v w)
seen_then x walk maps more xs ys s t u v w first second a b = let c = seen_later x walk maps xs s t u w v second a in let d = seen_earlier x walk more ys s t u v w first b in record {
  ids = Each-append (λ (y : Attempt). y.id < (shape_of x.core).ids) xs ys c.ids d.ids;
  bits = Each-append (λ (m : MapSeen). m.bits < 2 ^ 64) maps more c.bits d.bits;
  set = Each-append (λ (m : Mapped). Begins s.core.marks.sets m.set) v.core.maps w.core.maps c.set d.set;
  passes = Each-append (λ (y : Attempt). IfSome (pass_of y.outcome) (PassSeen x (place_of_walk walk y.id) u)) xs ys c.passes d.passes;
  born = born_then (groups_in (shape_of x.core)) v.core.made w.core.made c.born d.born;
}

-- the load of a map shows its word
pub seen_map : (x : Shared) (walk : Walk) (m : MapSeen) (map : ℕ) (s t : WorkerState) → m.bits < 2 ^ 64
    → IsWalkSeen x walk (m ∷ []) [] s t (record no_work { core = record nothing { maps = record { map = map; bits = m.bits; set = s.core.marks.sets } ∷ [] } })
seen_map x walk m map s t fits = record {
  ids = Each-none (λ (a : Attempt). a.id < (shape_of x.core).ids);
  bits = Each-one (λ (y : MapSeen). y.bits < 2 ^ 64) m fits;
  set = Each-one (λ (y : Mapped). Begins s.core.marks.sets y.set) (record { map = map; bits = m.bits; set = s.core.marks.sets }) (begins_all s.core.marks.sets);
  passes = Each-none (λ (a : Attempt). IfSome (pass_of a.outcome) (PassSeen x (place_of_walk walk a.id) t));
  born = born_none (groups_in (shape_of x.core));
}

-- what one attempt showed
pub seen_attempt : (x : Shared) (walk : Walk) (a : Attempt) (s t : WorkerState) (h : IsAttempted x walk a.id a.outcome s t)
    → IsWalkSeen x walk [] (a ∷ []) s t (work_in (place_of_walk walk a.id) a.outcome h.made (tries_in a.id a.outcome h.held) (record { id = a.id; word = h.first } ∷ h.more) h.ops)
seen_attempt x walk a s t h = record {
  ids = Each-one (λ (y : Attempt). y.id < (shape_of x.core).ids) a h.shown.id;
  bits = Each-none (λ (m : MapSeen). m.bits < 2 ^ 64);
  set = Each-none (λ (m : Mapped). Begins s.core.marks.sets m.set);
  passes = Each-one (λ (y : Attempt). IfSome (pass_of y.outcome) (PassSeen x (place_of_walk walk y.id) t)) a h.shown.pass;
  born = h.shown.born;
}
