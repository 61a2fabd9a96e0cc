-- SPDX-License-Identifier: GPL-2.0-only
-- The seats after each step of handing over, and their states.
use Rattle.shr_offline.proofs.Common.{◌≡◌, ℕ, [], refl, ap, subst, Serial, Carry, IsIdle, view_of, shape_of, DoneAnswer, DeferredSeated, Shared, state_of, SpliceAnswer, AreSpliced, AllGives, all_places, count_of_places, AreCarried, HandsOver}
use Rattle.shr_base.specs.Kept.{Kept}
use Rattle.shr_model.specs.Groups.{Hierarchy}
use Rattle.shr_seats.specs.Shapes.{hierarchy_of}
use Rattle.shr_core.specs.Seats.{Seated}
use Rattle.shr_core.proofs.Owing.{still_none}
use Rattle.shr_charge.specs.Answers.{DoneTells, DoneLeaves, KnowsTree}
use Rattle.shr_charge.specs.Seat.{ChargeSeated, uses_of, tree_of}
use Rattle.shr_charge.specs.Views.{Uses}
use Rattle.shr_walk.specs.declared.seats.Seats.{Seats}
use Rattle.shr_walk.specs.Sharing.{IsShared}
use Rattle.shr_walk.specs.Acting.{IsFit}
use Rattle.shr_walk.proofs.Shares.{hierarchy_at}
use Rattle.shr_offline.proofs.Handing.{splices_stay, idle_still, all_closed}

-- the seats with another seat of one table
abbrev pub with_core : Seats → Seated → Seats
with_core s seat = record { cache = record { core = seat; charge = s.cache.charge; uses = s.cache.uses }; deferred = s.deferred; walks = s.walks; carries = s.carries }

-- these seats with another charge seat
abbrev pub with_charge : Seats → ChargeSeated → Seats
with_charge s seat = record { cache = record { core = s.cache.core; charge = seat; uses = s.cache.uses }; deferred = s.deferred; walks = s.walks; carries = s.carries }

-- these seats with another deferred seat and other carries
abbrev pub with_carries : Seats → DeferredSeated → Kept Carry → Seats
with_carries s seat carries = record { cache = s.cache; deferred = seat; walks = s.walks; carries = carries }

-- seats that rest still do when the core's seat only spliced, whatever came of it
pub fit_after : (x : Shared) (s : Seats) (seat : Seated) (group : ℕ) (answer : SpliceAnswer) → IsShared x → s.cache.charge.charge ≡ x.charge → s.deferred.deferred ≡ x.deferred → seat.core ≡ x.core
    → AllGives (shape_of s.cache.core.core) group answer (view_of s.cache.core) (view_of seat) → IsIdle (view_of s.cache.core) → (view_of s.cache.core).marks.owed ≡ [] → IsFit x (with_core s seat)
fit_after x s seat group answer shared charges deferreds of-core gives idle none = let stays = splices_stay (shape_of s.cache.core.core) group answer (view_of s.cache.core) (view_of seat) gives in record {
  shared = shared;
  rested = record { core = of-core; idle = idle_still (view_of s.cache.core) (view_of seat) stays idle; owed = still_none (view_of s.cache.core) (view_of seat) none stays.owed; charge = charges; deferred = deferreds };
}

-- splices, carries and an end, one after the other, hand a group over as the answer says
pub handed_over : (x : Shared) (shared : IsShared x) (by : Serial) (group moved total : ℕ) (answer : DoneAnswer) (s : Seats) (seat : Seated) (dseat : DeferredSeated) (carries : Kept Carry) (last : ChargeSeated) → s.cache.charge.charge ≡ x.charge
    → AreSpliced (shape_of x.core) (all_places (shape_of x.core) group) moved (view_of s.cache.core) (view_of seat)
    → AreCarried (shape_of x.core) by group (count_of_places (shape_of x.core)) total s.deferred dseat s.carries.items carries.items
    → DoneTells (hierarchy_of s.cache.charge.charge.shape) group answer (tree_of s.cache.charge) (tree_of last).known → DoneLeaves group answer (tree_of s.cache.charge) (tree_of last) → KnowsTree (hierarchy_of s.cache.charge.charge.shape) (tree_of s.cache.charge) (tree_of last) → uses_of last ≡ uses_of s.cache.charge
    → HandsOver x by group moved total answer (state_of s) (state_of (with_charge (with_carries (with_core s seat) dseat carries) last))
handed_over x shared by group moved total answer s seat dseat carries last at spliced carried tells leaves knows uses = record {
  listed = state_of (with_core s seat);
  carried = state_of (with_carries (with_core s seat) dseat carries);
  splices = record { spliced = spliced; rest = refl };
  closed = all_closed (shape_of x.core) group moved (view_of s.cache.core) (view_of seat) spliced;
  carries = record { carried = record { amounts = carried.amounts; places = carried.places; moved = carried.moved.moves; noted = carried.noted; total_is = carried.total_is }; rest = refl };
  ends = record {
    tells = subst (λ (h : Hierarchy). DoneTells h group answer (tree_of s.cache.charge) (tree_of last).known) (hierarchy_at x shared s at) tells;
    leaves = leaves;
    knows = subst (λ (h : Hierarchy). KnowsTree h (tree_of s.cache.charge) (tree_of last)) (hierarchy_at x shared s at) knows;
    rest = ap (λ (u : Uses). record (state_of (with_charge (with_carries (with_core s seat) dseat carries) last)) { uses = u }) uses;
  };
}
