-- SPDX-License-Identifier: GPL-2.0-only
-- The names that the proofs of this crate cite most, passed on from one place. Declares nothing.
pub use Rattle.std.proofs.Common.{Bool, List, T, [], ap, append_assoc, arith, cond, drop, eq-eqb, false, get_or, inl, inr, length, length-append, map, ne_eqb, refl, subst, suc, sym, take, true, zero, ℕ, ⊎_elim, ◌*◌, ◌++◌, ◌+◌, ◌-◌, ◌<◌, ◌^◌, ◌∙◌, ◌∷◌, ◌≡◌, ◌≢◌, ◌≤◌, ◌⊎◌}
pub use Rattle.std.proofs.lemmas.Grind.{flat_map-append}
pub use Rattle.std.proofs.lemmas.List.{append-nil, length-map, map-append, take-append-drop, take_all, take_more}
pub use Rattle.std.proofs.lemmas.List.Elements.{All-append, All-cons, All-get_or, All-head, All-nil, All-tail, Contains-get_or, filter-append}
pub use Rattle.std.specs.Prelude.{All, Err, IsErr, None, Ok, OnErr, Option, Result, Some, count_by, filter, flat_map, int_lt, nat_le, not, pos, replicate, ◌&&◌, ◌==◌, ◌||◌}
pub use Rattle.shr_base.specs.declared.journals.UseStep.{UseStep}
pub use Rattle.shr_base.specs.declared.memory.Memory.{Memory}
pub use Rattle.shr_base.specs.declared.places.Serial.{Serial}
pub use Rattle.shr_base.specs.declared.walks.WalkAnswer.{WalkAnswer}
pub use Rattle.shr_charge.specs.Charging.{AreDowns, ChargeOps, Charges, IsDown, IsOverLimit, IsChargeRefused, IsUp, use_group, shape_limit}
pub use Rattle.shr_charge.specs.Paths.{path_to}
pub use Rattle.shr_charge.specs.Seat.{counted, spent_by, tree_of, uses_of}
pub use Rattle.shr_charge.specs.Uses.{downs_at, ups_at}
pub use Rattle.shr_charge.specs.Views.{TreeView, Uses}
pub use Rattle.shr_charge.specs.declared.answers.ChargeAnswer.{ChargeAnswer}
pub use Rattle.shr_core.specs.Seats.{shape_of}
pub use Rattle.shr_model.specs.Groups.{IsAtOrAbove, parent_of, path_of, preorder_of}
pub use Rattle.shr_model.specs.Trees.{IsTree, depth_of}
pub use Rattle.shr_model.specs.Prefixes.{IsPrefixOf}
pub use Rattle.shr_model.specs.Walks.{Job, job, job_of}
pub use Rattle.shr_seats.specs.Shapes.{groups_in}
pub use Rattle.shr_seats.specs.declared.shape.Shape.{Shape}
pub use Rattle.shr_walk.proofs.Acted.{same_for, same_none, same_then}
pub use Rattle.shr_walk.proofs.Doing.{does_none, does_then}
pub use Rattle.shr_walk.specs.Acting.{Acting, IsSame}
pub use Rattle.shr_walk.specs.Balances.{OneGives, lacked_memory}
pub use Rattle.shr_walk.specs.Keeping.{objects_freed, shared_parents, paths_of}
pub use Rattle.shr_walk.specs.State.{Does, Work, WorkerState, no_work, state_of, then_work}
pub use Rattle.shr_walk.specs.Walked.{AreParts, IsMade, IsRecordOf, IsRootWalked, IsWalkOver, IsWalked, WalkParts, RootGives, RootMade, WalkGives, WalkMade, parts_of}
pub use Rattle.shr_walk.specs.declared.seats.Shared.{Shared}
pub use Rattle.shr_walk.specs.declared.walking.Walk.{Walk}
pub use Rattle.shr_walk.specs.Looping.{AllMade, FirstMade, RefusedThere, admission_of, jobs_on}
pub use Rattle.shr_walk.specs.Rounds.{AreRounds, AreVisited, VisitHadMemory, IsRound, IsVisited, Round, TriesInRounds, Visit, WalksAll, WalksFirst, due_in, job_in, walk_for}
pub use Rattle.shr_walk.specs.Trying.{IsChargeTried, Refusal, charge_work, refused}
