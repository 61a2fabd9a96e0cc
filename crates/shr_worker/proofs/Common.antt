-- SPDX-License-Identifier: GPL-2.0-only
-- The names that the proofs of this crate cite most, passed on from one place. Declares nothing.
pub use Rattle.std.proofs.Common.{Bool, List, None, Option, Some, [], ap, arith, false, get_or, inl, inr, length, length-append, map, refl, subst, suc, sym, take, true, zero, ℕ, ◌*◌, ◌++◌, ◌<◌, ◌∙◌, ◌∷◌, ◌≡◌, ◌≤◌, ◌⊎◌}
pub use Rattle.std.specs.Prelude.{AllPairs, not, slice_get, sum_by, ◌&&◌, ◌==◌}
pub use Rattle.shr_base.specs.declared.journals.UseStep.{UseStep}
pub use Rattle.shr_base.specs.declared.objects.Object.{Object}
pub use Rattle.shr_base.specs.declared.places.Place.{Place}
pub use Rattle.shr_base.specs.declared.places.Serial.{Serial}
pub use Rattle.shr_base.specs.declared.replies.Answered.{Answered}
pub use Rattle.shr_base.specs.declared.scripts.Command.{Command}
pub use Rattle.shr_base.specs.declared.scripts.Command.TheVariants.{Balance, Grab, Isolate, Release, Shrink}
pub use Rattle.shr_base.specs.declared.scripts.Script.{Script}
pub use Rattle.shr_base.specs.declared.walks.Isolation.{Isolation}
pub use Rattle.shr_base.specs.declared.walks.PlainWalk.{PlainWalk}
pub use Rattle.shr_core.specs.Seats.{shape_of, view_of}
pub use Rattle.shr_core.specs.declared.view.View.{View}
pub use Rattle.shr_plain.specs.Opening.{ArePoolsOf, pool_sizes, setting_by, settings_of}
pub use Rattle.shr_plain.specs.Seat.{PlainSeated, PlainState, plain_state_of}
pub use Rattle.shr_plain.specs.Settings.{IsPoolOf, home_place, room_of}
pub use Rattle.shr_plain.specs.declared.settings.Setting.{Setting}
pub use Rattle.shr_script.specs.Bounds.{IfServed, IsCommandWithin, IsIsolationWithin, IsPoolCommandWithin}
pub use Rattle.shr_script.specs.Content.{Content, content_of}
pub use Rattle.shr_seats.specs.Shapes.{groups_in}
pub use Rattle.shr_seats.specs.declared.rows.Sizes.{Sizes}
pub use Rattle.shr_seats.specs.declared.shape.Shape.{Shape}
pub use Rattle.shr_walk.specs.Acting.{Acting, IsFit}
pub use Rattle.shr_walk.specs.Keeping.{AllUncharged, shared_parents}
pub use Rattle.shr_walk.specs.State.{WorkerState}
pub use Rattle.shr_walk.specs.declared.seats.Shared.{Shared}
pub use Rattle.shr_worker.specs.Chain.{CrewState, DeedGives, IsWorkOf, listed_commands, worker_commands, crew_at, command_serial}
pub use Rattle.shr_worker.specs.Plain.{PlainGives, WalksIf, WalksPools, is_due, is_walked}
pub use Rattle.shr_worker.specs.Replies.{grab_reply, make_reply, objects_drained, offline_reply, register_reply, release_reply, unfound, unregister_reply, walk_reply}
