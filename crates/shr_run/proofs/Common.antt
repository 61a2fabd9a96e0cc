-- SPDX-License-Identifier: GPL-2.0-only
-- The names that the proofs of this crate cite most, passed on from one place. Declares nothing.
pub use Rattle.std.proofs.Common.{Bool, Global, List, [], ap, append_assoc, arith, false, inl, inr, length, length-append, map, not, refl, rules, subst, suc, sym, true, zero, ℕ, ◌++◌, ◌+◌, ◌<◌, ◌^◌, ◌∙◌, ◌∷◌, ◌≡◌, ◌≤◌}
pub use Rattle.std.proofs.lemmas.List.{append-nil, length-map, map-append}
pub use Rattle.std.proofs.lemmas.List.Elements.{All-append, All-cons, All-nil}
pub use Rattle.std.proofs.lemmas.Option.{get_or_from_slice_get, none-some, same_Some, slice_get-map, slice_get_within}
pub use Rattle.std.specs.Prelude.{All, Err, IfOk, IfSome, IsTrue, None, Ok, OnOk, Option, Result, Some, Vec, flat_map, option_map, slice_get, vec_len}
pub use Rattle.shr_assemble.proofs.Crews.{there_at}
pub use Rattle.shr_lawful.proofs.Listed.{all_slice}
pub use Rattle.shr_assemble.specs.Ends.{Firsts, HasHelped, HasWorked, HelpsWith, firsts_at_start, new_worker, sweep_reply, with_worker, with_workers}
pub use Rattle.shr_assemble.specs.Putting.{AreEnds}
pub use Rattle.shr_lawful.specs.Sweeps.{ArePoppedOnce, all_popped}
pub use Rattle.shr_assemble.specs.declared.logs.WorkerLog.{WorkerLog}
pub use Rattle.shr_base.specs.declared.scripts.Sweep.{Sweep}
pub use Rattle.shr_base.specs.declared.scripts.WorkerScript.{WorkerScript}
pub use Rattle.shr_core.specs.Seats.{shape_of, view_of}
pub use Rattle.shr_core.specs.declared.view.View.{View}
pub use Rattle.shr_plain.specs.Opening.{ArePoolsOf}
pub use Rattle.shr_plain.specs.Seat.{PlainSeated}
pub use Rattle.shr_pool.specs.Lines.{queue_line}
pub use Rattle.shr_pool.specs.declared.items.SweepItem.{SweepItem}
pub use Rattle.shr_pool.specs.declared.jobs.JobQueue.{JobQueue}
pub use Rattle.shr_pool.specs.declared.view.PassView.{PassView}
pub use Rattle.shr_laws.specs.Parts.{parents_of}
pub use Rattle.shr_script.proofs.BoundsLaws.{within_of_valid}
pub use Rattle.shr_script.specs.Content.{content_of}
pub use Rattle.shr_seats.specs.Standing.{IsWhole, Standing, at_first}
pub use Rattle.shr_tables.specs.Firsts.{AreFirst, AreFirstIn, HasLeft, Held, held_by, held_in}
pub use Rattle.shr_tables.specs.Opened.{AreEntered, AreReady, EntersIf, IsPlainReady, is_on}
pub use Rattle.shr_tables.specs.Parted.{AreJoined, AreNew, AreParted, AreSplit}
pub use Rattle.shr_tables.specs.declared.ending.Ends.{Ends}
pub use Rattle.shr_tables.specs.declared.tables.CrewSeats.{CrewSeats}
pub use Rattle.shr_tables.specs.declared.tables.FirstCrew.{FirstCrew}
pub use Rattle.shr_tables.specs.declared.tables.Tables.{Tables}
pub use Rattle.shr_walk.specs.Sharing.{HaveLeft, IsFromStart, IsShared, seats_at}
pub use Rattle.shr_walk.specs.declared.seats.Shared.{Shared}
pub use Rattle.shr_worker.specs.Chain.{CrewState, IsWorkOf, listed_commands, worker_commands, command_serial}
pub use Rattle.shr_worker.specs.declared.tasks.WorkerResult.{WorkerResult}
pub use Rattle.shr_run.specs.Joins.{AreJoinedAll, IsAtEnd, firsts_of, last_of, log_of, seats_in}
pub use Rattle.shr_run.specs.Sweeps.{AreOnce, HasAnswered, HasHelpedOut, HasPass, HasSweptAt, HaveHelpedOut, HaveSwept, IsWorkerDone, IsPassBack, IsHelperReady, Helping, SweepsIf, handed_out, helped_of, popped_of, worker_of}
pub use Rattle.shr_run.specs.Tasks.{AreSplitOff, AreTasks, HaveRun, IsTaskOf, Starting}
pub use Rattle.shr_run.specs.declared.sweeping.Helped.{Helped}
