-- SPDX-License-Identifier: GPL-2.0-only
-- The names that the proofs of this crate cite most, passed on from one place. Declares nothing.
pub use Rattle.std.proofs.Common.{Bool, List, ap, false, refl, subst, sym, true, ℕ, ◌<◌, ◌∙◌, ◌≡◌}
pub use Rattle.std.specs.Prelude.{None, Option, Some}
pub use Rattle.shr_base.specs.declared.objects.Object.{Object}
pub use Rattle.shr_base.specs.declared.places.Serial.{Serial}
pub use Rattle.shr_base.specs.declared.replies.Found.{Found}
pub use Rattle.shr_base.specs.declared.replies.Reply.{Reply}
pub use Rattle.shr_core.specs.Seats.{shape_of, view_of}
pub use Rattle.shr_core.specs.declared.view.View.{View}
pub use Rattle.shr_model.specs.Objects.{fresh}
pub use Rattle.shr_node.specs.Answers.{AddGives, DropGives, LookGives, PinGives, TenantGives}
pub use Rattle.shr_node.specs.declared.answers.NodeAnswer.{NodeAnswer}
pub use Rattle.shr_cache.specs.Opening.{Calls, AreHolding, LoadsWord, MayCharge, OnCache, Opens, Uncharges}
pub use Rattle.shr_walk.proofs.Acted.{same_for, same_then}
pub use Rattle.shr_walk.specs.Acting.{Acting, IsFit, IsSame, IsStill}
pub use Rattle.shr_walk.specs.State.{WorkerState, state_of}
pub use Rattle.shr_walk.specs.declared.seats.Shared.{Shared}
pub use Rattle.shr_cache.specs.Dels.{AsksToDrop, DelGives, DroppedAs}
pub use Rattle.shr_cache.specs.Gets.{GetGives}
pub use Rattle.shr_cache.specs.Pins.{SetPinGives}
pub use Rattle.shr_cache.specs.Puts.{OfferedAs, PutAs, Puts}
pub use Rattle.shr_cache.specs.Replies.{AsksList, UnchargesIf, answer_reply}
