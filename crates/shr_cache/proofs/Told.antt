-- SPDX-License-Identifier: GPL-2.0-only
-- What a del did, by whether the object was dropped.
use Rattle.shr_cache.proofs.Common.{◌≡◌, ℕ, Bool, true, false, List, Serial, Found, Reply, None, Option, Some, sym, subst, refl, Shared, WorkerState, Uncharges, MayCharge, AsksToDrop, DroppedAs, UnchargesIf}
use Rattle.shr_base.specs.declared.replies.Reply.TheVariants as reply
use Rattle.shr_base.specs.declared.replies.Spent.TheVariants as spent
use Rattle.shr_cache.specs.Replies.{has_dropped}

module _ (x : Shared) (by : Serial) (group node decl : ℕ) (key : List ℕ) where
  -- the list was asked, and the group uncharged if that was due
  asked_so : (found : Option Found) (r : Reply) (s u t : WorkerState) → MayCharge s → AsksToDrop x by group node decl key found r s u → UnchargesIf x by group (has_dropped r) u t → DroppedAs x by group node decl key found r s t
  asked_so None (reply.Worn (spent.Charges charges uncharges)) s u t may h back = absurd h.misses.answers.worn
  asked_so None reply.Memory s u t may h back = absurd h
  asked_so None r s u t may h back = record { charges = may; after = u; asked = h; uncharged = back }
  asked_so (Some f) r s u t may h back = record { charges = may; after = u; asked = h; uncharged = back }

  -- what wasn't dropped stays charged
  pub stayed : (found : Option Found) (r : Reply) (s t : WorkerState) → has_dropped r ≡ false → MayCharge s → AsksToDrop x by group node decl key found r s t → DroppedAs x by group node decl key found r s t
  stayed found r s t e may h = asked_so found r s t t may h (subst (λ (b : Bool). UnchargesIf x by group b t t) (sym e) refl)

  -- what was dropped is uncharged
  pub dropped : (found : Option Found) (r : Reply) (s u t : WorkerState) → has_dropped r ≡ true → MayCharge s → AsksToDrop x by group node decl key found r s u → Uncharges x by group u t → DroppedAs x by group node decl key found r s t
  dropped found r s u t e may h back = asked_so found r s u t may h (subst (λ (b : Bool). UnchargesIf x by group b u t) (sym e) back)
