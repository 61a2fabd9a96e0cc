-- SPDX-License-Identifier: GPL-2.0-only
-- The causes of replies from their three parts.
use Rattle.std.proofs.Common.{Bool}
use Rattle.std.specs.Bool.{Decides}
use Rattle.shr_base.specs.declared.places.Serial.{Serial}
use Rattle.shr_base.specs.declared.replies.Reply.{Reply}
use Rattle.shr_base.specs.declared.replies.Reply.TheVariants as reply
use Rattle.shr_base.specs.declared.scripts.Command.{Command}
use Rattle.shr_base.specs.declared.scripts.Script.{Script}
use Rattle.shr_laws.specs.declared.report.Report.{Report}
use Rattle.shr_laws.specs.Parts.{EachAnswer}
use Rattle.shr_laws.specs.ReplyTable.{HasCause}
use Rattle.shr_audit_rows.specs.Rows.{HasCauseButEnds}
use Rattle.shr_audit_causes.specs.UnregisterRows.{HasUnregisterCause}
use Rattle.shr_audit_causes.specs.OfflineRows.{HasOfflineCause}
use Rattle.shr_audit_causes.specs.Rows.{AreRowsCaused}

module _ (s : Script) (r : Report) where
  abbrev pub ButEnds : Type 0
  ButEnds = EachAnswer s r (λ by c a. HasCauseButEnds s r by c a.reply)

  abbrev pub Unregisters : Type 0
  Unregisters = EachAnswer s r (λ by c a. HasUnregisterCause s r by c a.reply)

  abbrev pub Offlines : Type 0
  Offlines = EachAnswer s r (λ by c a. HasOfflineCause s r by c a.reply)

  module _ (by : Serial) (c : Command) where
    whole : (x : Reply) → HasCauseButEnds s r by c x → HasUnregisterCause s r by c x → HasOfflineCause s r by c x → HasCause s r by c x
    whole (reply.OfflineDone entry moved deferred) others unregister offline = offline
    whole (reply.Freed id entry from to objects) others unregister offline = unregister
    whole (reply.Half id entry from to objects half) others unregister offline = unregister
    whole x others unregister offline = others

    but_ends : (x : Reply) → HasCause s r by c x → HasCauseButEnds s r by c x
    but_ends (reply.OfflineDone entry moved deferred) h = tt
    but_ends (reply.Freed id entry from to objects) h = tt
    but_ends (reply.Half id entry from to objects half) h = tt
    but_ends x h = h

    unregister : (x : Reply) → HasCause s r by c x → HasUnregisterCause s r by c x
    unregister (reply.Freed id entry from to objects) h = h
    unregister (reply.Half id entry from to objects half) h = h
    unregister x h = tt

    offline : (x : Reply) → HasCause s r by c x → HasOfflineCause s r by c x
    offline (reply.OfflineDone entry moved deferred) h = h
    offline x h = tt

  pub but_ends_of : AreRowsCaused s r → ButEnds
  but_ends_of h by c a here there = but_ends by c a.reply (h by c a here there)

  pub unregisters_of : AreRowsCaused s r → Unregisters
  unregisters_of h by c a here there = unregister by c a.reply (h by c a here there)

  offlines_of : AreRowsCaused s r → Offlines
  offlines_of h by c a here there = offline by c a.reply (h by c a here there)

  pub rows_decided : (b : Bool) → ButEnds → Unregisters → Decides b Offlines → Decides b (AreRowsCaused s r)
  rows_decided b others unregisters d = (
    λ t by c a here there. whole by c a.reply (others by c a here there) (unregisters by c a here there) (d.0 t by c a here there),
    λ h. d.1 (offlines_of h),
  )
