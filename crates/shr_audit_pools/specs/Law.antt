-- SPDX-License-Identifier: GPL-2.0-only
-- The law on pools, in parts. No public clause cites this.
use Rattle.std.specs.Prelude.{◌≡◌, ℕ, ◌<◌, flat_map, map, Some}
use Rattle.std.specs.List.{AllByRecursion}
use Rattle.shr_base.specs.declared.places.Place.{Place}
use Rattle.shr_base.specs.declared.replies.Reply.TheVariants as reply
use Rattle.shr_base.specs.declared.scripts.Script.{Script}
use Rattle.shr_laws.specs.declared.report.Report.{Report}
use Rattle.shr_laws.specs.Parts.{at, reply_at, serial_of, EachAnswer}
use Rattle.shr_laws.specs.Pools.{IsPlainLawful, IsPoolReply, plain_versions}
use Rattle.shr_laws.specs.UnitParts.{EachPlain, EachUnits, plain_by, plain_due, plain_job_of, plain_of, units_cited_at}
use Rattle.shr_laws.specs.WellFormed.{AreNotFalling}
use Rattle.shr_audit_pools.specs.Cited.{IsEntryRight}
use Rattle.shr_audit_pools.specs.Due.{IsDue}
use Rattle.shr_audit_pools.specs.Moved.{ArePoolWordsRight}

-- the fields on replies about pools
pub record AreCitesRight (s : Script) (r : Report) : Type 0 where
  pub replies : EachAnswer s r (λ by c a. IsPoolReply s r by c a.reply)
  pub entries : EachUnits r (IsEntryRight s r)
  pub rise : (worker k later : ℕ) (place : Place) (n m : ℕ) → k < later → units_cited_at r (serial_of worker k) ≡ Some (at place n)
      → units_cited_at r (serial_of worker later) ≡ Some (at place m) → n < m
  pub full : (worker k later : ℕ) (place : Place) (n entries free : ℕ) → k < later → units_cited_at r (serial_of worker k) ≡ Some (at place n)
      → reply_at r (serial_of worker later) ≡ Some (reply.Full place.id place.node entries free) → n < entries

-- those on walks of the pools
pub record AreWalksRight (s : Script) (r : Report) : Type 0 where
  pub walks : EachPlain r (IsPlainLawful s r)
  pub due : EachAnswer s r (λ by c a. map plain_job_of (plain_by r by) ≡ plain_due s c a.reply)
  pub commands : EachPlain r (λ worker n w. IsDue s r w)
  pub versions : (worker : ℕ) (place : Place) → AreNotFalling (flat_map (plain_versions s place) (plain_of r worker))
  pub later : EachPlain r (λ worker n w. (k entry : ℕ) (place : Place) → k < w.by.command → units_cited_at r (serial_of worker k) ≡ Some (at place entry)
      → AllByRecursion (λ version. entry < version) (plain_versions s place w))
  pub deferred : ArePoolWordsRight s r
