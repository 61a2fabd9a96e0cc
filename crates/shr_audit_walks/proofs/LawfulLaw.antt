-- SPDX-License-Identifier: GPL-2.0-only
-- A walk is lawful if and only if each of its fields was tested so.
use Rattle.shr_audit_walks.proofs.ScansCommon.{◌≡◌, ℕ, Bool, false, Decides, WalkRecord, Report, IsLawfulWalk, IsShaped, IsScannedAt, fails}
use Rattle.shr_base.specs.declared.scripts.Script.{Script}
use Rattle.shr_audit_formed.specs.Each.{EachItem}
use Rattle.shr_audit_passes.specs.Counts.{AreCountsAt}
use Rattle.shr_audit_passes.specs.Kinds.{IsKindAt, IsStopAt}
use Rattle.shr_audit_passes.proofs.ShapedLaw.{counts_are, kinds_are, memory_of, shaped_of, stops_are}

-- a walk of which all fields are so is lawful
lawful_of : (s : Script) (r : Report) (worker n : ℕ) (w : WalkRecord) → IsShaped s w → EachItem (IsKindAt s r w.priority) w.attempts.items → EachItem (IsStopAt s r w) w.attempts.items
    → EachItem (AreCountsAt s r w) w.attempts.items → EachItem (IsScannedAt s r worker n w) w.attempts.items → IsLawfulWalk s r worker n w
lawful_of s r worker n w shaped kinds stops counts scanned = record {
  offline = shaped.offline;
  mapped = shaped.mapped;
  root = shaped.root;
  memory = memory_of s w shaped;
  counts = counts_are s r w counts;
  kinds = kinds_are s r w kinds;
  placed = shaped.placed;
  scans = scanned;
  stops = stops_are s r w stops;
  freed = shaped.freed;
}

-- the last test decides, where the others hold
pub lawful_if : (s : Script) (r : Report) (worker n : ℕ) (w : WalkRecord) (b : Bool) → IsShaped s w → EachItem (IsKindAt s r w.priority) w.attempts.items → EachItem (IsStopAt s r w) w.attempts.items
    → EachItem (AreCountsAt s r w) w.attempts.items → Decides b (EachItem (IsScannedAt s r worker n w) w.attempts.items) → Decides b (IsLawfulWalk s r worker n w)
lawful_if s r worker n w b shaped kinds stops counts d = (λ t. lawful_of s r worker n w shaped kinds stops counts (d.0 t), λ h. d.1 h.scans)

pub not_shaped : (s : Script) (r : Report) (worker n : ℕ) (w : WalkRecord) (b : Bool) → Decides b (IsShaped s w) → b ≡ false → Decides false (IsLawfulWalk s r worker n w)
not_shaped s r worker n w b d f = fails (IsShaped s w) (IsLawfulWalk s r worker n w) b d f (shaped_of s r worker n w)

pub not_kinds : (s : Script) (r : Report) (worker n : ℕ) (w : WalkRecord) (b : Bool) → Decides b (EachItem (IsKindAt s r w.priority) w.attempts.items) → b ≡ false → Decides false (IsLawfulWalk s r worker n w)
not_kinds s r worker n w b d f = fails (EachItem (IsKindAt s r w.priority) w.attempts.items) (IsLawfulWalk s r worker n w) b d f (λ h. h.kinds)

pub not_stops : (s : Script) (r : Report) (worker n : ℕ) (w : WalkRecord) (b : Bool) → Decides b (EachItem (IsStopAt s r w) w.attempts.items) → b ≡ false → Decides false (IsLawfulWalk s r worker n w)
not_stops s r worker n w b d f = fails (EachItem (IsStopAt s r w) w.attempts.items) (IsLawfulWalk s r worker n w) b d f (λ h. h.stops)

pub not_counts : (s : Script) (r : Report) (worker n : ℕ) (w : WalkRecord) (b : Bool) → Decides b (EachItem (AreCountsAt s r w) w.attempts.items) → b ≡ false → Decides false (IsLawfulWalk s r worker n w)
not_counts s r worker n w b d f = fails (EachItem (AreCountsAt s r w) w.attempts.items) (IsLawfulWalk s r worker n w) b d f (λ h. h.counts)
