-- SPDX-License-Identifier: GPL-2.0-only
use Rattle.shr_audit_walks.proofs.VersionsCommon.{true, flat_map, take, Notes}
use Rattle.shr_audit_walks.proofs.VersionsNoting.{tried}
use Rattle.shr_audit_walks.proofs.version_walks.note_walk.Given as goal

abbrev pub invariant-loop-attempt : goal.invariant-loop-attempt
invariant-loop-attempt l = Notes l.fn.versions l.versions true (λ place. flat_map (tried l.walk place) (take l.attempt-index l.attempt-items))
