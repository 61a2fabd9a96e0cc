-- SPDX-License-Identifier: GPL-2.0-only
use Rattle.shr_audit_walks.proofs.VersionsCommon.{true, flat_map, take, versions_at, Notes}
use Rattle.shr_audit_walks.proofs.version_walks.walks_never_fall.Given as goal

abbrev pub invariant-loop-k : goal.invariant-loop-k
invariant-loop-k l = Notes l.initial.versions l.versions true (λ place. flat_map (versions_at place) (take l.k l.walks))
