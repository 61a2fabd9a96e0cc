-- SPDX-License-Identifier: GPL-2.0-only
use Rattle.shr_audit_isolations.proofs.Common.{◌≡◌, ◌<◌, ℕ, Some, slice_get, WorkerPart, PartTellsIsolations}
use Rattle.shr_audit_isolations.proofs.commands.are_told.Given as goal

abbrev pub invariant-loop-worker : goal.invariant-loop-worker
invariant-loop-worker l = (n : ℕ) (part : WorkerPart) → n < l.worker → slice_get l.parts n ≡ Some part → PartTellsIsolations l.script n part
