-- SPDX-License-Identifier: GPL-2.0-only
use Rattle.std.proofs.Common.{◌≡◌, drop}
use Rattle.shr_model.specs.Items.{is_closed}
use Rattle.shr_audit_reasons.proofs.counted.is_closed.Given as goal

abbrev pub invariant-loop-entry : goal.invariant-loop-entry
invariant-loop-entry l = is_closed (drop l.entry-index l.entries) ≡ is_closed l.entries
