-- SPDX-License-Identifier: GPL-2.0-only
use Rattle.shr_audit_walks.proofs.RoundsCommon.{◌≡◌, take, refusals_in}
use Rattle.shr_audit_walks.proofs.refusals.refusals_in.Given as goal

abbrev pub invariant-loop-step : goal.invariant-loop-step
invariant-loop-step l = l.refusals.items ≡ refusals_in l.script (take l.step-index l.uses)
