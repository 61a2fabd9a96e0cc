-- SPDX-License-Identifier: GPL-2.0-only
use Rattle.std.proofs.Common.{sym, subst}
use Rattle.shr_base.specs.declared.journals.Entry.{Entry}
use Rattle.shr_audit_case.specs.Replay.{Replays}
use Rattle.shr_audit_case.proofs.step.replay_entry.Goals as goal

pub returns-in_ok-told-in-Scan-clause-replayed : goal.returns-in_ok-told-in-Scan-clause-replayed
returns-in_ok-told-in-Scan-clause-replayed c =
    let r = c.in_ok-told-in-Scan.ensures c.in-Scan.worker c.in-Scan.walk in
    subst (λ (e : Entry). Replays c.args.given.now.items c.args.queue.now.items c.scan.new.queue.items e c.in_ok-told-in-Scan.told) (sym c.in-Scan.is) (record { items = r.items; freed = r.freed; value = r.value; outcome = r.outcome })
