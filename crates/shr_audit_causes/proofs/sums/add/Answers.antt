-- SPDX-License-Identifier: GPL-2.0-only
use Rattle.shr_audit_causes.proofs.SumsLaws.{sums_add}
use Rattle.shr_audit_causes.proofs.sums.add.Goals as goal

pub returns : goal.returns
returns c = sums_add c.args.sums.now c.insert.new.self c.args.by c.serial_key-key.result c.sum_at-before.result c.args.more c.saturating_add.result c.serial_key-key.ensures.key c.serial_key-key.ensures.keyed c.sum_at-before.ensures c.saturating_add.ensures c.in_ok-insert.ensures.updates
