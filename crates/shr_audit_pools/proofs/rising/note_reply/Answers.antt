-- SPDX-License-Identifier: GPL-2.0-only
use Rattle.std.proofs.Common.{refl, ◌+◌}
use Rattle.shr_audit_pools.proofs.Risen.{noted_some}
use Rattle.shr_audit_pools.proofs.rising.note_reply.Goals as goal

pub returns-in_ok-raise-in-Some : goal.returns-in_ok-raise-in-Some
returns-in_ok-raise-in-Some c = noted_some c.args.reply.now c.in-Some.cite (c.in-Some.cite.entry + 1) c.args.lows.now c.raise.new.lows c.in-Some.ensures.cited c.in-Some.ensures.small refl c.in_ok-raise-in-Some.ensures
