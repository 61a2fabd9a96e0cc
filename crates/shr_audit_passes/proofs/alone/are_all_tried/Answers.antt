-- SPDX-License-Identifier: GPL-2.0-only
use Rattle.shr_base.specs.Walks.{Attempt}
use Rattle.shr_audit_passes.proofs.Rising.{other_length, whole_prefix}
use Rattle.shr_audit_passes.proofs.alone.are_all_tried.Goals as goal

pub returns-then-attempts-ids : goal.returns-then-attempts-ids
returns-then-attempts-ids c = other_length (λ (a : Attempt). a.id) c.args.attempts.now c.args.ids c.if-attempts-ids.true

pub returns : goal.returns
returns c = whole_prefix (λ (a : Attempt). a.id) c.args.attempts.now c.args.ids c.tries_rise-rise.result c.if-attempts-ids.false c.tries_rise-rise.ensures
