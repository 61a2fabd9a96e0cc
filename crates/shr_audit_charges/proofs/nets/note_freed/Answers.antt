-- SPDX-License-Identifier: GPL-2.0-only
use Rattle.shr_audit_charges.proofs.Common.{freed_keys, flat_all}
use Rattle.shr_audit_charges.proofs.nets.note_freed.Goals as goal
use Rattle.shr_model.proofs.Lists.{flat_copied}

pub loop-tag-preserved : goal.loop-tag-preserved
loop-tag-preserved c = flat_copied (freed_keys c.args.parents.now c.args.report.now c.args.entries.now) c.args.tags.now c.loop-tag.tag-index _ c.args.keys.now.items c.loop-tag.keys.items c.note_tag.new.keys.items c.loop-tag-test.true c.loop-tag.invariant c.in_ok-note_tag.ensures

pub returns : goal.returns
returns c = flat_all (freed_keys c.args.parents.now c.args.report.now c.args.entries.now) c.args.tags.now c.loop-tag.tag-index c.args.keys.now.items c.loop-tag.keys.items c.loop-tag-test.false c.loop-tag.invariant
