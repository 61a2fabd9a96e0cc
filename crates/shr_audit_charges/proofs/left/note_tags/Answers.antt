-- SPDX-License-Identifier: GPL-2.0-only
use Rattle.shr_audit_charges.proofs.Common.{tag_keys, flat_all}
use Rattle.shr_audit_charges.proofs.left.note_tags.Goals as goal
use Rattle.shr_model.proofs.Lists.{flat_copied}

pub loop-tag-preserved : goal.loop-tag-preserved
loop-tag-preserved c = flat_copied (tag_keys c.args.parents.now) c.args.tags.now c.loop-tag.tag-index _ c.args.keys.now.items c.loop-tag.keys.items c.note_path.new.keys.items c.loop-tag-test.true c.loop-tag.invariant c.in_ok-note_path.ensures

pub returns : goal.returns
returns c = flat_all (tag_keys c.args.parents.now) c.args.tags.now c.loop-tag.tag-index c.args.keys.now.items c.loop-tag.keys.items c.loop-tag-test.false c.loop-tag.invariant
