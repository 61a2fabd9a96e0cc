-- SPDX-License-Identifier: GPL-2.0-only
use Rattle.shr_audit_walks.proofs.VersionsNoting.{two_fall, two_noted}
use Rattle.shr_audit_walks.proofs.version_table.note_two.Goals as goal

pub returns-then-not-branch : goal.returns-then-not-branch
returns-then-not-branch c = two_fall c.args.versions.now c.note.new.versions c.note.new.versions c.args.place c.args.first c.args.second c.in_ok-note.field-0 c.if-not-branch.true c.in_ok-note.ensures

pub returns : goal.returns
returns c = two_noted c.args.versions.now c.note.new.versions c.note-2.new.versions c.args.place c.args.first c.args.second c.in_ok-note.field-0 c.in_ok-last.last c.if-not-branch.false c.in_ok-note.ensures c.in_ok-last.ensures
