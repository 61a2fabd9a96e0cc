-- SPDX-License-Identifier: GPL-2.0-only
use Rattle.shr_audit_walks.proofs.VersionsCommon.{true, false, flat_map, subst, WalkRecord, versions_at, Notes}
use Rattle.shr_audit_walks.proofs.VersionsNoting.{noted_all, noted_falls, noted_more, notes_decide}
use Rattle.shr_audit_walks.proofs.version_walks.walks_never_fall.Goals as goal

pub loop-k-preserved : goal.loop-k-preserved
loop-k-preserved c =
    noted_more versions_at c.args.walks.now c.no_versions-versions.result c.loop-k.versions c.note_walk.new.versions c.loop-k.k c.in_ok-note_walk.field-0 c.index-walks-k.result c.loop-k-test.true c.if-not-branch.false c.loop-k.invariant
    (subst (λ (w : WalkRecord). Notes c.loop-k.versions c.note_walk.new.versions c.in_ok-note_walk.field-0 (λ place. versions_at place w)) c.index-walks-k.is c.in_ok-note_walk.ensures)

pub returns-then-not-branch : goal.returns-then-not-branch
returns-then-not-branch c = notes_decide c.no_versions-versions.result c.note_walk.new.versions false (λ place. flat_map (versions_at place) c.args.walks.now) c.no_versions-versions.ensures
    (noted_falls versions_at c.args.walks.now c.no_versions-versions.result c.loop-k.versions c.note_walk.new.versions c.loop-k.k c.in_ok-note_walk.field-0 c.index-walks-k.result c.loop-k-test.true c.if-not-branch.true c.loop-k.invariant
    (subst (λ (w : WalkRecord). Notes c.loop-k.versions c.note_walk.new.versions c.in_ok-note_walk.field-0 (λ place. versions_at place w)) c.index-walks-k.is c.in_ok-note_walk.ensures))

pub returns : goal.returns
returns c = notes_decide c.no_versions-versions.result c.loop-k.versions true (λ place. flat_map (versions_at place) c.args.walks.now) c.no_versions-versions.ensures
    (noted_all versions_at c.args.walks.now c.no_versions-versions.result c.loop-k.versions c.loop-k.versions c.loop-k.k c.loop-k-test.false c.loop-k.invariant)
