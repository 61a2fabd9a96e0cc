-- SPDX-License-Identifier: GPL-2.0-only
use Rattle.shr_audit_case.proofs.Noting.{noted_idle}
use Rattle.shr_audit_case.proofs.met.note_entry.Goals as goal

pub returns-in_ok-note_registered-in-Registered : goal.returns-in_ok-note_registered-in-Registered
returns-in_ok-note_registered-in-Registered c = λ es h. rw c.in-Registered.is (c.in_ok-note_registered-in-Registered.ensures es h)

pub returns-in_ok-note_unregistered-in-Unregistered : goal.returns-in_ok-note_unregistered-in-Unregistered
returns-in_ok-note_unregistered-in-Unregistered c = λ es h. rw c.in-Unregistered.is (c.in_ok-note_unregistered-in-Unregistered.ensures _ es _ h)

pub returns-in-Idle : goal.returns-in-Idle
returns-in-Idle c = λ es h. rw c.in-Idle.is (noted_idle _ es _ _ h)
