-- SPDX-License-Identifier: GPL-2.0-only
use Rattle.shr_audit_reasons.proofs.cites.told.Goals as goal

pub returns-in-Done : goal.returns-in-Done
returns-in-Done c = λ n. rw c.in-Done.is (c.own_done.ensures n)

pub returns-in-Made : goal.returns-in-Made
returns-in-Made c = λ n. rw c.in-Made.is (c.own_made.ensures n)

pub returns-in-Registered : goal.returns-in-Registered
returns-in-Registered c = λ n. rw c.in-Registered.is (c.registered.ensures n)

pub returns-in-Unregistered : goal.returns-in-Unregistered
returns-in-Unregistered c = λ n. rw c.in-Unregistered.is (c.unregistered.ensures n)

pub returns-in-Begun : goal.returns-in-Begun
returns-in-Begun c = λ n. rw c.in-Begun.is (c.begun.ensures n)

pub returns-in-Freed : goal.returns-in-Freed
returns-in-Freed c = λ n. rw c.in-Freed.is (c.freed.ensures n)
