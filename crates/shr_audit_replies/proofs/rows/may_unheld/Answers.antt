-- SPDX-License-Identifier: GPL-2.0-only
use Rattle.shr_audit_replies.proofs.rows.may_unheld.Goals as goal

pub returns-in-Put : goal.returns-in-Put
returns-in-Put c = λ parents family by. rw c.in-Put.is (c.put_unheld.ensures parents family by c.in-Put.at c.in-Put.key c.in-Put.value)

pub returns-in-On : goal.returns-in-On
returns-in-On c = λ parents family by. rw c.in-On.is (c.on_unheld.ensures parents family by c.in-On.at c.in-On.key)

pub returns-in-Shrink : goal.returns-in-Shrink
returns-in-Shrink c = λ parents family by. rw c.in-Shrink.is (c.shrink_unheld.ensures parents family by c.in-Shrink.group c.in-Shrink.node c.in-Shrink.priority c.in-Shrink.nofs)

pub returns-in-Balance : goal.returns-in-Balance
returns-in-Balance c = λ parents family by. rw c.in-Balance.is (c.balance_unheld.ensures parents family by c.in-Balance.node c.in-Balance.priority c.in-Balance.nofs)

pub returns-in-Offline : goal.returns-in-Offline
returns-in-Offline c = λ parents family by. rw c.in-Offline.is (c.offline_unheld.ensures parents family by c.in-Offline.group)

pub returns-in-MkGroup : goal.returns-in-MkGroup
returns-in-MkGroup c = λ parents family by. rw c.in-MkGroup.is (c.mkgroup_unheld.ensures parents family by c.in-MkGroup.group)

pub returns-in-Register : goal.returns-in-Register
returns-in-Register c = λ parents family by. rw c.in-Register.is (c.register_unheld.ensures parents family by c.in-Register.decl)

pub returns-in-Unregister : goal.returns-in-Unregister
returns-in-Unregister c = λ parents family by. rw c.in-Unregister.is (c.unregister_unheld.ensures parents family by c.in-Unregister.decl)

pub returns-in-Release : goal.returns-in-Release
returns-in-Release c = λ parents family by. rw c.in-Release.is (c.release_unheld.ensures parents family by c.in-Release.node c.in-Release.pool c.in-Release.units)

pub returns-in-Grab : goal.returns-in-Grab
returns-in-Grab c = λ parents family by. rw c.in-Grab.is (c.grab_unheld.ensures parents family by c.in-Grab.node c.in-Grab.pool)

pub returns-in-Isolate : goal.returns-in-Isolate
returns-in-Isolate c = λ parents family by. rw c.in-Isolate.is (c.isolate_unheld.ensures parents family by c.in-Isolate.at c.in-Isolate.budget)
