-- SPDX-License-Identifier: GPL-2.0-only
use Rattle.shr_audit_replies.proofs.rows.on_unheld.Goals as goal

pub returns-in-Get : goal.returns-in-Get
returns-in-Get c = λ parents family by at key. rw c.in-Get.is (c.get_unheld.ensures parents family by at key)

pub returns-in-Del : goal.returns-in-Del
returns-in-Del c = λ parents family by at key. rw c.in-Del.is (c.del_unheld.ensures parents family by at key)

pub returns-in-SetPin : goal.returns-in-SetPin
returns-in-SetPin c = λ parents family by at key. rw c.in-SetPin.is (c.pin_unheld.ensures parents family by at key c.in-SetPin.pinned)
