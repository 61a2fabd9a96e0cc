-- SPDX-License-Identifier: GPL-2.0-only
use Rattle.shr_audit_replies.proofs.citing.on_held.Goals as goal

pub returns-in-Get : goal.returns-in-Get
returns-in-Get c = λ parents. rw c.in-Get.is (c.get_held.ensures parents)

pub returns-in-Del : goal.returns-in-Del
returns-in-Del c = λ parents. rw c.in-Del.is (c.del_held.ensures parents)

pub returns-in-SetPin : goal.returns-in-SetPin
returns-in-SetPin c = λ parents. rw c.in-SetPin.is (c.pin_held.ensures parents)
