-- SPDX-License-Identifier: GPL-2.0-only
use Rattle.shr_audit.proofs.OneVerdict.{one_verdict}
use Rattle.shr_audit.proofs.laws.one_verdict.Goals as goal

pub returns : goal.returns
returns c = one_verdict
