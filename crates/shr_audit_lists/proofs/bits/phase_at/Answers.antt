-- SPDX-License-Identifier: GPL-2.0-only
use Rattle.shr_audit_lists.proofs.bits.phase_at.Goals as goal

pub returns : goal.returns
returns c = λ pool are. are.each c.args.id c.ranges.id.fits
