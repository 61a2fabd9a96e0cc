-- SPDX-License-Identifier: GPL-2.0-only
use Rattle.shr_gen.proofs.OneForm.{one_form}
use Rattle.shr_gen.proofs.laws.one_form.Goals as goal

pub returns : goal.returns
returns c = one_form
