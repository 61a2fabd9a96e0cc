-- SPDX-License-Identifier: GPL-2.0-only
use Rattle.shr_list.proofs.Fitting.{fits_none}
use Rattle.shr_list.proofs.queue.names.Names.new.Goals as goal

pub returns : goal.returns
returns c = record { unique = tt; fits = fits_none _ c.new.ensures.empty c.new-2.ensures }
