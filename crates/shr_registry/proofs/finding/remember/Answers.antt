-- SPDX-License-Identifier: GPL-2.0-only
use Rattle.shr_registry.proofs.finding.remember.Goals as goal

pub keep-requires : goal.keep-requires
keep-requires c = record { met = c.requires.met c.in-Held.id c.in-Held.number c.in-Held.entry c.in-Held.is }
