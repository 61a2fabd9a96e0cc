-- SPDX-License-Identifier: GPL-2.0-only
use Rattle.shr_plain.proofs.Common.{◌≡◌, map, take, setting_by}
use Rattle.shr_plain.proofs.opening.settings_of.Given as goal

abbrev pub invariant-loop-i : goal.invariant-loop-i
invariant-loop-i l = l.settings.items ≡ map setting_by (take l.i l.decls)
