-- SPDX-License-Identifier: GPL-2.0-only
use Rattle.shr_audit_lists.proofs.BitsCommon.{take, AreWords}
use Rattle.shr_audit_lists.proofs.words.words_of.Given as goal

abbrev pub invariant-loop-map : goal.invariant-loop-map
invariant-loop-map l = AreWords (take l.map-index l.maps) l.words
