-- SPDX-License-Identifier: GPL-2.0-only
use Rattle.std.proofs.Common.{refl}
use Rattle.shr_audit_case.proofs.Gaining.{gains_as, gains_more}
use Rattle.shr_audit_tables.proofs.deferred.note_part.Goals as goal

pub returns : goal.returns
returns c =
    let walks = c.as_slice.ensures in
    let carries = c.as_slice-2.ensures in
    gains_as _ _ _ _ _ _ (gains_more _ _ _ _ _ _ _ _ _ c.in_ok-note_walks.ensures c.in_ok-note_carries.ensures (λ p. refl) (λ p. refl)) (λ p. rw (walks, carries) refl) (λ p. rw (walks, carries) refl)
