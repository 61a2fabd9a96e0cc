-- SPDX-License-Identifier: GPL-2.0-only
use Rattle.shr_audit_walks.proofs.LaterCommon.{ℕ, ◌*◌, ◌%◌, ◌^◌, ap, arith, bit_or, bit_of}
use Rattle.shr_audit_walks.proofs.Citing.{fits_so}
use Rattle.shr_audit_walks.proofs.Filling.{bit_set}
use Rattle.shr_audit_walks.proofs.filled.set_bit.Goals as goal

pub returns : goal.returns
returns c =
    let bit : ℕ = 1 * 2 ^ bit_of c.args.place.id % 2 ^ 64 in
    bit_set c.args.place (fits_so c.args.place c.word_key-key.ensures.group (omega arith)) c.args.filled.now c.insert.new.self c.word_key-key.result (bit_or c.word_in-old.result bit) c.word_key-key.ensures.key
    (ap (λ (n : ℕ). bit_or n bit) c.word_in-old.ensures) c.in_ok-insert.ensures.updates.0
