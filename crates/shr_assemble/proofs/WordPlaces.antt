-- SPDX-License-Identifier: GPL-2.0-only
-- The word of each place of a table of deferred words, by its number.
use Rattle.shr_assemble.proofs.Common.{ℕ, ◌*◌, ◌<◌, arith, Sizes, IsPlaceOf, row_count, mul_comm, place_inside, place_of_row}
use Rattle.shr_lawful.proofs.UnitPooling.{some_right}

-- each number below the number of words is that of a place
pub inside_word : (z : Sizes) (i : ℕ) → i < row_count z → IsPlaceOf z (place_of_row z i)
inside_word z i lt =
    let groups : 0 < z.groups = some_right (z.ids * z.nodes) z.groups (omega (arith, lt)) in
    let both : 0 < z.ids * z.nodes = some_right z.groups (z.ids * z.nodes) (let c = mul_comm z.groups (z.ids * z.nodes) in omega (arith, lt, c)) in
    place_inside z i (some_right z.ids z.nodes both) groups lt
