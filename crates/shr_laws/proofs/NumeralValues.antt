-- SPDX-License-Identifier: GPL-2.0-only
-- Numbers as they are printed.
use Rattle.shr_laws.proofs.Common.{◌≡◌, refl, codes, negsuc, signed_numeral, hex, bit_line}
use Rattle.shr_laws.specs.Lines.{numeral, hex_digits}

nothing : numeral 0 ≡ codes "0"
unfolding numeral
nothing = refl

some : numeral 20001 ≡ codes "20001"
unfolding numeral
some = refl

below_nothing : signed_numeral (negsuc 0) ≡ codes "-1"
unfolding numeral
below_nothing = refl

word : hex 255 ≡ codes "00000000000000ff"
unfolding hex_digits
word = refl

-- the line of a bit word has its unit, but in version 1
bits_of_first : bit_line 1 (record { node = 0; group = 1; unit = 0; bits = 1 }) ≡ codes "bit 0 1 0000000000000001\n"
unfolding numeral hex_digits
bits_of_first = refl

bits_of_second : bit_line 2 (record { node = 0; group = 1; unit = 1; bits = 1 }) ≡ codes "bit 0 1 1 0000000000000001\n"
unfolding numeral hex_digits
bits_of_second = refl
