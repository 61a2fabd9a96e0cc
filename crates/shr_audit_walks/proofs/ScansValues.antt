-- SPDX-License-Identifier: GPL-2.0-only
-- Keys, rows and passes at known values.
use Rattle.shr_audit_walks.proofs.ScansCommon.{◌≡◌, ℕ, [], ◌∷◌, None, Some, false, refl, Entry, Scan, Closed, Plain, Place, ScanSeen, key_of, row_key, key_if, scan_row, rows_of, rows_with, with_key}

abbrev place : ℕ → ℕ → ℕ → Place
place id node group = record { id = id; node = node; group = group }

abbrev scan : ℕ → ℕ → Entry
scan worker walk = Scan worker walk 2 Plain 2 1 false

abbrev row : ℕ → ℕ → ℕ → ScanSeen
row worker walk number = record { worker = worker; walk = walk; place = place 0 0 1; number = number; asked = 2; policy = Plain; freed = 1 }

last_group : key_of 0 0 (place 0 0 65535) ≡ 65535
last_group = refl

next_node : key_of 0 0 (place 0 1 0) ≡ 65536
next_node = refl

next_id : key_of 0 0 (place 1 0 0) ≡ 16777216
next_id = refl

next_worker : key_of 1 0 (place 0 0 0) ≡ 1099511627776
next_worker = refl

next_walk : key_of 0 1 (place 0 0 0) ≡ 72057594037927936
next_walk = refl

key_of_row : row_key (row 1 0 7) ≡ 1099511627777
key_of_row = refl

scans_alone : rows_of (place 0 0 1) (scan 0 3 ∷ Closed ∷ scan 1 3 ∷ []) ≡ row 0 3 0 ∷ row 1 3 2 ∷ []
scans_alone = refl

no_row : scan_row (place 0 0 1) 4 Closed ≡ None
no_row = refl

one_more : rows_with (row 0 3 0 ∷ []) (Some (row 1 3 2)) ≡ row 0 3 0 ∷ row 1 3 2 ∷ []
one_more = refl

of_one_walk : with_key (key_of 0 3 (place 0 0 1)) (row 0 3 0 ∷ row 1 3 2 ∷ row 0 3 4 ∷ []) ≡ row 0 3 0 ∷ row 0 3 4 ∷ []
of_one_walk = refl

no_key : key_if 5 None ≡ []
no_key = refl
