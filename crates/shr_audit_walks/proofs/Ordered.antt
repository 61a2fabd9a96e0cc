-- SPDX-License-Identifier: GPL-2.0-only
-- A stable sort by keys leaves the rows of each key in order.
use Rattle.shr_audit_walks.proofs.ScansCommon.{◌≡◌, ℕ, List, sym, ap, ◌∙◌, arith, ◌==◌, ◌&&◌, nat_cmp, Plain, ScanSeen, row_key, with_key, IsStableByKey, ties, is_lt}
use Rattle.std.proofs.lemmas.List.Elements.{filter_agree}
use Rattle.shr_model.proofs.Numbers.{tie}

-- a row with any key
abbrev row_with : ℕ → ScanSeen
row_with key = record { worker = 0; walk = 0; place = record { id = 0; node = 0; group = key }; number = 0; asked = 0; policy = Plain; freed = 0 }

its_key : (key : ℕ) → row_key (row_with key) ≡ key
its_key key = omega arith

pub same_order : (old new : List ScanSeen) → IsStableByKey row_key nat_cmp old new → (key : ℕ) → with_key key new ≡ with_key key old
same_order old new stable key =
    sym (filter_agree (ties (λ (x y : ScanSeen). is_lt (nat_cmp (row_key x) (row_key y))) (row_with key)) (λ (x : ScanSeen). row_key x == key) agrees new)
    ∙ stable (row_with key)
    ∙ filter_agree (ties (λ (x y : ScanSeen). is_lt (nat_cmp (row_key x) (row_key y))) (row_with key)) (λ (x : ScanSeen). row_key x == key) agrees old
  where
    agrees : (x : ScanSeen) → ties (λ (x y : ScanSeen). is_lt (nat_cmp (row_key x) (row_key y))) (row_with key) x ≡ (row_key x == key)
    agrees x = tie (row_key (row_with key)) (row_key x) ∙ ap (λ (k : ℕ). row_key x == k) (its_key key)
