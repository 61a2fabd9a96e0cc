-- SPDX-License-Identifier: GPL-2.0-only
-- What readers answer to, at known words and lines.
use Rattle.std.proofs.Common.{◌≡◌, ℕ, ◌<◌, ◌^◌, [], ◌∷◌, Some, None, true, false, refl, arith}
use Rattle.std.specs.Prelude.{codes, negsuc}
use Rattle.shr_base.specs.declared.journals.TreeEntry.TheVariants.{Begin, Made}
use Rattle.shr_base.specs.declared.journals.PoolEntry.TheVariants.{Idle}
use Rattle.shr_base.specs.declared.replies.Reply.TheVariants as reply
use Rattle.shr_model.specs.Pieces.{cut, pieces}
use Rattle.shr_model.specs.PieceParts.{left}
use Rattle.shr_report.specs.ReadLines.{read_tree, read_reply}
use Rattle.shr_report.specs.ReadWords.{num, signed_num, starts_minus, later_bytes, digit_of, hex_onto, unhex}
use Rattle.shr_audit_text.specs.declared.said.Said.TheVariants as said
use Rattle.shr_audit_text.specs.Kinds.{IsNoneOf, citing}
use Rattle.shr_audit_text.specs.Reads.{IsReadAs}
use Rattle.shr_audit_text.specs.Said.{plain_kind_of, within_kind_of, is_entry, is_unit, read_line, IsSaidNumbered, IsReadOf}

tens : num (codes "207") ≡ 207
unfolding num
tens = refl

sixteens : unhex (codes "0a1f") ≡ 2591
unfolding unhex hex_onto digit_of
sixteens = refl

below_zero : signed_num (codes "-3") ≡ negsuc 2
unfolding signed_num starts_minus later_bytes num
below_zero = refl

begins : read_tree [] (codes "0" ∷ codes "begin" ∷ codes "12" ∷ []) ≡ Begin 12
unfolding num
begins = refl

other_word : read_tree [] (codes "0" ∷ codes "made" ∷ codes "3" ∷ []) ≡ Made 3
unfolding num
other_word = refl

-- ---- whole lines

-- version 1 has the bits where version 2 has the unit
first_bits : read_line 1 (codes "bit 0 1 00000000000000ff") ≡ Some (said.Bit (record { node = 0; group = 1; unit = 0; bits = 255 }))
unfolding left cut pieces plain_kind_of num unhex hex_onto digit_of
first_bits = refl

later_bits : read_line 2 (codes "bit 0 1 3 00000000000000ff") ≡ Some (said.Bit (record { node = 0; group = 1; unit = 3; bits = 255 }))
unfolding left cut pieces plain_kind_of num unhex hex_onto digit_of
later_bits = refl

-- three words behind `done` are an offlining's, four a pin's
offlined : read_line 1 (codes "reply 0 4 done 7 2 9") ≡ Some (said.Reply 0 (reply.OfflineDone 7 2 9))
unfolding left cut pieces plain_kind_of within_kind_of is_entry is_unit num read_reply
offlined = refl

pinned : read_line 1 (codes "reply 0 4 done 7 2 9 1") ≡ Some (said.Reply 0 (reply.Done (record { place = record { id = 7; node = 2; group = 9 }; entry = 1 })))
unfolding left cut pieces plain_kind_of within_kind_of is_entry is_unit num read_reply
pinned = refl

-- two words behind `pool` are a pool of units, more are a registration
named_pool : read_line 2 (codes "pool 0 slab") ≡ Some (said.PoolName (codes "slab"))
unfolding left cut pieces plain_kind_of within_kind_of is_entry is_unit
named_pool = refl

idle : read_line 2 (codes "pool 0 idle 7") ≡ Some (said.Pool (Idle 7))
unfolding left cut pieces plain_kind_of within_kind_of is_entry is_unit num
idle = refl

-- a line of no kind says nothing
no_line : read_line 1 (codes "walks 3") ≡ None
unfolding left cut pieces plain_kind_of within_kind_of is_entry is_unit
no_line = refl

-- ---- ranges

fits : IsSaidNumbered (said.Reply 65535 reply.Root)
fits = (omega arith, tt)

too_great : IsSaidNumbered (said.Reply 65536 reply.Root) → ⊥
too_great h = let few : 65536 < 2 ^ 16 = h.0 in absurd (omega arith)

-- nothing may be found where the number doesn't fit, and not where it does
not_found : IsReadOf None (Some (said.Lookups (2 ^ 32)))
not_found h = absurd (omega arith)

missed : IsReadOf None (Some (said.Lookups 5)) → ⊥
missed h = h (omega arith)

other_value : IsReadAs {X = ℕ} (Some 3) 4 (Unit {0}) → ⊥
other_value h = absurd (omega arith)

-- ---- words of answers

is_none : IsNoneOf (codes "root") citing
is_none = (refl, (refl, (refl, (refl, (refl, (refl, tt))))))

is_one : IsNoneOf (codes "miss") citing → ⊥
is_one h = no h.1.1.1.0
  where
    no : true ≡ false → ⊥
    no e = cc
