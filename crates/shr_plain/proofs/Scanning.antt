-- SPDX-License-Identifier: GPL-2.0-only
-- One count and one scan of a pool on a node.
use Rattle.shr_plain.proofs.Common.{◌≡◌, ◌≢◌, ℕ, ◌<◌, ◌≤◌, cond, Bool, true, false, List, [], ◌∷◌, ◌++◌, length, sym, refl, ap, subst, ◌∙◌, arith, eq-eqb, ◌==◌, ◌&&◌, Option, Some, None, cons_option, nat_tests, append-nil, filter_map-append, Place, PlainEntry, Reclaim, Count, ScanSeen, ScanAnswer, Each-none, RoomMade, RoomCount, RoomView, with_known, with_entry, IsTold, IsRecent, here, there, units_kind, counts_seen, units_scan_by, scans_of, IsReclaimOf, KeepsUnits, TellsUnits, units, with_part, part_of, UnitSeat, UnitsSat, Looked, Put, Counts, ne_eqb, nat_le, map_push, begins_all, begins_more, begins_push, Each-one, with_room_count, IsCount, WalksUnits, ReclaimGives}
use Rattle.shr_pass.specs.declared.answers.Count.TheVariants as kinds
use Rattle.shr_pass.specs.declared.answers.ScanAnswer.TheVariants as answered
use Rattle.shr_pass.specs.Answers.{scans_with}
use Rattle.shr_seats.specs.Weights.{Begins}
use Rattle.shr_seats.proofs.RoomTelling.{told_recent}
use Rattle.shr_plain.proofs.FreeLaws.{journal_low}

-- the three kinds of a count
pub kind_empty : (floor len version : ℕ) → len ≡ 0 → units_kind floor (record { len = len; version = version }) ≡ kinds.Empty version
kind_empty floor len version e = ap (λ b. cond b (kinds.Empty version) (cond (nat_le len floor) (kinds.Skip len version) (kinds.Many len version))) (eq-eqb len 0 e)

some_kind : (floor len version : ℕ) (b : Bool) → len ≢ 0 → nat_le len floor ≡ b → units_kind floor (record { len = len; version = version }) ≡ cond b (kinds.Skip len version) (kinds.Many len version)
some_kind floor len version b n e = ap (λ a. cond a (kinds.Empty version) (cond (nat_le len floor) (kinds.Skip len version) (kinds.Many len version))) (ne_eqb len 0 n) ∙ ap (λ a. cond a (kinds.Skip len version) (kinds.Many len version)) e

pub kind_skip : (floor len version : ℕ) → len ≢ 0 → len ≤ floor → units_kind floor (record { len = len; version = version }) ≡ kinds.Skip len version
kind_skip floor len version n low = some_kind floor len version true n (grind (arith, nat_tests))

pub kind_many : (floor len version : ℕ) → len ≢ 0 → floor < len → units_kind floor (record { len = len; version = version }) ≡ kinds.Many len version
kind_many floor len version n high = some_kind floor len version false n (grind (arith, nat_tests))

module _ (worker walk : ℕ) (t : RoomView PlainEntry) where
  walks_count : (len version : ℕ) → IsCount units t len version → WalksUnits worker walk t (with_room_count t len version)
  walks_count len version is = record {
    more = [];
    made = sym (append-nil t.made);
    reclaims = Each-none (λ (m : RoomMade PlainEntry). IsReclaimOf worker walk m.entry);
    late = Each-none (λ (m : RoomMade PlainEntry). IsRecent t m.number);
    counts = (record { len = len; version = version }) ∷ [];
    seen = refl;
    fresh = Each-one (λ (c : RoomCount). IsRecent t c.version) (record { len = len; version = version }) (subst (IsRecent t) (sym is.version) (told_recent units is.journal t is.told));
    known = begins_all t.known;
    heard = refl;
    hand = refl;
  }

  walks_known : (journal : List PlainEntry) → IsTold units t journal → t.in_hand ≡ false → WalksUnits worker walk t (with_known t journal)
  walks_known journal told out = record {
    more = [];
    made = sym (append-nil t.made);
    reclaims = Each-none (λ (m : RoomMade PlainEntry). IsReclaimOf worker walk m.entry);
    late = Each-none (λ (m : RoomMade PlainEntry). IsRecent t m.number);
    counts = [];
    seen = sym (append-nil t.seen);
    fresh = Each-none (λ (c : RoomCount). IsRecent t c.version);
    known = told.seen.known;
    heard = refl;
    hand = sym out;
  }

  walks_entry : (journal : List PlainEntry) (e : PlainEntry) → IsTold units t journal → t.in_hand ≡ false → IsReclaimOf worker walk e → WalksUnits worker walk t (with_entry t journal e)
  walks_entry journal e told out is = let m : RoomMade PlainEntry = record { number = length journal; entry = e } in record {
    more = m ∷ [];
    made = refl;
    reclaims = Each-one (λ (m : RoomMade PlainEntry). IsReclaimOf worker walk m.entry) m is;
    late = Each-one (λ (m : RoomMade PlainEntry). IsRecent t m.number) m (told_recent units journal t told);
    counts = [];
    seen = sym (append-nil t.seen);
    fresh = Each-none (λ (c : RoomCount). IsRecent t c.version);
    known = begins_more t.known journal (journal ++ e ∷ []) told.seen.known (begins_push journal e);
    heard = refl;
    hand = sym out;
  }

-- a seat of which the part of one room changed
module _ (i worker walk : ℕ) (s t : UnitSeat) (table : t.table_id ≡ s.table_id) (x : RoomView PlainEntry) (view : t.me.0 ≡ with_part s.me.0 i x) where
  part_now : part_of t.me.0 i ≡ x
  part_now = ap (λ v. part_of v i) view ∙ here s.me.0.rooms i x

  step_keeps : (s.me.1 ≡ [] → t.me.1 ≡ []) → WalksUnits worker walk (part_of s.me.0 i) x → KeepsUnits i worker walk s t
  step_keeps bare w = record {
    table = table;
    bare = bare;
    standing = ap (λ v. v.standing) view;
    here = subst (WalksUnits worker walk (part_of s.me.0 i)) (sym part_now) w;
    others = λ k no. ap (λ v. part_of v k) view ∙ there s.me.0.rooms i k x no;
  }

-- the count word was loaded
module _ (i worker walk : ℕ) (s t : UnitSeat) (table : t.table_id ≡ s.table_id) (len version : ℕ) (did : Counts i s.me t.me len version) where
  abbrev counted : RoomView PlainEntry
  counted = with_room_count (part_of s.me.0 i) len version

  view : t.me.0 ≡ with_part s.me.0 i counted
  view = ap (λ (m : UnitsSat). m.0) did.seat

  pub count_keeps : KeepsUnits i worker walk s t
  count_keeps = step_keeps i worker walk s t table counted view (λ bare. ap (λ (m : UnitsSat). m.1) did.seat ∙ bare) (walks_count worker walk (part_of s.me.0 i) len version did.count)

  pub count_more : (floor : ℕ) (kind : Count) → units_kind floor (record { len = len; version = version }) ≡ kind → counts_seen floor (part_of t.me.0 i) ≡ counts_seen floor (part_of s.me.0 i) ++ kind ∷ []
  count_more floor kind is = ap (counts_seen floor) (part_now i worker walk s t table counted view) ∙ (map_push (units_kind floor) (part_of s.me.0 i).seen (record { len = len; version = version }) ∙ ap (λ (k : Count). counts_seen floor (part_of s.me.0 i) ++ k ∷ []) is)

  pub count_scans : scans_of worker walk (part_of t.me.0 i).made ≡ scans_of worker walk (part_of s.me.0 i).made
  count_scans = ap (λ (x : RoomView PlainEntry). scans_of worker walk x.made) (part_now i worker walk s t table counted view)

  pub count_low : len ≤ 20000
  count_low = let low = journal_low did.count.journal did.count.told.legal in let is = did.count.len in omega (arith, low, is)

own_scan : (worker walk asked freed number : ℕ) → units_scan_by worker walk (record { number = number; entry = Reclaim worker walk asked freed }) ≡ Some (record { asked = asked; freed = freed })
own_scan worker walk asked freed number = ap (λ b. cond (b && (walk == walk)) (Some (record { asked = asked; freed = freed })) None) (eq-eqb worker worker refl) ∙ ap (λ b. cond b (Some (record { asked = asked; freed = freed })) None) (eq-eqb walk walk refl)

option_push : (worker walk : ℕ) (made : List (RoomMade PlainEntry)) (m : RoomMade PlainEntry) (x : ScanSeen) → units_scan_by worker walk m ≡ Some x → scans_of worker walk (made ++ m ∷ []) ≡ scans_of worker walk made ++ x ∷ []
option_push worker walk made m x is = filter_map-append (units_scan_by worker walk) made (m ∷ []) ∙ ap (λ (o : Option ScanSeen). scans_of worker walk made ++ cons_option o []) is

-- the room was scanned
module _ (place : Place) (i worker walk asked : ℕ) (s t : UnitSeat) (table : t.table_id ≡ s.table_id) where
  abbrev mine : RoomView PlainEntry
  mine = part_of s.me.0 i

  looked_part : (journal : List PlainEntry) → Looked i s.me t.me journal → part_of t.me.0 i ≡ with_known mine journal
  looked_part journal did = ap (λ (m : UnitsSat). part_of m.0 i) did.seat ∙ here s.me.0.rooms i (with_known mine journal)

  put_part : (journal : List PlainEntry) (e : PlainEntry) → Put i s.me t.me journal e → part_of t.me.0 i ≡ with_entry mine journal e
  put_part journal e did = ap (λ (m : UnitsSat). part_of m.0 i) did.seat ∙ here s.me.0.rooms i (with_entry mine journal e)

  looked_keeps : (journal : List PlainEntry) → mine.in_hand ≡ false → Looked i s.me t.me journal → KeepsUnits i worker walk s t
  looked_keeps journal out did = step_keeps i worker walk s t table (with_known mine journal) (ap (λ (m : UnitsSat). m.0) did.seat) (λ _. ap (λ (m : UnitsSat). m.1) did.seat) (walks_known worker walk mine journal did.told out)

  pub scan_keeps : (a : ScanAnswer) → mine.in_hand ≡ false → ReclaimGives place i worker walk asked a s.me t.me → KeepsUnits i worker walk s t
  scan_keeps (answered.Freed n) out did = let e : PlainEntry = Reclaim worker walk asked n in
      step_keeps i worker walk s t table (with_entry mine did.0 e) (ap (λ (m : UnitsSat). m.0) did.1.seat) (λ _. ap (λ (m : UnitsSat). m.1) did.1.seat) (walks_entry worker walk mine did.0 e did.1.told out (refl, refl))
  scan_keeps answered.Closed out did = absurd did
  scan_keeps answered.Stop out did = absurd did
  scan_keeps answered.NoRoom out did = looked_keeps did.0 out did.1
  scan_keeps (answered.Worn x) out did = looked_keeps did.0 out did.1

  pub scan_more : (a : ScanAnswer) → ReclaimGives place i worker walk asked a s.me t.me → scans_of worker walk (part_of t.me.0 i).made ≡ scans_with (scans_of worker walk mine.made) asked a
  scan_more (answered.Freed n) did = let e : PlainEntry = Reclaim worker walk asked n in ap (λ (x : RoomView PlainEntry). scans_of worker walk x.made) (put_part did.0 e did.1)
      ∙ option_push worker walk mine.made (record { number = length did.0; entry = e }) (record { asked = asked; freed = n }) (own_scan worker walk asked n (length did.0))
  scan_more answered.Closed did = absurd did
  scan_more answered.Stop did = absurd did
  scan_more answered.NoRoom did = ap (λ (x : RoomView PlainEntry). scans_of worker walk x.made) (looked_part did.0 did.1)
  scan_more (answered.Worn x) did = ap (λ (x : RoomView PlainEntry). scans_of worker walk x.made) (looked_part did.0 did.1)

  pub scan_counts : (floor : ℕ) (a : ScanAnswer) → ReclaimGives place i worker walk asked a s.me t.me → counts_seen floor (part_of t.me.0 i) ≡ counts_seen floor mine
  scan_counts floor (answered.Freed n) did = ap (counts_seen floor) (put_part did.0 (Reclaim worker walk asked n) did.1)
  scan_counts floor answered.Closed did = absurd did
  scan_counts floor answered.Stop did = absurd did
  scan_counts floor answered.NoRoom did = ap (counts_seen floor) (looked_part did.0 did.1)
  scan_counts floor (answered.Worn x) did = ap (counts_seen floor) (looked_part did.0 did.1)

  pub scan_tells : (a : ScanAnswer) → ReclaimGives place i worker walk asked a s.me t.me → TellsUnits place a (part_of t.me.0 i)
  scan_tells (answered.Freed n) did = tt
  scan_tells answered.Closed did = did
  scan_tells answered.Stop did = did
  scan_tells answered.NoRoom did = tt
  scan_tells (answered.Worn x) did = record { journal = did.0; known = subst (λ (y : RoomView PlainEntry). Begins did.0 y.known) (sym (looked_part did.0 did.1)) (begins_all did.0); worn = did.2 }
