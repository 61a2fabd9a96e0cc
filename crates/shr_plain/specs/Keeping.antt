-- SPDX-License-Identifier: GPL-2.0-only
-- What a walk keeps of a seat: laws that a shrinker has to state with its meanings.
use Rattle.std.proofs.Common.{◌≡◌, ◌≢◌, ℕ, ◌≤◌, false, List, [], ◌++◌, length, sym, refl, ap, subst, ◌∙◌, arith, append_assoc, length-append}
use Rattle.std.proofs.lemmas.List.{append-nil}
use mathlib.Core.Logic.{dite}
use native.Mathlib.Decide.{ℕ_discrete}
use Rattle.shr_base.specs.declared.places.Place.{Place}
use Rattle.shr_base.specs.declared.journals.PlainEntry.{PlainEntry}
use Rattle.shr_pass.specs.declared.answers.ScanAnswer.{ScanAnswer}
use Rattle.shr_pass.specs.declared.answers.ScanAnswer.TheVariants as answered
use Rattle.shr_seats.specs.Views.{Each}
use Rattle.shr_seats.specs.Weights.{Begins}
use Rattle.shr_seats.proofs.Weighing.{begins_all, begins_more, at_begins, Each-append, Each-none, Each-weaker}
use Rattle.shr_seats.specs.RoomViews.{RoomMade, RoomCount, RoomView}
use Rattle.shr_seats.specs.RoomTold.{IsRecent}
use Rattle.shr_plain.specs.declared.table.Pools.{Pools}
use Rattle.shr_plain.specs.Counting.{IsReclaimOf, WalksUnits, KeepsUnits, TellsUnits}
use Rattle.shr_plain.specs.Rule.{part_of}
use Rattle.shr_plain.specs.Seat.{UnitSeat, IsUnitSeatOf}

begins_short : {A : Type 0} (xs ys : List A) → Begins xs ys → length xs ≤ length ys
begins_short xs ys b = let long = ap length b.1 in let sum = length-append xs b.0 in omega (arith, long, sum)

module _ (worker walk : ℕ) where
  -- a view that stays
  pub walks_refl : (t : RoomView PlainEntry) → WalksUnits worker walk t t
  walks_refl t = record {
    more = [];
    made = sym (append-nil t.made);
    reclaims = Each-none (λ (m : RoomMade PlainEntry). IsReclaimOf worker walk m.entry);
    late = Each-none (λ (m : RoomMade PlainEntry). IsRecent t m.number);
    counts = [];
    seen = sym (append-nil t.seen);
    fresh = Each-none (λ (c : RoomCount). IsRecent t c.version);
    known = begins_all t.known;
    heard = refl;
    hand = refl;
  }

  -- what was done by so many entries later was done by so many entries before
  recent_before : (t u : RoomView PlainEntry) → WalksUnits worker walk t u → (n : ℕ) → IsRecent u n → IsRecent t n
  recent_before t u w n r = record {
    known = let short = begins_short t.known u.known w.known in let late = r.known in omega (arith, short, late);
    heard = subst (Each (λ (h : List PlainEntry). length h ≤ n)) w.heard r.heard;
    made = λ j m at. r.made j m (at_begins t.made u.made j m (w.more, w.made) at);
    seen = λ j c at. r.seen j c (at_begins t.seen u.seen j c (w.counts, w.seen) at);
  }

  -- one walk of units goes on where another ended
  pub walks_trans : (t u v : RoomView PlainEntry) → WalksUnits worker walk t u → WalksUnits worker walk u v → WalksUnits worker walk t v
  walks_trans t u v a b = record {
    more = a.more ++ b.more;
    made = b.made ∙ (ap (λ l. l ++ b.more) a.made ∙ append_assoc t.made a.more b.more);
    reclaims = Each-append (λ (m : RoomMade PlainEntry). IsReclaimOf worker walk m.entry) a.more b.more a.reclaims b.reclaims;
    late = Each-append (λ (m : RoomMade PlainEntry). IsRecent t m.number) a.more b.more a.late (Each-weaker (λ (m : RoomMade PlainEntry). IsRecent u m.number) (λ (m : RoomMade PlainEntry). IsRecent t m.number) (λ m. recent_before t u a m.number) b.more b.late);
    counts = a.counts ++ b.counts;
    seen = b.seen ∙ (ap (λ l. l ++ b.counts) a.seen ∙ append_assoc t.seen a.counts b.counts);
    fresh = Each-append (λ (c : RoomCount). IsRecent t c.version) a.counts b.counts a.fresh (Each-weaker (λ (c : RoomCount). IsRecent u c.version) (λ (c : RoomCount). IsRecent t c.version) (λ c. recent_before t u a c.version) b.counts b.fresh);
    known = begins_more t.known u.known v.known a.known b.known;
    heard = b.heard ∙ a.heard;
    hand = b.hand ∙ a.hand;
  }

module _ (i worker walk : ℕ) where
  -- a seat that stays
  pub keeps_refl : (s : UnitSeat) → KeepsUnits i worker walk s s
  keeps_refl s = record { table = refl; bare = λ h. h; standing = refl; here = walks_refl worker walk (part_of s.me.0 i); others = λ k no. refl }

  -- the same of seats, one call after another
  pub keeps_trans : (s t u : UnitSeat) → KeepsUnits i worker walk s t → KeepsUnits i worker walk t u → KeepsUnits i worker walk s u
  keeps_trans s t u a b = record {
    table = b.table ∙ a.table;
    bare = λ h. b.bare (a.bare h);
    standing = b.standing ∙ a.standing;
    here = walks_trans worker walk (part_of s.me.0 i) (part_of t.me.0 i) (part_of u.me.0 i) a.here b.here;
    others = λ k no. b.others k no ∙ a.others k no;
  }

-- a seat of the pools stays one
pub seat_stays : (p : Pools) (i worker walk : ℕ) (s t : UnitSeat) → IsUnitSeatOf p s → KeepsUnits i worker walk s t → IsUnitSeatOf p t
seat_stays p i worker walk s t is a = record {
  seat = record { same = a.table ∙ is.seat.same; here = ap (λ z. z.gone) a.standing ∙ is.seat.here };
  bare = a.bare is.bare;
  out = λ k. dite (ℕ_discrete k i)
      (λ (e : k ≡ i). subst (λ (j : ℕ). (part_of t.me.0 j).in_hand ≡ false) (sym e) (a.here.hand ∙ is.out i))
      (λ (no : k ≢ i). ap (λ (x : RoomView PlainEntry). x.in_hand) (a.others k no) ∙ is.out k);
}

-- what was told stays so
pub units_tells_stay : (place : Place) (i worker walk : ℕ) (x : ScanAnswer) (s t : UnitSeat) → TellsUnits place x (part_of s.me.0 i) → KeepsUnits i worker walk s t → TellsUnits place x (part_of t.me.0 i)
units_tells_stay place i worker walk (answered.Freed n) s t h a = tt
units_tells_stay place i worker walk answered.Closed s t h a = h
units_tells_stay place i worker walk answered.Stop s t h a = h
units_tells_stay place i worker walk answered.NoRoom s t h a = tt
units_tells_stay place i worker walk (answered.Worn x) s t h a = record { journal = h.journal; known = begins_more h.journal (part_of s.me.0 i).known (part_of t.me.0 i).known h.known a.here.known; worn = h.worn }
