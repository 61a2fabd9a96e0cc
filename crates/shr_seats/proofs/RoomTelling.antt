-- SPDX-License-Identifier: GPL-2.0-only
-- What follows of a room from what a step told of it.
use Rattle.shr_seats.proofs.RoomsCommon.{◌<◌, ◌≤◌, List, ◌∷◌, length, ap, arith, length-append, Begins, RoomMade, RoomCount, RoomView, Law, IsEntryMade, CountsPrefix, IsTold, IsRecent}
use Rattle.shr_seats.proofs.Weighing.{Each-weaker}

module _ {E : Type 0} (law : Law E) (journal : List E) where
  begins_short : (h : List E) → Begins h journal → length h ≤ length journal
  begins_short h b = let long = ap length b.1 in let sum = length-append h b.0 in omega (arith, long, sum)

  made_low : (m : RoomMade E) → IsEntryMade journal m → m.number < length journal
  made_low m is = let long = ap length is.2 in let sum = length-append is.0 (m.entry ∷ is.1) in omega (arith, long, sum, is.3)

  counted_low : (c : RoomCount) → CountsPrefix law journal c → c.version ≤ length journal
  counted_low c is = let long = ap length is.2 in let sum = length-append is.0 is.1 in omega (arith, long, sum, is.3)

  -- all that a view did and saw is no later than the journal that it was shown
  pub told_recent : (t : RoomView E) → IsTold law t journal → IsRecent t (length journal)
  told_recent t told = record {
    known = begins_short t.known told.seen.known;
    heard = Each-weaker (λ h. Begins h journal) (λ h. length h ≤ length journal) begins_short t.heard told.seen.heard;
    made = Each-weaker (IsEntryMade journal) (λ m. m.number < length journal) made_low t.made told.seen.made;
    seen = Each-weaker (CountsPrefix law journal) (λ c. c.version ≤ length journal) counted_low t.seen told.seen.seen;
  }
