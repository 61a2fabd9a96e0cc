-- SPDX-License-Identifier: GPL-2.0-only
-- What one pass over a pool did, from what the pass says of a shrinker.
use Rattle.shr_plain.proofs.Common.{◌≡◌, ℕ, suc, ◌<◌, ◌≤◌, cond, List, [], ◌∷◌, ◌++◌, length, map, take, sym, refl, ap, subst, ◌∙◌, arith, append_assoc, eq-eqb, Option, Some, None, ◌==◌, ◌&&◌, cons_option, append-nil, filter_map-append, Place, PlainEntry, Release, Grab, Reclaim, Count, PassAnswer, ScanAnswer, ScanSeen, MatchPass, Scans, asks_due, Each, Each-none, RoomMade, RoomCount, RoomView, IsRecent, Setting, plain_seated, ActsPlain, DeferredSeated, Kept, PlainWalk, Standing, units_kind, counts_seen, units_scan_by, scans_of, IsReclaimOf, KeepsUnits, TellsUnits, part_of, UnitSeat, PassGives, zero, append_cancel_left, map-append, EndedBy, CountedBetween, count_of, moves_by, Each-weaker, EndsBy, AreScans}
use Rattle.shr_base.specs.declared.walks.Ending.{Ending}
use Rattle.shr_base.specs.declared.walks.Ending.TheVariants.{Through, Stop, NoRoom, Worn}
use Rattle.shr_base.specs.declared.walks.PassRecord.{PassRecord}
use Rattle.shr_model.specs.Pass.{FollowsArithmetic}
use Rattle.shr_deferred.specs.Seat.{GainsMoves}
use Rattle.shr_plain.specs.declared.table.Pools.{Pools}
use Rattle.shr_pass.specs.declared.answers.PassAnswer.TheVariants as passed

-- a list that maps to one element has one
abbrev Many : {B : Type 0} → List B → Type 0
Many [] = ⊥
Many (x ∷ []) = ⊥
Many (x ∷ y ∷ ys) = Unit {0}

abbrev first_of : {B : Type 0} → B → List B → B
first_of d [] = d
first_of d (x ∷ xs) = x

single : {A B : Type 0} (f : A → B) (xs : List A) (y : B) → map f xs ≡ y ∷ [] → (x : A) × (xs ≡ x ∷ []) × (f x ≡ y)
single f [] y e = absurd (cc)
single f (x ∷ []) y e = (x, refl, ap (first_of y) e)
single f (x ∷ z ∷ zs) y e = absurd (subst Many e tt)

each_last : {A : Type 0} (P : A → Type 0) (xs : List A) (x : A) → Each P (xs ++ x ∷ []) → P x
each_last P [] x h = h 0 x refl
each_last P (y ∷ ys) x h = each_last P ys x (λ j z at. h (suc j) z at)

none_over : (n : ℕ) → (0 < n → ⊥) → n ≡ 0
none_over zero h = refl
none_over (suc n) h = absurd (h (omega arith))

-- a reclaim of this walk is a scan of it
some_scan : (worker walk number : ℕ) (e : PlainEntry) → IsReclaimOf worker walk e → (x : ScanSeen) × (units_scan_by worker walk (record { number = number; entry = e }) ≡ Some x)
some_scan worker walk number (Release by units) is = absurd is
some_scan worker walk number (Grab by got) is = absurd is
some_scan worker walk number (Reclaim w s asked freed) is = (
  record { asked = asked; freed = freed },
  ap (λ b. cond (b && (s == walk)) (Some (record { asked = asked; freed = freed })) None) (eq-eqb w worker is.0) ∙ ap (λ b. cond b (Some (record { asked = asked; freed = freed })) None) (eq-eqb s walk is.1),
)

none_more : (worker walk : ℕ) (ms : List (RoomMade PlainEntry)) → Each (λ (m : RoomMade PlainEntry). IsReclaimOf worker walk m.entry) ms → scans_of worker walk ms ≡ [] → ms ≡ []
none_more worker walk [] all none = refl
none_more worker walk (m ∷ ms) all none = let x = some_scan worker walk m.number m.entry (all 0 m refl) in let e : cons_option (Some x.0) (scans_of worker walk ms) ≡ [] = ap (λ (o : Option ScanSeen). cons_option o (scans_of worker walk ms)) (sym x.1) ∙ none in absurd (cc)

module _ (i worker walk floor : ℕ) (s t : UnitSeat) (kept : KeepsUnits i worker walk s t) where
  abbrev before : RoomView PlainEntry
  before = part_of s.me.0 i

  abbrev after : RoomView PlainEntry
  after = part_of t.me.0 i

  -- the scans among the entries that were made
  scans_more : scans_of worker walk after.made ≡ scans_of worker walk before.made ++ scans_of worker walk kept.here.more
  scans_more = ap (scans_of worker walk) kept.here.made ∙ filter_map-append (units_scan_by worker walk) before.made kept.here.more

  pub none_made : scans_of worker walk after.made ≡ scans_of worker walk before.made → kept.here.more ≡ []
  none_made same = none_more worker walk kept.here.more kept.here.reclaims (append_cancel_left (scans_of worker walk before.made) (scans_of worker walk kept.here.more) [] (sym scans_more ∙ (same ∙ sym (append-nil (scans_of worker walk before.made)))))

  pub scans_made : (made : List ScanSeen) → scans_of worker walk after.made ≡ scans_of worker walk before.made ++ made → scans_of worker walk kept.here.more ≡ made
  scans_made made e = append_cancel_left (scans_of worker walk before.made) (scans_of worker walk kept.here.more) made (sym scans_more ∙ e)

  -- the one count
  pub one_count : (k : Count) → counts_seen floor after ≡ counts_seen floor before ++ k ∷ [] → (c : RoomCount) × (kept.here.counts ≡ c ∷ []) × (units_kind floor c ≡ k)
  one_count k e = single (units_kind floor) kept.here.counts k (append_cancel_left (counts_seen floor before) (map (units_kind floor) kept.here.counts) (k ∷ [])
      (sym (ap (map (units_kind floor)) kept.here.seen ∙ map-append (units_kind floor) before.seen kept.here.counts) ∙ e))

-- the entries of a pass stand behind what it counted
module _ (i worker walk floor : ℕ) (s t : UnitSeat) (kept : KeepsUnits i worker walk s t) (c : RoomCount) (one : kept.here.counts ≡ c ∷ []) (k : Count)
    (b : CountedBetween (KeepsUnits i worker walk) (λ (u : UnitSeat). counts_seen floor (part_of u.me.0 i)) (λ (u : UnitSeat). scans_of worker walk (part_of u.me.0 i).made) (counts_seen floor (part_of s.me.0 i) ++ k ∷ []) (scans_of worker walk (part_of s.me.0 i).made) s t) where
  abbrev first : RoomView PlainEntry
  first = part_of s.me.0 i

  abbrev mid : RoomView PlainEntry
  mid = part_of b.seat.me.0 i

  mid_made : mid.made ≡ first.made
  mid_made = b.before.here.made ∙ (ap (λ (l : List (RoomMade PlainEntry)). first.made ++ l) (none_made i worker walk floor s b.seat b.before b.no_scan) ∙ append-nil first.made)

  same_more : kept.here.more ≡ b.after.here.more
  same_more = append_cancel_left first.made kept.here.more b.after.here.more (sym kept.here.made ∙ (b.after.here.made ∙ ap (λ (l : List (RoomMade PlainEntry)). l ++ b.after.here.more) mid_made))

  mid_seen : mid.seen ≡ first.seen ++ c ∷ []
  mid_seen = let found = one_count i worker walk floor s b.seat b.before k b.with_count in
      let seen = b.before.here.seen ∙ ap (λ (l : List RoomCount). first.seen ++ l) found.1 in
      let whole = sym (kept.here.seen ∙ ap (λ (l : List RoomCount). first.seen ++ l) one) ∙ (b.after.here.seen ∙ (ap (λ (l : List RoomCount). l ++ b.after.here.counts) seen ∙ append_assoc first.seen (found.0 ∷ []) b.after.here.counts)) in
      let same : c ≡ found.0 = ap (first_of c) (append_cancel_left first.seen (c ∷ []) (found.0 ∷ b.after.here.counts) whole) in
      seen ∙ ap (λ (x : RoomCount). first.seen ++ x ∷ []) (sym same)

  pub behind : Each (λ (m : RoomMade PlainEntry). c.version ≤ m.number) kept.here.more
  behind = subst (Each (λ (m : RoomMade PlainEntry). c.version ≤ m.number)) (sym same_more)
      (Each-weaker (λ (m : RoomMade PlainEntry). IsRecent mid m.number) (λ (m : RoomMade PlainEntry). c.version ≤ m.number)
      (λ m late. each_last (λ (x : RoomCount). x.version ≤ m.number) first.seen c (subst (Each (λ (x : RoomCount). x.version ≤ m.number)) mid_seen late.seen)) b.after.here.more b.after.here.late)

module _ (setting : Setting) (place : Place) (i worker walk priority : ℕ) (s t : UnitSeat) (kept : KeepsUnits i worker walk s t) where
  abbrev old : RoomView PlainEntry
  old = part_of s.me.0 i

  abbrev new : RoomView PlainEntry
  new = part_of t.me.0 i

  abbrev scans_then : List ScanSeen
  scans_then = scans_of worker walk old.made

  abbrev scans_now : List ScanSeen
  scans_now = scans_of worker walk new.made

  abbrev AreAsked : PassRecord → Type 0
  AreAsked p = Scans (λ (a : ScanAnswer). TellsUnits place a new) scans_then scans_now (asks_due priority setting.seeks setting.batch p) p.asks p.closed p.freed

  none_closed : (p : PassRecord) → AreAsked p → p.closed ≡ 0
  none_closed p a = none_over p.closed a.told_closed

  scans_are : (answer : PassAnswer) → MatchPass answer (scans_now ≡ scans_then) AreAsked → MatchPass answer (kept.here.more ≡ []) (λ p. AreScans priority setting p (scans_of worker walk kept.here.more))
  scans_are (passed.Empty version) h = none_made i worker walk setting.floor s t kept h
  scans_are (passed.Skip len version) h = none_made i worker walk setting.floor s t kept h
  scans_are (passed.Ran p) h = let same = scans_made i worker walk setting.floor s t kept h.made h.appended in let closed = none_closed p h in let number = h.number in let asks : length h.made ≡ p.asks = omega (arith, closed, number) in
      subst (AreScans priority setting p) (sym same) (record { number = asks; asked = h.asked ∙ ap (λ (n : ℕ). take n (asks_due priority setting.seeks setting.batch p)) asks; freed = h.sum_freed })

  closed_is : (answer : PassAnswer) → MatchPass answer (scans_now ≡ scans_then) AreAsked → MatchPass answer (Unit {0}) (λ p. p.closed ≡ 0)
  closed_is (passed.Empty version) h = tt
  closed_is (passed.Skip len version) h = tt
  closed_is (passed.Ran p) h = none_closed p h

  ends_by : (L : ScanAnswer → Type 0) (e : Ending) → EndedBy e (λ a. L a × TellsUnits place a new) → EndsBy place new e
  ends_by L Through h = tt
  ends_by L Stop h = h.1
  ends_by L NoRoom h = tt
  ends_by L (Worn y) h = h.1

  ending_is : (L : ScanAnswer → Type 0) (E : Type 0) (answer : PassAnswer) → MatchPass answer E (λ p. EndedBy p.ending (λ a. L a × TellsUnits place a new)) → MatchPass answer (Unit {0}) (λ p. EndsBy place new p.ending)
  ending_is L E (passed.Empty version) h = tt
  ending_is L E (passed.Skip len version) h = tt
  ending_is L E (passed.Ran p) h = ends_by L p.ending h

  abbrev IsBetween : PassAnswer → Type 0
  IsBetween answer = CountedBetween (KeepsUnits i worker walk) (λ (u : UnitSeat). counts_seen setting.floor (part_of u.me.0 i)) (λ (u : UnitSeat). scans_of worker walk (part_of u.me.0 i).made) (counts_seen setting.floor old ++ count_of answer ∷ []) scans_then s t

  none_late : (c : RoomCount) → kept.here.more ≡ [] → Each (λ (m : RoomMade PlainEntry). c.version ≤ m.number) kept.here.more
  none_late c none = subst (Each (λ (m : RoomMade PlainEntry). c.version ≤ m.number)) (sym none) (Each-none (λ (m : RoomMade PlainEntry). c.version ≤ m.number))

  late_are : (answer : PassAnswer) (c : RoomCount) → kept.here.counts ≡ c ∷ [] → MatchPass answer (kept.here.more ≡ []) (λ p. AreScans priority setting p (scans_of worker walk kept.here.more)) → MatchPass answer (Unit {0}) (λ p. IsBetween answer)
      → Each (λ (m : RoomMade PlainEntry). c.version ≤ m.number) kept.here.more
  late_are (passed.Empty version) c one h b = none_late c h
  late_are (passed.Skip len version) c one h b = none_late c h
  late_are (passed.Ran p) c one h b = behind i worker walk setting.floor s t kept c one (count_of (passed.Ran p)) b

  -- all that a pass did
  pub pass_gives : (L : ScanAnswer → Type 0) (E : Type 0) (answer : PassAnswer) (p : Pools) (d e : DeferredSeated) (walks : Kept PlainWalk)
      → counts_seen setting.floor new ≡ counts_seen setting.floor old ++ count_of answer ∷ []
      → MatchPass answer (Unit {0}) (FollowsArithmetic priority setting.seeks setting.batch)
      → MatchPass answer (scans_now ≡ scans_then) AreAsked
      → MatchPass answer E (λ p. EndedBy p.ending (λ a. L a × TellsUnits place a new))
      → MatchPass answer (Unit {0}) (λ p. IsBetween answer)
      → GainsMoves d e (moves_by place answer)
      → ActsPlain (PassGives setting place i worker walk priority answer) (plain_seated p s d walks) (plain_seated p t e walks)
  pass_gives L E answer p d e walks counts follows scans ending between moves = let c = one_count i worker walk setting.floor s t kept (count_of answer) counts in let are = scans_are answer scans in record {
    rest = ap (λ (z : Standing × Standing). record (plain_seated p t e walks) { standing = z }) (λ q. (kept.standing q, moves.standing q));
    did = record {
      count = c.0;
      kind = c.2;
      seen = kept.here.seen ∙ ap (λ (l : List RoomCount). old.seen ++ l) c.1;
      fresh = subst (Each (λ (y : RoomCount). IsRecent old y.version)) c.1 kept.here.fresh 0 c.0 refl;
      more = kept.here.more;
      made = kept.here.made;
      reclaims = kept.here.reclaims;
      late = late_are answer c.0 c.1 are between;
      scans = are;
      follows = follows;
      closed = closed_is answer scans;
      ending = ending_is L E answer ending;
      known = kept.here.known;
      heard = kept.here.heard;
      others = kept.others;
      moves = moves.moves;
      walks = refl;
    };
  }
