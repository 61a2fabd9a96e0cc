-- SPDX-License-Identifier: GPL-2.0-only
-- What a last state's rule says of the one seat that is left.
use Rattle.shr_core.proofs.Common.{◌≡◌, ℕ, ◌+◌, ◌%◌, ◌<◌, ◌≤◌, true, false, cond, List, map, length, sym, refl, ap, subst, ◌∙◌, ⊎_elim, arith, Contains, nat_lt, nat_le, ◌&&◌, None, Some, bit_at, cases_Bool, at_map, is_closed, moved_in, phase_of, last_number, IsPoolJournal, PoolEntry, Place, place_number, Each, IsWhole, total, times, Begins, View, Setting, Traces, Marks, Claims, Turns, counts_in, bits_in, looks_in, places_in, place_at, place_id, node_of, group_of, above, map_of, place_bit, sizes_of, refs_of, lookups_of, spent, IsTried, IsTurn, IsDated, HasLastEnd, only_some, hit, hit_attempt, hit_turn, half_of, holding_of, traces_of, marks_of, claims_of, turns_of, IsClosedOf, stands_at, did_in, IsMoment, last_moment, lined_sole}
use Rattle.shr_core.proofs.Options.{only_none}
use Rattle.shr_base.specs.declared.ends.Closed.{Closed}
use Rattle.shr_core.specs.Leaving.{IsLeft}
use Rattle.shr_core.proofs.Tracing.{count_fields}
use Rattle.shr_core.proofs.Alone.{sum_alone, refs_alone}

-- a sum over the seats is the first one's share, once all others were joined
module _ (key : Setting) (id : ℕ) (v : View) (closed : Closed) (c : IsClosedOf key id v closed) (first : v.standing.first ≡ true) (whole : IsWhole v.standing) where
  -- what all views come to is what the one that is left has
  pub alone : {A : Type 0} (part : View → A) (f : A → ℕ) → f (part spent) ≡ 0 → total f (map part c.last.views) ≡ f (part v)
  alone part f none = sum_alone key c.last c.sound id v c.seat first whole part f none

  -- the references are those that the seat holds
  pub left_refs : (i : ℕ) → i < key.shape.ids → refs_of (looks_in c.last.words i) ≡ only_some i v.claims.held + only_some i v.claims.probe
  left_refs = refs_alone key c.last c.sound id v c.seat first whole

  -- each entry of each journal was made once, and its maker is joined to the seat
  pub left_entries : (k n : ℕ) → total (hit k n) v.traces.made ≡ cond (nat_lt n (length (c.sound.now k))) 1 0
  left_entries k n = sym (alone traces_of (λ (t : Traces). total (hit k n) t.made) refl) ∙ c.sound.rules.traced.once k n

  -- each lookup number from the first to the last was drawn once
  pub left_attempts : (i n : ℕ) → i < key.shape.ids → total (hit_attempt i n) v.claims.attempts ≡ cond (nat_le key.first_lookup n && nat_lt n (lookups_of (looks_in c.last.words i))) 1 0
  left_attempts i n near = sym (alone claims_of (λ (x : Claims). total (hit_attempt i n) x.attempts) refl) ∙ c.sound.rules.looked.once i n near

  -- each entry of the pool's journal was made once
  pub left_turns : (n : ℕ) → total (hit_turn n) v.turns.made ≡ cond (nat_lt n (length c.sound.pool)) 1 0
  left_turns n = sym (alone turns_of (λ (t : Turns). total (hit_turn n) t.made) refl) ∙ c.sound.rules.turned.once n

  -- a live place below the root that has items and is not owed has its bit set
  pub left_flagged : (k : ℕ) → k < places_in key.shape.ids → 0 < group_of k → phase_of (place_id k) c.sound.pool % 3 ≡ 1 → 0 < counts_in (sizes_of key.shape) c.last.words k % 4294967296 → times k v.marks.owed ≡ 0 → bit_at (bits_in (sizes_of key.shape) c.last.words (map_of k)) (place_bit k) ≡ 1
  left_flagged k near below live items not_owed = ⊎_elim (λ e. e) (λ h. absurd (omega (arith, h, not_owed, alone marks_of (λ (m : Marks). times k m.owed) refl))) (c.sound.rules.marked.flagged k near below live items)

  -- a bit that was set and never cleared is set
  pub left_settled : (k : ℕ) → k < places_in key.shape.ids → 0 < times k v.marks.sets → times k v.marks.cleared ≡ 0 → bit_at (bits_in (sizes_of key.shape) c.last.words (map_of k)) (place_bit k) ≡ 1
  left_settled k near set none = c.sound.rules.marked.settled k near (omega (arith, set, alone marks_of (λ (m : Marks). times k m.sets) refl)) (alone marks_of (λ (m : Marks). times k m.cleared) refl ∙ none)

  -- with no splice half done, a list that was moved in is closed
  pub left_paired : (k : ℕ) → 0 < group_of k → group_of k < length key.shape.parents.items → v.holding.half ≡ None → Contains (moved_in (c.sound.now (above key.shape.parents.items k))) (group_of k) → is_closed (c.sound.now k) ≡ true
  left_paired k below near none taken = ⊎_elim (λ e. e) (λ h. absurd (omega (arith, h, alone holding_of (half_of k) refl, only_none k v.holding.half none))) (c.sound.rules.listed.taken k below near taken)

  -- the last Unregistered of an id that the seat still owns is among its entries
  pub left_end : (i : ℕ) → v.claims.owner ≡ Some i → HasLastEnd i c.sound.pool v.turns.made
  left_end = c.sound.ended id v c.seat

  -- the first seat was not joined away
  here : v.standing.gone ≡ false
  here = ⊎_elim (λ t. absurd (spent_first (ap (λ (x : View). x.standing.first) (c.sound.emptied id v c.seat t)))) (λ f. f) (cases_Bool v.standing.gone) where
    spent_first : v.standing.first ≡ false → ⊥
    spent_first f = let e : true ≡ false = sym first ∙ f in cc

  -- a journal's entries, its items, bits and ids as they are left
  pub left : IsLeft key v closed
  left = let r = c.sound.rules in let sh = c.sound.sized.shape in record {
    now = c.sound.now;
    after = c.sound.after;
    bits = bits_in (sizes_of key.shape) c.last.words;
    look = looks_in c.last.words;
    places = c.places;
    maps = c.maps;
    lookups = c.lookups;
    placed = r.counted.placed;
    legal = r.listed.legal;
    items = r.listed.items;
    closed_in = r.listed.closed;
    taken = left_paired;
    made = r.traced.made id v.traces (at_map traces_of c.last.views id v c.seat);
    once = left_entries;
    known = r.traced.known id v.traces (at_map traces_of c.last.views id v c.seat);
    seen = r.traced.seen id v.traces (at_map traces_of c.last.views id v c.seat);
    flagged = λ k near below live some. left_flagged k near below (ap (λ (l : List PoolEntry). phase_of (place_id k) l % 3) (sym c.pool) ∙ live) (omega (arith, some, (count_fields key.shape (counts_in (sizes_of key.shape) c.last.words) c.sound.now c.sound.after k r.counted sh.most_items near).1));
    settled = left_settled;
    mapped = λ j m at k near same set none. r.marked.mapped id v.marks (at_map marks_of c.last.views id v c.seat) j m at k near same set (alone marks_of (λ (x : Marks). times k x.cleared) refl ∙ none);
    raised = λ k near is-one. omega (arith, r.marked.raised k near is-one, alone marks_of (λ (x : Marks). times k x.sets) refl);
    shown = λ j m at k near same is-one. omega (arith, r.marked.shown id v.marks (at_map marks_of c.last.views id v c.seat) j m at k near same is-one, alone marks_of (λ (x : Marks). times k x.sets) refl);
    drawn = left_attempts;
    tried = subst (λ (l : List PoolEntry). Each (IsTried key.shape.ids l) v.claims.attempts) (sym c.pool) (r.looked.tried id v.claims (at_map claims_of c.last.views id v c.seat));
    loaded = r.looked.loaded id v.claims (at_map claims_of c.last.views id v c.seat);
    resting = λ k near idle. r.owned.resting k near (ap (λ (l : List PoolEntry). phase_of (place_id k) l % 3) (sym c.pool) ∙ idle);
    journal = subst (IsPoolJournal key.shape.ids key.shape.decls) (sym c.pool) r.turned.journal;
    turned = subst (λ (l : List PoolEntry). Each (IsTurn l) v.turns.made) (sym c.pool) (r.turned.made id v.turns (at_map turns_of c.last.views id v c.seat));
    turned_once = λ n. left_turns n ∙ ap (λ (l : List PoolEntry). cond (nat_lt n (length l)) 1 0) (sym c.pool);
    pool = subst (Begins v.turns.known) (sym c.pool) (r.turned.known id v.turns (at_map turns_of c.last.views id v c.seat));
    heard = subst (λ (l : List PoolEntry). Each (λ (es : List PoolEntry). Begins es l) v.turns.heard) (sym c.pool) (r.turned.heard id v.turns (at_map turns_of c.last.views id v c.seat));
    numbers = λ i near. subst (λ (l : List PoolEntry). last_number i l ≤ lookups_of (looks_in c.last.words i)) (sym c.pool) (r.looked.numbers i near);
    dated = subst (λ (l : List PoolEntry). Each (IsDated key.shape.ids (looks_in c.last.words) l) v.turns.dated) (sym c.pool) (r.dated id v.turns (at_map turns_of c.last.views id v c.seat));
    line = c.sound.ordered.line;
    parts = lined_sole stands_at did_in c.last.views id v c.seat here c.sound.ordered.line c.sound.ordered.lined spent first whole r.seated c.sound.emptied refl;
    events = c.sound.ordered.events;
    ends = subst (λ (l : List PoolEntry). IsMoment key.shape.ids c.sound.now l (bits_in (sizes_of key.shape) c.last.words) (looks_in c.last.words) (last_moment key.first_lookup c.sound.ordered.line)) (sym c.pool) c.sound.ordered.ends;
    none_else = r.marked.none_else;
    none_shown = r.marked.none_shown id v.marks (at_map marks_of c.last.views id v c.seat);
    own = c.sound.ordered.own;
    uses = c.sound.ordered.uses;
  }

-- the place of a place's number
pub place_back : (p : Place) → p.node < 4 → p.group < 256 → place_at (place_number p) ≡ p
place_back p n g = let a : place_id (place_number p) ≡ p.id = omega (arith, n, g) in let b : node_of (place_number p) ≡ p.node = omega (arith, n, g) in let c : group_of (place_number p) ≡ p.group = omega (arith, n, g) in
    λ i. record { id = a i; node = b i; group = c i }
