-- SPDX-License-Identifier: GPL-2.0-only
-- What a seat gains while it takes a room, stores an entry there and gives the room back.
use Rattle.shr_node.proofs.Common.{◌≡◌, ℕ, ◌+◌, ◌<◌, ◌≤◌, Bool, true, false, cond, List, [], ◌∷◌, ◌++◌, length, sym, refl, ap, subst, ◌∙◌, arith, eq-eqb, append_assoc, not_some, Contains, ◌==◌, ◌&&◌, slice_set, Option, None, append-nil, Contains-push, Contains-append_left, dite, ℕ_discrete, Object, Entry, Each, times, without, Begins, begins_push, times-without_same, times-without_other, View, Shape, place_id, node_of, group_of, mark_of, content_in, with_content, with_drained, with_taken, with_stored, with_set, with_given, half_after, owed_after, drained_after, IsCounted, Gains, Knows, bits_for, with_kept, is_some_no, begins_all, times-push_other, at_begins, without_room, is_empty, is_raised, with_raised, taken_in_hand}
use Rattle.shr_seats.specs.Lines.{by_seat, state_after}
use Rattle.shr_core.specs.Gained.{nothing, AreKinds}
use Rattle.shr_core.specs.Order.{Holders, users_next}
use Rattle.shr_core.proofs.Gains.{adds_none, adds_then}
use Rattle.shr_core.proofs.Uses.{using_still}
use Rattle.shr_core.specs.Parts.{RoomContent, Hand, Made, Known, Counted, Claims, Turns, Event, made as stored_event, raised as raised_event}

-- what stays beside the entries made, the bits set and what is known, part by part
pub record IsGained (v w : View) (more : List Made) (bits : List ℕ) : Type 0 where
  pub made : w.traces.made ≡ v.traces.made ++ more
  pub known : Begins v.traces.known w.traces.known
  pub seen : w.traces.seen ≡ v.traces.seen
  pub tries : w.traces.tries ≡ v.traces.tries
  pub sets : w.marks.sets ≡ v.marks.sets ++ bits
  pub cleared : w.marks.cleared ≡ v.marks.cleared
  pub maps : w.marks.maps ≡ v.marks.maps
  pub owed : (k : ℕ) → 0 < times k w.marks.owed → 0 < times k v.marks.owed
  pub holding : w.holding ≡ v.holding
  pub claims : w.claims ≡ record v.claims { drained = w.claims.drained }
  pub marks : v.claims.owner ≡ None → w.claims ≡ v.claims
  pub turns : w.turns ≡ v.turns
  pub standing : w.standing ≡ v.standing
  pub did : List Event
  pub noted : w.did ≡ v.did ++ by_seat v.seat did
  pub kinds : AreKinds did (record nothing { made = more; sets = bits })
  pub seat : w.seat ≡ v.seat
  -- none of it is a lookup or a put
  pub uses : (u : Holders) → state_after users_next u (by_seat v.seat did) ≡ u

pub gains_of : (v w : View) (more : List Made) (bits : List ℕ) → IsGained v w more bits → Gains v w more bits
gains_of v w more bits g = record {
  adds = record {
    made = g.made;
    seen = g.seen ∙ sym (append-nil v.traces.seen);
    tries = g.tries ∙ sym (append-nil v.traces.tries);
    maps = g.maps ∙ sym (append-nil v.marks.maps);
    sets = g.sets;
    cleared = g.cleared ∙ sym (append-nil v.marks.cleared);
    attempts = ap (λ (c : Claims). c.attempts) g.claims ∙ sym (append-nil v.claims.attempts);
    loaded = ap (λ (c : Claims). c.loaded) g.claims ∙ sym (append-nil v.claims.loaded);
    turned = ap (λ (t : Turns). t.made) g.turns ∙ sym (append-nil v.turns.made);
    gives = omega (arith, ap (λ (t : Turns). t.gives) g.turns);
    known = g.known;
    pool = subst (λ (t : Turns). Begins v.turns.known t.known) (sym g.turns) (begins_all v.turns.known);
    heard = ap (λ (t : Turns). t.heard) g.turns;
    dated = subst (λ (t : Turns). Begins v.turns.dated t.dated) (sym g.turns) (begins_all v.turns.dated);
    standing = g.standing;
    did = g.did;
    noted = g.noted;
    kinds = g.kinds;
    seat = g.seat;
    using = using_still v w g.did g.seat g.noted (ap (λ (c : Claims). c.held) g.claims) g.uses;
  };
  owed = g.owed;
  holding = g.holding;
  claims = g.claims;
  marks = g.marks;
  turns = g.turns;
}

-- the counts seen stay
pub same_seen : (v w : View) (more : List Made) (bits : List ℕ) → Gains v w more bits → w.traces.seen ≡ v.traces.seen
same_seen v w more bits g = g.adds.seen ∙ append-nil v.traces.seen

-- nothing is gained
pub gains_none : (v : View) → Gains v v [] []
gains_none v = record { adds = adds_none v; owed = λ k h. h; holding = refl; claims = refl; marks = λ h. refl; turns = refl }

-- one after another
pub gains_then : (u v w : View) (m n : List Made) (s t : List ℕ) → Gains u v m s → Gains v w n t → Gains u w (m ++ n) (s ++ t)
gains_then u v w m n s t g h = record {
  adds = adds_then u v w (record nothing { made = m; sets = s }) (record nothing { made = n; sets = t }) g.adds h.adds;
  owed = λ k o. g.owed k (h.owed k o);
  holding = h.holding ∙ g.holding;
  claims = h.claims ∙ ap (λ (c : Claims). record c { drained = w.claims.drained }) g.claims;
  marks = λ free. let same : v.claims.owner ≡ None = ap (λ (c : Claims). c.owner) (g.marks free) ∙ free in h.marks same ∙ g.marks free;
  turns = h.turns ∙ g.turns;
}

-- what is known stays known
pub knows_still : (v w : View) (m : List Made) (s : List ℕ) (k : ℕ) (entries : List Entry) → Gains v w m s → Knows v k entries → Knows w k entries
knows_still v w m s k entries g h = subst (λ (l : List Known). Contains l (record { place = k; entries = entries })) (sym g.adds.known.1) (Contains-append_left v.traces.known g.adds.known.0 (record { place = k; entries = entries }) h)

-- the marks of a seat that owns no id
pub marks_stay : (c : Claims) (k : ℕ) (items : List Object) → c.owner ≡ None → drained_after c k items ≡ c.drained
marks_stay c k items free = ap (λ b. cond (c.quiet && b && (mark_of c (node_of k) == group_of k + 1) && is_empty items) (slice_set c.drained (node_of k) (group_of k)) c.drained) (is_some_no (place_id k) c.owner (λ e. not_some (place_id k) c.owner free e))
    ∙ rest c.quiet
  where
    rest : (q : Bool) → cond (q && false && (mark_of c (node_of k) == group_of k + 1) && is_empty items) (slice_set c.drained (node_of k) (group_of k)) c.drained ≡ c.drained
    rest true = refl
    rest false = refl

-- the first room in hand is given back
pub given : (w : View) (k : ℕ) (c : RoomContent) (hs : List Hand) → w.holding.hands ≡ record { room = k; content = c } ∷ hs
    → with_given w k ≡ record w { holding = record w.holding { hands = hs }; traces = record w.traces { known = w.traces.known ++ record { place = k; entries = c.entries } ∷ [] }; claims = record w.claims { drained = drained_after w.claims k c.items } }
given w k c hs e = ap (λ (l : List Hand). by l) e ∙ ap there (eq-eqb k k refl)
  where
    by : List Hand → View
    by l = record w { holding = record w.holding { hands = without_room k l }; traces = record w.traces { known = w.traces.known ++ record { place = k; entries = (content_in k l).entries } ∷ [] }; claims = record w.claims { drained = drained_after w.claims k (content_in k l).items } }

    there : Bool → View
    there b = record w { holding = record w.holding { hands = cond b hs (record { room = k; content = c } ∷ without_room k hs) }; traces = record w.traces { known = w.traces.known ++ record { place = k; entries = (cond b c (content_in k hs)).entries } ∷ [] }; claims = record w.claims { drained = drained_after w.claims k (cond b c (content_in k hs)).items } }

-- a room that was taken is given back as it was
pub gains_given : (u : View) (k : ℕ) (c : RoomContent) → Gains u (with_given (with_taken u k c) k) [] []
gains_given u k c = subst (λ (w : View). Gains u w [] []) (sym (given (with_taken u k c) k c u.holding.hands refl)) (gains_of _ _ _ _ (record {
  made = sym (append-nil u.traces.made);
  known = begins_push u.traces.known (record { place = k; entries = c.entries });
  seen = refl;
  tries = refl;
  sets = sym (append-nil u.marks.sets);
  cleared = refl;
  maps = refl;
  owed = λ j h. h;
  holding = refl;
  claims = refl;
  marks = λ free. ap (λ (d : List ℕ). record u.claims { drained = d }) (marks_stay u.claims k c.items free);
  turns = refl;
  standing = refl;
  did = [];
  noted = sym (append-nil u.did);
  kinds = record { seen = refl; made = refl; attempts = refl; loaded = refl; turns = refl; sets = refl; cleared = refl; maps = refl };
  seat = refl;
  uses = λ u. refl;
}))

-- a load that notes nothing moves at most the marks
pub gains_drained : (u : View) (k : ℕ) → Gains u (with_drained u k) [] []
gains_drained u k = gains_of _ _ _ _ (record {
  made = sym (append-nil u.traces.made);
  known = begins_all u.traces.known;
  seen = refl;
  tries = refl;
  sets = sym (append-nil u.marks.sets);
  cleared = refl;
  maps = refl;
  owed = λ j h. h;
  holding = refl;
  claims = refl;
  marks = λ free. ap (λ (d : List ℕ). record u.claims { drained = d }) (marks_stay u.claims k [] free);
  turns = refl;
  standing = refl;
  did = [];
  noted = sym (append-nil u.did);
  kinds = record { seen = refl; made = refl; attempts = refl; loaded = refl; turns = refl; sets = refl; cleared = refl; maps = refl };
  seat = refl;
  uses = λ u. refl;
})

-- and its journal is known then
pub known_given : (u : View) (k : ℕ) (c : RoomContent) → Knows (with_given (with_taken u k c) k) k c.entries
known_given u k c = subst (λ (w : View). Knows w k c.entries) (sym (given (with_taken u k c) k c u.holding.hands refl)) (Contains-push u.traces.known (record { place = k; entries = c.entries }))

-- a list in hand with one entry more
abbrev more_in : RoomContent → Entry → List Object → RoomContent
more_in c e items = record c { entries = c.entries ++ e ∷ []; items = items }

-- the view once the count of the room taken last was stored
abbrev pub stored_view : View → ℕ → RoomContent → Entry → List Object → View
stored_view u k c e items = record u {
  holding = record { hands = record { room = k; content = record c { entries = c.entries ++ e ∷ []; items = items } } ∷ u.holding.hands; half = half_after u.holding.half k e };
  traces = record u.traces { made = u.traces.made ++ record { place = k; number = length c.entries; entry = e; items = c.items } ∷ [] };
  marks = record u.marks { owed = owed_after k (length c.items) (length items) u.marks.owed };
  did = u.did ++ record { seat = u.seat; act = stored_event (record { place = k; number = length c.entries; entry = e; items = c.items }) } ∷ [];
}

-- the store of a count into a room that was taken last, in one view
pub stored : (u : View) (k : ℕ) (c : RoomContent) (e : Entry) (items : List Object) → with_stored (with_taken u k c) k e items ≡ stored_view u k c e items
stored u k c e items = ap there (eq-eqb k k refl)
  where
    there : Bool → View
    there b = let d : RoomContent = cond b c (content_in k u.holding.hands) in record u {
      holding = record { hands = cond b (record { room = k; content = record d { entries = d.entries ++ e ∷ []; items = items } } ∷ u.holding.hands) (record { room = k; content = c } ∷ with_content k (record d { entries = d.entries ++ e ∷ []; items = items }) u.holding.hands); half = half_after u.holding.half k e };
      traces = record u.traces { made = u.traces.made ++ record { place = k; number = length d.entries; entry = e; items = d.items } ∷ [] };
      marks = record u.marks { owed = owed_after k (length d.items) (length items) u.marks.owed };
      did = u.did ++ record { seat = u.seat; act = stored_event (record { place = k; number = length d.entries; entry = e; items = d.items }) } ∷ [];
    }

-- what is owed once the bit of a filled list was set
pub owed_raised : (k j : ℕ) (owed : List ℕ) → 0 < times j (without k (owed ++ k ∷ [])) → 0 < times j owed
owed_raised k j owed h = dite (ℕ_discrete j k)
    (λ e. absurd (omega (arith, h, ap (λ (x : ℕ). times x (without k (owed ++ k ∷ []))) e, times-without_same k (owed ++ k ∷ []))))
    (λ n. omega (arith, h, times-without_other j k (owed ++ k ∷ []) n, times-push_other j k owed (λ e. n (sym e))))

-- the view once that room was given back
abbrev last_view : View → ℕ → RoomContent → Entry → List Object → View → View
last_view u k c e items w = record w { holding = record w.holding { hands = u.holding.hands }; traces = record w.traces { known = w.traces.known ++ record { place = k; entries = c.entries ++ e ∷ [] } ∷ [] }; claims = record w.claims { drained = drained_after w.claims k items } }

kept_view : (u : View) (k : ℕ) (c : RoomContent) (e : Entry) (items : List Object) → with_kept (with_taken u k c) k e items ≡ last_view u k c e items (cond (is_raised k c.items items) (with_set (stored_view u k c e items) k) (stored_view u k c e items))
kept_view u k c e items = ap (λ (d : RoomContent). with_given (with_raised (with_stored (with_taken u k c) k e items) k d.items items) k) (taken_in_hand u k c)
    ∙ (ap (λ (w : View). with_given (with_raised w k c.items items) k) (stored u k c e items)
    ∙ given (cond (is_raised k c.items items) (with_set s k) s) k (more_in c e items) u.holding.hands (hands (is_raised k c.items items)))
  where
    s : View
    s = stored_view u k c e items

    hands : (b : Bool) → (cond b (with_set s k) s).holding.hands ≡ record { room = k; content = more_in c e items } ∷ u.holding.hands
    hands true = refl
    hands false = refl

-- one entry more was stored in the room taken last, and the room was given back
pub gains_kept : (u : View) (k : ℕ) (c : RoomContent) (e : Entry) (items : List Object) → half_after u.holding.half k e ≡ u.holding.half
    → Gains u (with_kept (with_taken u k c) k e items) (record { place = k; number = length c.entries; entry = e; items = c.items } ∷ []) (bits_for k c.items items)
gains_kept u k c e items whole = subst (λ (w : View). Gains u w (record { place = k; number = length c.entries; entry = e; items = c.items } ∷ []) (bits_for k c.items items)) (sym (kept_view u k c e items)) (by (is_raised k c.items items) refl)
  where
    s : View
    s = stored_view u k c e items

    x : Made
    x = record { place = k; number = length c.entries; entry = e; items = c.items }

    made : List Made
    made = record { place = k; number = length c.entries; entry = e; items = c.items } ∷ []

    by : (b : Bool) → is_raised k c.items items ≡ b → Gains u (last_view u k c e items (cond b (with_set s k) s)) made (cond b (k ∷ []) [])
    by true raised = gains_of _ _ _ _ (record {
      made = refl;
      known = begins_push u.traces.known (record { place = k; entries = c.entries ++ e ∷ [] });
      seen = refl;
      tries = refl;
      sets = refl;
      cleared = refl;
      maps = refl;
      owed = λ j h. owed_raised k j u.marks.owed (subst (λ (b : Bool). 0 < times j (without k (cond b (u.marks.owed ++ k ∷ []) u.marks.owed))) raised h);
      holding = ap (λ (x : Option ℕ). record u.holding { half = x }) whole;
      claims = refl;
      marks = λ free. ap (λ (d : List ℕ). record u.claims { drained = d }) (marks_stay u.claims k items free);
      turns = refl;
      standing = refl;
      did = stored_event x ∷ raised_event k ∷ [];
      noted = append_assoc u.did (record { seat = u.seat; act = stored_event x } ∷ []) (record { seat = u.seat; act = raised_event k } ∷ []);
      kinds = record { seen = refl; made = refl; attempts = refl; loaded = refl; turns = refl; sets = refl; cleared = refl; maps = refl };
      seat = refl;
      uses = λ u. refl;
    })
    by false raised = gains_of _ _ _ _ (record {
      made = refl;
      known = begins_push u.traces.known (record { place = k; entries = c.entries ++ e ∷ [] });
      seen = refl;
      tries = refl;
      sets = sym (append-nil u.marks.sets);
      cleared = refl;
      maps = refl;
      owed = λ j h. subst (λ (b : Bool). 0 < times j (cond b (u.marks.owed ++ k ∷ []) u.marks.owed)) raised h;
      holding = ap (λ (x : Option ℕ). record u.holding { half = x }) whole;
      claims = refl;
      marks = λ free. ap (λ (d : List ℕ). record u.claims { drained = d }) (marks_stay u.claims k items free);
      turns = refl;
      standing = refl;
      did = stored_event x ∷ [];
      noted = refl;
      kinds = record { seen = refl; made = refl; attempts = refl; loaded = refl; turns = refl; sets = refl; cleared = refl; maps = refl };
      seat = refl;
      uses = λ u. refl;
    })

-- and its journal is known then
pub known_kept : (u : View) (k : ℕ) (c : RoomContent) (e : Entry) (items : List Object) → Knows (with_kept (with_taken u k c) k e items) k (c.entries ++ e ∷ [])
known_kept u k c e items = subst (λ (w : View). Knows w k (c.entries ++ e ∷ [])) (sym (kept_view u k c e items))
    (by (is_raised k c.items items))
  where
    by : (b : Bool) → Knows (last_view u k c e items (cond b (with_set (stored_view u k c e items) k) (stored_view u k c e items))) k (c.entries ++ e ∷ [])
    by true = Contains-push u.traces.known (record { place = k; entries = c.entries ++ e ∷ [] })
    by false = Contains-push u.traces.known (record { place = k; entries = c.entries ++ e ∷ [] })

-- the marks then
pub drained_kept : (u : View) (k : ℕ) (c : RoomContent) (e : Entry) (items : List Object) → (with_kept (with_taken u k c) k e items).claims.drained ≡ drained_after u.claims k items
drained_kept u k c e items = ap (λ (w : View). w.claims.drained) (kept_view u k c e items) ∙ by (is_raised k c.items items)
  where
    by : (b : Bool) → (last_view u k c e items (cond b (with_set (stored_view u k c e items) k) (stored_view u k c e items))).claims.drained ≡ drained_after u.claims k items
    by true = refl
    by false = refl

-- what giving a room back makes of the drain marks
pub drained_given : (u : View) (k : ℕ) (c : RoomContent) → (with_given (with_taken u k c) k).claims.drained ≡ drained_after u.claims k c.items
drained_given u k c = ap (λ (w : View). w.claims.drained) (given (with_taken u k c) k c u.holding.hands refl)

-- what holds of all that is known later holds of what was known before
pub each_before : {A : Type 0} (P : A → Type 0) (xs ys : List A) → Begins xs ys → Each P ys → Each P xs
each_before P xs ys b all = λ j x at. all j x (at_begins xs ys j x b at)

-- what comes after all that a later view has seen comes after all that an earlier one has
pub counted_before : (shape : Shape) (v u : View) (m : List Made) (s : List ℕ) (k len version : ℕ) → Gains v u m s → IsCounted shape u k len version → IsCounted shape v k len version
counted_before shape v u m s k len version g c = record {
  known = each_before (λ (x : Known). x.place ≡ k → length x.entries ≤ version) v.traces.known u.traces.known g.adds.known c.known;
  seen = subst (λ (l : List Counted). Each (λ x. x.place ≡ k → x.version ≤ version) l) (same_seen v u m s g) c.seen;
  made = each_before (λ (x : Made). x.place ≡ k → x.number < version) v.traces.made u.traces.made (m, g.adds.made) c.made;
  items = c.items;
  entries = c.entries;
}
