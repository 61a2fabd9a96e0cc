-- SPDX-License-Identifier: GPL-2.0-only
-- Walks after walks in one step: what holds of a part of a step's work holds of the whole.
use Rattle.shr_assemble.proofs.Common.{◌≡◌, ℕ, suc, ◌+◌, ◌<◌, ◌≤◌, ◌≢◌, ◌⊎◌, inl, inr, ⊎_elim, Bool, true, false, cond, List, [], ◌∷◌, ◌++◌, length, length-append, map, sym, refl, ap, subst, ◌∙◌, arith, ne_eqb, slice_get, Option, Some, None, flat_map, ◌==◌, Contains, sum_by, cons_option, append-nil, map-append, filter_map-append, Contains-append_left, sum_by-append, flat_map-append, none-some, slice_get_within, Entry, Add, Scan, Place, Serial, Answered, Spent, CacheDecl, Command, Script, UseStep, Object, Attempt, PassRecord, WalkRecord, PlaceAmount, sum_at, amount_at, ScanMade, scan_by, passes_at, place_in, takes_of, gives_of, takes_both, gives_both, Each, Begins, Each-append, Each-none, begins_more, place_at, Made, Known, Mapped, Tried, Loaded, KnowsClosed, AreFresh, WorkerState, Work, no_work, then_work, Does, does_then, fresh_none, fresh_then, AreScansOf, WordStep, steps_walked, told_step, Step, IsAmong, scan_made, scans_made, DidPass, DidAttempt, numbers_tried, number_made, DidWalk, counted_in, mapped_in, cleared_by_walk, set_by_walk, map_word, KnowsOnline, KnowsList, IsOneMore, AreBoth, IsWornBy, slice_cases, slice_left}
use Rattle.shr_base.specs.declared.replies.Spent.TheVariants as spent
use Rattle.shr_charge.specs.Views as charge
use Rattle.shr_lawful.proofs.Gathering.{among_left, among_right, among_begins}
use Rattle.shr_assemble.proofs.KnownOnline.{online_before}
use Rattle.shr_tables.proofs.First.{and_false}

-- an entry is a Scan of one of these walks, which has a pass at its place
pub record IsScanIn (by : Serial) (start : ℕ) (walks : List WalkRecord) (m : Made) (worker n : ℕ) : Type 0 where
  pub own : worker ≡ by.worker
  pub index : ℕ
  pub number : n ≡ start + index
  pub walk : WalkRecord
  pub there : slice_get walks index ≡ Some walk
  pub passes : 0 < length (passes_at (place_at m.place) walk)

abbrev pub OnlyScan : Serial → ℕ → List WalkRecord → Made → Entry → Type 0
OnlyScan by start walks m (Scan worker n asked policy visits freed stopped) = IsScanIn by start walks m worker n
OnlyScan by start walks m o = ⊥

abbrev pub IsScanOne : Serial → ℕ → List WalkRecord → Made → Type 0
IsScanOne by start walks m = OnlyScan by start walks m m.entry

pub slice_right : {A : Type 0} (l m : List A) (n : ℕ) (x : A) → slice_get m n ≡ Some x → slice_get (l ++ m) (length l + n) ≡ Some x
slice_right [] m n x e = subst (λ k. slice_get m k ≡ Some x) (let z : n ≡ 0 + n = omega arith in z) e
slice_right (y ∷ l) m n x e = subst (λ k. slice_get (y ∷ (l ++ m)) k ≡ Some x) (let z : suc (length l + n) ≡ suc (length l) + n = omega arith in z) (slice_right l m n x e)

only_left : (by : Serial) (start : ℕ) (v w : List WalkRecord) (m : Made) (e : Entry) → OnlyScan by start v m e → OnlyScan by start (v ++ w) m e
only_left by start v w m (Scan worker n asked policy visits freed stopped) h = record { own = h.own; index = h.index; number = h.number; walk = h.walk; there = slice_left v w h.index h.walk h.there; passes = h.passes }
only_left by start v w m e h = absurd h

only_right : (by : Serial) (start later : ℕ) (v w : List WalkRecord) (m : Made) (e : Entry) → later ≡ start + length v → OnlyScan by later w m e → OnlyScan by start (v ++ w) m e
only_right by start later v w m (Scan worker n asked policy visits freed stopped) l h = let k = h.number in record { own = h.own; index = length v + h.index; number = omega (arith, k, l); walk = h.walk; there = slice_right v w h.index h.walk h.there; passes = h.passes }
only_right by start later v w m e l h = absurd h

other_number : (k n start len i : ℕ) → k ≡ start + i → i < len → (n < start) ⊎ (start + len ≤ n) → k ≢ n
other_number k n start len i is lt (inl a) same = omega (arith, a, same, is)
other_number k n start len i is lt (inr b) same = omega (arith, b, same, is, lt)

not_scan : (by : Serial) (start : ℕ) (walks : List WalkRecord) (m : Made) (worker n number : ℕ) (e : Entry) → (n < start) ⊎ (start + length walks ≤ n) → OnlyScan by start walks m e → scan_by worker n number e ≡ None
not_scan by start walks m worker n number (Scan w k asked policy visits freed stopped) out h =
    let lt = slice_get_within walks h.index h.walk h.there in let is = h.number in
    let other : k ≢ n = other_number k n start (length walks) h.index is lt out in
    ap (λ (b : Bool). cond b (Some (record { number = number; asked = asked; policy = policy; freed = freed })) None) (and_false (w == worker) (k == n) (ne_eqb k n other))
not_scan by start walks m worker n number (Add by' birth added key value) out h = absurd h
not_scan by start walks m worker n number e out h = absurd h

cond_none : {A : Type 0} (b : Bool) (o : Option A) → o ≡ None → cond b o None ≡ None
cond_none true o e = e
cond_none false o e = refl

pub no_scans_made : (by : Serial) (start : ℕ) (walks : List WalkRecord) (place worker n : ℕ) (made : List Made) → (n < start) ⊎ (start + length walks ≤ n) → Each (IsScanOne by start walks) made → scans_made place worker n made ≡ []
no_scans_made by start walks place worker n [] out h = refl
no_scans_made by start walks place worker n (m ∷ made) out h =
    ap (λ (o : Option ScanMade). cons_option o (scans_made place worker n made)) (cond_none (m.place == place) (scan_by worker n m.number m.entry) (not_scan by start walks m worker n m.number m.entry out (h 0 m refl)))
    ∙ no_scans_made by start walks place worker n made out (λ j x e. h (suc j) x e)

-- what a state knows, a later one knows
pub knows_closed_later : (s t : WorkerState) → Begins s.core.traces.known t.core.traces.known → (k : ℕ) → KnowsClosed s.core k → KnowsClosed t.core k
knows_closed_later s t b k h = (h.0, subst (λ (l : List Known). Contains l (record { place = k; entries = h.0 })) (sym b.1) (Contains-append_left s.core.traces.known b.0 (record { place = k; entries = h.0 }) h.1), h.2)

sum_both : (p : Place) (xs ys : List PlaceAmount) (f : PassRecord → ℕ) (ps qs : List PassRecord) → sum_at p xs ≡ sum_by f ps → sum_at p ys ≡ sum_by f qs → sum_at p (xs ++ ys) ≡ sum_by f (ps ++ qs)
sum_both p xs ys f ps qs d e = omega (arith, sum_by-append (amount_at p) xs ys, sum_by-append f ps qs, d, e)

module _ (script : Script) (by : Serial) (c : Option Command) (a : Answered) where
  -- a step of this command with this answer
  abbrev pub step_of : WorkerState → WorkerState → Work → Step
  step_of s t w = record { by = by; command = c; answered = a; before = s; after = t; work = w }

  -- the second work has all of the first, and no more Scan of the walk
  pub record Has (s t : WorkerState) (w : Work) (s' t' : WorkerState) (w' : Work) (n : ℕ) : Type 0 where
    pub attempts : (e : Tried) → IsAmong e w.core.attempts → IsAmong e w'.core.attempts
    pub loaded : (e : Loaded) → IsAmong e w.core.loaded → IsAmong e w'.core.loaded
    pub words : (e : charge.LoadedState) → IsAmong e w.words → IsAmong e w'.words
    pub scans : (place : ℕ) → scans_made place by.worker n w'.core.made ≡ scans_made place by.worker n w.core.made
    pub known : Begins t.core.traces.known t'.core.traces.known
    pub charges : t.uses.charges ≤ t'.uses.charges
    pub uncharges : t.uses.uncharges ≤ t'.uses.uncharges
    pub online : (group : ℕ) → KnowsOnline s.tree group → KnowsOnline s'.tree group

  module _ (s t : WorkerState) (w : Work) (s' t' : WorkerState) (w' : Work) (n : ℕ) (h : Has s t w s' t' w' n) where
    knows_list : (place : Place) (es : List Entry) (items : List Object) → KnowsList (step_of s t w) place es items → KnowsList (step_of s' t' w') place es items
    knows_list place es items k = record { knows = among_begins t.core.traces.known t'.core.traces.known _ h.known k.knows; journal = k.journal }

    one_more : (held : List Object) (items : ℕ) → IsOneMore (step_of s t w) held items → IsOneMore (step_of s' t' w') held items
    one_more held items k = record { most = k.most; put = k.put; refused = k.refused }

    are_both : (place : Place) (es : List Entry) (held : List Object) (items : ℕ) → AreBoth script (step_of s t w) place es held items → AreBoth script (step_of s' t' w') place es held items
    are_both place es held items k = record { child = k.child; below = k.below; apart = k.apart; child_entries = k.child_entries; child_items = k.child_items; list = knows_list _ _ _ k.list; most = k.most }

    worn_later : (x : Spent) → IsWornBy script (step_of s t w) x → IsWornBy script (step_of s' t' w') x
    worn_later (spent.List place entries items) k = record {
      there = k.there;
      over = k.over;
      known = k.known;
      held = k.held;
      list = knows_list place k.known k.held k.list;
      one_more = k.one_more;
      most = ⊎_elim (λ p. inl p) (λ q. inr (⊎_elim (λ p. inl (one_more k.held items p)) (λ p. inr (are_both place k.known k.held items p)) q)) k.most;
    }
    worn_later (spent.Lookups id seen) k = record { over = k.over; word = k.word; loaded = h.loaded _ k.loaded; shown = k.shown }
    worn_later (spent.Charges charges uncharges) k = let p = h.charges in let q = h.uncharges in let m = k.charged in let o = k.uncharged in record { over = k.over; charged = omega (arith, p, m); uncharged = omega (arith, q, o) }

    pass_later : (r : WalkRecord) (place : Place) (d : CacheDecl) (p : PassRecord) → DidPass script (step_of s t w) n r place d p → DidPass script (step_of s' t' w') n r place d p
    pass_later r place d p k = record {
      scans = subst (AreScansOf r.priority d p) (sym (h.scans _)) k.scans;
      stops = k.stops;
      closed = λ some. knows_closed_later t t' h.known _ (k.closed some);
      worn = λ x e. worn_later x (k.worn x e);
    }

    attempt_later : (r : WalkRecord) (y : Attempt) → DidAttempt script (step_of s t w) n r y → DidAttempt script (step_of s' t' w') n r y
    attempt_later r y k = record {
      id = k.id;
      tried = λ number e. let z = k.tried number e in (z.0, h.attempts _ z.1, z.2);
      held = λ number e is. let z = k.held number e is in record {
        decl = z.decl;
        tried = h.attempts _ z.tried;
        cache = z.cache;
        declared = z.declared;
        kind = z.kind;
        pass = λ p e. pass_later r (place_in r y.id) z.cache p (z.pass p e);
      };
      worn = λ seen e. let z = k.worn seen e in (z.0, h.loaded _ z.1, z.2, z.3);
    }

    pub walk_later : (r : WalkRecord) → DidWalk script (step_of s t w) n r → DidWalk script (step_of s' t' w') n r
    walk_later r k = record {
      low = k.low;
      by = k.by;
      node = k.node;
      group = k.group;
      record_is = k.record_is;
      attempts = λ i y e. attempt_later r y (k.attempts i y e);
      word = λ entry e. h.words _ (k.word entry e);
      online = λ below on. h.online r.group (k.online below on);
    }

  -- what walks made between two states, and nothing else but operations
  pub record Walked (s t : WorkerState) (w : Work) : Type 0 where
    pub does : Does s t w
    pub each : (i : ℕ) (r : WalkRecord) → slice_get w.walks i ≡ Some r → DidWalk script (step_of s t w) (length s.walks + i) r
    pub seen : flat_map counted_in w.walks ≡ w.core.seen
    pub maps : flat_map mapped_in w.walks ≡ map map_word w.core.maps
    pub cleared : flat_map cleared_by_walk w.walks ≡ w.core.cleared
    pub sets : flat_map set_by_walk w.walks ≡ w.core.sets
    pub numbers : map number_made w.core.attempts ≡ flat_map numbers_tried w.walks
    pub fresh : AreFresh s.core w.core.seen
    pub set : Each (λ (m : Mapped). Begins s.core.marks.sets m.set) w.core.maps
    pub scans : Each (IsScanOne by (length s.walks) w.walks) w.core.made
    pub taken : (p : Place) → sum_at p (takes_of w.moves) ≡ sum_by (λ (q : PassRecord). q.nr) (flat_map (passes_at p) w.walks)
    pub given : (p : Place) → sum_at p (gives_of w.moves) ≡ sum_by (λ (q : PassRecord). q.next) (flat_map (passes_at p) w.walks)
    pub steps : map told_step w.moves ≡ flat_map steps_walked w.walks
    pub turns : w.core.turns ≡ []
    pub tree : w.tree ≡ []
    pub carries : w.carries ≡ []

  -- no walk was made, but words may have been loaded, and operations made
  pub walked_still : (ops : List UseStep) (charges uncharges : ℕ) (words : List charge.LoadedState) (s t : WorkerState) → Does s t (record no_work { ops = ops; charges = charges; uncharges = uncharges; words = words })
      → Walked s t (record no_work { ops = ops; charges = charges; uncharges = uncharges; words = words })
  walked_still ops charges uncharges words s t does = record {
    does = does;
    each = λ i r e. absurd (none-some r e);
    seen = refl;
    maps = refl;
    cleared = refl;
    sets = refl;
    numbers = refl;
    fresh = fresh_none s.core;
    set = Each-none (λ (m : Mapped). Begins s.core.marks.sets m.set);
    scans = Each-none (IsScanOne by (length s.walks) []);
    taken = λ p. refl;
    given = λ p. refl;
    steps = refl;
    turns = refl;
    tree = refl;
    carries = refl;
  }

  module _ (s u t : WorkerState) (v w : Work) (p : Walked s u v) (q : Walked u t w) where
    more_walks : length u.walks ≡ length s.walks + length v.walks
    more_walks = ap (λ (l : List WalkRecord). length l) p.does.walks ∙ length-append s.walks v.walks

    -- what the first did it did in the whole
    first_in : (i : ℕ) (r : WalkRecord) → slice_get v.walks i ≡ Some r → Has s u v s t (then_work v w) (length s.walks + i)
    first_in i r e = record {
      attempts = λ y h. among_left v.core.attempts w.core.attempts y h;
      loaded = λ y h. among_left v.core.loaded w.core.loaded y h;
      words = λ y h. among_left v.words w.words y h;
      scans = λ place. filter_map-append (scan_made place by.worker (length s.walks + i)) v.core.made w.core.made
          ∙ (ap (λ l. scans_made place by.worker (length s.walks + i) v.core.made ++ l) (no_scans_made by (length u.walks) w.walks place by.worker (length s.walks + i) w.core.made (inl (omega (arith, more_walks, slice_get_within v.walks i r e))) q.scans) ∙ append-nil _);
      known = q.does.core.known;
      charges = let c : t.uses.charges ≡ u.uses.charges + w.charges = ap (λ (x : charge.Uses). x.charges) q.does.uses in omega (arith, c);
      uncharges = let c : t.uses.uncharges ≡ u.uses.uncharges + w.uncharges = ap (λ (x : charge.Uses). x.uncharges) q.does.uses in omega (arith, c);
      online = λ group k. k;
    }

    last_in : (i : ℕ) → Has u t w s t (then_work v w) (length u.walks + i)
    last_in i = record {
      attempts = λ y h. among_right v.core.attempts w.core.attempts y h;
      loaded = λ y h. among_right v.core.loaded w.core.loaded y h;
      words = λ y h. among_right v.words w.words y h;
      scans = λ place. filter_map-append (scan_made place by.worker (length u.walks + i)) v.core.made w.core.made
          ∙ ap (λ l. l ++ scans_made place by.worker (length u.walks + i) w.core.made) (no_scans_made by (length s.walks) v.walks place by.worker (length u.walks + i) v.core.made (inr (omega (arith, more_walks))) p.scans);
      known = ([], sym (append-nil t.core.traces.known));
      charges = omega arith;
      uncharges = omega arith;
      online = λ group k. online_before s.tree u.tree group (v.words, p.does.words) p.does.known k;
    }

    pub walked_then : Walked s t (then_work v w)
    walked_then = record {
      does = does_then s u t v w p.does q.does;
      each = λ i r e. ⊎_elim
          (λ at. walk_later s u v s t (then_work v w) (length s.walks + i) (first_in i r at) r (p.each i r at))
          (λ at. let n : length u.walks + at.0 ≡ length s.walks + i = omega (arith, more_walks, at.1) in
          subst (λ k. DidWalk script (step_of s t (then_work v w)) k r) n (walk_later u t w s t (then_work v w) (length u.walks + at.0) (last_in at.0) r (q.each at.0 r at.2)))
          (slice_cases v.walks w.walks i r e);
      seen = flat_map-append counted_in v.walks w.walks ∙ (ap (λ l. l ++ flat_map counted_in w.walks) p.seen ∙ ap (λ l. v.core.seen ++ l) q.seen);
      maps = flat_map-append mapped_in v.walks w.walks ∙ (ap (λ l. l ++ flat_map mapped_in w.walks) p.maps ∙ (ap (λ l. map map_word v.core.maps ++ l) q.maps ∙ sym (map-append map_word v.core.maps w.core.maps)));
      cleared = flat_map-append cleared_by_walk v.walks w.walks ∙ (ap (λ l. l ++ flat_map cleared_by_walk w.walks) p.cleared ∙ ap (λ l. v.core.cleared ++ l) q.cleared);
      sets = flat_map-append set_by_walk v.walks w.walks ∙ (ap (λ l. l ++ flat_map set_by_walk w.walks) p.sets ∙ ap (λ l. v.core.sets ++ l) q.sets);
      numbers = map-append number_made v.core.attempts w.core.attempts ∙ (ap (λ l. l ++ map number_made w.core.attempts) p.numbers ∙ (ap (λ l. flat_map numbers_tried v.walks ++ l) q.numbers ∙ sym (flat_map-append numbers_tried v.walks w.walks)));
      fresh = fresh_then s.core u.core v.core w.core.seen p.does.core p.fresh q.fresh;
      set = Each-append (λ (m : Mapped). Begins s.core.marks.sets m.set) v.core.maps w.core.maps p.set (λ j m e. begins_more s.core.marks.sets u.core.marks.sets m.set (v.core.sets, p.does.core.sets) (q.set j m e));
      scans = Each-append (IsScanOne by (length s.walks) (v.walks ++ w.walks)) v.core.made w.core.made (λ j m e. only_left by (length s.walks) v.walks w.walks m m.entry (p.scans j m e)) (λ j m e. only_right by (length s.walks) (length u.walks) v.walks w.walks m m.entry more_walks (q.scans j m e));
      taken = λ z. ap (sum_at z) (takes_both v.moves w.moves) ∙ (sum_both z (takes_of v.moves) (takes_of w.moves) (λ (k : PassRecord). k.nr) (flat_map (passes_at z) v.walks) (flat_map (passes_at z) w.walks) (p.taken z) (q.taken z) ∙ ap (sum_by (λ (k : PassRecord). k.nr)) (sym (flat_map-append (passes_at z) v.walks w.walks)));
      given = λ z. ap (sum_at z) (gives_both v.moves w.moves) ∙ (sum_both z (gives_of v.moves) (gives_of w.moves) (λ (k : PassRecord). k.next) (flat_map (passes_at z) v.walks) (flat_map (passes_at z) w.walks) (p.given z) (q.given z) ∙ ap (sum_by (λ (k : PassRecord). k.next)) (sym (flat_map-append (passes_at z) v.walks w.walks)));
      steps = map-append told_step v.moves w.moves ∙ (ap (λ (l : List WordStep). l ++ map told_step w.moves) p.steps ∙ (ap (λ (l : List WordStep). flat_map steps_walked v.walks ++ l) q.steps ∙ sym (flat_map-append steps_walked v.walks w.walks)));
      turns = ap (λ l. l ++ w.core.turns) p.turns ∙ q.turns;
      tree = ap (λ l. l ++ w.tree) p.tree ∙ q.tree;
      carries = ap (λ l. l ++ w.carries) p.carries ∙ q.carries;
    }
