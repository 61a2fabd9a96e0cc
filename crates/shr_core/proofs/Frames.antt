-- SPDX-License-Identifier: GPL-2.0-only
-- From the parts of the rule after a step to the rule of the table after it.
use Rattle.shr_core.proofs.Common.{◌≡◌, ℕ, ◌+◌, ◌*◌, ◌%◌, ◌<◌, ◌≢◌, Bool, true, false, cond, List, map, length, set, get_or, sym, subst, ◌∙◌, arith, length-set, get_or-set_other, some, get_elem?, State, PoolEntry, Each, Sizes, AreSeats, Each-set, View, Slot, Setting, Holding, Traces, Marks, Claims, Turns, is_row, row_in, counts_in, locks_in, bits_in, looks_in, sizes_of, AreOrdered, Sound, HasOwnEnd, Journals, Histories, spent, AreRoomsOf, AreLists, AreTraces, AreMarks, AreLookupsOf, AreOwned, AreTurns, AreDated, phases, holding_of, traces_of, marks_of, claims_of, turns_of, view_standing, map-set, set-get_or, set_again, Standing, AreEmptied, Rules}
use mathlib.Core.Option.{Option}
use Rattle.shr_seats.proofs.Changed as changed

-- the word i becomes n
module _ (z : Sizes) (ws : List ℕ) (i n : ℕ) where
  in_row : (c row : ℕ) → c < 4 → i % 8 ≢ c → get_or (set ws i n) (8 * row + c) 0 ≡ get_or ws (8 * row + c) 0
  in_row c row small h = get_or-set_other ws i (8 * row + c) n 0 (λ e. h (omega (arith, e, small)))

  at_row : (row : ℕ) → i % 8 ≢ 0 → get_or (set ws i n) (8 * row) 0 ≡ get_or ws (8 * row) 0
  at_row row h = get_or-set_other ws i (8 * row) n 0 (λ e. h (omega (arith, e)))

  -- a step on a word of another kind leaves the count words
  pub counts_stay : i % 8 ≢ 0 → counts_in z (set ws i n) ≡ counts_in z ws
  counts_stay h = λ j k. cond (is_row z k) (at_row (row_in z k) h j) 0

  -- the same for the lock words
  pub locks_stay : i % 8 ≢ 1 → locks_in z (set ws i n) ≡ locks_in z ws
  locks_stay h = λ j k. cond (is_row z k) (in_row 1 (row_in z k) (omega arith) h j) 0

  -- the same for the bit words
  pub bits_stay : i % 8 ≢ 2 → bits_in z (set ws i n) ≡ bits_in z ws
  bits_stay h = λ j k. cond (is_row z k) (in_row 2 (row_in z k) (omega arith) h j) 0

  -- the same for the lookup words
  pub looks_stay : i % 8 ≢ 3 → looks_in (set ws i n) ≡ looks_in ws
  looks_stay h = λ j k. get_or-set_other ws i (8 * k + 3) n 0 (λ e. h (omega arith)) j

module _ {B : Type 0} (views : List View) (id : ℕ) (v : View) (me : get_elem? views id ≡ some v) (f : View → B) where
  -- the seat's part
  pub here : get_elem? (map f views) id ≡ some (f v)
  here = changed.here views id v me f

  -- a part that stays
  pub still : (P : List B → Type 0) → P (map f views) → P (set (map f views) id (f v))
  still P p = changed.still views id v me f P p

-- the parts of the views after the step, as parts of the list of views
abbrev pub After : Setting → Journals → Histories → List PoolEntry → (ℕ → ℕ) → (ℕ → ℕ) → (ℕ → ℕ) → (ℕ → ℕ) → List (Option Slot) → List View → ℕ → View → Type 0
After key now after pool count lock bits look homes views id w = Rules key now after pool count lock bits look homes
    (set (map holding_of views) id w.holding) (set (map traces_of views) id w.traces) (set (map marks_of views) id w.marks) (set (map claims_of views) id w.claims) (set (map turns_of views) id w.turns) (set (map view_standing views) id w.standing)

-- the rule by parts set one by one is the rule over the views with one set
pub seated : (key : Setting) (now : Journals) (after : Histories) (pool : List PoolEntry) (count lock bits look : ℕ → ℕ) (homes : List (Option Slot)) (views : List View) (id : ℕ) (w : View)
    → After key now after pool count lock bits look homes views id w
    → Rules key now after pool count lock bits look homes (map holding_of (set views id w)) (map traces_of (set views id w)) (map marks_of (set views id w)) (map claims_of (set views id w)) (map turns_of (set views id w)) (map view_standing (set views id w))
seated key now after pool count lock bits look homes views id w r =
    let U : List Holding → List Traces → List Marks → List Claims → List Turns → List Standing → Type 0 = λ h t m k u z. Rules key now after pool count lock bits look homes h t m k u z in
    let h : List Holding = map holding_of (set views id w) in let t : List Traces = map traces_of (set views id w) in let m : List Marks = map marks_of (set views id w) in let k : List Claims = map claims_of (set views id w) in let u : List Turns = map turns_of (set views id w) in
    let t' : List Traces = set (map traces_of views) id w.traces in let m' : List Marks = set (map marks_of views) id w.marks in let k' : List Claims = set (map claims_of views) id w.claims in let u' : List Turns = set (map turns_of views) id w.turns in let z' : List Standing = set (map view_standing views) id w.standing in
    subst (λ (x : List Standing). U h t m k u x) (sym (map-set view_standing views id w)) (subst (λ (x : List Turns). U h t m k x z') (sym (map-set turns_of views id w)) (subst (λ (x : List Claims). U h t m x u' z') (sym (map-set claims_of views id w))
    (subst (λ (x : List Marks). U h t x k' u' z') (sym (map-set marks_of views id w)) (subst (λ (x : List Traces). U h x m' k' u' z') (sym (map-set traces_of views id w)) (subst (λ (x : List Holding). U x t' m' k' u' z') (sym (map-set holding_of views id w)) r)))))

-- a state of these words, slots and views
abbrev pub state : List ℕ → List (Option Slot) → List View → State Slot View
state ws hs vs = record { words = ws; homes = hs; views = vs }

not_both : (b : Bool) → b ≡ false → b ≡ true → ⊥
not_both b f t = let e : false ≡ true = sym f ∙ t in cc

module _ (key : Setting) (s : State Slot View) (o : Sound key s) (id : ℕ) (w : View) (present : w.standing.gone ≡ false) where
  emptied : AreEmptied view_standing spent (set s.views id w)
  emptied = Each-set (λ (v : View). v.standing.gone ≡ true → v ≡ spent) s.views id w (λ t. absurd (not_both w.standing.gone present t)) o.emptied

module _ (key : Setting) (s : State Slot View) (o : Sound key s) (id : ℕ) (w : View) (present : w.standing.gone ≡ false) (own : HasOwnEnd o.pool w) where
  ended : Each (HasOwnEnd o.pool) (set s.views id w)
  ended = Each-set (HasOwnEnd o.pool) s.views id w own o.ended

  -- a load
  pub on_load : (i : ℕ) → AreOrdered key.shape.ids key.first_lookup o.now o.pool (bits_in (sizes_of key.shape) s.words) (looks_in s.words) (set s.views id w) → After key o.now o.after o.pool (counts_in (sizes_of key.shape) s.words) (locks_in (sizes_of key.shape) s.words) (bits_in (sizes_of key.shape) s.words) (looks_in s.words) s.homes s.views id w → Sound key (state (set s.words i (get_or s.words i 0)) s.homes (set s.views id w))
  on_load i ordered r = subst (λ (ws : List ℕ). Sound key (state ws s.homes (set s.views id w))) (sym (set-get_or s.words i 0))
      record { now = o.now; after = o.after; pool = o.pool; sized = o.sized; wide = o.wide; deep = o.deep; emptied = emptied key s o id w present; ended = ended; ordered = ordered; rules = seated key o.now o.after o.pool (counts_in (sizes_of key.shape) s.words) (locks_in (sizes_of key.shape) s.words) (bits_in (sizes_of key.shape) s.words) (looks_in s.words) s.homes s.views id w r }

  -- a change of a count word
  pub on_count : (k n : ℕ) (now : Journals) (after : Histories) → AreOrdered key.shape.ids key.first_lookup now o.pool (bits_in (sizes_of key.shape) s.words) (looks_in s.words) (set s.views id w) → After key now after o.pool (counts_in (sizes_of key.shape) (set s.words (8 * k) n)) (locks_in (sizes_of key.shape) s.words) (bits_in (sizes_of key.shape) s.words) (looks_in s.words) s.homes s.views id w → Sound key (state (set s.words (8 * k) n) s.homes (set s.views id w))
  on_count k n now after ordered r = let ws : List ℕ = set s.words (8 * k) n in let c : ℕ → ℕ = counts_in (sizes_of key.shape) ws in record {
    now = now;
    after = after;
    pool = o.pool;
    sized = o.sized;
    wide = length-set s.words (8 * k) n ∙ o.wide;
    deep = o.deep;
    emptied = emptied key s o id w present;
    ended = ended;
    ordered = subst (λ (x : ℕ → ℕ). AreOrdered key.shape.ids key.first_lookup now o.pool x (looks_in ws) (set s.views id w)) (sym (bits_stay (sizes_of key.shape) s.words (8 * k) n (λ e. absurd (omega arith))))
        (subst (λ (x : ℕ → ℕ). AreOrdered key.shape.ids key.first_lookup now o.pool (bits_in (sizes_of key.shape) s.words) x (set s.views id w)) (sym (looks_stay (sizes_of key.shape) s.words (8 * k) n (λ e. absurd (omega arith)))) ordered);
    rules = seated key now after o.pool c (locks_in (sizes_of key.shape) ws) (bits_in (sizes_of key.shape) ws) (looks_in ws) s.homes s.views id w
        (subst (λ (x : ℕ → ℕ). After key now after o.pool c x (bits_in (sizes_of key.shape) ws) (looks_in ws) s.homes s.views id w) (sym (locks_stay (sizes_of key.shape) s.words (8 * k) n (λ e. absurd (omega arith))))
        (subst (λ (x : ℕ → ℕ). After key now after o.pool c (locks_in (sizes_of key.shape) s.words) x (looks_in ws) s.homes s.views id w) (sym (bits_stay (sizes_of key.shape) s.words (8 * k) n (λ e. absurd (omega arith))))
        (subst (λ (x : ℕ → ℕ). After key now after o.pool c (locks_in (sizes_of key.shape) s.words) (bits_in (sizes_of key.shape) s.words) x s.homes s.views id w) (sym (looks_stay (sizes_of key.shape) s.words (8 * k) n (λ e. absurd (omega arith)))) r)));
  }

  -- of a lock word
  pub on_lock : (k n : ℕ) (homes : List (Option Slot)) → length homes ≡ length s.homes → AreOrdered key.shape.ids key.first_lookup o.now o.pool (bits_in (sizes_of key.shape) s.words) (looks_in s.words) (set s.views id w) → After key o.now o.after o.pool (counts_in (sizes_of key.shape) s.words) (locks_in (sizes_of key.shape) (set s.words (8 * k + 1) n)) (bits_in (sizes_of key.shape) s.words) (looks_in s.words) homes s.views id w
      → Sound key (state (set s.words (8 * k + 1) n) homes (set s.views id w))
  on_lock k n homes long ordered r = let i : ℕ = 8 * k + 1 in let ws : List ℕ = set s.words i n in let l : ℕ → ℕ = locks_in (sizes_of key.shape) ws in record {
    now = o.now;
    after = o.after;
    pool = o.pool;
    sized = o.sized;
    wide = length-set s.words i n ∙ o.wide;
    deep = long ∙ o.deep;
    emptied = emptied key s o id w present;
    ended = ended;
    ordered = subst (λ (x : ℕ → ℕ). AreOrdered key.shape.ids key.first_lookup o.now o.pool x (looks_in ws) (set s.views id w)) (sym (bits_stay (sizes_of key.shape) s.words i n (λ e. absurd (omega arith))))
        (subst (λ (x : ℕ → ℕ). AreOrdered key.shape.ids key.first_lookup o.now o.pool (bits_in (sizes_of key.shape) s.words) x (set s.views id w)) (sym (looks_stay (sizes_of key.shape) s.words i n (λ e. absurd (omega arith)))) ordered);
    rules = seated key o.now o.after o.pool (counts_in (sizes_of key.shape) ws) l (bits_in (sizes_of key.shape) ws) (looks_in ws) homes s.views id w
        (subst (λ (x : ℕ → ℕ). After key o.now o.after o.pool x l (bits_in (sizes_of key.shape) ws) (looks_in ws) homes s.views id w) (sym (counts_stay (sizes_of key.shape) s.words i n (λ e. absurd (omega arith))))
        (subst (λ (x : ℕ → ℕ). After key o.now o.after o.pool (counts_in (sizes_of key.shape) s.words) l x (looks_in ws) homes s.views id w) (sym (bits_stay (sizes_of key.shape) s.words i n (λ e. absurd (omega arith))))
        (subst (λ (x : ℕ → ℕ). After key o.now o.after o.pool (counts_in (sizes_of key.shape) s.words) l (bits_in (sizes_of key.shape) s.words) x homes s.views id w) (sym (looks_stay (sizes_of key.shape) s.words i n (λ e. absurd (omega arith)))) r)));
  }

  -- of a bit word
  pub on_bits : (k n : ℕ) → AreOrdered key.shape.ids key.first_lookup o.now o.pool (bits_in (sizes_of key.shape) (set s.words (8 * k + 2) n)) (looks_in s.words) (set s.views id w) → After key o.now o.after o.pool (counts_in (sizes_of key.shape) s.words) (locks_in (sizes_of key.shape) s.words) (bits_in (sizes_of key.shape) (set s.words (8 * k + 2) n)) (looks_in s.words) s.homes s.views id w → Sound key (state (set s.words (8 * k + 2) n) s.homes (set s.views id w))
  on_bits k n ordered r = let i : ℕ = 8 * k + 2 in let ws : List ℕ = set s.words i n in let b : ℕ → ℕ = bits_in (sizes_of key.shape) ws in record {
    now = o.now;
    after = o.after;
    pool = o.pool;
    sized = o.sized;
    wide = length-set s.words i n ∙ o.wide;
    deep = o.deep;
    emptied = emptied key s o id w present;
    ended = ended;
    ordered = subst (λ (x : ℕ → ℕ). AreOrdered key.shape.ids key.first_lookup o.now o.pool b x (set s.views id w)) (sym (looks_stay (sizes_of key.shape) s.words i n (λ e. absurd (omega arith)))) ordered;
    rules = seated key o.now o.after o.pool (counts_in (sizes_of key.shape) ws) (locks_in (sizes_of key.shape) ws) b (looks_in ws) s.homes s.views id w
        (subst (λ (x : ℕ → ℕ). After key o.now o.after o.pool x (locks_in (sizes_of key.shape) ws) b (looks_in ws) s.homes s.views id w) (sym (counts_stay (sizes_of key.shape) s.words i n (λ e. absurd (omega arith))))
        (subst (λ (x : ℕ → ℕ). After key o.now o.after o.pool (counts_in (sizes_of key.shape) s.words) x b (looks_in ws) s.homes s.views id w) (sym (locks_stay (sizes_of key.shape) s.words i n (λ e. absurd (omega arith))))
        (subst (λ (x : ℕ → ℕ). After key o.now o.after o.pool (counts_in (sizes_of key.shape) s.words) (locks_in (sizes_of key.shape) s.words) b x s.homes s.views id w) (sym (looks_stay (sizes_of key.shape) s.words i n (λ e. absurd (omega arith)))) r)));
  }

-- of a lookup word, where the pool's journal may change
module _ (key : Setting) (s : State Slot View) (o : Sound key s) (id : ℕ) (w : View) (present : w.standing.gone ≡ false) (pool : List PoolEntry) (ends : Each (HasOwnEnd pool) (set s.views id w)) where
  -- the rule holds after a step on a lookup word
  pub on_look : (k n : ℕ) → AreOrdered key.shape.ids key.first_lookup o.now pool (bits_in (sizes_of key.shape) s.words) (looks_in (set s.words (8 * k + 3) n)) (set s.views id w) → After key o.now o.after pool (counts_in (sizes_of key.shape) s.words) (locks_in (sizes_of key.shape) s.words) (bits_in (sizes_of key.shape) s.words) (looks_in (set s.words (8 * k + 3) n)) s.homes s.views id w → Sound key (state (set s.words (8 * k + 3) n) s.homes (set s.views id w))
  on_look k n ordered r = let i : ℕ = 8 * k + 3 in let ws : List ℕ = set s.words i n in let l : ℕ → ℕ = looks_in ws in record {
    now = o.now;
    after = o.after;
    pool = pool;
    sized = o.sized;
    wide = length-set s.words i n ∙ o.wide;
    deep = o.deep;
    emptied = emptied key s o id w present;
    ended = ends;
    ordered = subst (λ (x : ℕ → ℕ). AreOrdered key.shape.ids key.first_lookup o.now pool x l (set s.views id w)) (sym (bits_stay (sizes_of key.shape) s.words i n (λ e. absurd (omega arith)))) ordered;
    rules = seated key o.now o.after pool (counts_in (sizes_of key.shape) ws) (locks_in (sizes_of key.shape) ws) (bits_in (sizes_of key.shape) ws) l s.homes s.views id w
        (subst (λ (x : ℕ → ℕ). After key o.now o.after pool x (locks_in (sizes_of key.shape) ws) (bits_in (sizes_of key.shape) ws) l s.homes s.views id w) (sym (counts_stay (sizes_of key.shape) s.words i n (λ e. absurd (omega arith))))
        (subst (λ (x : ℕ → ℕ). After key o.now o.after pool (counts_in (sizes_of key.shape) s.words) x (bits_in (sizes_of key.shape) ws) l s.homes s.views id w) (sym (locks_stay (sizes_of key.shape) s.words i n (λ e. absurd (omega arith))))
        (subst (λ (x : ℕ → ℕ). After key o.now o.after pool (counts_in (sizes_of key.shape) s.words) (locks_in (sizes_of key.shape) s.words) x l s.homes s.views id w) (sym (bits_stay (sizes_of key.shape) s.words i n (λ e. absurd (omega arith)))) r)));
  }

-- a step that changes nothing
pub unmoved : (key : Setting) (s : State Slot View) (i id : ℕ) (v : View) → get_elem? s.views id ≡ some v → Sound key s → Sound key (state (set s.words i (get_or s.words i 0)) s.homes (set s.views id v))
unmoved key s i id v me o = subst (λ (ws : List ℕ). Sound key (state ws s.homes (set s.views id v))) (sym (set-get_or s.words i 0))
    (subst (λ (vs : List View). Sound key (state s.words s.homes vs)) (sym (set_again s.views id v me)) o)

-- the parts that stay where the seat's stays
module _ (key : Setting) (s : State Slot View) (o : Sound key s) (id : ℕ) (v : View) (me : get_elem? s.views id ≡ some v) where
  -- this part holds after a step if the seat's rooms in hand stay
  pub rooms_stay : AreRoomsOf key o.now o.after o.pool (locks_in (sizes_of key.shape) s.words) s.homes (set (map holding_of s.views) id v.holding)
  rooms_stay = still s.views id v me holding_of (AreRoomsOf key o.now o.after o.pool (locks_in (sizes_of key.shape) s.words) s.homes) o.rules.roomed

  -- the same for the lists
  pub lists_stay : AreLists key.shape.parents.items o.now o.after (set (map holding_of s.views) id v.holding)
  lists_stay = still s.views id v me holding_of (AreLists key.shape.parents.items o.now o.after) o.rules.listed

  -- the same for what was made, known and counted
  pub traces_stay : AreTraces o.now o.after (set (map traces_of s.views) id v.traces)
  traces_stay = still s.views id v me traces_of (AreTraces o.now o.after) o.rules.traced

  -- the same for the bits
  pub marks_stay : AreMarks key.shape.ids (counts_in (sizes_of key.shape) s.words) (bits_in (sizes_of key.shape) s.words) (phases o.pool) (set (map marks_of s.views) id v.marks)
  marks_stay = still s.views id v me marks_of (AreMarks key.shape.ids (counts_in (sizes_of key.shape) s.words) (bits_in (sizes_of key.shape) s.words) (phases o.pool)) o.rules.marked

  -- the same for the lookup words
  pub lookups_stay : AreLookupsOf key (looks_in s.words) o.pool (set (map claims_of s.views) id v.claims)
  lookups_stay = still s.views id v me claims_of (AreLookupsOf key (looks_in s.words) o.pool) o.rules.looked

  -- the same for what is owned
  pub owned_stay : AreOwned key.shape o.now o.after o.pool (set (map claims_of s.views) id v.claims)
  owned_stay = still s.views id v me claims_of (AreOwned key.shape o.now o.after o.pool) o.rules.owned

  -- the same for the pool's journal
  pub turns_stay : AreTurns key.shape.ids key.shape.decls o.pool (set (map turns_of s.views) id v.turns)
  turns_stay = still s.views id v me turns_of (AreTurns key.shape.ids key.shape.decls o.pool) o.rules.turned

  -- the same for what was dated
  pub dated_stay : AreDated key.shape.ids (looks_in s.words) o.pool (set (map turns_of s.views) id v.turns)
  dated_stay = still s.views id v me turns_of (AreDated key.shape.ids (looks_in s.words) o.pool) o.rules.dated

  -- the same for the standings
  pub seats_stay : AreSeats (set (map view_standing s.views) id v.standing)
  seats_stay = still s.views id v me view_standing AreSeats o.rules.seated
