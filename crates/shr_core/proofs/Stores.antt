-- SPDX-License-Identifier: GPL-2.0-only
-- A step on a count word keeps the rule.
use Rattle.shr_core.proofs.Common.{◌≡◌, ◌⊎◌, ℕ, ◌+◌, ◌*◌, ◌%◌, ◌<◌, ◌≤◌, ◌≢◌, Bool, true, false, cond, eqb, ltb, List, [], ◌∷◌, ◌++◌, map, length, set, sym, refl, ap, subst, ◌∙◌, inl, inr, ⊎_elim, arith, eq-eqb, ne_eqb, lt-ltb, length-append, ◌&&◌, Some, nat_tests, dite, ℕ_discrete, keeps, Allows, Serial, Object, Entry, Add, Look, Drop, Pin, Scan, MovedIn, Closed, Drained, PoolEntry, phase_of, IsTree, parent_of, is_child, step, IsOutcome, is_closed, IsAllowed, MayStand, Listed, times, Sizes, times-push_le, times-push_same, terms_le, View, Shape, Setting, RoomContent, row_in, counts_in, locks_in, bits_in, looks_in, homes_in, places_in, place_id, group_of, beside, above, sizes_of, groups_in, IsShape, Sound, IsRoom, Fits, IsRoomAtHome, IsInside, Journals, Histories, items_now, has_room, phases, holding_of, traces_of, marks_of, claims_of, AreTraces, AreOwned, Sat, with_stored, IsLater, in_hand, owed_after, half_after, last_entry, moved_in_hand, IsBacked, MayStore, Moment, IsTimely, Holders, last_users, IsMadeInUse, and_false}
use Rattle.shr_core.proofs.Options.{not_some}
use Rattle.shr_core.proofs.Ordering as ordering
use Rattle.shr_core.proofs.Frames.{here, on_count, lookups_stay, turns_stay, dated_stay, seats_stay, still}
use Rattle.shr_core.proofs.Births.{IsBornIn}
use Rattle.shr_core.proofs.Emptiness.{step_none, empty_or}
use Rattle.shr_core.proofs.Rooming as rooming
use Rattle.shr_core.proofs.Listing as listing
use Rattle.shr_core.proofs.Tracing as tracing
use Rattle.shr_core.proofs.Laying.{inside_is, inside_low, count_here, count_else}
use Rattle.shr_core.proofs.Marking as marking
use Rattle.shr_core.proofs.Owning as owning

-- the journals, with one changed
abbrev pub changed : ℕ → List Entry → Journals → Journals
changed k es now j = cond (eqb j k) es (now j)

pub changed_here : (k : ℕ) (es : List Entry) (now : Journals) → changed k es now k ≡ es
changed_here k es now = ap (λ b. cond b es (now k)) (eq-eqb k k refl)

pub changed_else : (k : ℕ) (es : List Entry) (now : Journals) (j : ℕ) → j ≢ k → changed k es now j ≡ now j
changed_else k es now j ne = ap (λ b. cond b es (now j)) (ne_eqb j k ne)

-- the histories, with the items after one number of entries changed at one place
abbrev pub recorded : ℕ → ℕ → List Object → Histories → Histories
recorded k n items after j m = cond (eqb j k && eqb m n) items (after j m)

pub recorded_here : (k n : ℕ) (items : List Object) (after : Histories) → recorded k n items after k n ≡ items
recorded_here k n items after = ap (λ b. cond (b && eqb n n) items (after k n)) (eq-eqb k k refl) ∙ ap (λ b. cond b items (after k n)) (eq-eqb n n refl)

pub recorded_place : (k n : ℕ) (items : List Object) (after : Histories) (j m : ℕ) → j ≢ k → recorded k n items after j m ≡ after j m
recorded_place k n items after j m ne = ap (λ b. cond (b && eqb m n) items (after j m)) (ne_eqb j k ne)

pub recorded_number : (k n : ℕ) (items : List Object) (after : Histories) (j m : ℕ) → m ≢ n → recorded k n items after j m ≡ after j m
recorded_number k n items after j m ne = ap (λ b. cond (eqb j k && b) items (after j m)) (ne_eqb m n ne) ∙ ap (λ b. cond b items (after j m)) (and_false (eqb j k))

-- what an owed place is after a store
owes_more : (k old new : ℕ) (owed : List ℕ) (j : ℕ) → times j owed ≤ times j (owed_after k old new owed)
owes_more k old new owed j = elim (eqb old 0 && ltb 0 new && ltb 0 (group_of k)) as (λ b. times j owed ≤ times j (cond b (owed ++ k ∷ []) owed)) [ true ↦ times-push_le j k owed | false ↦ omega arith ]

owes_risen : (k old new : ℕ) (owed : List ℕ) → old ≡ 0 → 0 < new → 0 < group_of k → 0 < times k (owed_after k old new owed)
owes_risen k old new owed z l g = let is : (eqb old 0 && ltb 0 new && ltb 0 (group_of k)) ≡ true = ap (λ b. b && ltb 0 new && ltb 0 (group_of k)) (eq-eqb old 0 z) ∙ (ap (λ b. b && ltb 0 (group_of k)) (lt-ltb 0 new l) ∙ lt-ltb 0 (group_of k) g) in
    subst (λ b. 0 < times k (cond b (owed ++ k ∷ []) owed)) (sym is) (omega (arith, times-push_same k owed))

-- a child has a higher number than its parent, and is a group
pub child_above : (parents : List ℕ) (group child : ℕ) → IsTree parents → is_child parents group child ≡ true → (group < child) × (child < length parents)
child_above parents group child tree is = let t = facts child (length parents) (parent_of parents child) group is in let l = tree.lower child t.0 t.1 in (omega (arith, l, t.2), t.1) where
  facts : (c n p g : ℕ) → (ltb 0 c && ltb c n && eqb p g) ≡ true → (0 < c) × (c < n) × (p ≡ g)
  facts c n p g e = (grind (arith, nat_tests), grind (arith, nat_tests), grind (arith, nat_tests))

-- why a place may have items after a store, by the kinds of entry, where the child's items in hand
-- are those now
grounds : (shape : Shape) (now : Journals) (after : Histories) (v : View) (k : ℕ) (e : Entry) → IsShape shape → k < places_in shape.ids
    → ((child : ℕ) → 0 < has_room (beside k child) v.holding → child < 256 → (in_hand v (beside k child)).items ≡ items_now now after (beside k child))
    → IsAllowed shape.parents.items (group_of k) (in_hand v k).entries e → IsBacked shape v k e
    → (step (moved_in_hand v k e) [] e ≡ []) ⊎ owning.Grounds now after v.claims k
grounds shape now after v k (Add by birth added key value) sh near childs allowed backed = inr (inl backed.0)
grounds shape now after v k (Look by birth key hit) sh near childs allowed backed = inl refl
grounds shape now after v k (Drop by birth key kind) sh near childs allowed backed = inl refl
grounds shape now after v k (Pin by birth key pinned hit) sh near childs allowed backed = inl refl
grounds shape now after v k (Scan worker walk asked policy visits freed stopped) sh near childs allowed backed = inr (inl backed.0)
grounds shape now after v k (MovedIn child objects) sh near childs allowed backed = let c = child_above shape.parents.items (group_of k) child sh.tree allowed.0 in let small : child < 256 = omega (arith, c.1, sh.groups) in let q : ℕ = beside k child in
    let is = childs child backed.1 small in
    ⊎_elim (λ h. inl (step_none (in_hand v q).items (MovedIn child objects) (λ a b c d f x. not_add a b c d f x) (is ∙ h))) (λ n. inr (inr (q, omega (arith, small), omega (arith, small), omega (arith, c.0, small), n))) (empty_or (items_now now after q)) where
      not_add : (a : Serial) (b : ℕ) (c d : List ℕ) (f : Bool) → MovedIn child objects ≡ Add a b f c d → ⊥
      not_add a b c d f x = subst is_move x tt where
        is_move : Entry → Type 0
        is_move (Add by birth added key value) = ⊥
        is_move (Look by birth key hit) = Unit {0}
        is_move (Drop by birth key kind) = Unit {0}
        is_move (Pin by birth key pinned hit) = Unit {0}
        is_move (Scan worker walk asked policy visits freed stopped) = Unit {0}
        is_move (MovedIn c o) = Unit {0}
        is_move Closed = Unit {0}
        is_move (Drained by o) = Unit {0}
grounds shape now after v k Closed sh near childs allowed backed = inl refl
grounds shape now after v k (Drained by objects) sh near childs allowed backed = inl refl

-- the child of a MovedIn, in hand
childs : (shape : Shape) (now : Journals) (after : Histories) (v : View) (k : ℕ) (e : Entry) → ((c : ℕ) → 0 < has_room (beside k c) v.holding → c < 256 → ((in_hand v (beside k c)).entries ≡ now (beside k c)) × ((in_hand v (beside k c)).items ≡ items_now now after (beside k c)))
    → IsShape shape → IsAllowed shape.parents.items (group_of k) (in_hand v k).entries e → IsBacked shape v k e
    → (c objects : ℕ) → e ≡ MovedIn c objects → ((in_hand v (beside k c)).items ≡ items_now now after (beside k c)) × (0 < has_room (beside k c) v.holding) × (is_closed (now (beside k c)) ≡ false)
childs shape now after v k e hand sh allowed backed c objects is = let a = subst (IsAllowed shape.parents.items (group_of k) (in_hand v k).entries) is allowed in let b = subst (IsBacked shape v k) is backed in
    let up = child_above shape.parents.items (group_of k) c sh.tree a.0 in let t = hand c b.1 (omega (arith, up.1, sh.groups)) in (t.1, b.1, ap is_closed (sym t.0) ∙ b.2)

-- what each kind of entry says of the splice under way
unspliced : (shape : Shape) (v : View) (k : ℕ) (e : Entry) → IsBacked shape v k e → (c : ℕ) → v.holding.half ≡ Some c → (k ≢ c) ⊎ (e ≡ Closed)
unspliced shape v k (Add by birth added key value) b c h = inl (b.2 c h).0
unspliced shape v k (Look by birth key hit) b c h = inl (b c h).0
unspliced shape v k (Drop by birth key kind) b c h = inl (b c h).0
unspliced shape v k (Pin by birth key pinned hit) b c h = inl (b c h).0
unspliced shape v k (Scan worker walk asked policy visits freed stopped) b c h = inl (b.1 c h).0
unspliced shape v k (MovedIn child objects) b c h = absurd (not_some c v.holding.half b.0 h)
unspliced shape v k Closed b c h = inr refl
unspliced shape v k (Drained by objects) b c h = inl (b.2 c h).0

beneath : (shape : Shape) (v : View) (k : ℕ) (e : Entry) → IsBacked shape v k e → (c : ℕ) → v.holding.half ≡ Some c → (e ≡ Closed → ⊥) → k ≢ above shape.parents.items c
beneath shape v k (Add by birth added key value) b c h n = (b.2 c h).1
beneath shape v k (Look by birth key hit) b c h n = (b c h).1
beneath shape v k (Drop by birth key kind) b c h n = (b c h).1
beneath shape v k (Pin by birth key pinned hit) b c h n = (b c h).1
beneath shape v k (Scan worker walk asked policy visits freed stopped) b c h n = (b.1 c h).1
beneath shape v k (MovedIn child objects) b c h n = absurd (not_some c v.holding.half b.0 h)
beneath shape v k Closed b c h n = absurd (n refl)
beneath shape v k (Drained by objects) b c h n = (b.2 c h).1

born_of : (shape : Shape) (v : View) (k : ℕ) (e : Entry) → IsBacked shape v k e → IsBornIn (groups_in shape) e
born_of shape v k (Add by birth added key value) b = b.1
born_of shape v k (Look by birth key hit) b = tt
born_of shape v k (Drop by birth key kind) b = tt
born_of shape v k (Pin by birth key pinned hit) b = tt
born_of shape v k (Scan worker walk asked policy visits freed stopped) b = tt
born_of shape v k (MovedIn child objects) b = tt
born_of shape v k Closed b = tt
born_of shape v k (Drained by objects) b = tt

-- a seat that owns the id drains its list while it is dying
timely : (shape : Shape) (v : View) (k : ℕ) (e : Entry) (t : Moment) → IsBacked shape v k e → (v.claims.owner ≡ Some (place_id k) → phase_of (place_id k) t.pool % 3 ≡ 2) → IsTimely t (place_id k) e
timely shape v k (Add by birth added key value) t b dying = tt
timely shape v k (Look by birth key hit) t b dying = tt
timely shape v k (Drop by birth key kind) t b dying = tt
timely shape v k (Pin by birth key pinned hit) t b dying = tt
timely shape v k (Scan worker walk asked policy visits freed stopped) t b dying = tt
timely shape v k (MovedIn child objects) t b dying = tt
timely shape v k Closed t b dying = tt
timely shape v k (Drained by objects) t b dying = dying b.0

-- an entry stands in the use of its id, and a Drained out of it
in_use : (shape : Shape) (v : View) (k : ℕ) (e : Entry) (u : Holders) (seat : ℕ) → IsBacked shape v k e → (v.claims.held ≡ Some (place_id k) → 0 < times seat (u (place_id k))) → (v.claims.owner ≡ Some (place_id k) → v.claims.quiet ≡ true → u (place_id k) ≡ []) → IsMadeInUse u seat (place_id k) e
in_use shape v k (Add by birth added key value) u seat b holds quiet = holds b.0
in_use shape v k (Look by birth key hit) u seat b holds quiet = tt
in_use shape v k (Drop by birth key kind) u seat b holds quiet = tt
in_use shape v k (Pin by birth key pinned hit) u seat b holds quiet = tt
in_use shape v k (Scan worker walk asked policy visits freed stopped) u seat b holds quiet = holds b.0
in_use shape v k (MovedIn child objects) u seat b holds quiet = tt
in_use shape v k Closed u seat b holds quiet = tt
in_use shape v k (Drained by objects) u seat b holds quiet = quiet b.0 b.1

splices : (shape : Shape) (v : View) (k : ℕ) (e : Entry) → IsBacked shape v k e → listing.Splice k v.holding.half (half_after v.holding.half k e) e
splices shape v k e b = record {
  closing = λ c h d. ⊎_elim (λ n. absurd (n d)) (λ is. is) (unspliced shape v k e b c h);
  kept = λ n m. kept e n m;
  begun = λ c objects is. ((subst (IsBacked shape v k) is b).0, ap (half_after v.holding.half k) is);
  ended = λ is. (subst (IsBacked shape v k) is b, ap (half_after v.holding.half k) is);
} where
  kept : (x : Entry) → ((c objects : ℕ) → x ≡ MovedIn c objects → ⊥) → (x ≡ Closed → ⊥) → half_after v.holding.half k x ≡ v.holding.half
  kept (Add by birth added key value) n m = refl
  kept (Look by birth key hit) n m = refl
  kept (Drop by birth key kind) n m = refl
  kept (Pin by birth key pinned hit) n m = refl
  kept (Scan worker walk asked policy visits freed stopped) n m = refl
  kept (MovedIn child objects) n m = absurd (n child objects refl)
  kept Closed n m = absurd (m refl)
  kept (Drained by objects) n m = refl

-- the store of a count with one entry more is a step that the rule allows
pub stored : (key : Setting) (n id : ℕ) (m : Sat) (k new : ℕ) (list : Listed) → MayStore key.shape m.0 k list → m.0.standing.gone ≡ false → new ≡ length list.entries * 4294967296 + length list.items
    → Allows (Sound key) n id m (8 * row_in (sizes_of key.shape) k) (λ _. new) (λ _ q. (q ≡ (with_stored m.0 k (last_entry list.entries) list.items, m.1)) × IsLater m.0 k)
stored key n id m k new list may present is-new s o deep me _ =
    let v : View = m.0 in let e : Entry = last_entry list.entries in let w : View = with_stored v k e list.items in let z : Sizes = sizes_of key.shape in let row : ℕ = row_in z k in let i : ℕ = 8 * row in let wide = o.wide in let now : Journals = o.now in let after : Histories = o.after in let q = o.rules in let sh = o.sized.shape in
    let ids : ℕ = key.shape.ids in let near = may.inside.place in let is = inside_is key.shape k may.inside in let c : RoomContent = in_hand v k in
    let at-holding = here s.views id v me holding_of in
    let mine : (r : ℕ) → 0 < has_room r v.holding → IsRoom key.shape r × Fits key.shape now after o.pool r (in_hand v r) = λ r has. rooming.mine (IsRoom key.shape) (locks_in z s.words) (homes_in z s.homes) (IsRoomAtHome key.shape now after o.pool) (Fits key.shape now after o.pool) (map holding_of s.views) q.roomed id r v.holding at-holding has in
    let fits = (mine k may.room).1 in
    -- what is in hand is the journal now
    let held-entries : c.entries ≡ now k = fits.entries near in let held-items : c.items ≡ items_now now after k = fits.items near in
    let len : ℕ = length (now k) in
    let now' : Journals = changed k (c.entries ++ e ∷ []) now in let after' : Histories = recorded k (len + 1) list.items after in
    let at-k = changed_here k (c.entries ++ e ∷ []) now in let others = changed_else k (c.entries ++ e ∷ []) now in
    let grown : now' k ≡ now k ++ e ∷ [] = at-k ∙ ap (λ (x : List Entry). x ++ e ∷ []) held-entries in
    let longer : length (now' k) ≡ len + 1 = ap (λ (l : List Entry). length l) grown ∙ length-append (now k) (e ∷ []) in
    let whole : length list.entries ≡ len + 1 = ap (λ (l : List Entry). length l) may.entries ∙ (length-append c.entries (e ∷ []) ∙ ap (λ (l : List Entry). length l + 1) held-entries) in
    let items-here : items_now now' after' k ≡ list.items = ap (λ (x : ℕ). after' k x) longer ∙ recorded_here k (len + 1) list.items after in
    let items-else : (j : ℕ) → j ≢ k → items_now now' after' j ≡ items_now now after j = λ j ne. recorded_place k (len + 1) list.items after j (length (now' j)) ne ∙ ap (λ (l : List Entry). after j (length l)) (others j ne) in
    let same : (j x : ℕ) → x ≤ length (now j) → after' j x ≡ after j x = λ j x below. dite (ℕ_discrete j k) (λ d. recorded_number k (len + 1) list.items after j x (λ y. omega (arith, y, below, ap (λ z. length (now z)) d))) (λ ne. recorded_place k (len + 1) list.items after j x ne) in
    let count-here : counts_in (sizes_of key.shape) (set s.words i new) k ≡ new = count_here z s.words k new is (omega (arith, wide, inside_low key.shape k may.inside)) in
    let count-else : (j : ℕ) → j ≢ k → counts_in (sizes_of key.shape) (set s.words i new) j ≡ counts_in (sizes_of key.shape) s.words j = count_else z s.words k new is in
    let few : length list.items < 4294967296 = omega (arith, may.few_items, sh.most_items) in
    let old-len : counts_in (sizes_of key.shape) s.words k % 4294967296 ≡ length c.items = omega (arith, (tracing.count_fields key.shape (counts_in (sizes_of key.shape) s.words) now after k q.counted sh.most_items near).1, ap (λ (l : List Object). length l) held-items) in
    let new-len : counts_in (sizes_of key.shape) (set s.words i new) k % 4294967296 ≡ length list.items = omega (arith, count-here, is-new, few) in
    let content : RoomContent = record c { entries = c.entries ++ e ∷ []; items = list.items } in
    let why : (items_now now' after' k ≡ []) ⊎ owning.Grounds now after v.claims k = ⊎_elim
    (λ z. ⊎_elim (λ h. inl (items-here ∙ (may.items ∙ (ap (λ (l : List Object). step (moved_in_hand v k e) l e) (held-items ∙ z) ∙ h)))) (λ g. inr g)
    (grounds key.shape now after v k e sh near (λ child has small. let t = mine (beside k child) has in t.1.items (omega (arith, near, small))) may.stands.allowed may.backed))
    (λ n. inr (inr (k, refl, refl, omega arith, n))) (empty_or (items_now now after k)) in
    let told : listing.Stored key.shape now now' after after' (map holding_of s.views) id k v e list.items (half_after v.holding.half k e) = record {
      tree = sh.tree;
      short = sh.groups;
      at = at-holding;
      alone = λ j u at has. dite (ℕ_discrete j id) (λ x. x) (λ n. absurd (omega (arith, q.roomed.locks k (mine k may.room).0, q.roomed.one k (mine k may.room).0, terms_le (has_room k) (map holding_of s.views) id j v.holding u n at-holding at, may.room, has)));
      group = may.inside.group;
      grows = grown;
      others = others;
      same = same;
      new = recorded_here k (len + 1) list.items after;
      stands = subst (λ (l : List Entry). MayStand key.shape.parents.items (group_of k) l e) held-entries may.stands;
      outcome = subst (λ (l : List Object). IsOutcome (moved_in_hand v k e) l e) held-items may.outcome;
      left = may.items ∙ ap (λ (l : List Object). step (moved_in_hand v k e) l e) held-items;
      child = childs key.shape now after v k e (λ c has small. let t = mine (beside k c) has in (t.1.entries (omega (arith, near, small)), t.1.items (omega (arith, near, small)))) sh may.stands.allowed may.backed;
      born = born_of key.shape v k e may.backed;
      splice = splices key.shape v k e may.backed;
      unspliced = unspliced key.shape v k e may.backed;
      beneath = beneath key.shape v k e may.backed;
      has = may.room;
    } in (
      w,
      keeps,
      tt,
      on_count key s o id w present (o.ended id v me) row new now' after' (ordering.makes key.shape.ids key.first_lookup o.now o.pool (bits_in (sizes_of key.shape) s.words) (looks_in s.words) s.views id v me present o.ordered now' w (record { place = k; number = length c.entries; entry = e; items = c.items }) refl refl refl (ap (λ (l : List Entry). length l) held-entries) grown others
          (λ t pool. timely key.shape v k e t may.backed (λ own. ap (λ (l : List PoolEntry). phase_of (place_id k) l % 3) pool ∙ (q.owned.owner id v.claims (here s.views id v me claims_of) (place_id k) own).dying))
          (in_use key.shape v k e (last_users o.ordered.line) id may.backed (ordering.uses_it ids key.first_lookup o.now o.pool (bits_in (sizes_of key.shape) s.words) (looks_in s.words) s.views id v me present o.ordered (place_id k))
          (λ own quiet. ordering.unused ids key.first_lookup o.now o.pool (bits_in (sizes_of key.shape) s.words) (looks_in s.words) s.views id v me present o.ordered (place_id k) ((q.owned.owner id v.claims (here s.views id v me claims_of) (place_id k) own).quiet quiet)))) record {
            counted = record {
              is = λ j inside. dite (ℕ_discrete j k)
                  (λ d. subst (λ (x : ℕ). counts_in (sizes_of key.shape) (set s.words i new) x ≡ length (now' x) * 4294967296 + length (items_now now' after' x)) (sym d) (omega (arith, count-here, is-new, whole, longer, ap (λ (l : List Object). length l) items-here)))
                  (λ ne. omega (arith, count-else j ne, q.counted.is j inside, ap (λ (l : List Entry). length l) (others j ne), ap (λ (l : List Object). length l) (items-else j ne)));
              items = λ j. dite (ℕ_discrete j k)
                  (λ d. subst (λ (x : ℕ). length (items_now now' after' x) ≤ key.shape.most_items) (sym d) (omega (arith, may.few_items, ap (λ (l : List Object). length l) items-here)))
                  (λ ne. omega (arith, q.counted.items j, ap (λ (l : List Object). length l) (items-else j ne)));
              entries = λ j. dite (ℕ_discrete j k)
                  (λ d. subst (λ (x : ℕ). length (now' x) ≤ key.shape.most_entries + 1) (sym d) (omega (arith, may.few_entries, whole, longer)))
                  (λ ne. omega (arith, q.counted.entries j, ap (λ (l : List Entry). length l) (others j ne)));
              placed = λ j some. dite (ℕ_discrete j k) (λ d. subst (IsInside key.shape) (sym d) may.inside) (λ ne. q.counted.placed j (omega (arith, some, ap (λ (l : List Entry). length l) (others j ne))));
            };
            roomed = rooming.refits (IsRoom key.shape) (locks_in z s.words) (homes_in z s.homes) (IsRoomAtHome key.shape now after o.pool) (IsRoomAtHome key.shape now' after' o.pool) (Fits key.shape now after o.pool) (Fits key.shape now' after' o.pool) (map holding_of s.views) id k (half_after v.holding.half k e) v.holding content at-holding may.room
                (record { entries = λ l. sym at-k; items = λ l. sym items-here; most_items = fits.most_items; most_entries = fits.most_entries; turns = fits.turns })
                (λ x d ne fit. record { entries = λ l. fit.entries l ∙ sym (others x ne); items = λ l. fit.items l ∙ sym (items-else x ne); most_items = fit.most_items; most_entries = fit.most_entries; turns = fit.turns })
                (λ x d ne kept. record { fits = record { entries = λ l. kept.fits.entries l ∙ sym (others x ne); items = λ l. kept.fits.items l ∙ sym (items-else x ne); most_items = kept.fits.most_items; most_entries = kept.fits.most_entries; turns = kept.fits.turns }; spare = kept.spare }) q.roomed;
            listed = listing.stores key.shape now now' after after' (map holding_of s.views) id k v e list.items (half_after v.holding.half k e) told q.listed w.holding refl (λ r. rooming.content_rooms k r content v.holding.hands);
            traced = subst (λ (x : List Entry). AreTraces now' after' (set (map traces_of s.views) id (record v.traces { made = v.traces.made ++ record { place = k; number = length x; entry = e; items = c.items } ∷ [] }))) (sym held-entries)
                (tracing.makes now now' after after' (map traces_of s.views) id k v.traces e c.items (here s.views id v me traces_of) grown others same held-items q.traced);
            marked = marking.stores ids (counts_in (sizes_of key.shape) s.words) (counts_in (sizes_of key.shape) (set s.words i new)) (bits_in (sizes_of key.shape) s.words) (phases o.pool) (map marks_of s.views) id k v.marks (owed_after k (length c.items) (length list.items) v.marks.owed) (here s.views id v me marks_of) count-else
                (owes_more k (length c.items) (length list.items) v.marks.owed) (λ g z l. owes_risen k (length c.items) (length list.items) v.marks.owed (omega (arith, old-len, z)) (omega (arith, new-len, l)) g) q.marked;
            looked = lookups_stay key s o id v me;
            owned = still s.views id v me claims_of (AreOwned key.shape now' after' o.pool)
                (owning.stores key.shape now now' after after' o.pool (map claims_of s.views) id k v.claims (here s.views id v me claims_of) may.inside sh.nodes items-else
                (λ h. (q.looked.held id v.claims (here s.views id v me claims_of) (place_id k) h).busy) why q.owned);
            turned = turns_stay key s o id v me;
            dated = dated_stay key s o id v me;
            seated = seats_stay key s o id v me;
          },
      (refl, λ j x f place. omega (arith, (q.traced.seen id v.traces (here s.views id v me traces_of) j x f).0, ap (λ (y : ℕ). length (o.now y)) place, ap (λ (l : List Entry). length l) held-entries)),
    )
