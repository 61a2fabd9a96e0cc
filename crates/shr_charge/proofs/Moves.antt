-- SPDX-License-Identifier: GPL-2.0-only
-- Each step on a word keeps the rule, and what it tells.
use Rattle.shr_charge.proofs.Common.{◌≡◌, ◌≢◌, ℕ, ◌+◌, ◌*◌, ◌^◌, ◌%◌, ◌/◌, ◌-◌, ◌<◌, ◌≤◌, ◌⊎◌, inl, inr, ⊎_elim, Bool, true, false, not, ◌||◌, eqb, cond, List, [], ◌∷◌, ◌++◌, map, set, get_or, length, sym, refl, ap, subst, ◌∙◌, arith, get_or-set_same, get_or-set_other, sum_by, Some, None, Option, sum_by_push, All-weaker, some, get_elem?, State, Allows, at_map, set_again, Kept, Serial, UseStep, TreeEntry, ups, downs, Hierarchy, is_later, begin_of, made_of, is_made, MayBegin, MayBeMade, MayBeDone, IsTreeJournal, is_some, cases_Bool, hierarchy_of, GroupState, Online, Offline, NotMade, View, Shape, Uses, TreeView, both_uses, one_use, usage_word, op_of, grown, IsPaced, StandsInHistory, IsLaterThan, begun_state, state_at, state_word, opens, WasState, IsNamed, IsTreeSeen, IsHome, IsOfflined, with_load, with_tree_hand, with_tree_given, with_begin, with_made, with_done, IsChargeSound, usage_index, group_index, usage_in, group_in, lock_in, uses_in, tree_in, ChargeSat, with_tree, state_in, IsWord, Shows, TakesTreeRoom, TellsUse, set-get_or, All-contains, none, Act, Valid, keeps, gives, takes, stepped, carried_after, exchanged, set_here, is_there}
use prog.Atomic.{either}
use Rattle.shr_base.specs.declared.journals.TreeEntry.TheVariants.{Begin, Done, Made as MadeEntry}
use Rattle.shr_charge.proofs.Frames.{on_use, on_tree}
use Rattle.shr_charge.proofs.Numbering.{op_next, used_more, later_than}
use Rattle.shr_charge.proofs.Pacing.{ups_few, downs_few}
use Rattle.shr_charge.proofs.Journaling as journaling
use Rattle.shr_charge.proofs.Journaling.{offlined_words, state_made}
use Rattle.shr_charge.proofs.Entries.{begin_grows, begin_below, is_made_grows, begun_made, not_same}
use Rattle.shr_charge.proofs.States.{offline_begun}

-- One operation of the group g, which makes its usage word `new`.
module _ (k : Shape) (id : ℕ) (m : ChargeSat) (g : ℕ) (low : g < length k.parents.items) (here : m.0.standing.gone ≡ false) (by : Serial) (c d : ℕ) (up : Bool) (paced : (w : ℕ) → IsPaced (both_uses m.0.uses (one_use (op_of g by up w) c d)))
    (s : State (Kept TreeEntry) View) (o : IsChargeSound k s) (me : get_elem? s.views id ≡ some m.0) where
  abbrev word : ℕ
  word = get_or s.words (usage_index g) 0

  abbrev op : UseStep
  op = op_of g by up word

  few-calls : sum_by (λ (u : Uses). u.seats) (map uses_in s.views) ≤ 65
  few-calls = omega (arith, o.calls, o.few)

  high : ups (o.history g) ≤ 2 ^ 21 * 65
  high = omega (arith, o.used.up g, ups_few (map uses_in s.views) few-calls o.paced g)

  deep : downs (o.history g) ≤ (2 ^ 21 + 2 ^ 25) * 65
  deep = omega (arith, o.used.down g, downs_few (map uses_in s.views) few-calls o.paced g)

  used : (new : ℕ) → new ≡ usage_word (o.history g ++ op ∷ []) → IsChargeSound k record { words = set s.words (usage_index g) new; homes = s.homes; views = set s.views id (record m.0 { uses = both_uses m.0.uses (one_use op c d) }) }
  used new is = let groups : ℕ = length k.parents.items in let i : ℕ = usage_index g in let wide = o.wide in
      let next = op_next g by up word (o.history g) (o.used.words g low) (omega (arith, deep)) in
      on_use k s o id m.0 me here g new (both_uses m.0.uses (one_use op c d)) (grown o.history op)
      (used_more groups (usage_in s.words) (usage_in (set s.words i new)) o.history (map uses_in s.views) id m.0.uses (at_map uses_in s.views id m.0 me) o.used op c d next
      (get_or-set_same s.words i new 0 (omega (arith, wide, low)) ∙ is)
      (λ j near apart. get_or-set_other s.words i (usage_index j) new 0 (λ e. apart (omega (arith, e)))))
      (paced word) (let e : m.0.uses.seats + 0 ≡ m.0.uses.seats = omega arith in e)

-- the number of an operation that finds the word of such a history has 32 bits
narrow : (word : ℕ) (history : List UseStep) → word ≡ usage_word history → ups history ≤ 2 ^ 21 * 65 → downs history ≤ (2 ^ 21 + 2 ^ 25) * 65 → word / 2 ^ 32 + word % 2 ^ 32 < 2 ^ 32
narrow word history is high deep = omega (arith, is, high, deep)

module _ (k : Shape) (slots id : ℕ) (m : ChargeSat) (g : ℕ) (low : g < length k.parents.items) (here : m.0.standing.gone ≡ false) (by : Serial) (c d : ℕ) where
  -- the addition of an up is a step that the rule allows
  pub charges : ((w : ℕ) → IsPaced (both_uses m.0.uses (one_use (op_of g by true w) c d))) → Allows (IsChargeSound k) slots id m (usage_index g) (λ y. (y + 2 ^ 32) % 2 ^ 64) (λ w r. TellsUse m (op_of g by true w) c d r)
  charges paced s o deep-homes me fits = let w : ℕ = get_or s.words (usage_index g) 0 in let h = o.history g in
      let a = high k id m g low here by c d true paced s o me in let b = deep k id m g low here by c d true paced s o me in
      let p = sum_by_push (λ (x : UseStep). cond x.up 1 0) h (op_of g by true w) in let q = sum_by_push (λ (x : UseStep). cond (not x.up) 1 0) h (op_of g by true w) in let is = o.used.words g low in (
        record m.0 { uses = both_uses m.0.uses (one_use (op_of g by true w) c d) },
        keeps,
        tt,
        used k id m g low here by c d true paced s o me ((w + 2 ^ 32) % 2 ^ 64) (omega (arith, a, b, p, q, is)),
        (refl, All-weaker (StandsInHistory o.history) (IsLaterThan (op_of g by true w)) (λ x there. later_than o.history (op_of g by true w) (op_next g by true w h is (omega (arith, b))) x there) m.0.uses.ops (o.used.there id m.0.uses (at_map uses_in s.views id m.0 me)), narrow w h is a b),
      )

  -- the addition of a down is a step that the rule allows
  pub uncharges : ((w : ℕ) → IsPaced (both_uses m.0.uses (one_use (op_of g by false w) c d))) → Allows (IsChargeSound k) slots id m (usage_index g) (λ y. (y + 1) % 2 ^ 64) (λ w r. TellsUse m (op_of g by false w) c d r)
  uncharges paced s o deep-homes me fits = let w : ℕ = get_or s.words (usage_index g) 0 in let h = o.history g in
      let a = high k id m g low here by c d false paced s o me in let b = deep k id m g low here by c d false paced s o me in
      let p = sum_by_push (λ (x : UseStep). cond x.up 1 0) h (op_of g by false w) in let q = sum_by_push (λ (x : UseStep). cond (not x.up) 1 0) h (op_of g by false w) in let is = o.used.words g low in (
        record m.0 { uses = both_uses m.0.uses (one_use (op_of g by false w) c d) },
        keeps,
        tt,
        used k id m g low here by c d false paced s o me ((w + 1) % 2 ^ 64) (omega (arith, a, b, p, q, is)),
        (refl, All-weaker (StandsInHistory o.history) (IsLaterThan (op_of g by false w)) (λ x there. later_than o.history (op_of g by false w) (op_next g by false w h is (omega (arith, b))) x there) m.0.uses.ops (o.used.there id m.0.uses (at_map uses_in s.views id m.0 me)), narrow w h is a b),
      )

-- the word of a state that names no entry from n on: it tells that state
bounded : (n : ℕ) (x : GroupState) → n ≤ 768 → ((e : ℕ) → x ≡ Offline e → e < n) → ((state_word x ≡ 2 ^ 63) ⊎ (state_word x ≤ n)) × (state_in (state_word x) ≡ x)
bounded n Online few h = (inr (omega arith), refl)
bounded n (Offline e) few h = let low = h e refl in (
  inr (omega (arith, low)),
  ap {B = GroupState} (λ b. cond b Online (cond (eqb (e + 1) (2 ^ 63)) NotMade (Offline (e + 1 - 1)))) (not_same (e + 1) 0 (λ z. omega (arith, z)))
      ∙ (ap {B = GroupState} (λ b. cond b NotMade (Offline (e + 1 - 1))) (not_same (e + 1) (2 ^ 63) (λ z. omega (arith, z, low, few)))
      ∙ ap Offline (let z : e + 1 - 1 ≡ e = omega arith in z)),
)
bounded n NotMade few h = (inl refl, refl)

there_begun : (x : Option ℕ) → is_there (begun_state x) ≡ true
there_begun None = refl
there_begun (Some e) = refl

-- what a group word tells, by the journal
module _ (h : Hierarchy) (journal : List TreeEntry) (g : ℕ) (legal : IsTreeJournal h journal) where
  there_at : is_made h journal g ≡ true → is_there (state_at h journal g) ≡ true
  there_at made = ap is_there (state_made h journal g (begin_of journal g) made refl) ∙ there_begun (begin_of journal g)

  met_at : (x : GroupState) → is_there x ≡ true → WasState h journal g x → is_there (state_at h journal g) ≡ true
  met_at Online t w = there_at w
  met_at (Offline e) t w = there_at w.0
  met_at NotMade t w = absurd (let c : false ≡ true = t in cc)

  late_at : state_at h journal g ≡ NotMade → is_later h.later g ≡ true
  late_at is = ⊎_elim
      (λ (t : is_later h.later g ≡ true). t)
      (λ (f : is_later h.later g ≡ false). let made : is_made h journal g ≡ true = ap {B = Bool} (λ b. not b || is_some (made_of journal g)) f in let no : false ≡ true = ap is_there (sym is) ∙ there_at made in cc)
      (cases_Bool (is_later h.later g))

  shows_at : (t : TreeView) → IsTreeSeen h journal t → Shows h t g (state_at h journal g)
  shows_at t seen = let same : t.known ++ seen.known.0 ≡ journal = sym seen.known.1 in record {
    known = λ e known. let is : begin_of journal g ≡ Some e = ap (λ (l : List TreeEntry). begin_of l g) seen.known.1 ∙ begin_grows t.known g seen.known.0 e known in state_made h journal g (Some e) (begun_made h journal g e legal is) is;
    loaded = λ e has. let w = All-contains (IsNamed h journal) t.loaded (record { group = g; state = Offline e }) seen.loaded has in state_made h journal g (Some e) w.0 w.1;
    made = λ made. there_at (subst (λ (l : List TreeEntry). is_made h l g ≡ true) same (is_made_grows h t.known seen.known.0 g made));
    met = λ before there has. met_at before there (All-contains (IsNamed h journal) t.loaded (record { group = g; state = before }) seen.loaded has);
    late = late_at;
  }

-- a group word that isn't a usage word
apart_group : (g h : ℕ) → usage_index h ≢ group_index g
apart_group g h e = absurd (omega (arith, e))

apart_lock : (h : ℕ) → usage_index h ≢ 0
apart_lock h e = absurd (omega (arith, e))

module _ (k : Shape) (slots id : ℕ) (m : ChargeSat) (here : m.0.standing.gone ≡ false) where
  -- a loaded group word tells the state by the journal
  told : (g : ℕ) → g < length k.parents.items → length k.parents.items ≤ 256 → (s : State (Kept TreeEntry) View) (o : IsChargeSound k s) → get_elem? s.views id ≡ some m.0
      → IsWord (length k.parents.items) (group_in s.words g) × (state_in (group_in s.words g) ≡ state_at (hierarchy_of k) o.journal g)
  told g low few s o me = let f = o.offlined in let h : Hierarchy = hierarchy_of k in let t : TreeView = m.0.tree in let is = f.words g low in
      let short = journaling.short h o.journal (group_in s.words) (lock_in s.words) s.homes (map tree_in s.views) id t (at_map tree_in s.views id m.0 me) f in
      let word = bounded (3 * length k.parents.items) (state_at h o.journal g) (omega (arith, few)) (λ e there. let b = begin_below o.journal g e (offline_begun h o.journal g e there) in omega (arith, b, short)) in
      (subst (λ (x : ℕ). IsWord (length k.parents.items) x) (sym is) word.0, ap state_in is ∙ word.1)

  -- a group word is loaded by the seat that has the room in hand
  pub reads : (g : ℕ) → g < length k.parents.items → length k.parents.items ≤ 256 → m.0.tree.in_hand ≡ true → Allows (IsChargeSound k) slots id m (group_index g) (λ y. y) (λ w r. (r ≡ m) × (state_in w ≡ state_at (hierarchy_of k) m.0.tree.hand g) × IsWord (length k.parents.items) w)
  reads g low few has s o _ me fits = let v : View = m.0 in let t : TreeView = v.tree in let i : ℕ = group_index g in let w : ℕ = get_or s.words i 0 in let f = o.offlined in let h : Hierarchy = hierarchy_of k in
      let at = at_map tree_in s.views id v me in let same = set-get_or s.words i 0 in let seen = f.seen id t at in let tells = told g low few s o me in (
        v,
        keeps,
        tt,
        on_tree k s o id v me here i w (apart_group g) s.homes t o.journal
            (offlined_words h o.journal (group_in s.words) (group_in (set s.words i w)) (lock_in s.words) (lock_in (set s.words i w)) s.homes (set (map tree_in s.views) id t)
            (λ j near. ap (λ (l : List ℕ). get_or l (group_index j) 0) same) (ap (λ (l : List ℕ). get_or l 0 0) same)
            (subst (IsOfflined h o.journal (group_in s.words) (lock_in s.words) s.homes) (sym (set_again (map tree_in s.views) id t at)) f)),
        (
          refl,
          tells.1 ∙ ap (λ (l : List TreeEntry). state_at h l g) (sym (seen.hand has)),
          tells.0,
        ),
      )

  -- a group word is loaded
  pub loads : (g : ℕ) → g < length k.parents.items → length k.parents.items ≤ 256 → Allows (IsChargeSound k) slots id m (group_index g) (λ y. y) (λ w r. (r ≡ with_tree m (with_load m.0.tree g (state_in w))) × Shows (hierarchy_of k) m.0.tree g (state_in w) × IsWord (length k.parents.items) w)
  loads g low few s o _ me fits = let v : View = m.0 in let t : TreeView = v.tree in let i : ℕ = group_index g in let w : ℕ = get_or s.words i 0 in let f = o.offlined in let h : Hierarchy = hierarchy_of k in
      let at = at_map tree_in s.views id v me in let same = set-get_or s.words i 0 in let seen = f.seen id t at in let tells = told g low few s o me in
      let state : state_in w ≡ state_at h o.journal g = tells.1 in (
        record v { tree = with_load t g (state_in w) },
        keeps,
        tt,
        on_tree k s o id v me here i w (apart_group g) s.homes (with_load t g (state_in w)) o.journal
            (offlined_words h o.journal (group_in s.words) (group_in (set s.words i w)) (lock_in s.words) (lock_in (set s.words i w)) s.homes (set (map tree_in s.views) id (with_load t g (state_in w)))
            (λ j near. ap (λ (l : List ℕ). get_or l (group_index j) 0) same) (ap (λ (l : List ℕ). get_or l 0 0) same)
            (subst (λ (x : GroupState). IsOfflined h o.journal (group_in s.words) (lock_in s.words) s.homes (set (map tree_in s.views) id (with_load t g x))) (sym state)
            (journaling.loads h o.journal (group_in s.words) (lock_in s.words) s.homes (map tree_in s.views) id t at f g low))),
        (refl, subst (Shows h t g) (sym state) (shows_at h o.journal g f.legal t seen), tells.0),
      )

  -- the room is taken, where the lock word was 0
  pub locks : m.1 ≡ [] → m.0.tree.in_hand ≡ false → Allows (IsChargeSound k) slots id m 0 (λ y. either (eqb y 0) 1 y) (λ n r. (n ≡ 0 → TakesTreeRoom (hierarchy_of k) m r) × (n ≢ 0 → r ≡ m))
  locks bare out s o deep me fits = let v : View = m.0 in let t : TreeView = v.tree in let n : ℕ = lock_in s.words in let f = o.offlined in let at = at_map tree_in s.views id v me in let wide = o.wide in let ps = hierarchy_of k in
      exchanged n 0 1 (λ y. (w : View) × (a : Act (Kept TreeEntry)) × Valid s.homes m.1 a × IsChargeSound k (stepped s 0 y id m.1 w a) × ((n ≡ 0 → TakesTreeRoom ps m (w, carried_after m.1 a)) × (n ≢ 0 → (w, carried_after m.1 a) ≡ m)))
      (λ free. let home = f.home free in let room = home.0 in let is = home.2.items in (
        record v { tree = with_tree_hand t room.items },
        takes 0 room,
        home.1,
        on_tree k s o id v me here 0 1 apart_lock (set s.homes 0 none) (with_tree_hand t room.items) o.journal
            (offlined_words ps o.journal (group_in s.words) (group_in (set s.words 0 1)) 1 (lock_in (set s.words 0 1)) (set s.homes 0 none) (set (map tree_in s.views) id (with_tree_hand t room.items))
            (λ h near. get_or-set_other s.words 0 (group_index h) 1 0 (λ e. absurd (omega (arith, e)))) (get_or-set_same s.words 0 1 0 (omega (arith, wide)))
            (subst (λ (l : List TreeEntry). IsOfflined ps o.journal (group_in s.words) 1 (set s.homes 0 none) (set (map tree_in s.views) id (with_tree_hand t l))) (sym is)
            (journaling.takes ps o.journal (group_in s.words) n s.homes (map tree_in s.views) id t at f (set s.homes 0 none) free out))),
        (
          (λ _. record {
            room = room;
            seat = ap (λ (l : List (ℕ × Kept TreeEntry)). (record v { tree = with_tree_hand t room.items }, (0, room) ∷ l)) bare;
            legal = subst (IsTreeJournal ps) (sym is) f.legal;
            seen = subst (λ (l : List TreeEntry). IsTreeSeen ps l t) (sym is) (f.seen id t at);
            spare = let a = ap (opens (length ps.parents)) is in let b = home.2.spare in omega (arith, a, b);
            short = let a = ap (length {A = TreeEntry}) is in let b = journaling.short ps o.journal (group_in s.words) n s.homes (map tree_in s.views) id t at f in omega (arith, a, b);
          }),
          (λ ne. absurd (ne free)),
        ),
      ))
      (λ held. (
        v,
        keeps,
        tt,
        on_tree k s o id v me here 0 n apart_lock s.homes t o.journal
            (offlined_words ps o.journal (group_in s.words) (group_in (set s.words 0 n)) n (lock_in (set s.words 0 n)) s.homes (set (map tree_in s.views) id t)
            (λ h near. get_or-set_other s.words 0 (group_index h) n 0 (λ e. absurd (omega (arith, e)))) (get_or-set_same s.words 0 n 0 (omega (arith, wide)))
            (subst (IsOfflined ps o.journal (group_in s.words) n s.homes) (sym (set_again (map tree_in s.views) id t at)) f)),
        ((λ free. absurd (held free)), (λ _. refl)),
      ))

  -- the Begin of a group is stored
  pub begins : (g new : ℕ) → m.0.tree.in_hand ≡ true → MayBegin (hierarchy_of k) m.0.tree.hand g → new ≡ length m.0.tree.hand + 1 → Allows (IsChargeSound k) slots id m (group_index g) (λ _. new) (λ _ r. r ≡ with_tree m (with_begin m.0.tree g))
  begins g new has may is s o deep me fits = let v : View = m.0 in let t : TreeView = v.tree in let i : ℕ = group_index g in let f = o.offlined in let at = at_map tree_in s.views id v me in let wide = o.wide in let ps = hierarchy_of k in let there = may.there in (
    record v { tree = with_begin t g },
    keeps,
    tt,
    on_tree k s o id v me here i new (apart_group g) s.homes (with_begin t g) (o.journal ++ Begin g ∷ [])
        (offlined_words ps (o.journal ++ Begin g ∷ []) (group_in (set s.words i new)) (group_in (set s.words i new)) (lock_in s.words) (lock_in (set s.words i new)) s.homes (set (map tree_in s.views) id (with_begin t g))
        (λ h near. refl) (get_or-set_other s.words i 0 new 0 (λ e. absurd (omega (arith, e))))
        (journaling.begins ps o.journal (group_in s.words) (lock_in s.words) s.homes (map tree_in s.views) id t at f (group_in (set s.words i new)) g has may
        (get_or-set_same s.words i new 0 (omega (arith, wide, there)) ∙ is) (λ h near apart. get_or-set_other s.words i (group_index h) new 0 (λ e. apart (omega (arith, e)))))),
    refl,
  )

  -- the Made of a group is stored
  pub makes : (g : ℕ) → m.0.tree.in_hand ≡ true → MayBeMade (hierarchy_of k) m.0.tree.hand g → Allows (IsChargeSound k) slots id m (group_index g) (λ _. 0) (λ _ r. r ≡ with_tree m (with_made m.0.tree g))
  makes g has may s o deep me fits = let v : View = m.0 in let t : TreeView = v.tree in let i : ℕ = group_index g in let f = o.offlined in let at = at_map tree_in s.views id v me in let wide = o.wide in let ps = hierarchy_of k in let there = may.there in (
    record v { tree = with_made t g },
    keeps,
    tt,
    on_tree k s o id v me here i 0 (apart_group g) s.homes (with_made t g) (o.journal ++ MadeEntry g ∷ [])
        (offlined_words ps (o.journal ++ MadeEntry g ∷ []) (group_in (set s.words i 0)) (group_in (set s.words i 0)) (lock_in s.words) (lock_in (set s.words i 0)) s.homes (set (map tree_in s.views) id (with_made t g))
        (λ h near. refl) (get_or-set_other s.words i 0 0 0 (λ e. absurd (omega (arith, e))))
        (journaling.makes ps o.journal (group_in s.words) (lock_in s.words) s.homes (map tree_in s.views) id t at f (group_in (set s.words i 0)) g has may
        (get_or-set_same s.words i 0 0 (omega (arith, wide, there))) (λ h near apart. get_or-set_other s.words i (group_index h) 0 0 (λ e. apart (omega (arith, e)))))),
    refl,
  )

-- the room is given back, from a seat with the slot
module _ (k : Shape) (slots id : ℕ) (one : slots ≡ 1) (v : View) (here : v.standing.gone ≡ false) (has : v.tree.in_hand ≡ true) (content : Kept TreeEntry) where
  -- the store that frees the lock word is a step that the rule allows
  pub gives_back : IsHome (length k.parents.items) v.tree.hand content → Allows (IsChargeSound k) slots id (v, (0, content) ∷ []) 0 (λ _. 0) (λ _ r. r ≡ (record v { tree = with_tree_given v.tree }, []))
  gives_back fits-home s o deep me fits = let t : TreeView = v.tree in let f = o.offlined in let at = at_map tree_in s.views id v me in let wide = o.wide in let ps = hierarchy_of k in (
    record v { tree = with_tree_given t },
    gives,
    tt,
    on_tree k s o id v me here 0 0 apart_lock (set s.homes 0 (some content)) (with_tree_given t) o.journal
        (offlined_words ps o.journal (group_in s.words) (group_in (set s.words 0 0)) 0 (lock_in (set s.words 0 0)) (set s.homes 0 (some content)) (set (map tree_in s.views) id (with_tree_given t))
        (λ h near. get_or-set_other s.words 0 (group_index h) 0 0 (λ e. absurd (omega (arith, e)))) (get_or-set_same s.words 0 0 0 (omega (arith, wide)))
        (journaling.gives ps o.journal (group_in s.words) (lock_in s.words) s.homes (map tree_in s.views) id t at f (set s.homes 0 (some content)) content has (set_here s.homes 0 (some content) (omega (arith, deep, one))) fits-home)),
    refl,
  )

  -- the same, with a Done more in the room
  pub gives_done : (g : ℕ) → g < length k.parents.items → MayBeDone v.tree.hand g → (b : ℕ) → begin_of v.tree.hand g ≡ Some b → IsHome (length k.parents.items) (v.tree.hand ++ Done g ∷ []) content
      → Allows (IsChargeSound k) slots id (v, (0, content) ∷ []) 0 (λ _. 0) (λ _ r. r ≡ (record v { tree = with_done v.tree g }, []))
  gives_done g low may b begun fits-home s o deep me fits = let t : TreeView = v.tree in let f = o.offlined in let at = at_map tree_in s.views id v me in let wide = o.wide in let ps = hierarchy_of k in (
    record v { tree = with_done t g },
    gives,
    tt,
    on_tree k s o id v me here 0 0 apart_lock (set s.homes 0 (some content)) (with_done t g) (o.journal ++ Done g ∷ [])
        (offlined_words ps (o.journal ++ Done g ∷ []) (group_in s.words) (group_in (set s.words 0 0)) 0 (lock_in (set s.words 0 0)) (set s.homes 0 (some content)) (set (map tree_in s.views) id (with_done t g))
        (λ h near. get_or-set_other s.words 0 (group_index h) 0 0 (λ e. absurd (omega (arith, e)))) (get_or-set_same s.words 0 0 0 (omega (arith, wide)))
        (journaling.ends ps o.journal (group_in s.words) (lock_in s.words) s.homes (map tree_in s.views) id t at f (set s.homes 0 (some content)) content g has low may b begun (set_here s.homes 0 (some content) (omega (arith, deep, one))) fits-home)),
    refl,
  )
