-- SPDX-License-Identifier: GPL-2.0-only
-- The group words, the room and the journal under each step of one seat, on plain data.
use Rattle.shr_charge.proofs.Common.{◌≡◌, ℕ, ◌+◌, ◌*◌, ◌<◌, ◌≤◌, ◌≢◌, Bool, true, false, not, ◌||◌, eqb, ltb, cond, List, [], ◌∷◌, ◌++◌, length, set, sym, refl, ap, subst, ◌∙◌, ⊎_elim, arith, length-append, append_assoc, eq-eqb, Option, Some, None, sum_by, All, cases_Bool, eqb-true, append-nil, sum_by_push, sum_by-append, All-push, All-append, All-weaker, All-nil, some, get_elem?, Kept, TreeEntry, is_some, Hierarchy, is_later, begin_of, made_of, is_made, MayBegin, MayBeMade, MayBeDone, MayFollow, IsTreeJournal, GroupState, Online, Offline, NotMade, Each, sum_by-changed, sum_by-joined, sum_by-more, Each-set, Each-push, TreeView, no_tree, IsPrefix, begun_state, state_at, state_word, WasState, count_of_entries, times_noted, IsTreeEntryMade, IsNamed, IsTreeSeen, IsHome, IsOfflined, with_load, with_tree_hand, with_tree_given, with_begin, with_made, with_done, joined_tree, All-cons, at_set, term_le, terms_le, IsHeard}
use Rattle.shr_base.specs.declared.journals.TreeEntry.TheVariants.{Begin, Done, Made as MadeEntry}
use Rattle.shr_charge.specs.Views.{TreeMade, LoadedState}
use Rattle.shr_charge.proofs.Listing.{get_longer, get_last, stands_push}
use Rattle.shr_charge.proofs.Entries.{begin_new, begin_other, begin_past_done, begin_past_made, begin_grows, made_new, made_other, made_past_begin, made_past_done, is_made_grows, begun_made, sum_small, entries_small, entries_begin, entries_done, entries_made}
use Rattle.shr_model.proofs.Numbers.{below_more}

abbrev Homes : Type 0
Homes = List (mathlib.Core.Option.Option (Kept TreeEntry))

in_one : (t : TreeView) → t.in_hand ≡ true → ◌≡◌ {A = ℕ} (cond t.in_hand 1 0) 1
in_one t e = ap (λ b. cond b 1 0) e

in_none : (t : TreeView) → t.in_hand ≡ false → ◌≡◌ {A = ℕ} (cond t.in_hand 1 0) 0
in_none t e = ap (λ b. cond b 1 0) e

none_in : (t : TreeView) → ◌≡◌ {A = ℕ} (cond t.in_hand 1 0) 0 → t.in_hand ≡ false
none_in t e = ⊎_elim (λ h. absurd (omega (arith, in_one t h, e))) (λ f. f) (cases_Bool t.in_hand)

eqb_apart : (a b : ℕ) → eqb a b ≡ false → a ≡ b → ⊥
eqb_apart a b f e = let t = eq-eqb a b e in let c : true ≡ false = sym t ∙ f in cc

-- the state by the journal is so of it
was_begun : (h : Hierarchy) (journal : List TreeEntry) (g : ℕ) → is_made h journal g ≡ true → (x : Option ℕ) → begin_of journal g ≡ x → WasState h journal g (begun_state x)
was_begun h journal g made None e = made
was_begun h journal g made (Some n) e = (made, e)

pub was_state : (h : Hierarchy) (journal : List TreeEntry) (g : ℕ) → WasState h journal g (state_at h journal g)
was_state h journal g = ⊎_elim
    (λ (t : is_made h journal g ≡ true). subst (WasState h journal g) (sym (ap (λ b. cond b (begun_state (begin_of journal g)) NotMade) t)) (was_begun h journal g t (begin_of journal g) refl))
    (λ (f : is_made h journal g ≡ false). subst (WasState h journal g) (sym (ap (λ b. cond b (begun_state (begin_of journal g)) NotMade) f)) tt)
    (cases_Bool (is_made h journal g))

-- the state of a group that an entry doesn't touch
pub state_same : (h : Hierarchy) (es fs : List TreeEntry) (g : ℕ) → made_of fs g ≡ made_of es g → begin_of fs g ≡ begin_of es g → state_at h fs g ≡ state_at h es g
state_same h es fs g made begun = ap {B = GroupState} (λ (x : Option ℕ). cond (not (is_later h.later g) || is_some x) (begun_state (begin_of fs g)) NotMade) made ∙ ap {B = GroupState} (λ (x : Option ℕ). cond (is_made h es g) (begun_state x) NotMade) begun

-- the state of a group that is made, by its Begin
pub state_made : (h : Hierarchy) (es : List TreeEntry) (g : ℕ) (x : Option ℕ) → is_made h es g ≡ true → begin_of es g ≡ x → state_at h es g ≡ begun_state x
state_made h es g x made begun = ap {B = GroupState} (λ b. cond b (begun_state (begin_of es g)) NotMade) made ∙ ap begun_state begun

pub prefix_longer : (xs ys : List TreeEntry) (e : TreeEntry) → IsPrefix xs ys → IsPrefix xs (ys ++ e ∷ [])
prefix_longer xs ys e p = (p.0 ++ e ∷ [], ap (λ l. l ++ e ∷ []) p.1 ∙ append_assoc xs p.0 (e ∷ []))

pub prefix_whole : (xs ys : List TreeEntry) → xs ≡ ys → IsPrefix xs ys
prefix_whole xs ys e = ([], sym e ∙ sym (append-nil xs))

-- a group that gained its Made is made
made_now : (h : Hierarchy) (es : List TreeEntry) (g : ℕ) → made_of es g ≡ None → is_made h (es ++ MadeEntry g ∷ []) g ≡ true
made_now h es g once = or_true (not (is_later h.later g)) (is_some (made_of (es ++ MadeEntry g ∷ []) g)) (ap {B = Bool} (λ (x : Option ℕ). is_some x) (made_new es g once))
  where
    or_true : (a b : Bool) → b ≡ true → (a || b) ≡ true
    or_true true b t = refl
    or_true false b t = t

-- a later group that isn't made didn't begin
unmade_online : (h : Hierarchy) (es : List TreeEntry) (g : ℕ) → IsTreeJournal h es → is_later h.later g ≡ true → made_of es g ≡ None → begin_of es g ≡ None
unmade_online h es g legal late none = none_of (begin_of es g) (λ n e. unmade (begun_made h es g n legal e))
  where
    none_of : (x : Option ℕ) → ((n : ℕ) → x ≡ Some n → ⊥) → x ≡ None
    none_of None f = refl
    none_of (Some n) f = absurd (f n refl)

    unmade : is_made h es g ≡ true → ⊥
    unmade t = let f : is_made h es g ≡ false = ap {B = Bool} (λ b. not b || is_some (made_of es g)) late ∙ ap {B = Bool} (λ (x : Option ℕ). is_some x) none in let c : true ≡ false = sym t ∙ f in cc

-- a view's knowledge of a journal that gained an entry, where the view has not the room in hand
module _ (h : Hierarchy) (journal : List TreeEntry) (e : TreeEntry) (grows : (g n : ℕ) → begin_of journal g ≡ Some n → begin_of (journal ++ e ∷ []) g ≡ Some n) where
  was_longer : (g : ℕ) (x : GroupState) → WasState h journal g x → WasState h (journal ++ e ∷ []) g x
  was_longer g Online w = is_made_grows h journal (e ∷ []) g w
  was_longer g (Offline n) w = (is_made_grows h journal (e ∷ []) g w.0, grows g n w.1)
  was_longer g NotMade w = tt

  -- what a word said is so of a longer journal
  pub loaded_longer : (l : List LoadedState) → All (IsNamed h journal) l → All (IsNamed h (journal ++ e ∷ [])) l
  loaded_longer l all = All-weaker (IsNamed h journal) (IsNamed h (journal ++ e ∷ [])) (λ x named. was_longer x.group x.state named) l all

  -- an entry stays where it stands in a longer journal
  pub made_longer : (l : List TreeMade) → All (IsTreeEntryMade journal) l → All (IsTreeEntryMade (journal ++ e ∷ [])) l
  made_longer l all = All-weaker (IsTreeEntryMade journal) (IsTreeEntryMade (journal ++ e ∷ [])) (λ x made. get_longer journal (e ∷ []) x.number x.entry made) l all

  -- what was heard begins a longer journal too
  pub heard_longer : (l : List (List TreeEntry)) → All (IsHeard journal) l → All (IsHeard (journal ++ e ∷ [])) l
  heard_longer l all = All-weaker (IsHeard journal) (IsHeard (journal ++ e ∷ [])) (λ x begins. prefix_longer x journal e begins) l all

  seen_longer : (t : TreeView) → t.in_hand ≡ false → IsTreeSeen h journal t → IsTreeSeen h (journal ++ e ∷ []) t
  seen_longer t out s = record {
    known = prefix_longer t.known journal e s.known;
    heard = heard_longer t.heard s.heard;
    hand = λ b. absurd (let c : true ≡ false = sym b ∙ out in cc);
    loaded = loaded_longer t.loaded s.loaded;
    made = made_longer t.made s.made;
  }

module _ (h : Hierarchy) (journal : List TreeEntry) (word : ℕ → ℕ) (lock : ℕ) (homes : Homes) (trees : List TreeView) (id : ℕ) (t : TreeView) (me : get_elem? trees id ≡ some t) (o : IsOfflined h journal word lock homes trees) where
  -- while a seat has the room in hand no other has
  alone : t.in_hand ≡ true → (j : ℕ) (x : TreeView) → j ≢ id → get_elem? trees j ≡ some x → x.in_hand ≡ false
  alone has j x apart there = none_in x (omega (arith, o.locks, o.one, terms_le (λ (y : TreeView). cond y.in_hand 1 0) trees id j t x apart me there, in_one t has))

  taken : t.in_hand ≡ true → lock ≡ 1
  taken has = omega (arith, o.locks, o.one, term_le (λ (y : TreeView). cond y.in_hand 1 0) trees id t me, in_one t has)

  -- the journal has at most three entries for each group
  pub short : length journal ≤ 3 * length h.parents
  short = omega (arith, o.counted, sum_small (count_of_entries journal) 3 (length h.parents) (entries_small journal))

  -- a group word is loaded
  pub loads : (g : ℕ) → g < length h.parents → IsOfflined h journal word lock homes (set trees id (with_load t g (state_at h journal g)))
  loads g low = let w : TreeView = with_load t g (state_at h journal g) in let s = o.seen id t me in record {
    legal = o.legal;
    counted = o.counted;
    words = o.words;
    locks = omega (arith, o.locks, sum_by-changed (λ (y : TreeView). cond y.in_hand 1 0) trees id t w me);
    one = o.one;
    home = o.home;
    seen = Each-set (IsTreeSeen h journal) trees id w (record {
      known = s.known;
      heard = s.heard;
      hand = s.hand;
      loaded = All-push (IsNamed h journal) t.loaded (record { group = g; state = state_at h journal g }) s.loaded (was_state h journal g);
      made = s.made;
    }) o.seen;
    once = λ n. omega (arith, o.once n, sum_by-changed (λ (y : TreeView). times_noted n y.made) trees id t w me);
  }

  -- the room is taken
  pub takes : (homes' : Homes) → lock ≡ 0 → t.in_hand ≡ false → IsOfflined h journal word 1 homes' (set trees id (with_tree_hand t journal))
  takes homes' free out = let w : TreeView = with_tree_hand t journal in let s = o.seen id t me in record {
    legal = o.legal;
    counted = o.counted;
    words = o.words;
    locks = omega (arith, o.locks, free, in_none t out, sum_by-changed (λ (y : TreeView). cond y.in_hand 1 0) trees id t w me);
    one = omega arith;
    home = λ z. absurd (omega (arith, z));
    seen = Each-set (IsTreeSeen h journal) trees id w (record { known = s.known; heard = s.heard; hand = λ _. refl; loaded = s.loaded; made = s.made }) o.seen;
    once = λ n. omega (arith, o.once n, sum_by-changed (λ (y : TreeView). times_noted n y.made) trees id t w me);
  }

  -- it is given back
  pub gives : (homes' : Homes) (room : Kept TreeEntry) → t.in_hand ≡ true → get_elem? homes' 0 ≡ some (some room) → IsHome (length h.parents) t.hand room → IsOfflined h journal word 0 homes' (set trees id (with_tree_given t))
  gives homes' room has there fits = let w : TreeView = with_tree_given t in let s = o.seen id t me in let is = s.hand has in record {
    legal = o.legal;
    counted = o.counted;
    words = o.words;
    locks = omega (arith, o.locks, taken has, in_one t has, sum_by-changed (λ (y : TreeView). cond y.in_hand 1 0) trees id t w me);
    one = omega arith;
    home = λ _. (room, there, subst (λ (l : List TreeEntry). IsHome (length h.parents) l room) is fits);
    seen = Each-set (IsTreeSeen h journal) trees id w (record { known = prefix_whole t.hand journal is; heard = s.heard; hand = λ b. absurd (let c : true ≡ false = sym b in cc); loaded = s.loaded; made = s.made }) o.seen;
    once = λ n. omega (arith, o.once n, sum_by-changed (λ (y : TreeView). times_noted n y.made) trees id t w me);
  }

  -- the views of a journal that gained an entry, which the seat with the room made
  module _ (e : TreeEntry) (has : t.in_hand ≡ true) (may : MayFollow h journal e) (grows : (g n : ℕ) → begin_of journal g ≡ Some n → begin_of (journal ++ e ∷ []) g ≡ Some n) (w : TreeView)
      (made : w.made ≡ t.made ++ (record { number = length t.hand; entry = e }) ∷ []) (loaded : w.loaded ≡ t.loaded) (known : IsPrefix w.known (journal ++ e ∷ [])) (heard : w.heard ≡ t.heard) (hand : w.in_hand ≡ true → w.hand ≡ journal ++ e ∷ []) where
    number_is : length t.hand ≡ length journal
    number_is = ap (length {A = TreeEntry}) ((o.seen id t me).hand has)

    grown_legal : IsTreeJournal h (journal ++ e ∷ [])
    grown_legal = stands_push (MayFollow h) journal e o.legal may

    grown_seen : Each (IsTreeSeen h (journal ++ e ∷ [])) (set trees id w)
    grown_seen j x there = ⊎_elim
        (λ (g : (j ≡ id) × (w ≡ x)). subst (IsTreeSeen h (journal ++ e ∷ [])) g.1 (record {
          known = known;
          heard = subst (All (IsHeard (journal ++ e ∷ []))) (sym heard) (heard_longer h journal e grows t.heard (o.seen id t me).heard);
          hand = hand;
          loaded = subst (All (IsNamed h (journal ++ e ∷ []))) (sym loaded) (loaded_longer h journal e grows t.loaded (o.seen id t me).loaded);
          made = subst (All (IsTreeEntryMade (journal ++ e ∷ []))) (sym made) (All-push (IsTreeEntryMade (journal ++ e ∷ [])) t.made (record { number = length t.hand; entry = e }) (made_longer h journal e grows t.made (o.seen id t me).made) (get_last journal e (length t.hand) number_is));
        }))
        (λ (g : (j ≢ id) × (get_elem? trees j ≡ some x)). seen_longer h journal e grows x (alone has j x g.0 g.1) (o.seen j x g.1))
        (at_set trees id j w x there)

    grown_once : (n : ℕ) → sum_by (λ (y : TreeView). times_noted n y.made) (set trees id w) ≡ cond (ltb n (length (journal ++ e ∷ []))) 1 0
    grown_once n = let changed = sum_by-changed (λ (y : TreeView). times_noted n y.made) trees id t w me in
        let more = ap (times_noted n) made ∙ sum_by_push (λ (m : TreeMade). cond (eqb m.number n) 1 0) t.made (record { number = length t.hand; entry = e }) in
        let long = length-append journal (e ∷ []) in let flag = ap {B = ℕ} (λ (k : ℕ). cond (ltb n k) 1 0) (let l : length (journal ++ e ∷ []) ≡ length journal + 1 = omega (arith, long) in l) in
        omega (arith, o.once n, changed, more, flag, below_more n (length journal) (length t.hand) number_is)

    grown : IsTreeJournal h (journal ++ e ∷ []) × Each (IsTreeSeen h (journal ++ e ∷ [])) (set trees id w) × ((n : ℕ) → sum_by (λ (y : TreeView). times_noted n y.made) (set trees id w) ≡ cond (ltb n (length (journal ++ e ∷ []))) 1 0)
    grown = (grown_legal, grown_seen, grown_once)

  -- a Begin is stored
  pub begins : (word' : ℕ → ℕ) (g : ℕ) → t.in_hand ≡ true → MayBegin h t.hand g → word' g ≡ length t.hand + 1 → ((k : ℕ) → k < length h.parents → k ≢ g → word' k ≡ word k) → IsOfflined h (journal ++ Begin g ∷ []) word' lock homes (set trees id (with_begin t g))
  begins word' g has may now others = let w : TreeView = with_begin t g in let s = o.seen id t me in let is = s.hand has in
      let may' : MayBegin h journal g = subst (λ (l : List TreeEntry). MayBegin h l g) is may in
      let grows : (j n : ℕ) → begin_of journal j ≡ Some n → begin_of (journal ++ Begin g ∷ []) j ≡ Some n = λ j n e. begin_grows journal j (Begin g ∷ []) n e in
      let hand-grown : t.hand ++ Begin g ∷ [] ≡ journal ++ Begin g ∷ [] = ap (λ l. l ++ Begin g ∷ []) is in
      let fact = grown (Begin g) has may' grows w refl refl (prefix_longer t.known journal (Begin g) s.known) refl (λ _. hand-grown) in record {
        legal = fact.0;
        counted = omega (arith, o.counted, length-append journal (Begin g ∷ []), entries_begin journal g (length h.parents) may'.there may'.once);
        words = λ k low. ⊎_elim
            (λ (t : eqb g k ≡ true). let same = eqb-true g k t in subst (λ (j : ℕ). word' j ≡ state_word (state_at h (journal ++ Begin g ∷ []) j)) same (now ∙ (ap (λ (l : List TreeEntry). length l + 1) is ∙ ap state_word (sym (state_made h (journal ++ Begin g ∷ []) g (Some (length journal)) (is_made_grows h journal (Begin g ∷ []) g may'.made) (begin_new journal g may'.once))))))
            (λ (f : eqb g k ≡ false). others k low (λ e. eqb_apart g k f (sym e)) ∙ (o.words k low ∙ ap state_word (sym (state_same h journal (journal ++ Begin g ∷ []) k (made_past_begin journal g k) (begin_other journal g k f)))))
            (cases_Bool (eqb g k));
        locks = omega (arith, o.locks, sum_by-changed (λ (y : TreeView). cond y.in_hand 1 0) trees id t w me);
        one = o.one;
        home = λ z. absurd (omega (arith, z, taken has));
        seen = fact.1;
        once = fact.2;
      }

  -- a Made is stored
  pub makes : (word' : ℕ → ℕ) (g : ℕ) → t.in_hand ≡ true → MayBeMade h t.hand g → word' g ≡ 0 → ((k : ℕ) → k < length h.parents → k ≢ g → word' k ≡ word k) → IsOfflined h (journal ++ MadeEntry g ∷ []) word' lock homes (set trees id (with_made t g))
  makes word' g has may now others = let w : TreeView = with_made t g in let s = o.seen id t me in let is = s.hand has in
      let may' : MayBeMade h journal g = subst (λ (l : List TreeEntry). MayBeMade h l g) is may in
      let grows : (j n : ℕ) → begin_of journal j ≡ Some n → begin_of (journal ++ MadeEntry g ∷ []) j ≡ Some n = λ j n e. begin_grows journal j (MadeEntry g ∷ []) n e in
      let hand-grown : t.hand ++ MadeEntry g ∷ [] ≡ journal ++ MadeEntry g ∷ [] = ap (λ l. l ++ MadeEntry g ∷ []) is in
      let fact = grown (MadeEntry g) has may' grows w refl refl (prefix_longer t.known journal (MadeEntry g) s.known) refl (λ _. hand-grown) in record {
        legal = fact.0;
        counted = omega (arith, o.counted, length-append journal (MadeEntry g ∷ []), entries_made journal g (length h.parents) may'.there may'.once);
        words = λ k low. ⊎_elim
            (λ (t : eqb g k ≡ true). let same = eqb-true g k t in subst (λ (j : ℕ). word' j ≡ state_word (state_at h (journal ++ MadeEntry g ∷ []) j)) same (now ∙ ap state_word (sym (state_made h (journal ++ MadeEntry g ∷ []) g None (made_now h journal g may'.once) (begin_past_made journal g g ∙ unmade_online h journal g o.legal may'.late may'.once)))))
            (λ (f : eqb g k ≡ false). others k low (λ e. eqb_apart g k f (sym e)) ∙ (o.words k low ∙ ap state_word (sym (state_same h journal (journal ++ MadeEntry g ∷ []) k (made_other journal g k f) (begin_past_made journal g k)))))
            (cases_Bool (eqb g k));
        locks = omega (arith, o.locks, sum_by-changed (λ (y : TreeView). cond y.in_hand 1 0) trees id t w me);
        one = o.one;
        home = λ z. absurd (omega (arith, z, taken has));
        seen = fact.1;
        once = fact.2;
      }

  -- a Done is given with the room
  pub ends : (homes' : Homes) (room : Kept TreeEntry) (g : ℕ) → t.in_hand ≡ true → g < length h.parents → MayBeDone t.hand g → (b : ℕ) → begin_of t.hand g ≡ Some b → get_elem? homes' 0 ≡ some (some room) → IsHome (length h.parents) (t.hand ++ Done g ∷ []) room
      → IsOfflined h (journal ++ Done g ∷ []) word 0 homes' (set trees id (with_done t g))
  ends homes' room g has low may b begun there fits = let w : TreeView = with_done t g in let s = o.seen id t me in let is = s.hand has in
      let may' : MayBeDone journal g = subst (λ (l : List TreeEntry). MayBeDone l g) is may in
      let begun' : begin_of journal g ≡ Some b = ap (λ (l : List TreeEntry). begin_of l g) (sym is) ∙ begun in
      let grows : (j n : ℕ) → begin_of journal j ≡ Some n → begin_of (journal ++ Done g ∷ []) j ≡ Some n = λ j n e. begin_grows journal j (Done g ∷ []) n e in
      let hand-grown : t.hand ++ Done g ∷ [] ≡ journal ++ Done g ∷ [] = ap (λ l. l ++ Done g ∷ []) is in
      let fact = grown (Done g) has may' grows w refl refl (prefix_whole (t.hand ++ Done g ∷ []) (journal ++ Done g ∷ []) hand-grown) refl (λ b. absurd (let c : true ≡ false = sym b in cc)) in record {
        legal = fact.0;
        counted = omega (arith, o.counted, length-append journal (Done g ∷ []), entries_done journal g (length h.parents) low b begun' may'.once);
        words = λ k near. o.words k near ∙ ap state_word (sym (state_same h journal (journal ++ Done g ∷ []) k (made_past_done journal g k) (begin_past_done journal g k)));
        locks = omega (arith, o.locks, taken has, in_one t has, sum_by-changed (λ (y : TreeView). cond y.in_hand 1 0) trees id t w me);
        one = omega arith;
        home = λ _. (room, there, subst (λ (l : List TreeEntry). IsHome (length h.parents) l room) hand-grown fits);
        seen = fact.1;
        once = fact.2;
      }

-- what a new seat knows is so of any journal
pub seen_none : (h : Hierarchy) (journal : List TreeEntry) → IsTreeSeen h journal no_tree
seen_none h journal = record { known = (journal, refl); heard = All-nil (IsHeard journal); hand = λ b. absurd (let c : true ≡ false = sym b in cc); loaded = All-nil (IsNamed h journal); made = All-nil (IsTreeEntryMade journal) }

-- a view that knows nothing is added
pub offlined_split : (h : Hierarchy) (journal : List TreeEntry) (word : ℕ → ℕ) (lock : ℕ) (homes : Homes) (trees : List TreeView) → IsOfflined h journal word lock homes trees → IsOfflined h journal word lock homes (trees ++ no_tree ∷ [])
offlined_split h journal word lock homes trees o = record {
  legal = o.legal;
  counted = o.counted;
  words = o.words;
  locks = omega (arith, o.locks, sum_by-more (λ (y : TreeView). cond y.in_hand 1 0) trees no_tree);
  one = o.one;
  home = o.home;
  seen = Each-push (IsTreeSeen h journal) trees no_tree (seen_none h journal) o.seen;
  once = λ n. omega (arith, o.once n, sum_by-more (λ (y : TreeView). times_noted n y.made) trees no_tree);
}

-- what one view did and knows goes to another
pub offlined_join : (h : Hierarchy) (journal : List TreeEntry) (word : ℕ → ℕ) (lock : ℕ) (homes : Homes) (trees : List TreeView) (id other : ℕ) (t u : TreeView) → get_elem? trees id ≡ some t → other ≢ id → get_elem? trees other ≡ some u → u.in_hand ≡ false
    → IsOfflined h journal word lock homes trees → IsOfflined h journal word lock homes (set (set trees id (joined_tree t u)) other no_tree)
offlined_join h journal word lock homes trees id other t u at apart them out o = let b : TreeView = joined_tree t u in let s = o.seen id t at in let r = o.seen other u them in record {
  legal = o.legal;
  counted = o.counted;
  words = o.words;
  locks = omega (arith, o.locks, in_none u out, sum_by-joined (λ (y : TreeView). cond y.in_hand 1 0) trees id other t u b no_tree at apart them);
  one = o.one;
  home = o.home;
  seen = Each-set (IsTreeSeen h journal) (set trees id b) other no_tree (seen_none h journal) (Each-set (IsTreeSeen h journal) trees id b (record {
    known = s.known;
    heard = All-append (IsHeard journal) t.heard (u.known ∷ u.heard) s.heard (All-cons (IsHeard journal) u.known u.heard r.known r.heard);
    hand = s.hand;
    loaded = All-append (IsNamed h journal) t.loaded u.loaded s.loaded r.loaded;
    made = All-append (IsTreeEntryMade journal) t.made u.made s.made r.made;
  }) o.seen);
  once = λ n. omega (arith, o.once n, sum_by-joined (λ (y : TreeView). times_noted n y.made) trees id other t u b no_tree at apart them, sum_by-append (λ (m : TreeMade). cond (eqb m.number n) 1 0) t.made u.made);
}

-- the words and the slots are the same
pub offlined_words : (h : Hierarchy) (journal : List TreeEntry) (word word' : ℕ → ℕ) (lock lock' : ℕ) (homes : Homes) (trees : List TreeView) → ((g : ℕ) → g < length h.parents → word' g ≡ word g) → lock' ≡ lock → IsOfflined h journal word lock homes trees → IsOfflined h journal word' lock' homes trees
offlined_words h journal word word' lock lock' homes trees same free o = record {
  legal = o.legal;
  counted = o.counted;
  words = λ g low. same g low ∙ o.words g low;
  locks = o.locks ∙ sym free;
  one = omega (arith, o.one, free);
  home = λ z. o.home (sym free ∙ z);
  seen = o.seen;
  once = o.once;
}
