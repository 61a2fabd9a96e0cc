-- SPDX-License-Identifier: GPL-2.0-only
-- What may be stored after a call of the list in hand, and what is in hand then.
use Rattle.shr_core.proofs.Common.{◌≡◌, ℕ, ◌<◌, List, [], ◌∷◌, ◌++◌, length, sym, refl, ap, subst, ◌∙◌, inl, ⊎_elim, arith, length-append, None, Entry, Object, step, IsOutcome, MayStand, IsAllowed, Has_from_Contains, Contains_from_Has, child_takes, Listed, View, Shape, RoomContent, group_of, has_room, list_content, IsInside, in_hand, moved_in_hand, last_entry, half_after, with_taken, with_stored, IsBacked, MayStore, IsInHand, IsBornAt, IsTaken, IsUnspliced}
use Rattle.shr_core.proofs.Options.{not_some}
use Rattle.shr_model.specs.Groups.{path_within, path_of}
use Rattle.shr_list.specs.Answers.{Takes}
use Rattle.shr_core.proofs.Hands.{taken_in_hand, has_taken, changed_in_hand}
use Rattle.shr_core.proofs.Rooming as rooming

pub last_pushed : (es : List Entry) (e : Entry) → last_entry (es ++ e ∷ []) ≡ e
last_pushed [] e = refl
last_pushed (x ∷ []) e = refl
last_pushed (x ∷ y ∷ es) e = last_pushed (y ∷ es) e

-- the list's last entry is the one that it took
pub last_taken : (old new : Listed) (e : Entry) (n : ℕ) → Takes old new e n → last_entry new.entries ≡ e
last_taken old new e n t = ap last_entry t.gains.entries ∙ last_pushed old.entries e

-- the list is the one in hand at the place k, with the core's limits, and no splice is under way
pub record IsReady (shape : Shape) (v : View) (k : ℕ) (list : Listed) : Type 0 where
  pub inside : IsInside shape k
  pub room : 0 < has_room k v.holding
  pub hand : IsInHand list (in_hand v k)
  pub whole : v.holding.half ≡ None
  pub most_items : list.most_items ≡ shape.most_items
  pub most_entries : list.most_entries ≡ shape.most_entries

-- a list that was just taken
pub ready_taken : (shape : Shape) (v : View) (k : ℕ) (list : Listed) → IsInside shape k → v.holding.half ≡ None → IsTaken shape v k (list_content list) → IsReady shape (with_taken v k (list_content list)) k list
ready_taken shape v k list inside whole told = record {
  inside = inside;
  room = has_taken v k (list_content list);
  hand = subst (IsInHand list) (sym (taken_in_hand v k (list_content list))) (record { entries = refl; items = refl; most_items = refl; most_entries = refl });
  whole = whole;
  most_items = told.most_items;
  most_entries = told.most_entries;
}

-- nothing is spliced while no splice is under way
pub unspliced : (shape : Shape) (v : View) (k : ℕ) → v.holding.half ≡ None → IsUnspliced shape v k
unspliced shape v k whole child half = absurd (not_some child v.holding.half whole half)

-- the list took an entry that is allowed and backed, and that moves no other list in
pub may_store : (shape : Shape) (v : View) (k n : ℕ) (old new : Listed) (e : Entry) → IsReady shape v k old → moved_in_hand v k e ≡ [] → Takes old new e n → IsAllowed shape.parents.items (group_of k) old.entries e → IsBacked shape v k e → MayStore shape v k new
may_store shape v k n old new e r none t allowed backed = let c : RoomContent = in_hand v k in let is : last_entry new.entries ≡ e = last_taken old new e n t in record {
  inside = r.inside;
  room = r.room;
  entries = subst (λ (x : Entry). new.entries ≡ c.entries ++ x ∷ []) (sym is) (t.gains.entries ∙ ap (λ (l : List Entry). l ++ e ∷ []) r.hand.entries);
  stands = subst (λ (x : Entry). MayStand shape.parents.items (group_of k) c.entries x) (sym is) (subst (λ (l : List Entry). MayStand shape.parents.items (group_of k) l e) r.hand.entries (record { «open» = t.was_open; allowed = allowed }));
  outcome = subst (λ (x : Entry). IsOutcome (moved_in_hand v k x) c.items x) (sym is) (subst (λ (m : List Object). IsOutcome m c.items e) (sym none) (subst (λ (l : List Object). IsOutcome [] l e) r.hand.items t.gains.outcome));
  items = subst (λ (x : Entry). new.items ≡ step (moved_in_hand v k x) c.items x) (sym is) (subst (λ (m : List Object). new.items ≡ step m c.items e) (sym none) (t.gains.items ∙ ap (λ (l : List Object). step [] l e) r.hand.items));
  backed = subst (IsBacked shape v k) (sym is) backed;
  few_items = omega (arith, t.room.items, r.most_items, ap (λ (l : List Object). length l) t.gains.items);
  few_entries = omega (arith, t.room.entries, r.most_entries, ap (λ (l : List Entry). length l) t.gains.entries, length-append old.entries (e ∷ []));
}

-- and after the store of an entry that is no part of a splice, the new list is ready
pub ready_stored : (shape : Shape) (v : View) (k n : ℕ) (old new : Listed) (e : Entry) → IsReady shape v k old → half_after v.holding.half k e ≡ v.holding.half → Takes old new e n → IsReady shape (with_stored v k (last_entry new.entries) new.items) k new
ready_stored shape v k n old new e r alone t = let c : RoomContent = in_hand v k in let is : last_entry new.entries ≡ e = last_taken old new e n t in
    let now : RoomContent = record c { entries = c.entries ++ last_entry new.entries ∷ []; items = new.items } in record {
      inside = r.inside;
      room = omega (arith, r.room, rooming.content_rooms k k now v.holding.hands);
      hand = subst (IsInHand new) (sym (changed_in_hand k now v.holding.hands r.room)) (record {
        entries = t.gains.entries ∙ (ap (λ (l : List Entry). l ++ e ∷ []) r.hand.entries ∙ ap (λ (x : Entry). c.entries ++ x ∷ []) (sym is));
        items = refl;
        most_items = t.gains.most_items ∙ r.hand.most_items;
        most_entries = t.gains.most_entries ∙ r.hand.most_entries;
      });
      whole = ap (half_after v.holding.half k) is ∙ (alone ∙ r.whole);
      most_items = t.gains.most_items ∙ r.most_items;
      most_entries = t.gains.most_entries ∙ r.most_entries;
    }

-- at the root a tenant's entry of the root may stand after any entries
pub born_at_root : (parents : List ℕ) (entries : List Entry) → 0 < length parents → IsBornAt parents 0 entries 0
unfolding path_within
born_at_root parents entries there = record {
  there = there;
  at_or_above = Contains_from_Has (path_of parents 0) 0 (inl refl);
  moved = λ child is there. let above = (child_takes parents 0 child is).above in absurd (⊎_elim (λ e. omega (arith, e, above)) (λ h. h) (Has_from_Contains (path_of parents 0) child there));
}
