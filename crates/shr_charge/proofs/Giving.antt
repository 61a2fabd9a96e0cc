-- SPDX-License-Identifier: GPL-2.0-only
-- What is left of a seat that gave the room back.
use Rattle.shr_charge.proofs.Common.{◌≡◌, ℕ, ◌+◌, ◌<◌, true, false, List, [], ◌∷◌, ◌++◌, length, sym, refl, ap, subst, ◌∙◌, Some, append-nil, All-push, Kept, TreeEntry, begin_of, done_of, MayBeDone, MayFollow, ChargeToken, Hierarchy, TreeView, IsTreeEntryMade, with_tree_hand, with_tree_given, with_done, with_tree, with_room_back, HoldsTreeRoom, Shown, Decides, Settles, hand_by, hand_made}
use Rattle.shr_base.specs.declared.journals.TreeEntry.TheVariants.{Begin, Done, Made as MadeEntry}
use Rattle.shr_charge.specs.declared.answers.BeginAnswer.{BeginAnswer}
use Rattle.shr_charge.specs.declared.answers.BeginAnswer.TheVariants as began
use Rattle.shr_charge.specs.declared.answers.DoneAnswer.TheVariants as ended
use Rattle.shr_charge.specs.declared.answers.MakeAnswer.{MakeAnswer}
use Rattle.shr_charge.specs.declared.answers.MakeAnswer.TheVariants as make
use Rattle.shr_charge.specs.Answers.{gave, KnowsTree, BeginTells, BeginLeaves, IfGiven, MakeTells, MakeLeaves, DoneTells, DoneLeaves}
use Rattle.shr_charge.specs.Views.{TreeMade}
use Rattle.shr_charge.proofs.Listing.{get_last, stands_push}
use Rattle.shr_charge.proofs.Entries.{begin_grows}
use Rattle.shr_charge.proofs.Journaling.{prefix_longer, prefix_whole, heard_longer, loaded_longer, made_longer}

-- on plain data
module _ (groups : Hierarchy) (t : TreeView) (room : Kept TreeEntry) (shown : Shown groups t room) where
  -- with its journal
  knows_same : KnowsTree groups t (with_tree_given (with_tree_hand t room.items))
  knows_same = record {
    legal = shown.legal;
    grows = shown.seen.known;
    seen = record { known = prefix_whole room.items room.items refl; heard = shown.seen.heard; hand = λ h. absurd (let c : false ≡ true = h in cc); loaded = shown.seen.loaded; made = shown.seen.made };
  }

  leaves_same : with_tree_given (with_tree_hand t room.items) ≡ gave t [] room.items
  leaves_same = ap (λ (m : List TreeMade). record t { made = m; known = room.items; gives = t.gives + 1; in_hand = false; hand = [] }) (sym (append-nil t.made))

  -- with one entry more
  knows_more : (e : TreeEntry) → MayFollow groups room.items e → ((g n : ℕ) → begin_of room.items g ≡ Some n → begin_of (room.items ++ e ∷ []) g ≡ Some n)
      → KnowsTree groups t (gave t ((record { number = length room.items; entry = e }) ∷ []) (room.items ++ e ∷ []))
  knows_more e may grows = let j : List TreeEntry = room.items in record {
    legal = stands_push (MayFollow groups) j e shown.legal may;
    grows = prefix_longer t.known j e shown.seen.known;
    seen = record {
      known = prefix_whole (j ++ e ∷ []) (j ++ e ∷ []) refl;
      heard = heard_longer groups j e grows t.heard shown.seen.heard;
      hand = λ h. absurd (let c : false ≡ true = h in cc);
      loaded = loaded_longer groups j e grows t.loaded shown.seen.loaded;
      made = All-push (IsTreeEntryMade (j ++ e ∷ [])) t.made (record { number = length j; entry = e }) (made_longer groups j e grows t.made shown.seen.made) (get_last j e (length j) refl);
    };
  }

  -- by the answer of begin_offline
  abbrev given : ℕ → BeginAnswer → TreeView
  given g answer = with_tree_given (hand_by g answer (with_tree_hand t room.items))

  module _ (g : ℕ) (above : 0 < g) (after : List TreeEntry) where
    begin_tells : (answer : BeginAnswer) → Decides groups g answer room.items after → BeginTells groups g answer t (given g answer).known
    begin_tells began.Root d = absurd d
    begin_tells (began.AlreadyDone entry) d = record { below_root = above; done = d.1 }
    begin_tells (began.Resumed entry) d = record { below_root = above; undone = d.1; begun = d.2 }
    begin_tells (began.NotMade group) d = record { below_root = above; undone = d.1; fresh = d.2; same = d.3; not_made = d.4 }
    begin_tells (began.HasChildren child entry) d = record { below_root = above; undone = d.1; fresh = d.2; there = d.3; lowest = d.4; all = d.5 }
    begin_tells began.Memory d = record { undone = d.1; may = d.2 }
    begin_tells (began.Begun entry) d = record { before = room.items; gains = record { whole = refl; number_is = d.0.number_is }; undone = d.1; may = d.2; seen = shown.seen }

    begin_leaves : (answer : BeginAnswer) → Decides groups g answer room.items after → BeginLeaves g answer t (given g answer)
    begin_leaves began.Root d = absurd d
    begin_leaves (began.AlreadyDone entry) d = leaves_same
    begin_leaves (began.Resumed entry) d = leaves_same
    begin_leaves (began.NotMade group) d = leaves_same
    begin_leaves (began.HasChildren child entry) d = leaves_same
    begin_leaves began.Memory d = leaves_same
    begin_leaves (began.Begun entry) d = ap (λ (n : ℕ). gave t ((record { number = n; entry = Begin g }) ∷ []) (room.items ++ Begin g ∷ [])) (sym d.0.number_is)

    begin_knows : (answer : BeginAnswer) → Decides groups g answer room.items after → IfGiven answer (KnowsTree groups t (given g answer))
    begin_knows began.Root d = absurd d
    begin_knows (began.AlreadyDone entry) d = knows_same
    begin_knows (began.Resumed entry) d = knows_same
    begin_knows (began.NotMade group) d = knows_same
    begin_knows (began.HasChildren child entry) d = knows_same
    begin_knows began.Memory d = knows_same
    begin_knows (began.Begun entry) d = knows_more (Begin g) d.2 (λ h n is. begin_grows room.items h (Begin g ∷ []) n is)

  -- by the answer of make_group
  abbrev pub given_made : ℕ → MakeAnswer → TreeView
  given_made g answer = with_tree_given (hand_made g answer (with_tree_hand t room.items))

  module _ (g : ℕ) (after : List TreeEntry) where
    make_tells : (answer : MakeAnswer) → Settles groups g answer room.items after → MakeTells groups g answer t (given_made g answer).known
    make_tells (make.AlreadyMade entry) d = d.1
    make_tells (make.NotMade group) d = record { fresh = d.1; parent = d.2; not_made = d.3 }
    make_tells (make.Offline entry) d = record { fresh = d.1; parent = d.2; begun = d.3 }
    make_tells make.Memory d = d.1
    make_tells (make.Made entry) d = record { before = room.items; gains = record { whole = refl; number_is = d.0.number_is }; may = d.1; seen = shown.seen }

    make_leaves : (answer : MakeAnswer) → Settles groups g answer room.items after → MakeLeaves g answer t (given_made g answer)
    make_leaves (make.AlreadyMade entry) d = leaves_same
    make_leaves (make.NotMade group) d = leaves_same
    make_leaves (make.Offline entry) d = leaves_same
    make_leaves make.Memory d = leaves_same
    make_leaves (make.Made entry) d = ap (λ (n : ℕ). gave t ((record { number = n; entry = MadeEntry g }) ∷ []) (room.items ++ MadeEntry g ∷ [])) (sym d.0.number_is)

    make_knows : (answer : MakeAnswer) → Settles groups g answer room.items after → KnowsTree groups t (given_made g answer)
    make_knows (make.AlreadyMade entry) d = knows_same
    make_knows (make.NotMade group) d = knows_same
    make_knows (make.Offline entry) d = knows_same
    make_knows make.Memory d = knows_same
    make_knows (make.Made entry) d = knows_more (MadeEntry g) d.1 (λ h n is. begin_grows room.items h (MadeEntry g ∷ []) n is)

  -- the Done of a group more
  done_knows : (g : ℕ) → MayBeDone room.items g → KnowsTree groups t (with_done (with_tree_hand t room.items) g)
  done_knows g may = knows_more (Done g) may (λ h n is. begin_grows room.items h (Done g ∷ []) n is)

  -- the Begin that a view knows stands in the journal of the room
  pub begun_there : (g b : ℕ) → begin_of t.known g ≡ Some b → begin_of room.items g ≡ Some b
  begun_there g b is = let grows = shown.seen.known in ap (λ l. begin_of l g) grows.1 ∙ begin_grows t.known g grows.0 b is

-- the token after begin_in and give_tree
pub begun_token : (old s1 s2 new : ChargeToken) (journal : List TreeEntry) (g : ℕ) (answer : BeginAnswer) → HoldsTreeRoom old s1 journal → s2 ≡ record s1 { me = with_tree s1.me (hand_by g answer s1.me.0.tree) } → new ≡ record s2 { me = with_room_back s2.me (with_tree_given s2.me.0.tree) }
    → new ≡ record old { me = with_room_back old.me (with_tree_given (hand_by g answer (with_tree_hand old.me.0.tree journal))) }
begun_token old s1 s2 new journal g answer has two three = three ∙ (ap (λ (s : ChargeToken). record s { me = with_room_back s.me (with_tree_given s.me.0.tree) }) two ∙ ap (λ (s : ChargeToken). record s { me = with_room_back s.me (with_tree_given (hand_by g answer s.me.0.tree)) }) has.now)

-- the token after a room was taken and given back as it was
pub given_token : (old s1 new : ChargeToken) (journal : List TreeEntry) → HoldsTreeRoom old s1 journal → new ≡ record s1 { me = with_room_back s1.me (with_tree_given s1.me.0.tree) } → new ≡ record old { me = with_room_back old.me (with_tree_given (with_tree_hand old.me.0.tree journal)) }
given_token old s1 new journal has three = three ∙ ap (λ (s : ChargeToken). record s { me = with_room_back s.me (with_tree_given s.me.0.tree) }) has.now

-- and with a Done more
pub done_token : (old s1 new : ChargeToken) (journal : List TreeEntry) (g : ℕ) → HoldsTreeRoom old s1 journal → new ≡ record s1 { me = with_room_back s1.me (with_done s1.me.0.tree g) } → new ≡ record old { me = with_room_back old.me (with_done (with_tree_hand old.me.0.tree journal) g) }
done_token old s1 new journal g has three = three ∙ ap (λ (s : ChargeToken). record s { me = with_room_back s.me (with_done s.me.0.tree g) }) has.now

-- the token after make_in and give_tree
pub made_token : (old s1 s2 new : ChargeToken) (journal : List TreeEntry) (g : ℕ) (answer : MakeAnswer) → HoldsTreeRoom old s1 journal → s2 ≡ record s1 { me = with_tree s1.me (hand_made g answer s1.me.0.tree) } → new ≡ record s2 { me = with_room_back s2.me (with_tree_given s2.me.0.tree) }
    → new ≡ record old { me = with_room_back old.me (with_tree_given (hand_made g answer (with_tree_hand old.me.0.tree journal))) }
made_token old s1 s2 new journal g answer has two three = three ∙ (ap (λ (s : ChargeToken). record s { me = with_room_back s.me (with_tree_given s.me.0.tree) }) two ∙ ap (λ (s : ChargeToken). record s { me = with_room_back s.me (with_tree_given (hand_made g answer s.me.0.tree)) }) has.now)

-- on what a seat did and saw
module _ (h : Hierarchy) (old new : TreeView) (room : Kept TreeEntry) (g : ℕ) (shown : Shown h old room) where
  module _ (above : 0 < g) (after : List TreeEntry) (answer : BeginAnswer) (d : Decides h g answer room.items after) (is : new ≡ with_tree_given (hand_by g answer (with_tree_hand old room.items))) where
    -- what `begin_offline` answers is told by the journal
    pub offline_tells : BeginTells h g answer old new.known
    offline_tells = subst (λ (x : TreeView). BeginTells h g answer old x.known) (sym is) (begin_tells h old room shown g above after answer d)

    -- what it leaves of the view
    pub offline_leaves : BeginLeaves g answer old new
    offline_leaves = subst (BeginLeaves g answer old) (sym is) (begin_leaves h old room shown g above after answer d)

    -- and what the seat then knows
    pub offline_knows : IfGiven answer (KnowsTree h old new)
    offline_knows = subst (λ (x : TreeView). IfGiven answer (KnowsTree h old x)) (sym is) (begin_knows h old room shown g above after answer d)

  -- a group was made, or not
  module _ (after : List TreeEntry) (answer : MakeAnswer) (d : Settles h g answer room.items after) (is : new ≡ with_tree_given (hand_made g answer (with_tree_hand old room.items))) where
    -- what `make_group` answers is told by the journal
    pub group_tells : MakeTells h g answer old new.known
    group_tells = subst (λ (x : TreeView). MakeTells h g answer old x.known) (sym is) (make_tells h old room shown g after answer d)

    -- what it leaves of the view
    pub group_leaves : MakeLeaves g answer old new
    group_leaves = subst (MakeLeaves g answer old) (sym is) (make_leaves h old room shown g after answer d)

    -- and what the seat then knows
    pub group_knows : KnowsTree h old new
    group_knows = subst (KnowsTree h old) (sym is) (make_knows h old room shown g after answer d)

  -- done before
  module _ (entry : ℕ) (found : done_of room.items g ≡ Some entry) (is : new ≡ with_tree_given (with_tree_hand old room.items)) where
    -- what `done_offline` answers of a group that was done
    pub already_tells : DoneTells h g (ended.AlreadyDone entry) old new.known
    already_tells = subst (λ (x : TreeView). DoneTells h g (ended.AlreadyDone entry) old x.known) (sym is) found

    pub already_leaves : DoneLeaves g (ended.AlreadyDone entry) old new
    already_leaves = subst (DoneLeaves g (ended.AlreadyDone entry) old) (sym is) (leaves_same h old room shown)

    pub already_knows : KnowsTree h old new
    already_knows = subst (KnowsTree h old) (sym is) (knows_same h old room shown)

  -- done now
  module _ (entry : ℕ) (number : entry ≡ length room.items) (may : MayBeDone room.items g) (is : new ≡ with_done (with_tree_hand old room.items) g) where
    -- what `done_offline` answers of a group that is done now
    pub done_tells : DoneTells h g (ended.Done entry) old new.known
    done_tells = subst (λ (x : TreeView). DoneTells h g (ended.Done entry) old x.known) (sym is) (record { before = room.items; gains = record { whole = refl; number_is = number }; may = may; seen = shown.seen })

    pub done_leaves : DoneLeaves g (ended.Done entry) old new
    done_leaves = subst (DoneLeaves g (ended.Done entry) old) (sym is) (ap (λ (n : ℕ). gave old ((record { number = n; entry = Done g }) ∷ []) (room.items ++ Done g ∷ [])) (sym number))

    pub done_shows : KnowsTree h old new
    done_shows = subst (KnowsTree h old) (sym is) (done_knows h old room shown g may)
