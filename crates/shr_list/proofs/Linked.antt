-- SPDX-License-Identifier: GPL-2.0-only
-- What the operations on a chain leave linked, and that its nodes in link order are those.
use Rattle.shr_list.proofs.Common.{◌≡◌, ◌≢◌, ℕ, ◌+◌, List, [], ◌∷◌, ◌++◌, length, Option, Some, None, refl, sym, ap, subst, ◌∙◌, arith, append_assoc, length-append, map-append, option_map, AllByRecursion, Slab, get, slab_len, Object, Node, Chain, IsOff, IsApart, Keyed, first_key, last_key, next_in, stop_after, prev_of, IsPath, stops_of, IsLinked, nodes_from, nodes_of, KeepsOtherObjects, KeepsObjects, Joins, SetsObject, each_weaker, object_at, IsStored, IsStop, Inserts, Removes}
use Rattle.shr_list.proofs.Paths.{all_append, all_left, all_right, AreOff, apart_left, apart_right, apart_across, apart_append, off_each, path_cut, before_last, IsRing, ring_kept, ring_back, ring_front, ring_without}

-- the key names the object
abbrev pub Names : Chain → Keyed → Type 0
Names c n = object_at c n.0 ≡ Some n.1

some_none : (k : ℕ) → Some k ≢ None
some_none k e = absurd (cc)

none_some : (k : ℕ) → None ≢ Some k
none_some k e = absurd (cc)

walked_one : (s : Slab Node) (m k : ℕ) (o : Object) (slot : Option Node) → option_map (λ (n : Node). n.object) slot ≡ Some o
    → elim slot as (λ _. List Keyed) [ None ↦ [] | Some node ↦ (k, node.object) ∷ nodes_from s m node.next ] ≡ (k, o) ∷ nodes_from s m (next_in slot)
walked_one s m k o None is = absurd (cc)
walked_one s m k o (Some node) is = cc

-- a walk along a path of nodes gives these nodes
walked : (c : Chain) (a : Option ℕ) (nodes : List Keyed) → IsPath c a (stops_of nodes ++ None ∷ []) → AllByRecursion (Names c) nodes
    → nodes_from c.nodes (length nodes) (stop_after c a) ≡ nodes
walked c a [] path stored = refl
walked c a (n ∷ ns) path stored =
    rw path.0.0 (walked_one c.nodes (length ns) n.0 n.1 (get c.nodes n.0) stored.0 ∙ ap (λ (ms : List Keyed). n ∷ ms) (walked c (Some n.0) ns path.1 stored.1))

-- the meaning of a chain where these nodes are linked
pub nodes_are : (c : Chain) (nodes : List Keyed) → IsLinked c nodes → nodes_of c ≡ nodes
nodes_are c nodes linked = rw linked.count (walked c None nodes linked.ring linked.stored)

-- the meaning of a linked chain is that chain
pub settled : (c : Chain) (nodes : List Keyed) → IsLinked c nodes → IsLinked c (nodes_of c)
settled c nodes linked = rw (nodes_are c nodes linked) linked

-- a free key names none of the nodes
off_free : (c : Chain) (k : ℕ) (nodes : List Keyed) → object_at c k ≡ None → AllByRecursion (Names c) nodes → IsOff (Some k) (stops_of nodes)
off_free c k [] free stored = tt
off_free c k (n ∷ ns) free stored =
    (λ e. let same : n.0 ≡ k = cc in let there = rw same at stored.0 in absurd (cc), off_free c k ns free stored.1)

-- nodes under other keys stay
stored_kept : (old new : Chain) (k : ℕ) (nodes : List Keyed) → KeepsOtherObjects old new k → IsOff (Some k) (stops_of nodes) → AllByRecursion (Names old) nodes
    → AllByRecursion (Names new) nodes
stored_kept old new k [] kept off stored = tt
stored_kept old new k (n ∷ ns) kept off stored =
    (kept n.0 (λ e. off.0 (ap Some e)) ∙ stored.0, stored_kept old new k ns kept off.1 stored.1)

-- the last stop before the end of a ring can be linked
stops_stored : (c : Chain) (nodes : List Keyed) → AllByRecursion (Names c) nodes → AllByRecursion (IsStop c) (stops_of nodes)
stops_stored c [] stored = tt
stops_stored c (n ∷ ns) stored = (rw stored.0 refl, stops_stored c ns stored.1)

-- a stop stays where nodes stay stored
pub stop_kept : (old new : Chain) (s : Option ℕ) → ((k : ℕ) → IsStored old k → IsStored new k) → IsStop old s → IsStop new s
stop_kept old new None kept stop = tt
stop_kept old new (Some k) kept stop = kept k stop

-- the tail is a node or none
pub tail_stored : (c : Chain) (nodes : List Keyed) → IsLinked c nodes → IsStop c c.tail
tail_stored c nodes linked = before_last c (IsStop c) None None (stops_of nodes) linked.ring tt (stops_stored c nodes linked.stored)

-- the head is a node or none
pub head_stored : (c : Chain) (nodes : List Keyed) → IsLinked c nodes → IsStop c c.head
head_stored c [] linked = rw linked.ring.0.0 tt
head_stored c (n ∷ ns) linked = rw (linked.ring.0.0, linked.stored.0) refl

path_same : (c d : Chain) → ((a : Option ℕ) → stop_after d a ≡ stop_after c a) → ((b : Option ℕ) → prev_of d b ≡ prev_of c b) → (a : Option ℕ) (ss : List (Option ℕ))
    → IsPath c a ss → IsPath d a ss
path_same c d next prev a [] path = tt
path_same c d next prev a (s ∷ ss) path = ((next a ∙ path.0.0, prev s ∙ path.0.1), path_same c d next prev s ss path.1)

-- a chain whose slab has the same slots
pub linked_resized : (c : Chain) (capacity : ℕ) (nodes : List Keyed) → IsLinked c nodes → IsLinked (record c { nodes = record c.nodes { capacity = capacity } }) nodes
linked_resized c capacity nodes linked =
    record {
      ring = path_same c (record c { nodes = record c.nodes { capacity = capacity } }) next prev None (stops_of nodes ++ None ∷ []) linked.ring;
      apart = linked.apart;
      stored = each_weaker (Names c) (Names (record c { nodes = record c.nodes { capacity = capacity } })) (λ n is. is) nodes linked.stored;
      count = linked.count;
    }
  where
    next : (a : Option ℕ) → stop_after (record c { nodes = record c.nodes { capacity = capacity } }) a ≡ stop_after c a
    next None = refl
    next (Some k) = refl

    prev : (b : Option ℕ) → prev_of (record c { nodes = record c.nodes { capacity = capacity } }) b ≡ prev_of c b
    prev None = refl
    prev (Some k) = refl

-- where a node stands among linked ones
module _ (c : Chain) (nodes xs ys : List Keyed) (k : ℕ) (o : Object) (linked : IsLinked c nodes) (split : nodes ≡ xs ++ (k, o) ∷ ys) where
  stops_split : stops_of nodes ≡ stops_of xs ++ Some k ∷ stops_of ys
  stops_split = ap stops_of split ∙ map-append (λ (n : Keyed). Some n.0) xs ((k, o) ∷ ys)

  ring_at : IsRing c (stops_of xs ++ Some k ∷ stops_of ys)
  ring_at = subst (IsRing c) stops_split linked.ring

  apart_at : IsApart (None ∷ stops_of xs ++ Some k ∷ stops_of ys)
  apart_at = subst (λ (ss : List (Option ℕ)). IsApart (None ∷ ss)) stops_split linked.apart

  stored_at : AllByRecursion (Names c) (xs ++ (k, o) ∷ ys)
  stored_at = subst (AllByRecursion (Names c)) split linked.stored

  pub names_at : object_at c k ≡ Some o
  names_at = (all_right (Names c) xs ((k, o) ∷ ys) stored_at).0

  pub stored_here : IsStored c k
  stored_here = rw names_at refl

  stored_before : AllByRecursion (Names c) xs
  stored_before = all_left (Names c) xs ((k, o) ∷ ys) stored_at

  stored_after : AllByRecursion (Names c) ys
  stored_after = (all_right (Names c) xs ((k, o) ∷ ys) stored_at).1

  off_before : IsOff (Some k) (stops_of xs)
  off_before = firsts (stops_of xs) (apart_across (None ∷ stops_of xs) (Some k ∷ stops_of ys) apart_at).1
    where
      firsts : (ss : List (Option ℕ)) → AreOff ss (Some k ∷ stops_of ys) → IsOff (Some k) ss
      firsts [] off = tt
      firsts (s ∷ ss) off = (λ e. off.0.0 (sym e), firsts ss off.1)

  off_after : IsOff (Some k) (stops_of ys)
  off_after = (apart_right (None ∷ stops_of xs) (Some k ∷ stops_of ys) apart_at).0

  off_both : IsOff (Some k) (stops_of (xs ++ ys))
  off_both = rw (map-append (λ (n : Keyed). Some n.0) xs ys) (all_append (λ (t : Option ℕ). t ≢ Some k) (stops_of xs) (stops_of ys) off_before off_after)

  apart_both : IsApart (None ∷ stops_of (xs ++ ys))
  apart_both =
      let before = apart_left (None ∷ stops_of xs) (Some k ∷ stops_of ys) apart_at in
      let after = apart_right (None ∷ stops_of xs) (Some k ∷ stops_of ys) apart_at in
      let across = apart_across (None ∷ stops_of xs) (Some k ∷ stops_of ys) apart_at in
      rw (map-append (λ (n : Keyed). Some n.0) xs ys)
      (apart_append (None ∷ stops_of xs) (stops_of ys) before after.1 (each_weaker (λ (s : Option ℕ). IsOff s (Some k ∷ stops_of ys)) (λ (s : Option ℕ). IsOff s (stops_of ys)) (λ s off. off.1) (None ∷ stops_of xs) across))

  -- its neighbours
  pub next_is : stop_after c (Some k) ≡ first_key ys
  next_is = follows ys (path_cut c None (Some k) (stops_of xs) (stops_of ys ++ None ∷ []) (rw append_assoc at ring_at)).1
    where
      follows : (zs : List Keyed) → IsPath c (Some k) (stops_of zs ++ None ∷ []) → stop_after c (Some k) ≡ first_key zs
      follows [] path = path.0.0
      follows (z ∷ zs) path = path.0.0

  -- the key before a node is the last of those before it
  pub prev_is : prev_of c (Some k) ≡ last_key xs
  prev_is = last_named c None (Some k) xs (path_cut c None (Some k) (stops_of xs) (stops_of ys ++ None ∷ []) (rw append_assoc at ring_at)).0
    where
      later : (c : Chain) (b : Option ℕ) (n : Keyed) (zs : List Keyed) → IsPath c (Some n.0) (stops_of zs ++ b ∷ []) → prev_of c b ≡ last_key (n ∷ zs)
      later c b n [] path = path.0.1
      later c b n (z ∷ zs) path = later c b z zs path.1

      last_named : (c : Chain) (a b : Option ℕ) (zs : List Keyed) → IsPath c None (stops_of zs ++ b ∷ []) → prev_of c b ≡ last_key zs
      last_named c a b [] path = path.0.1
      last_named c a b (z ∷ zs) path = later c b z zs path.1

  pub prev_stop : IsStop c (prev_of c (Some k))
  prev_stop =
      before_last c (IsStop c) None (Some k) (stops_of xs) (path_cut c None (Some k) (stops_of xs) (stops_of ys ++ None ∷ []) (rw append_assoc at ring_at)).0 tt
      (stops_stored c xs stored_before)

  pub next_stop : IsStop c (stop_after c (Some k))
  next_stop = rw next_is (first_stop ys stored_after)
    where
      first_stop : (zs : List Keyed) → AllByRecursion (Names c) zs → IsStop c (first_key zs)
      first_stop [] stored = tt
      first_stop (z ∷ zs) stored = rw stored.0 refl

  lengths : length nodes ≡ length (xs ++ ys) + 1
  lengths = omega (arith, ap length split, length-append xs ((k, o) ∷ ys), length-append xs ys)

  -- after its neighbours were joined and it was taken away
  pub linked_removed : (mid new : Chain) (taken : Object) → Joins c mid (prev_of c (Some k)) (stop_after c (Some k)) → Removes mid new k taken → IsLinked new (xs ++ ys)
  linked_removed mid new taken joins removes =
      let ring = rw (← map-append (λ (n : Keyed). Some n.0) xs ys) at (ring_without c mid (Some k) (stops_of xs) (stops_of ys) joins apart_at ring_at) in
      record {
        ring = ring_kept mid new (Some k) (stops_of (xs ++ ys)) removes.links (some_none k) off_both ring;
        apart = apart_both;
        stored = stored_kept c new k (xs ++ ys) (λ j ne. removes.others j ne ∙ joins.keeps.objects j) off_both (all_append (Names c) xs ys stored_before stored_after);
        count = omega (arith, removes.len, joins.keeps.len, linked.count, lengths);
      }

  -- the node that is removed had this object
  pub taken_is : (mid new : Chain) (taken : Object) → KeepsObjects c mid → Removes mid new k taken → taken ≡ o
  taken_is mid new taken keeps removes = let both = sym removes.stored ∙ keeps.objects k ∙ names_at in cc

  -- the tail that is left
  pub tail_left : (one : Chain) → Joins c one (prev_of c (Some k)) (stop_after c (Some k)) → IsStop one one.tail
  tail_left one joins =
      let ring = rw (← map-append (λ (n : Keyed). Some n.0) xs ys) at (ring_without c one (Some k) (stops_of xs) (stops_of ys) joins apart_at ring_at) in
      let stored = each_weaker (Names c) (Names one) (λ n is. joins.keeps.objects n.0 ∙ is) (xs ++ ys) (all_append (Names c) xs ys stored_before stored_after) in
      before_last one (IsStop one) None None (stops_of (xs ++ ys)) ring tt (stops_stored one (xs ++ ys) stored)

  -- after it was joined to the tail instead
  pub linked_rotated : (one two new : Chain) → Joins c one (prev_of c (Some k)) (stop_after c (Some k)) → Joins one two (prev_of one None) (Some k) → Joins two new (Some k) None
      → IsLinked new ((xs ++ ys) ++ (k, o) ∷ [])
  linked_rotated one two new first second third =
      let ring = rw (← map-append (λ (n : Keyed). Some n.0) xs ys) at (ring_without c one (Some k) (stops_of xs) (stops_of ys) first apart_at ring_at) in
      let same : (j : ℕ) → object_at new j ≡ object_at c j = λ j. third.keeps.objects j ∙ second.keeps.objects j ∙ first.keeps.objects j in
      record {
        ring = rw (map-append (λ (n : Keyed). Some n.0) (xs ++ ys) ((k, o) ∷ [])) (ring_back one two new (Some k) (stops_of (xs ++ ys)) second third (some_none k) off_both apart_both ring);
        apart =
            rw (map-append (λ (n : Keyed). Some n.0) (xs ++ ys) ((k, o) ∷ []))
            (apart_append (None ∷ stops_of (xs ++ ys)) (Some k ∷ []) apart_both (tt, tt) (off_each (Some k) (None ∷ stops_of (xs ++ ys)) (none_some k, off_both)));
        stored =
            all_append (Names new) (xs ++ ys) ((k, o) ∷ [])
            (each_weaker (Names c) (Names new) (λ n is. same n.0 ∙ is) (xs ++ ys) (all_append (Names c) xs ys stored_before stored_after)) (same k ∙ names_at, tt);
        count = omega (arith, third.keeps.len, second.keeps.len, first.keeps.len, linked.count, lengths, length-append (xs ++ ys) ((k, o) ∷ []));
      }

  -- after its object was changed
  pub linked_changed : (new : Chain) (change : Object → Object) → SetsObject c new k change → IsLinked new (xs ++ (k, change o) ∷ ys)
  linked_changed new change sets =
      let same : stops_of (xs ++ (k, change o) ∷ ys) ≡ stops_of nodes = map-append (λ (n : Keyed). Some n.0) xs ((k, change o) ∷ ys) ∙ sym stops_split in
      record {
        ring = rw same (path_same c new sets.next sets.prev None (stops_of nodes ++ None ∷ []) linked.ring);
        apart = rw same linked.apart;
        stored =
            all_append (Names new) xs ((k, change o) ∷ ys) (stored_kept c new k xs sets.others off_before stored_before)
            (sets.changed ∙ ap (option_map change) names_at, stored_kept c new k ys sets.others off_after stored_after);
        count = omega (arith, sets.len, linked.count, ap length split, length-append xs ((k, o) ∷ ys), length-append xs ((k, change o) ∷ ys));
      }

-- after an object was stored under a free key
module _ (old inserted : Chain) (nodes : List Keyed) (k : ℕ) (o : Object) (linked : IsLinked old nodes) (inserts : Inserts old inserted k o) where
  off_new : IsOff (Some k) (stops_of nodes)
  off_new = off_free old k nodes inserts.free linked.stored

  ring_still : IsRing inserted (stops_of nodes)
  ring_still = ring_kept old inserted (Some k) (stops_of nodes) inserts.links (some_none k) off_new linked.ring

  -- a stop stays after an insertion
  pub inserted_stop : (s : Option ℕ) → IsStop old s → IsStop inserted s
  inserted_stop s stop = stop_kept old inserted s stays stop
    where
      stays : (j : ℕ) → IsStored old j → IsStored inserted j
      stays j is = let ne : j ≢ k = λ e. let here = rw (e, inserts.free) at is in absurd (cc) in rw (inserts.others j ne) is

  module _ (mid new : Chain) (first : KeepsObjects inserted mid) (second : KeepsObjects mid new) where
    same_else : KeepsOtherObjects old new k
    same_else j ne = second.objects j ∙ first.objects j ∙ inserts.others j ne

    named_new : object_at new k ≡ Some o
    named_new = second.objects k ∙ first.objects k ∙ inserts.stored

    stored_still : AllByRecursion (Names new) nodes
    stored_still = stored_kept old new k nodes same_else off_new linked.stored

    one_more : slab_len new.nodes ≡ length nodes + 1
    one_more = omega (arith, second.len, first.len, inserts.len, linked.count)

  -- and joined to the tail
  pub linked_back : (mid new : Chain) → Joins inserted mid old.tail (Some k) → Joins mid new (Some k) None → IsLinked new (nodes ++ (k, o) ∷ [])
  linked_back mid new from_old second =
      let first : Joins inserted mid inserted.tail (Some k) = subst (λ (t : Option ℕ). Joins inserted mid t (Some k)) (sym (inserts.links.prev None (none_some k))) from_old in
      record {
        ring = rw (map-append (λ (n : Keyed). Some n.0) nodes ((k, o) ∷ [])) (ring_back inserted mid new (Some k) (stops_of nodes) first second (some_none k) off_new linked.apart ring_still);
        apart =
            rw (map-append (λ (n : Keyed). Some n.0) nodes ((k, o) ∷ []))
            (apart_append (None ∷ stops_of nodes) (Some k ∷ []) linked.apart (tt, tt) (off_each (Some k) (None ∷ stops_of nodes) (none_some k, off_new)));
        stored = all_append (Names new) nodes ((k, o) ∷ []) (stored_still mid new first.keeps second.keeps) (named_new mid new first.keeps second.keeps, tt);
        count = omega (arith, one_more mid new first.keeps second.keeps, length-append nodes ((k, o) ∷ []));
      }

  -- and joined before the head
  pub linked_front : (mid new : Chain) → Joins inserted mid (Some k) old.head → Joins mid new None (Some k) → IsLinked new ((k, o) ∷ nodes)
  linked_front mid new from_old second =
      let first : Joins inserted mid (Some k) inserted.head = subst (λ (t : Option ℕ). Joins inserted mid (Some k) t) (sym (inserts.links.next None (none_some k))) from_old in
      record {
        ring = ring_front inserted mid new (Some k) (stops_of nodes) first second (some_none k) off_new linked.apart ring_still;
        apart = ((some_none k, linked.apart.0), (off_new, linked.apart.1));
        stored = (named_new mid new first.keeps second.keeps, stored_still mid new first.keeps second.keeps);
        count = omega (arith, one_more mid new first.keeps second.keeps);
      }

-- the ends of linked nodes
pub head_is : (c : Chain) (nodes : List Keyed) → IsLinked c nodes → c.head ≡ first_key nodes
head_is c [] linked = linked.ring.0.0
head_is c (n ∷ ns) linked = linked.ring.0.0

-- the tail is the last key
pub tail_is : (c : Chain) (nodes : List Keyed) → IsLinked c nodes → c.tail ≡ last_key nodes
tail_is c [] linked = linked.ring.0.1
tail_is c (n ∷ ns) linked = later n ns linked.ring.1
  where
    later : (n : Keyed) (zs : List Keyed) → IsPath c (Some n.0) (stops_of zs ++ None ∷ []) → c.tail ≡ last_key (n ∷ zs)
    later n [] path = path.0.1
    later n (z ∷ zs) path = later z zs path.1
