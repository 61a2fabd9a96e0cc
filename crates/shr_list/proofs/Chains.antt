-- SPDX-License-Identifier: GPL-2.0-only
-- What a write to one node of a chain does.
use Rattle.shr_list.proofs.Common.{◌≡◌, ◌≢◌, ℕ, Option, Some, None, is_some, refl, sym, ap, ◌∙◌, arith, inl, inr, option_map, cases_eq, Slab, get, slab_len, Object, Node, Chain, next_in, stop_after, prev_of, KeepsLinks, KeepsOtherObjects, KeepsObjects, SetsObject, cond, with_value, Updates, prev_in, SetsNext, SetsPrev}
use Rattle.std.proofs.lemmas.List.Sums.{sum_by-set}
use Rattle.slab.proofs.SlabLemmas.{Updates-with_value, ContainsKey-within}

-- a write to a node that is there leaves the number of nodes
len_written : (s : Slab Node) (k : ℕ) (n m : Node) → get s k ≡ Some n → slab_len (with_value s k m) ≡ slab_len s
len_written s k n m here =
    let within = ContainsKey-within s k (rw here refl) in
    let sums = rw here at (sum_by-set (λ o. cond (is_some o) 1 0) s.slots k (Some m) None within) in
    omega (arith, sums)

-- the chain with this node under the key
abbrev written : Chain → ℕ → Node → Chain
written c k m = record c { nodes = with_value c.nodes k m }

module _ (c : Chain) (k : ℕ) (n m : Node) (here : get c.nodes k ≡ Some n) where
  updates : Updates c.nodes (with_value c.nodes k m) k (Some m)
  updates = Updates-with_value c.nodes k m (rw here refl)

  elsewhere : (j : ℕ) → j ≢ k → get (with_value c.nodes k m) j ≡ get c.nodes j
  elsewhere j ne = updates.others j ne

  next_else : (a : Option ℕ) → a ≢ Some k → stop_after (written c k m) a ≡ stop_after c a
  next_else None ne = refl
  next_else (Some j) ne = ap next_in (elsewhere j (λ e. ne (ap Some e)))

  prev_else : (b : Option ℕ) → b ≢ Some k → prev_of (written c k m) b ≡ prev_of c b
  prev_else None ne = refl
  prev_else (Some j) ne = ap prev_in (elsewhere j (λ e. ne (ap Some e)))

  next_same : m.next ≡ n.next → (a : Option ℕ) → stop_after (written c k m) a ≡ stop_after c a
  next_same same None = refl
  next_same same (Some j) = elim (cases_eq j k) [
    | inl e ↦ rw e (ap next_in updates.changed ∙ same ∙ sym (ap next_in here))
    | inr ne ↦ ap next_in (elsewhere j ne)
  ]

  prev_same : m.prev ≡ n.prev → (b : Option ℕ) → prev_of (written c k m) b ≡ prev_of c b
  prev_same same None = refl
  prev_same same (Some j) = elim (cases_eq j k) [
    | inl e ↦ rw e (ap prev_in updates.changed ∙ same ∙ sym (ap prev_in here))
    | inr ne ↦ ap prev_in (elsewhere j ne)
  ]

  keeps_objects : m.object ≡ n.object → KeepsObjects c (written c k m)
  keeps_objects same =
      record {
        objects = λ j. elim (cases_eq j k) [
          | inl e ↦ rw e (ap (option_map (λ (x : Node). x.object)) updates.changed ∙ ap Some same ∙ sym (ap (option_map (λ (x : Node). x.object)) here))
          | inr ne ↦ ap (option_map (λ (x : Node). x.object)) (elsewhere j ne)
        ];
        len = len_written c.nodes k n m here;
        capacity = refl;
      }

  -- the node names another next
  pub writes_next : m.object ≡ n.object → m.prev ≡ n.prev → SetsNext c (written c k m) (Some k) m.next
  writes_next object prev =
      record { set = ap next_in updates.changed; others = next_else; prev = prev_same prev; keeps = keeps_objects object }

  -- the node names another one before
  pub writes_prev : m.object ≡ n.object → m.next ≡ n.next → SetsPrev c (written c k m) (Some k) m.prev
  writes_prev object next =
      record { set = ap prev_in updates.changed; others = prev_else; next = next_same next; keeps = keeps_objects object }

  -- the node has a changed object
  pub writes_object : (change : Object → Object) → m.object ≡ change n.object → m.next ≡ n.next → m.prev ≡ n.prev → SetsObject c (written c k m) k change
  writes_object change object next prev =
      record {
        changed = ap (option_map (λ (x : Node). x.object)) updates.changed ∙ ap Some object ∙ sym (ap (λ o. option_map change (option_map (λ (x : Node). x.object) o)) here);
        others = λ j ne. ap (option_map (λ (x : Node). x.object)) (elsewhere j ne);
        next = next_same next;
        prev = prev_same prev;
        len = len_written c.nodes k n m here;
        capacity = refl;
      }

-- a slab that changes at one key alone changes the links of that key alone
pub keeps_links : (old new : Chain) (k : ℕ) (slot : Option Node) → new.head ≡ old.head → new.tail ≡ old.tail → Updates old.nodes new.nodes k slot
    → KeepsLinks old new (Some k) (Some k)
keeps_links old new k slot head tail updates = record { next = next_kept; prev = prev_kept }
  where
    next_kept : (a : Option ℕ) → a ≢ Some k → stop_after new a ≡ stop_after old a
    next_kept None ne = head
    next_kept (Some j) ne = ap next_in (updates.others j (λ e. ne (ap Some e)))

    prev_kept : (b : Option ℕ) → b ≢ Some k → prev_of new b ≡ prev_of old b
    prev_kept None ne = tail
    prev_kept (Some j) ne = ap prev_in (updates.others j (λ e. ne (ap Some e)))

-- and the object of that key alone
pub keeps_others : (old new : Chain) (k : ℕ) (slot : Option Node) → Updates old.nodes new.nodes k slot → KeepsOtherObjects old new k
keeps_others old new k slot updates = λ j ne. ap (option_map (λ (x : Node). x.object)) (updates.others j ne)
