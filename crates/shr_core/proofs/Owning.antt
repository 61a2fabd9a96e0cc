-- SPDX-License-Identifier: GPL-2.0-only
-- Owned ids and empty lists keep their part of the rule.
use Rattle.shr_core.proofs.Common.{◌≡◌, ◌⊎◌, ℕ, zero, suc, ◌+◌, ◌%◌, ◌<◌, ◌≤◌, ◌≢◌, Bool, true, false, cond, List, [], ◌∷◌, ◌++◌, length, set, get_or, sym, refl, ap, subst, ◌∙◌, inl, inr, ⊎_elim, arith, length-set, get_or-set_same, get_or-set_other, Some, None, nat_tests, dite, ℕ_discrete, dec_lt, some, get_elem?, at_set, Object, LookupWord, PoolEntry, phase_of, phase_of_push, total, total_same, total-set, total_zero, term_le, terms_le, Each-set, Shape, Claims, group_of, node_of, place_id, AreOwned, IsOwner, IsInside, Journals, Histories, items_now, mark_of, only_some, is_some_of, groups_in, turn_at, undrained, is_drained, drained_after, is_empty}
use Rattle.shr_core.proofs.Options.{not_some, one_some, is_some_is, only_some_yes, only_some_no, only_none}
use Rattle.shr_core.proofs.Claiming.{turn_here, turn_else}

abbrev owns : ℕ → Claims → ℕ
owns i c = only_some i c.owner

abbrev holds : ℕ → Claims → ℕ
holds i c = only_some i c.held

-- what a view that owns i has to say of its own
pub record Owner (shape : Shape) (now : Journals) (after : Histories) (cs : List Claims) (c : Claims) (i : ℕ) : Type 0 where
  pub quiet : c.quiet ≡ true → total (holds i) cs ≡ 0
  pub nodes : length c.drained ≡ 4
  pub unmoved : c.quiet ≡ false → (node : ℕ) → node < 4 → groups_in shape ≤ mark_of c node
  pub drained : (k : ℕ) → place_id k ≡ i → mark_of c (node_of k) ≤ group_of k → items_now now after k ≡ []

-- a Bool is true or false
true_or_false : {P : Type 0} (b : Bool) → (b ≡ true → P) → (b ≡ false → P) → P
true_or_false true t f = t refl
true_or_false false t f = f refl

-- and not both
not_both : (b : Bool) → b ≡ true → b ≡ false → ⊥
not_both b t f = let e : true ≡ false = sym t ∙ f in cc

-- what it says so far
pub own : (shape : Shape) (now : Journals) (after : Histories) (pool : List PoolEntry) (cs : List Claims) (c : Claims) (i : ℕ) → IsOwner shape now after pool cs c i → Owner shape now after cs c i
own shape now after pool cs c i o = record { quiet = o.quiet; nodes = o.nodes; unmoved = o.unmoved; drained = o.drained }

-- a seat's claims change, and it owns what it owned
pub keeps_owner : (shape : Shape) (now : Journals) (after : Histories) (pool : List PoolEntry) (cs : List Claims) (id : ℕ) (c w : Claims) → get_elem? cs id ≡ some c → w.owner ≡ c.owner
    → ((i : ℕ) → phase_of i pool % 3 ≡ 2 → holds i w ≤ holds i c)
    → ((i : ℕ) → w.owner ≡ Some i → Owner shape now after cs w i)
    → AreOwned shape now after pool cs → AreOwned shape now after pool (set cs id w)
keeps_owner shape now after pool cs id c w at same fewer mine o = record {
  one = λ i. omega (arith, o.one i, total_same (owns i) cs id c w at (ap (only_some i) same));
  owner = Each-set (λ (z : Claims). (i : ℕ) → z.owner ≡ Some i → IsOwner shape now after pool (set cs id w) z i) cs id w
      (λ i e. let d = o.owner id c at i (sym same ∙ e) in let m = mine i e in record { near = d.near; dying = d.dying; quiet = (λ q. omega (arith, m.quiet q, fewer i d.dying, total-set (holds i) cs id c w at)); nodes = m.nodes; unmoved = m.unmoved; drained = m.drained })
      (λ j z f i e. let d = o.owner j z f i e in record { near = d.near; dying = d.dying; quiet = (λ q. omega (arith, d.quiet q, fewer i d.dying, total-set (holds i) cs id c w at)); nodes = d.nodes; unmoved = d.unmoved; drained = d.drained });
  outside = o.outside;
  resting = o.resting;
}

-- nothing is owned any more by the seat
pub gives_up : (shape : Shape) (now : Journals) (after : Histories) (pool : List PoolEntry) (cs : List Claims) (id : ℕ) (c w : Claims) → get_elem? cs id ≡ some c → w.owner ≡ None → w.held ≡ c.held
    → AreOwned shape now after pool cs → AreOwned shape now after pool (set cs id w)
gives_up shape now after pool cs id c w at none same o = record {
  one = λ i. omega (arith, o.one i, total-set (owns i) cs id c w at, only_none i w.owner none);
  owner = Each-set (λ (z : Claims). (i : ℕ) → z.owner ≡ Some i → IsOwner shape now after pool (set cs id w) z i) cs id w
      (λ i e. absurd (not_some i w.owner none e))
      (λ j z f i e. let d = o.owner j z f i e in record { near = d.near; dying = d.dying; quiet = (λ q. total_same (holds i) cs id c w at (ap (only_some i) same) ∙ d.quiet q); nodes = d.nodes; unmoved = d.unmoved; drained = d.drained });
  outside = o.outside;
  resting = o.resting;
}

-- Why a place may have items after a store: the seat holds its id, or there were some at a place
-- above the same mark
abbrev pub Grounds : Journals → Histories → Claims → ℕ → Type 0
Grounds now after c k = (c.held ≡ Some (place_id k)) ⊎ ((q : ℕ) × (place_id q ≡ place_id k) × (node_of q ≡ node_of k) × (group_of k ≤ group_of q) × (items_now now after q ≢ []))

-- the journal of the place k changes
pub stores : (shape : Shape) (now now' : Journals) (after after' : Histories) (pool : List PoolEntry) (cs : List Claims) (id k : ℕ) (c : Claims) → get_elem? cs id ≡ some c → IsInside shape k → shape.nodes ≤ 4
    → ((j : ℕ) → j ≢ k → items_now now' after' j ≡ items_now now after j)
    → (c.held ≡ Some (place_id k) → phase_of (place_id k) pool % 3 ≢ 0)
    → (items_now now' after' k ≡ []) ⊎ Grounds now after c k
    → AreOwned shape now after pool cs → AreOwned shape now' after' pool cs
stores shape now now' after after' pool cs id k c at inside four others busy why o = record {
  one = o.one;
  owner = λ j z f i e. let d = o.owner j z f i e in record {
    near = d.near;
    dying = d.dying;
    quiet = d.quiet;
    nodes = d.nodes;
    unmoved = d.unmoved;
    drained = λ q place mark. dite (ℕ_discrete q k)
        (λ s. subst (λ (x : ℕ). items_now now' after' x ≡ []) (sym s) (⊎_elim (λ h. h) (⊎_elim
        (λ h. absurd (true_or_false z.quiet
        (λ y. omega (arith, d.quiet y, term_le (holds i) cs id c at, only_some_yes i c.held (h ∙ ap (λ (x : ℕ). Some x) (sym (ap place_id s) ∙ place))))
        (λ n. let m = d.unmoved n (node_of k) (omega arith) in omega (arith, m, inside.group, mark, s, ap (λ x. mark_of z (node_of x)) s))))
        (λ t. absurd (t.4 (d.drained t.0 (omega (arith, t.1, place, s)) (omega (arith, t.3, mark, s, ap (mark_of z) t.2, ap (λ x. mark_of z (node_of x)) s))))))
        why))
        (λ n. others q n ∙ d.drained q place mark);
  };
  outside = λ q out. dite (ℕ_discrete q k) (λ s. absurd (⊎_elim (λ h. omega (arith, h, s, inside.group)) (λ h. omega (arith, h, s, inside.node)) out)) (λ n. others q n ∙ o.outside q out);
  resting = λ q near idle. dite (ℕ_discrete q k)
      (λ s. subst (λ (x : ℕ). items_now now' after' x ≡ []) (sym s) (⊎_elim (λ h. h) (⊎_elim
      (λ h. absurd (busy h (subst (λ (x : ℕ). phase_of (place_id x) pool % 3 ≡ 0) s idle)))
      (λ t. absurd (t.4 (o.resting t.0 (omega (arith, t.1, near, s)) (ap (λ x. phase_of x pool % 3) (t.1 ∙ ap place_id (sym s)) ∙ idle)))))
      why))
      (λ n. others q n ∙ o.resting q near idle);
}

empty_nil : (xs : List Object) → is_empty xs ≡ true → xs ≡ []
empty_nil [] e = refl
empty_nil (x ∷ xs) e = let d : false ≡ true = e in absurd (cc)

-- the marks after a room was given back
pub marks_fall : (shape : Shape) (now : Journals) (after : Histories) (cs : List Claims) (c : Claims) (k i : ℕ) (items : List Object) → items ≡ items_now now after k → c.owner ≡ Some i → Owner shape now after cs c i → Owner shape now after cs (record c { drained = drained_after c k items }) i
marks_fall shape now after cs c k i items is owner o =
    let P : Bool → Type 0 = λ b. is_drained c k items ≡ b → Owner shape now after cs (record c { drained = cond b (set c.drained (node_of k) (group_of k)) c.drained }) i in
    let all : (b : Bool) → P b = λ b. elim b as P [
      | true ↦ λ yes. let quiet : c.quiet ≡ true = grind (arith, nat_tests) in let test : is_some_of (place_id k) c.owner ≡ true = grind (arith, nat_tests) in let mine : place_id k ≡ i = one_some (place_id k) i c.owner (is_some_is (place_id k) c.owner test) owner in let mark : mark_of c (node_of k) ≡ group_of k + 1 = grind (arith, nat_tests) in
          let none : is_empty items ≡ true = grind (arith, nat_tests) in
          let new : List ℕ = set c.drained (node_of k) (group_of k) in
          let here : get_or new (node_of k) 0 ≡ group_of k = get_or-set_same c.drained (node_of k) (group_of k) 0 (omega (arith, o.nodes)) in record {
            quiet = o.quiet;
            nodes = length-set c.drained (node_of k) (group_of k) ∙ o.nodes;
            unmoved = λ n. absurd (not_both c.quiet quiet n);
            drained = λ q place low. dite (ℕ_discrete (node_of q) (node_of k))
                (λ s. dite (ℕ_discrete q k) (λ d. ap (items_now now after) d ∙ (sym is ∙ empty_nil items none))
                (λ n. o.drained q place (omega (arith, low, ap (λ x. get_or new x 0) s, ap (λ x. get_or c.drained x 0) s, here, mark, mine, place, s, n))))
                (λ n. o.drained q place (omega (arith, low, get_or-set_other c.drained (node_of k) (node_of q) (group_of k) 0 n)));
          }
      | false ↦ λ no. record { quiet = o.quiet; nodes = o.nodes; unmoved = o.unmoved; drained = o.drained }
    ] in
    all (is_drained c k items) refl

-- what becomes of the seat's ownership at a phase step
pub record Becomes (shape : Shape) (i t : ℕ) (c w : Claims) : Type 0 where
  pub same : t % 3 ≡ 0 → (w.owner ≡ c.owner) × (w.quiet ≡ c.quiet) × (w.drained ≡ c.drained)
  pub gains : t % 3 ≡ 1 → (w.owner ≡ Some i) × (w.quiet ≡ false) × (w.drained ≡ undrained shape)
  pub ends : t % 3 ≡ 2 → w.owner ≡ None

four_at : (g node : ℕ) → node < 4 → get_or (g ∷ g ∷ g ∷ g ∷ []) node 0 ≡ g
four_at g zero h = refl
four_at g (suc zero) h = refl
four_at g (suc (suc zero)) h = refl
four_at g (suc (suc (suc zero))) h = refl
four_at g (suc (suc (suc (suc n)))) h = absurd (omega arith)

-- what is owned meets the rule after a phase step
pub phases : (shape : Shape) (now : Journals) (after : Histories) (pool : List PoolEntry) (cs : List Claims) (id i d : ℕ) (word : LookupWord) (c w : Claims) → get_elem? cs id ≡ some c → i < shape.ids → phase_of i pool ≡ word.phase
    → (word.phase % 3 ≡ 1 → c.owner ≡ None) → (word.phase % 3 ≡ 2 → (c.owner ≡ Some i) × (c.quiet ≡ true) × ((node : ℕ) → node < shape.nodes → mark_of c node ≡ 0)) → Becomes shape i word.phase c w → w.held ≡ c.held
    → AreOwned shape now after pool cs → AreOwned shape now after (pool ++ turn_at i d word ∷ []) (set cs id w)
phases shape now after pool cs id i d word c w at near is to_dying to_idle becomes same-held o =
    let t : ℕ = word.phase in let e : PoolEntry = turn_at i d word in let pool' : List PoolEntry = pool ++ e ∷ [] in
    let turns-here : phase_of i pool' ≡ t + 1 = omega (arith, phase_of_push i pool e, turn_here i d word, is) in
    let turns-else : (j : ℕ) → j ≢ i → phase_of j pool' ≡ phase_of j pool = λ j n. omega (arith, phase_of_push j pool e, turn_else i j d word n) in
    let held : (j : ℕ) → total (holds j) (set cs id w) ≡ total (holds j) cs = λ j. total_same (holds j) cs id c w at (ap (only_some j) same-held) in
    -- an owner of a dying id before owns another id than i, unless it is this seat at the step to
    -- idle
    let apart : (j : ℕ) (z : Claims) → get_elem? cs j ≡ some z → (j ≢ id) ⊎ (t % 3 ≡ 0) → (q : ℕ) → z.owner ≡ Some q → q ≢ i = λ j z f from q has s. let dy = o.owner j z f q has in let two : t % 3 ≡ 2 = omega (arith, dy.dying, ap (λ x. phase_of x pool) s, is) in
    ⊎_elim (λ n. omega (arith, o.one i, terms_le (owns i) cs id j c z n at f, only_some_yes i c.owner (to_idle two).0, only_some_yes i z.owner (has ∙ ap (λ (y : ℕ). Some y) s))) (λ z. omega (arith, z, two)) from in
    let moved : (j : ℕ) (z : Claims) → get_elem? cs j ≡ some z → (j ≢ id) ⊎ (t % 3 ≡ 0) → (q : ℕ) → z.owner ≡ Some q → (x : Claims) → x.quiet ≡ z.quiet → x.drained ≡ z.drained → IsOwner shape now after pool' (set cs id w) x q = λ j z f from q has x a b. let dy = o.owner j z f q has in record {
      near = dy.near;
      dying = ap (λ y. y % 3) (turns-else q (apart j z f from q has)) ∙ dy.dying;
      quiet = λ y. held q ∙ dy.quiet (sym a ∙ y);
      nodes = ap (λ (l : List ℕ). length l) b ∙ dy.nodes;
      unmoved = λ y node small. omega (arith, dy.unmoved (sym a ∙ y) node small, ap (λ (l : List ℕ). get_or l node 0) b);
      drained = λ k place mark. dy.drained k place (omega (arith, mark, ap (λ (l : List ℕ). get_or l (node_of k) 0) b));
    } in record {
      one = λ j. let moved = total-set (owns j) cs id c w at in dite (ℕ_discrete (t % 3) 0) (λ z. omega (arith, moved, o.one j, ap (only_some j) (becomes.same z).0))
          (λ nz. dite (ℕ_discrete (t % 3) 1)
          (λ z. let g = becomes.gains z in dite (ℕ_discrete j i)
          (λ s. let none : total (owns j) cs ≡ 0 = total_zero (owns j) cs (λ a u f. only_some_no j u.owner (λ q. let dy = o.owner a u f j q in omega (arith, dy.dying, ap (λ x. phase_of x pool) s, is, z))) in omega (arith, moved, none, only_some_yes j w.owner (g.0 ∙ ap (λ (y : ℕ). Some y) (sym s)), only_none j c.owner (to_dying z)))
          (λ n. omega (arith, moved, o.one j, only_some_no j w.owner (λ q. n (one_some j i w.owner q g.0)))))
          (λ z. omega (arith, moved, o.one j, only_none j w.owner (becomes.ends (omega arith)))));
      owner = λ j z f q has. ⊎_elim
          (λ (g : (j ≡ id) × (w ≡ z)). subst (λ (x : Claims). IsOwner shape now after pool' (set cs id w) x q) g.1 (let owner : w.owner ≡ Some q = ap (λ (y : Claims). y.owner) g.1 ∙ has in dite (ℕ_discrete (t % 3) 0)
          (λ zero-phase. let b = becomes.same zero-phase in moved id c at (inr zero-phase) q (sym b.0 ∙ owner) w b.1 b.2)
          (λ nz. dite (ℕ_discrete (t % 3) 1)
          (λ one-phase. let b = becomes.gains one-phase in let place : q ≡ i = one_some q i w.owner owner b.0 in record {
            near = omega (arith, near, place);
            dying = omega (arith, ap (λ x. phase_of x pool') place, turns-here, one-phase);
            quiet = λ y. absurd (not_both w.quiet y b.1);
            nodes = ap (λ (l : List ℕ). length l) b.2;
            unmoved = λ y node small. omega (arith, ap (λ (l : List ℕ). get_or l node 0) b.2, four_at (groups_in shape) node small);
            drained = λ k at-id mark. o.outside k (inl (omega (arith, mark, ap (λ (l : List ℕ). get_or l (node_of k) 0) b.2, four_at (groups_in shape) (node_of k) (omega arith))));
          })
          (λ no. absurd (not_some q w.owner (becomes.ends (omega arith)) owner)))))
          (λ (g : (j ≢ id) × (get_elem? cs j ≡ some z)). moved j z g.1 (inl g.0) q has z refl refl)
          (at_set cs id j w z f);
      outside = o.outside;
      resting = λ k inside idle. dite (ℕ_discrete (place_id k) i)
          (λ s. let two : t % 3 ≡ 2 = omega (arith, idle, ap (λ x. phase_of x pool') s, turns-here) in let m = to_idle two in
          dite (dec_lt (node_of k) shape.nodes) (λ l. (o.owner id c at i m.0).drained k s (omega (arith, m.2 (node_of k) l))) (λ l. o.outside k (inr (omega arith))))
          (λ n. o.resting k inside (sym (ap (λ x. x % 3) (turns-else (place_id k) n)) ∙ idle));
    }
