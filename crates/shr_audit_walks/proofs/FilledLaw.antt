-- SPDX-License-Identifier: GPL-2.0-only
-- What is so of each walk of each worker is what the law asks of the bits.
use Rattle.shr_audit_walks.proofs.LaterCommon.{◌≡◌, ℕ, ◌<◌, ◌≤◌, Bool, true, false, cond, List, [], ◌∷◌, length, get_or, take, Option, Some, None, refl, sym, ap, subst, ◌∙◌, arith, ◌==◌, option_map, slice_get, Decides, and_parts, and_from, eqb-true, eq-eqb, get_or_from_slice_get, slice_get-get_or, slice_get_within, WorkerPart, At, Place, Answered, MapSeen, WalkRecord, is_set, bit_of, Report, EachWalk, answers_in, at, serial_of, EachItem, all_at, clash, each_all, InParts, decides_iff, each_walk_of, Words, AreFilled, HasFilled, IsPartFilled, filled_by, is_filled, is_place_itself, is_place_same, found_at, ◌&&◌, not, journals_of, parents_of, reply_at, IsWalkFull}
use Rattle.std.proofs.lemmas.List.{get_or-take, length-take}
use Rattle.std.proofs.lemmas.List.Folds.{list_any_at, Any-from_list_any}
use Rattle.shr_base.specs.declared.objects.Object.{Object}
use Rattle.shr_base.specs.declared.replies.Reply.{Reply}
use Rattle.shr_base.specs.declared.replies.Reply.TheVariants as reply
use Rattle.shr_base.specs.declared.scripts.Script.{Script}
use Rattle.shr_model.specs.Families.{items_at}
use Rattle.shr_laws.specs.WalksLawful.{Covers, FillsPlace, was_cleared}

-- ---- one walk

module _ (parents : List ℕ) (r : Report) where
  abbrev Fills : Place → Reply → ℕ → Type 0
  Fills place x entry = (x ≡ reply.Added (at place entry)) × ((length (items_at parents (journals_of r) place entry) ≡ 0) × (was_cleared r place ≡ false))

  not_false : (b : Bool) → not b ≡ true → b ≡ false
  not_false true e = absurd cc
  not_false false e = refl

  filled_is : (place : Place) (x : Reply) → is_filled (filled_by parents r x) place ≡ true → (entry : ℕ) × Fills place x entry
  filled_is place (reply.Added c) e = by ((length (items_at parents (journals_of r) c.place c.entry) == 0) && not (was_cleared r c.place)) refl e
    where
      by : (b : Bool) → ((length (items_at parents (journals_of r) c.place c.entry) == 0) && not (was_cleared r c.place)) ≡ b → is_filled (cond b (Some c.place) None) place ≡ true → (entry : ℕ) × Fills place (reply.Added c) entry
      by true t e =
          let same : place ≡ c.place = is_place_same place c.place e in
          let parts = and_parts (length (items_at parents (journals_of r) c.place c.entry) == 0) (not (was_cleared r c.place)) t in (
            c.entry,
            (
              let cited : c ≡ at place c.entry = let back = sym same in λ i. record { place = back i; entry = c.entry } in ap (λ (x : At). reply.Added x) cited,
              (
                subst (λ (p : Place). length (items_at parents (journals_of r) p c.entry) ≡ 0) (sym same) (eqb-true (length (items_at parents (journals_of r) c.place c.entry)) 0 parts.0),
                subst (λ (p : Place). was_cleared r p ≡ false) (sym same) (not_false (was_cleared r c.place) parts.1),
              ),
            ),
          )
      by false t e = absurd cc
  filled_is place x e = absurd cc

  is_filling : (place : Place) (entry : ℕ) → length (items_at parents (journals_of r) place entry) ≡ 0 → was_cleared r place ≡ false → is_filled (filled_by parents r (reply.Added (at place entry))) place ≡ true
  is_filling place entry none kept =
      let test : ((length (items_at parents (journals_of r) place entry) == 0) && not (was_cleared r place)) ≡ true = and_from (length (items_at parents (journals_of r) place entry) == 0) (not (was_cleared r place)) (eq-eqb (length (items_at parents (journals_of r) place entry)) 0 none) (ap not kept) in
      ap (λ (b : Bool). is_filled (cond b (Some place) None) place) test ∙ is_place_itself place

  module _ (answers : List Answered) (t : Words) (w : WalkRecord) (filled : AreFilled parents r answers w.by.command t) where
    abbrev is_of : Place → Answered → Bool
    is_of place x = is_filled (filled_by parents r x.reply) place

    walk_has : IsWalkFull t w → HasFilled parents r answers w
    walk_has full i k entry m place a at_i covers lt at_k is none kept =
        let long = length-take w.by.command answers in
        let there = slice_get_within answers k a at_k in
        let here : get_or (take w.by.command answers) k a ≡ a = get_or-take w.by.command answers k a lt ∙ get_or_from_slice_get answers k a a at_k in
        let fills : is_of place (get_or (take w.by.command answers) k a) ≡ true = ap (is_of place) here ∙ ap (λ (x : Reply). is_filled (filled_by parents r x) place) is ∙ is_filling place entry none kept in
        full i m at_i place covers (filled place ∙ list_any_at (is_of place) (take w.by.command answers) k a (omega (arith, long, there, lt)) fills)

    has_walk : HasFilled parents r answers w → IsWalkFull t w
    has_walk has i m at_i place covers set =
        let long = length-take w.by.command answers in
        let f = Any-from_list_any (is_of place) (take w.by.command answers) (sym (filled place) ∙ set) in
        let within = f.2 in
        let lt : f.0 < w.by.command = omega (arith, long, within) in
        let at_k : slice_get answers f.0 ≡ Some f.1 = slice_get-get_or answers f.0 f.1 (omega (arith, long, within)) ∙ ap (λ (x : Answered). Some x) (sym (get_or-take w.by.command answers f.0 f.1 lt) ∙ f.3) in
        let is = filled_is place f.1.reply f.4 in
        has i f.0 is.0 m place f.1 at_i covers lt at_k is.1.0 is.1.1.0 is.1.1.1

  pub filled_decided : (answers : List Answered) (t : Words) (w : WalkRecord) (n : ℕ) (b : Bool) → n ≡ w.by.command → AreFilled parents r answers n t → Decides b (IsWalkFull t w) → Decides b (HasFilled parents r answers w)
  filled_decided answers t w n b e filled d =
      let at_command = subst (λ (k : ℕ). AreFilled parents r answers k t) e filled in
      decides_iff b (IsWalkFull t w) (HasFilled parents r answers w) (walk_has answers t w at_command) (has_walk answers t w at_command) d

-- ---- the walks of all workers

-- what the law asks of a walk of a worker
abbrev pub LawSeen : Script → Report → ℕ → WalkRecord → Type 0
LawSeen s r worker w = (i k : ℕ) (m : MapSeen) (place : Place) → slice_get w.maps.items i ≡ Some m → Covers w m place → k < w.by.command
    → FillsPlace s r (serial_of worker k) place → was_cleared r place ≡ false → is_set m.bits (bit_of place.id) ≡ true

abbrev pub Seen : Script → Report → Type 0
Seen s r = EachWalk r (λ worker n w. LawSeen s r worker w)

replied : (o : Option Answered) (x : Reply) → option_map (λ (a : Answered). a.reply) o ≡ Some x → (a : Answered) × ((o ≡ Some a) × (a.reply ≡ x))
replied None x e = absurd cc
replied (Some a) x e = (a, (refl, some_same a.reply x e))
  where
    some_same : (a b : Reply) → ◌≡◌ {A = Option Reply} (Some a) (Some b) → a ≡ b
    some_same a b e = cc

no_objects : (xs : List Object) → length xs ≡ 0 → xs ≡ []
no_objects [] e = refl
no_objects (x ∷ xs) e = absurd (omega arith)

module _ (s : Script) (r : Report) (worker : ℕ) (part : WorkerPart) (here : slice_get r.workers.items worker ≡ Some part) where
  reply_in : (k : ℕ) → reply_at r (serial_of worker k) ≡ option_map (λ (a : Answered). a.reply) (slice_get part.answers.items k)
  reply_in k = ap (λ (o : Option WorkerPart). option_map (λ (a : Answered). a.reply) (slice_get (answers_in o) k)) here

  pub law_of : (w : WalkRecord) → HasFilled (parents_of s) r part.answers.items w → LawSeen s r worker w
  law_of w has i k m place at_i covers lt fills kept =
      let f = replied (slice_get part.answers.items k) (reply.Added (at place fills.entry)) (sym (reply_in k) ∙ fills.added) in
      has i k fills.entry m place f.0 at_i covers lt f.1.0 f.1.1 (ap length fills.empty) kept

  pub of_law : (w : WalkRecord) → LawSeen s r worker w → HasFilled (parents_of s) r part.answers.items w
  of_law w law i k entry m place a at_i covers lt at_k is none kept = law i k m place at_i covers lt (record {
    entry = entry;
    added = reply_in k ∙ (ap (option_map (λ (x : Answered). x.reply)) at_k ∙ ap (λ (x : Reply). Some x) is);
    empty = no_objects (items_at (parents_of s) (journals_of r) place entry) none;
  }) kept

-- ---- the walks of one worker

module _ (parents : List ℕ) (r : Report) (part : WorkerPart) (answers : List Answered) (walks : List WalkRecord) (a : answers ≡ part.answers.items) (ws : walks ≡ part.walks.items) (n : ℕ) where
  pub walk_fails : (w : WalkRecord) (b : Bool) → n < length walks → w ≡ get_or walks n w → Decides b (HasFilled parents r answers w) → b ≡ false → Decides false (IsPartFilled parents r part)
  walk_fails w b lt is d isnt =
      let here : slice_get part.walks.items n ≡ Some w = ap (λ (xs : List WalkRecord). slice_get xs n) (sym ws) ∙ found_at walks n w lt is in
      (λ t. absurd cc, λ h. absurd (clash b (d.1 (subst (λ (xs : List Answered). HasFilled parents r xs w) (sym a) (h n w here))) isnt))

  pub walks_all : length walks ≤ n → ((k : ℕ) (w : WalkRecord) → k < n → slice_get walks k ≡ Some w → HasFilled parents r answers w) → Decides true (IsPartFilled parents r part)
  walks_all over before =
      subst (λ (xs : List Answered). Decides true (EachItem (HasFilled parents r xs) part.walks.items)) a (subst (λ (xs : List WalkRecord). Decides true (EachItem (HasFilled parents r answers) xs)) ws (each_all (HasFilled parents r answers) walks n over before))

-- ---- all workers

module _ (s : Script) (r : Report) (parents : List ℕ) (parts : List WorkerPart) (i : ℕ) (tree : parents ≡ parents_of s) (same : parts ≡ r.workers.items) where
  pub all_seen : length parts ≤ i → ((k : ℕ) (part : WorkerPart) → k < i → slice_get parts k ≡ Some part → IsPartFilled parents r part) → Decides true (Seen s r)
  all_seen over before = each_walk_of r (λ worker n w. LawSeen s r worker w) true (
    λ t worker part here n w is.
        let each : IsPartFilled parents r part = (all_at (λ (k : ℕ) (x : WorkerPart). IsPartFilled parents r x) parts i over before).0 refl worker part (ap (λ (xs : List WorkerPart). slice_get xs worker) same ∙ here) in
        law_of s r worker part here w (subst (λ (ps : List ℕ). HasFilled ps r part.answers.items w) tree (each n w is)),
    λ h. refl,
  )

  pub part_fails : (part : WorkerPart) (b : Bool) → i < length parts → part ≡ get_or parts i part → Decides b (IsPartFilled parents r part) → b ≡ false → Decides false (Seen s r)
  part_fails part b lt is d isnt =
      let here : slice_get r.workers.items i ≡ Some part = ap (λ (xs : List WorkerPart). slice_get xs i) (sym same) ∙ found_at parts i part lt is in
      let each : InParts (λ (p : WorkerPart). p.walks.items) r (λ worker n w. LawSeen s r worker w) → IsPartFilled parents r part = λ h n w at_n. subst (λ (ps : List ℕ). HasFilled ps r part.answers.items w) (sym tree) (of_law s r i part here w (h i part here n w at_n)) in
      each_walk_of r (λ worker n w. LawSeen s r worker w) false (λ t. absurd cc, λ h. absurd (clash b (d.1 (each h)) isnt))
