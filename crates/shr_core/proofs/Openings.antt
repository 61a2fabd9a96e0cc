-- SPDX-License-Identifier: GPL-2.0-only
-- The table at the start meets the rule.
use Rattle.shr_core.proofs.Common.{◌≡◌, ◌⊎◌, ℕ, zero, suc, ◌+◌, ◌*◌, ◌%◌, ◌^◌, ◌<◌, ◌≢◌, true, false, List, [], ◌∷◌, ◌++◌, length, get_or, sym, refl, subst, ◌∙◌, inl, arith, length-append, ap, Some, None, none-some, bit_at, length-map, dite, ℕ_discrete, dec_lt, some, opening, at_map, PoolEntry, decl_of, last_number, from_of, Each, Begins, Each-one, Each-none, View, Slot, Setting, Hand, Traces, Marks, Claims, Turns, row_in, counts_in, locks_in, bits_in, looks_in, places_in, rooms_in, words_in, map_of, place_bit, sizes_of, IsShape, lookups_of, AreFreshRooms, AreFirstWords, HasOwnEnd, Sound, IsRoom, Fits, AreInHand, IsMade, IsKnown, IsSeen, IsMapped, IsShown, HasOnlyIds, IsTried, IsLoaded, IsHeld, IsOwner, IsTurn, IsDated, Journals, Histories, opener, spent, met_now, Sizes, ended_none, dying_none, IsPoolJournal_none, AreSeats-first}
use Rattle.std.proofs.lemmas.Nat.Bits.{bit_at-zero}
use Rattle.shr_model.specs.Pool.{phase_of, decl_from, number_from, from_from, registrations, decl_at}
use Rattle.shr_core.proofs.Ordering as ordering
use Rattle.shr_core.proofs.Laying.{count_none, lock_none, bits_none, look_low, room_low}
use Rattle.shr_core.proofs.Claiming.{between_none}
use Rattle.shr_core.proofs.Tracing.{below_no}
use Rattle.shr_core.proofs.Listing as listing
use Rattle.shr_core.proofs.Hands.{no_phase}
use Rattle.shr_model.proofs.Lists.{there}

no_decl : (i : ℕ) → decl_of i [] ≡ 0
unfolding decl_from
no_decl i = refl

no_number : (i : ℕ) → last_number i [] ≡ 0
unfolding number_from
no_number i = refl

no_from : (i : ℕ) → from_of i [] ≡ 0
unfolding from_from
no_from i = refl

-- no lookup is held before the first registration
no_lookup : (i n : ℕ) → decl_at n (registrations i []) ≡ met_now i []
unfolding decl_at registrations phase_of decl_from
no_lookup i n = refl

-- no bit of 0 is set
no_bit : (b : ℕ) → bit_at 0 b ≡ 1 → ⊥
no_bit b e = omega (arith, bit_at-zero b, e)

false_true : false ≡ true → ⊥
false_true e = cc

not_third : (row : ℕ) → (8 * row % 8 ≢ 3) × ((8 * row + 1) % 8 ≢ 3) × ((8 * row + 2) % 8 ≢ 3)
not_third row = ((λ e. absurd (omega (arith, e))), (λ e. absurd (omega (arith, e))), λ e. absurd (omega (arith, e)))

-- a new core meets the rule
pub opens : (key : Setting) (ws : List ℕ) (slots : List Slot) → IsShape key.shape → key.first_lookup < 2 ^ 32 → length ws ≡ words_in (sizes_of key.shape) → length slots ≡ rooms_in (sizes_of key.shape) → AreFirstWords key.first_lookup ws → AreFreshRooms key.shape.most_items key.shape.most_entries slots
    → Sound key (opening ws slots opener)
opens key ws slots shape small wide deep words fresh =
    let now : Journals = λ _. [] in let after : Histories = λ _ _. [] in let ids : ℕ = key.shape.ids in
    let z : Sizes = sizes_of key.shape in let count : (k : ℕ) → counts_in z ws k ≡ 0 = λ k. count_none z ws k (words.others (8 * row_in z k) (not_third (row_in z k)).0) in
    let lock : (k : ℕ) → locks_in z ws k ≡ 0 = λ k. lock_none z ws k (words.others (8 * row_in z k + 1) (not_third (row_in z k)).1) in
    let bits : (k : ℕ) → bits_in z ws k ≡ 0 = λ k. bits_none z ws k (words.others (8 * row_in z k + 2) (not_third (row_in z k)).2) in
    let look : (i : ℕ) → i < ids → looks_in ws i ≡ key.first_lookup * 256 = λ i near. words.looks (8 * i + 3) (omega arith) (omega (arith, wide, look_low key.shape i shape.some_nodes shape.tree.has_root near)) in
    let lookups : (i : ℕ) → i < ids → lookups_of (looks_in ws i) ≡ key.first_lookup = λ i near. omega (arith, look i near, small) in record {
      now = now;
      after = after;
      pool = [];
      sized = record { shape = shape; first = small };
      wide = wide;
      deep = length-map slots some ∙ deep;
      emptied = Each-one (λ (v : View). v.standing.gone ≡ true → v ≡ spent) opener (λ t. absurd (false_true t));
      ended = Each-one (HasOwnEnd []) opener (λ i e. absurd (none-some i e));
      ordered = ordering.opens ids key.first_lookup (bits_in z ws) (looks_in ws) (λ m b. ap (λ x. bit_at x b) (bits m) ∙ bit_at-zero b) lookups (λ i near. omega (arith, look i near));
      rules = record {
        counted = record { is = λ k near. omega (arith, count k); items = λ k. omega arith; entries = λ k. omega arith; placed = λ k some. absurd (omega (arith, some)) };
        roomed = record {
          locks = λ r near. omega (arith, lock r);
          one = λ r near. omega (arith, lock r);
          home = λ r near free. let t = there slots (row_in z r) (omega (arith, deep, room_low key.shape r near)) in let f = fresh (row_in z r) t.0 t.1 in (
            t.0,
            at_map some slots (row_in z r) t.0 t.1,
            record {
              fits = record { entries = λ l. f.entries; items = λ l. f.items; most_items = λ l. f.most_items; most_entries = λ l. f.most_entries; turns = λ e. f.pool };
              spare = λ e. omega (arith, dying_none ids);
            },
          );
          hand = Each-one (AreInHand (IsRoom key.shape) (Fits key.shape now after [])) opener.holding (Each-none (λ (h : Hand). IsRoom key.shape h.room × Fits key.shape now after [] h.room h.content));
        };
        listed = listing.opens key.shape.parents.items;
        traced = record {
          once = λ k n. sym (below_no n 0 (omega arith));
          made = Each-one (λ (t : Traces). Each (IsMade now after) t.made) opener.traces (Each-none (IsMade now after));
          known = Each-one (λ (t : Traces). Each (IsKnown now) t.known) opener.traces (Each-none (IsKnown now));
          seen = Each-one (λ (t : Traces). Each (IsSeen now after) t.seen) opener.traces (Each-none (IsSeen now after));
        };
        marked = record {
          flagged = λ k near below live some-items. absurd (omega (arith, some-items, count k));
          settled = λ k near some-set none-cleared. absurd (omega arith);
          mapped = Each-one (λ (m : Marks). Each (IsMapped (places_in ids) (opener.marks ∷ [])) m.maps) opener.marks (Each-none (IsMapped (places_in ids) (opener.marks ∷ [])));
          raised = λ k near is-one. absurd (no_bit (place_bit k) (subst (λ (x : ℕ). bit_at x (place_bit k) ≡ 1) (bits (map_of k)) is-one));
          shown = Each-one (λ (m : Marks). Each (IsShown (places_in ids) (opener.marks ∷ [])) m.maps) opener.marks (Each-none (IsShown (places_in ids) (opener.marks ∷ [])));
          none_else = λ m b near low is-one. absurd (no_bit b (subst (λ (x : ℕ). bit_at x b ≡ 1) (bits m) is-one));
          none_shown = Each-one (λ (m : Marks). Each (HasOnlyIds ids) m.maps) opener.marks (Each-none (HasOnlyIds ids));
        };
        looked = record {
          few = omega arith;
          refs = λ i near. omega (arith, look i near);
          apart = Each-one (λ (c : Claims). (c.held ≡ None) ⊎ (c.probe ≡ None)) opener.claims (inl refl);
          space = λ i near. omega (arith, lookups i near);
          low = λ i near. omega (arith, lookups i near);
          phase = λ i near. omega (arith, look i near, no_phase i, small);
          decl = λ i near. omega (arith, look i near, no_decl i, small);
          edges = λ i n near h. no_lookup i n;
          ended = λ i near. ended_none (lookups_of (looks_in ws i)) i;
          numbers = λ i near. omega (arith, no_number i);
          began = λ i near. omega (arith, no_from i);
          once = λ i n near. sym (between_none key.first_lookup n (lookups_of (looks_in ws i)) (lookups i near));
          tried = Each-one (λ (c : Claims). Each (IsTried ids []) c.attempts) opener.claims (Each-none (IsTried ids []));
          loaded = Each-one (λ (c : Claims). Each (IsLoaded ids (looks_in ws)) c.loaded) opener.claims (Each-none (IsLoaded ids (looks_in ws)));
          held = Each-one (λ (c : Claims). (i : ℕ) → c.held ≡ Some i → IsHeld ids (looks_in ws) [] c i) opener.claims (λ i e. absurd (none-some i e));
        };
        owned = record {
          one = λ i. omega arith;
          owner = Each-one (λ (c : Claims). (i : ℕ) → c.owner ≡ Some i → IsOwner key.shape now after [] (opener.claims ∷ []) c i) opener.claims (λ i e. absurd (none-some i e));
          outside = λ k h. refl;
          resting = λ k near idle. refl;
        };
        turned = record {
          once = λ n. sym (below_no n 0 (omega arith));
          made = Each-one (λ (t : Turns). Each (IsTurn []) t.made) opener.turns (Each-none (IsTurn []));
          known = Each-one (λ (t : Turns). Begins t.known []) opener.turns ([], refl);
          heard = Each-one (λ (t : Turns). Each (λ (k : List PoolEntry). Begins k []) t.heard) opener.turns (Each-none (λ (k : List PoolEntry). Begins k []));
          journal = IsPoolJournal_none ids key.shape.decls;
        };
        dated = Each-one (λ (t : Turns). Each (IsDated ids (looks_in ws) []) t.dated) opener.turns (Each-none (IsDated ids (looks_in ws) []));
        seated = AreSeats-first;
      };
    }

word_push : (xs : List ℕ) (x i : ℕ) → (i < length xs → get_or (xs ++ x ∷ []) i 0 ≡ get_or xs i 0) × (i ≡ length xs → get_or (xs ++ x ∷ []) i 0 ≡ x) × (length xs < i → get_or (xs ++ x ∷ []) i 0 ≡ 0)
word_push [] x zero = ((λ h. absurd (omega arith)), (λ e. refl), λ h. absurd (omega arith))
word_push [] x (suc i) = ((λ h. absurd (omega arith)), (λ e. absurd (omega arith)), λ h. refl)
word_push (y ∷ ys) x zero = ((λ h. refl), (λ e. absurd (omega arith)), λ h. absurd (omega arith))
word_push (y ∷ ys) x (suc i) = let t = word_push ys x i in ((λ h. t.0 (omega arith)), (λ e. t.1 (omega arith)), λ h. t.2 (omega arith))

pub words_push : (first : ℕ) (xs : List ℕ) (x n : ℕ) → length xs ≡ n → (n % 8 ≡ 3 → x ≡ first * 256) → (n % 8 ≢ 3 → x ≡ 0) → AreFirstWords first xs → AreFirstWords first (xs ++ x ∷ [])
words_push first xs x n long is is-not w = record {
  others = λ i ne. let t = word_push xs x i in dite (dec_lt i n) (λ l. t.0 (omega arith) ∙ w.others i ne) (λ h. dite (ℕ_discrete i n) (λ e. t.1 (omega arith) ∙ is-not (λ z. ne (omega (arith, z, e)))) (λ m. t.2 (omega arith)));
  looks = λ i e inside. let t = word_push xs x i in let more = length-append xs (x ∷ []) in dite (dec_lt i n) (λ l. t.0 (omega arith) ∙ w.looks i e (omega arith)) (λ h. let same : i ≡ n = omega arith in t.1 (omega arith) ∙ is (omega arith));
}

pub words_none : (first : ℕ) → AreFirstWords first []
words_none first = record { others = λ i ne. refl; looks = λ i e h. absurd (omega arith) }
