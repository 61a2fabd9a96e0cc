-- SPDX-License-Identifier: GPL-2.0-only
-- One entry more.
use Rattle.shr_model.proofs.Common.{◌≡◌, true, false, List, [], ◌∷◌, ◌++◌, ◌≤◌, length, take, refl, ap, sym, subst, ◌∙◌, inl, inr, arith, length-append, take-append-le, Object, Entry, step, IsOutcome, first_moved, later_moved, is_closed, is_closing, IsOpenBeforeEach, HasJournal, Add, Look, Drop, Pin, Scan, MovedIn, Closed, Drained}
use Rattle.std.proofs.Math.Nat.{eq-or-lt_of_le}
use Rattle.std.proofs.Math.Seq.{take-length}
use Rattle.shr_model.specs.Items.{items_from, AreOutcomes}
use Rattle.shr_model.specs.MovedItems.{moved_from}

-- what one entry more leaves is its step on what the others leave
pub items_from_push : (moved : List (List Object)) (items : List Object) (es : List Entry) (e : Entry) → items_from moved items (es ++ e ∷ []) ≡ step (first_moved (moved_from moved es)) (items_from moved items es) e
unfolding items_from moved_from
items_from_push moved items [] e = refl
items_from_push moved items (x ∷ es) e = items_from_push (later_moved x moved) (step (first_moved moved) items x) es e

-- and so are the lists that are left for later entries
pub moved_from_push : (moved : List (List Object)) (es : List Entry) (e : Entry) → moved_from moved (es ++ e ∷ []) ≡ later_moved e (moved_from moved es)
unfolding moved_from
moved_from_push moved [] e = refl
moved_from_push moved (x ∷ es) e = moved_from_push (later_moved x moved) es e

-- the outcomes of a journal stay right with one entry more whose own is
pub AreOutcomes_push : (moved : List (List Object)) (items : List Object) (es : List Entry) (e : Entry) → AreOutcomes moved items es → IsOutcome (first_moved (moved_from moved es)) (items_from moved items es) e → AreOutcomes moved items (es ++ e ∷ [])
unfolding items_from moved_from AreOutcomes
AreOutcomes_push moved items [] e h o = (o, tt)
AreOutcomes_push moved items (x ∷ es) e h o = (h.0, AreOutcomes_push (later_moved x moved) (step (first_moved moved) items x) es e h.1 o)

-- an entry that closes a list is Closed
pub closing_is : (e : Entry) → is_closing e ≡ true → e ≡ Closed
closing_is (Add by birth added key value) h = absurd cc
closing_is (Look by birth key hit) h = absurd cc
closing_is (Drop by birth key kind) h = absurd cc
closing_is (Pin by birth key pinned hit) h = absurd cc
closing_is (Scan worker walk asked policy visits freed stopped) h = absurd cc
closing_is (MovedIn child objects) h = absurd cc
closing_is Closed h = refl
closing_is (Drained by objects) h = absurd cc

-- a journal that is open may gain an entry
pub IsOpenBeforeEach_push : (es : List Entry) (e : Entry) → is_closed es ≡ false → IsOpenBeforeEach es → IsOpenBeforeEach (es ++ e ∷ [])
IsOpenBeforeEach_push es e here each n h =
    let within : n ≤ length es = omega (arith, h, length-append es (e ∷ [])) in
    rw (take-append-le n es (e ∷ []) within) (elim (eq-or-lt_of_le within) as (λ _. is_closed (take n es) ≡ false) [
      | inl last ↦ rw (last, take-length) here
      | inr earlier ↦ each n earlier
    ])

-- a journal with one entry more, whatever it would move
pub HasJournal_push : (es : List Entry) (items : List Object) (e : Entry) (after : List Object) → HasJournal es items → is_closed es ≡ false
    → ((moved : List Object) → (step moved items e ≡ after) × IsOutcome moved items e) → HasJournal (es ++ e ∷ []) after
HasJournal_push es items e after h here one =
    let moved = h.0 in
    let next = first_moved (moved_from moved es) in (
      moved,
      record {
        left = items_from_push moved [] es e ∙ ap (λ (xs : List Object). step next xs e) h.1.left ∙ (one next).0;
        outcomes = AreOutcomes_push moved [] es e h.1.outcomes (subst (λ (xs : List Object). IsOutcome next xs e) (sym h.1.left) (one next).1);
        ended = IsOpenBeforeEach_push es e here h.1.ended;
      },
    )

-- an empty list has an empty journal
pub HasJournal_none : HasJournal [] []
unfolding items_from AreOutcomes
HasJournal_none = ([], record { left = refl; outcomes = tt; ended = λ n h. absurd (omega (arith, h)) })
