-- SPDX-License-Identifier: GPL-2.0-only
-- A journal with one entry more, and a list's items under its calls.
use Rattle.shr_model.proofs.Common.{◌≡◌, ℕ, Bool, true, false, ◌||◌, List, [], ◌∷◌, ◌++◌, refl, ap, sym, ◌∙◌, length, Object, Entry, Add, Look, Drop, Pin, Scan, MovedIn, Closed, Drained, step, IsOutcome, is_closing, is_closed, first_moved, later_moved, HasJournal}
use Rattle.std.proofs.Math.Bool.{or-false}
use Rattle.std.proofs.lemmas.List.Folds.{list_any-append}
use Rattle.shr_model.specs.Items.{items_from, AreOutcomes}
use Rattle.shr_model.specs.MovedItems.{moved_from}
use Rattle.shr_model.proofs.ItemsLaws.{items_from_push, AreOutcomes_push, IsOpenBeforeEach_push}

-- a journal with one entry more is closed where it was, or where that entry closes it
pub is_closed_push : (es : List Entry) (e : Entry) → is_closed (es ++ e ∷ []) ≡ (is_closed es || is_closing e)
is_closed_push es e = list_any-append is_closing es (e ∷ []) ∙ ap (λ (b : Bool). is_closed es || b) (or-false (is_closing e))

-- the entry moves a child's objects in
abbrev pub is_moved_in : Entry → Bool
is_moved_in (MovedIn child objects) = true
is_moved_in e = false

-- what every other entry leaves does not depend on objects that are moved
pub step_alike : (moved items : List Object) (e : Entry) → is_moved_in e ≡ false → step moved items e ≡ step [] items e
step_alike moved items (Add by birth added key value) h = refl
step_alike moved items (Look by birth key hit) h = refl
step_alike moved items (Drop by birth key kind) h = refl
step_alike moved items (Pin by birth key pinned hit) h = refl
step_alike moved items (Scan worker walk asked policy visits freed stopped) h = refl
step_alike moved items (MovedIn child objects) h = absurd (cc)
step_alike moved items Closed h = refl
step_alike moved items (Drained by objects) h = refl

-- nor does what it says of its outcome
pub IsOutcome_alike : (moved items : List Object) (e : Entry) → is_moved_in e ≡ false → IsOutcome [] items e → IsOutcome moved items e
IsOutcome_alike moved items (Add by birth added key value) h o = o
IsOutcome_alike moved items (Look by birth key hit) h o = o
IsOutcome_alike moved items (Drop by birth key kind) h o = o
IsOutcome_alike moved items (Pin by birth key pinned hit) h o = o
IsOutcome_alike moved items (Scan worker walk asked policy visits freed stopped) h o = o
IsOutcome_alike moved items (MovedIn child objects) h o = absurd (cc)
IsOutcome_alike moved items Closed h o = o
IsOutcome_alike moved items (Drained by objects) h o = o

-- the lists that the MovedIn entries of a journal moved, where these were given
abbrev pub lists_used : List (List Object) → List Entry → List (List Object)
lists_used moved [] = []
lists_used moved (MovedIn child objects ∷ es) = first_moved moved ∷ lists_used (later_moved (MovedIn child objects) moved) es
lists_used moved (e ∷ es) = lists_used moved es

items_used : (moved more : List (List Object)) (items : List Object) (es : List Entry) → items_from (lists_used moved es ++ more) items es ≡ items_from moved items es
unfolding items_from
items_used moved more items [] = refl
items_used moved more items (MovedIn child objects ∷ es) = items_used (later_moved (MovedIn child objects) moved) more (first_moved moved ++ items) es
items_used moved more items (e ∷ es) = items_used moved more (step (first_moved moved) items e) es

outcomes_used : (moved more : List (List Object)) (items : List Object) (es : List Entry) → AreOutcomes moved items es → AreOutcomes (lists_used moved es ++ more) items es
unfolding AreOutcomes
outcomes_used moved more items [] so = tt
outcomes_used moved more items (MovedIn child objects ∷ es) so =
    (so.0, outcomes_used (later_moved (MovedIn child objects) moved) more (first_moved moved ++ items) es so.1)
outcomes_used moved more items (e ∷ es) so = (so.0, outcomes_used moved more (step (first_moved moved) items e) es so.1)

left_used : (moved more : List (List Object)) (es : List Entry) → moved_from (lists_used moved es ++ more) es ≡ more
unfolding moved_from
left_used moved more [] = refl
left_used moved more (MovedIn child objects ∷ es) = left_used (later_moved (MovedIn child objects) moved) more es
left_used moved more (e ∷ es) = left_used moved more es

-- a journal into which these objects are moved
pub HasJournal_moved : (es : List Entry) (items given : List Object) (child : ℕ) → HasJournal es items → is_closed es ≡ false
    → HasJournal (es ++ MovedIn child (length given) ∷ []) (given ++ items)
HasJournal_moved es items given child h here =
    let moved = lists_used h.0 es ++ given ∷ [] in
    let next : first_moved (moved_from moved es) ≡ given = ap first_moved (left_used h.0 (given ∷ []) es) in
    let before : items_from moved [] es ≡ items = items_used h.0 (given ∷ []) [] es ∙ h.1.left in (
      moved,
      record {
        left = items_from_push moved [] es (MovedIn child (length given)) ∙ rw (next, before) refl;
        outcomes = AreOutcomes_push moved [] es (MovedIn child (length given)) (outcomes_used h.0 (given ∷ []) [] es h.1.outcomes) (ap length (sym next));
        ended = IsOpenBeforeEach_push es (MovedIn child (length given)) here h.1.ended;
      },
    )
