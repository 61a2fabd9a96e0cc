-- SPDX-License-Identifier: GPL-2.0-only
-- The events that a worker noted, by their kinds, and along its steps.
use Rattle.shr_lawful.proofs.Common.{◌≡◌, ℕ, ◌<◌, inl, inr, List, [], ◌∷◌, ap, subst, slice_get, Some, Has, by_seat, Begins, begins_all, begins_more, among, seen_in, attempts_in, Event, Made, Counted, Tried, Turn, counted, made, looked, turned, WorkerState, Step, AreStepsChained, made_in, turns_in}
use Rattle.shr_lawful.proofs.Gathering.{later_along}
use Rattle.shr_lawful.proofs.Listed.{either}

-- the event that has what a kind of event gives
pub of_kind : {A : Type 0} (f : Event → List A) (es : List Event) (y : A) → Has (among f es) y → (e : Event) × Has es e × Has (f e) y
of_kind f [] y h = absurd h
of_kind f (e ∷ es) y h = either (f e) (among f es) y h (λ here. (e, inl (λ i. e), here)) (λ later. let t = of_kind f es y later in (t.0, inr t.1, t.2))

-- ---- events by their kinds
made_of : (e : Event) (m : Made) → Has (made_in e) m → e ≡ made m
made_of (made x) m (inl e) = ap made e
made_of (made x) m (inr none) = absurd none
made_of e m h = absurd h

pub counted_of : (e : Event) (c : Counted) → Has (seen_in e) c → e ≡ counted c
counted_of (counted x) c (inl e) = ap counted e
counted_of (counted x) c (inr none) = absurd none
counted_of e c h = absurd h

pub has_made : (es : List Event) (m : Made) → Has (among made_in es) m → Has es (made m)
has_made es m h = let f = of_kind made_in es m h in subst (Has es) (made_of f.0 m f.2) f.1

pub looked_in : (e : Event) (t : Tried) → Has (attempts_in e) t → e ≡ looked t
looked_in (looked x) t (inl e) = ap looked e
looked_in (looked x) t (inr none) = absurd none
looked_in e t h = absurd h

turned_in : (e : Event) (t : Turn) → Has (turns_in e) t → e ≡ turned t
turned_in (turned x) t (inl e) = ap turned e
turned_in (turned x) t (inr none) = absurd none
turned_in e t h = absurd h

pub has_looked : (es : List Event) (t : Tried) → Has (among attempts_in es) t → Has es (looked t)
has_looked es t h = let f = of_kind attempts_in es t h in subst (Has es) (looked_in f.0 t f.2) f.1

pub has_turned : (es : List Event) (t : Turn) → Has (among turns_in es) t → Has es (turned t)
has_turned es t h = let f = of_kind turns_in es t h in subst (Has es) (turned_in f.0 t f.2) f.1

-- ---- what a worker did along its steps
pub later_did : (t : WorkerState) (mine : List Step) (k later : ℕ) (x y : Step) → AreStepsChained t mine → k < later → slice_get mine k ≡ Some x → slice_get mine later ≡ Some y → Begins x.after.core.did y.before.core.did
later_did = later_along (λ s t. Begins s.core.did t.core.did) (λ s. begins_all s.core.did) (λ s t u. begins_more s.core.did t.core.did u.core.did) (λ x b. (by_seat x.before.core.seat b.core.did, b.core.noted))
