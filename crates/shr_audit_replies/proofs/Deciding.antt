-- SPDX-License-Identifier: GPL-2.0-only
-- What is decided by what was found.
use Rattle.shr_audit_replies.proofs.Common.{◌≡◌, ℕ, Bool, true, false, List, Option, Some, None, ap, Decides, At, Entry, PlaceEnd, IsFirst, Family, Cites, ◌↔◌, some_injective}

-- an entry that is cited is the one that was found
pub cites_same : (family : Family) (a : At) (id node : ℕ) (x e : Entry) (b : Bool) → ((y : Entry) → Cites family a id node y ↔ (◌≡◌ {A = Option Entry} (Some x) (Some y))) → Decides b (x ≡ e) → Decides b (Cites family a id node e)
cites_same family a id node x e b cited d = (λ t. (cited e).1 (ap (λ (y : Entry). Some y) (d.0 t)), λ h. d.1 (some_injective x e ((cited e).0 h)))

-- none was found
pub cites_none : (family : Family) (a : At) (id node : ℕ) (e : Entry) → ((y : Entry) → Cites family a id node y ↔ (◌≡◌ {A = Option Entry} None (Some y))) → Decides false (Cites family a id node e)
cites_none family a id node e cited = (λ t. absurd cc, λ h. absurd (let none : ◌≡◌ {A = Option Entry} None (Some e) = (cited e).0 h in cc))

-- what is asked of a list that is the first one of its place
pub first_part : (ends : List PlaceEnd) (k : ℕ) (end : PlaceEnd) (Q : Type 0) (first b : Bool) → Decides first (IsFirst ends k end.place) → Decides b (first ≡ true → Q) → Decides b (IsFirst ends k end.place → Q)
first_part ends k end Q first b f d = (λ t h. d.0 t (f.1 h), λ all. d.1 (λ yes. all (f.0 yes)))
