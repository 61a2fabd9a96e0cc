-- SPDX-License-Identifier: GPL-2.0-only
-- The kinds of steps: a release, a grab, a walk of the pools, or none of these.
use Rattle.shr_lawful.proofs.UnitsCommon.{◌≡◌, ℕ, List, [], ◌∷◌, refl, ap, ◌∙◌, Serial, Reply, Command, Release, Grab, PoolDecl, Script, PlainState, PlainJob, plain_due, DidRelease, DidGrab, DidPoolWalk, IsOther, DidUnitsOf, plain_jobs, DidPoolWalks}

-- what a command with this reply did between two states
pub data Kind (s : Script) (by : Serial) (c : Command) (x : Reply) (t u : PlainState) : Type 0 where
  released : (node pool n : ℕ) → c ≡ Release node pool n → plain_due s c x ≡ [] → DidRelease s by node pool n x t u → Kind s by c x t u
  grabbed : (node pool : ℕ) → c ≡ Grab node pool → plain_due s c x ≡ [] → DidGrab s by node pool x t u → Kind s by c x t u
  walked : (job : PlainJob) → plain_due s c x ≡ job ∷ [] → IsOther x → DidPoolWalk s by job t u → Kind s by c x t u
  idle : plain_due s c x ≡ [] → IsOther x → u ≡ t → Kind s by c x t u

-- none is due after a release or a grab
pub none_due : (s : Script) (c : Command) (x : Reply) → plain_jobs c x ≡ [] → plain_due s c x ≡ []
none_due s c x e = go s.pools.items where
  go : (ds : List PoolDecl) → plain_due (record s { pools = record s.pools { items = ds } }) c x ≡ []
  go [] = refl
  go (d ∷ ds) = e

other : (s : Script) (by : Serial) (c : Command) (x : Reply) (t u : PlainState) → IsOther x → (jobs : List PlainJob) → plain_due s c x ≡ jobs → DidPoolWalks s by jobs t u → Kind s by c x t u
other s by c x t u is [] due did = idle due is did
other s by c x t u is (job ∷ jobs) due did = walked job (due ∙ ap (λ l. job ∷ l) did.0) is did.1

pub kind_of : (s : Script) (by : Serial) (c : Command) (x : Reply) (t u : PlainState) → DidUnitsOf s by c x t u → Kind s by c x t u
kind_of s by (Release node pool n) x t u did = released node pool n refl (none_due s (Release node pool n) x refl) did
kind_of s by (Grab node pool) x t u did = grabbed node pool refl (none_due s (Grab node pool) x refl) did
kind_of s by c x t u did = other s by c x t u did.0 (plain_due s c x) refl did.1
