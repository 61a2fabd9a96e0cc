-- SPDX-License-Identifier: GPL-2.0-only
-- What a put did, by the reply that tells of it.
use Rattle.shr_cache.proofs.Common.{◌≡◌, ℕ, List, true, false, sym, Object, Serial, Found, Reply, None, Option, Some, fresh, same_for, same_then, Acting, IsSame, Shared, WorkerState, Uncharges, IsStill, LoadsWord, MayCharge, OfferedAs, Puts, PutAs}
use Rattle.shr_base.specs.declared.places.Target.{Target}
use Rattle.shr_base.specs.declared.replies.Reply.TheVariants as reply
use Rattle.shr_base.specs.declared.replies.Spent.TheVariants as spent
use Rattle.shr_charge.specs.declared.answers.GroupState.TheVariants.{Online}
use Rattle.shr_walk.specs.Admitting.{AdmissionGives}
use Rattle.shr_walk.specs.declared.admission.Admission.TheVariants.{Charged}
use Rattle.shr_cache.specs.Replies.{has_added}

apart : false ≡ true → ⊥
apart e = cc

module _ (x : Shared) (by : Serial) (group node decl : ℕ) (o : Object) where
  -- an object that wasn't added is charged no more
  pub taken_back : (found : Option Found) (r : Reply) (s v t : WorkerState) → has_added r ≡ false → Puts x by group node decl o found r s v → Uncharges x by group v t → PutAs x by group node decl o found r s t
  taken_back None (reply.Worn (spent.Charges charges uncharges)) s v t e h back = absurd h.offered.answers.worn
  taken_back None (reply.Offline entry) s v t e h back = absurd h.offered
  taken_back None (reply.NotMade named) s v t e h back = absurd h.offered
  taken_back None (reply.Over over operation usage) s v t e h back = absurd h.offered
  taken_back None reply.Memory s v t e h back = absurd h.offered
  taken_back None r s v t e h back = record { refused = v; puts = h; back = back }
  taken_back (Some f) (reply.Added at) s v t e h back = absurd (apart (sym e))
  taken_back (Some f) r s v t e h back = record { refused = v; puts = h; back = back }

  -- one that was added stays charged
  pub stays_charged : (found : Option Found) (r : Reply) (s t : WorkerState) → has_added r ≡ true → Puts x by group node decl o found r s t → PutAs x by group node decl o found r s t
  stays_charged None (reply.Added at) s t e h = absurd h.offered
  stays_charged None r s t e h = absurd (apart e)
  stays_charged (Some f) (reply.Added at) s t e h = h
  stays_charged (Some f) r s t e h = absurd (apart e)

-- the object was offered once the group was online and the charge was made
pub puts : (w l h v : Acting) (t : Target) (key value : List ℕ) (found : Option Found) (r : Reply) → MayCharge w.state → IsStill w l → LoadsWord w.shared t.group Online w.state l.state → IsSame l h → AdmissionGives l.shared l.by t.group Charged l.state h.state
    → OfferedAs h.shared t.node t.decl (fresh h.by t.group key value) found r h.state v.state → Puts w.shared w.by t.group t.node t.decl (fresh w.by t.group key value) found r w.state v.state
puts w l h v t key value found r charges still online charged gives offered = let same : IsSame w l = record { shared = still.shared; by = still.by } in record {
  charged = h.state;
  asks = record { charges = charges; loaded = l.state; online = online; admission = same_for (λ x b. AdmissionGives x b t.group Charged l.state h.state) w l same gives };
  offered = same_for (λ x b. OfferedAs x t.node t.decl (fresh b t.group key value) found r h.state v.state) w h (same_then w l h same charged) offered;
}
