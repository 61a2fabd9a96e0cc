-- SPDX-License-Identifier: GPL-2.0-only
-- A report that says nothing of pools has what the law on pools asks of it, for a script without pools.
use Rattle.shr_laws.proofs.Common.{◌≡◌, ℕ, ◌<◌, List, [], map, flat_map, sym, refl, ap, subst, ◌∙◌, arith, slice_get, Some, find, filter, filter_map, sum_by, AllByRecursion, none-some, PlaceAmount, UnitsEnd, PlainEntry, At, Place, Reply, Command, PoolDecl, Script, PassRecord, PlainWalk, is_serial, deferred_word, is_place, Report, serial_of, EachAnswer, plain_versions, ArePoolsLawful, units_entries, units_journal, units_cited_at, plain_of, plain_at, pass_at, AreNotFalling, amount_in, AreUnitsRight, IsPoolReply, all_plain, plain_job_of, plain_due, units_place}

module _ (s : Script) (r : Report) (none : s.pools.items ≡ []) (units : r.units.items ≡ []) (deferred : r.pool_deferred.items ≡ []) (plain : (worker : ℕ) → plain_of r worker ≡ []) (all : all_plain r ≡ [])
    (replies : EachAnswer s r (λ by c a. IsPoolReply s r by c a.reply)) (uncited : (worker k : ℕ) (c : At) → units_cited_at r (serial_of worker k) ≡ Some c → ⊥) where
  none_due : (c : Command) (x : Reply) → plain_due s c x ≡ []
  none_due c x = subst (λ (ds : List PoolDecl). plain_due (record s { pools = record s.pools { items = ds } }) c x ≡ []) (sym none) refl

  no_units : (p : Place) → units_journal r p ≡ []
  no_units p = ap (λ (us : List UnitsEnd). units_entries (find (λ (u : UnitsEnd). is_place (units_place u) p) us)) units

  no_entry : (p : Place) (n : ℕ) (e : PlainEntry) → slice_get (units_journal r p) n ≡ Some e → ⊥
  no_entry p n e at = none-some e (ap (λ l. slice_get l n) (sym (no_units p)) ∙ at)

  no_walk : (worker n : ℕ) (w : PlainWalk) → plain_at r worker n ≡ Some w → ⊥
  no_walk worker n w at = none-some w (ap (λ l. slice_get l n) (sym (plain worker)) ∙ at)

  pub quiet_pools : ArePoolsLawful s r
  quiet_pools = record {
    units = subst (AllByRecursion (AreUnitsRight s)) (sym units) tt;
    once = λ i j u v at. absurd (none-some u (ap (λ l. slice_get l i) (sym units) ∙ at));
    replies = replies;
    cited = λ p n e at. absurd (no_entry p n e at);
    rise = λ worker k later p n m before e. absurd (uncited worker k _ e);
    full = λ worker k later p n entries free before e. absurd (uncited worker k _ e);
    walks = λ worker n w at. absurd (no_walk worker n w at);
    due = λ by c a e f. ap (λ (ws : List PlainWalk). map plain_job_of (filter (λ (w : PlainWalk). is_serial by w.by) ws)) (plain by.worker) ∙ sym (none_due c a.reply);
    commands = λ worker n w at. absurd (no_walk worker n w at);
    versions = λ worker p. subst (λ (ws : List PlainWalk). AreNotFalling (flat_map (plain_versions s p) ws)) (sym (plain worker)) (λ k d lt. absurd (omega (arith, lt)));
    later = λ worker n w at. absurd (no_walk worker n w at);
    no_others = λ p n e at. absurd (no_entry p n e at);
    deferred = λ p. ap (λ (xs : List PlaceAmount). amount_in (find (λ (x : PlaceAmount). is_place x.place p) xs)) deferred
        ∙ sym (ap (λ (ws : List PlainWalk). deferred_word (sum_by (λ (q : PassRecord). q.next) (filter_map (pass_at s p) ws)) (sum_by (λ (q : PassRecord). q.nr) (filter_map (pass_at s p) ws))) all);
    shown = subst (AllByRecursion (λ (x : PlaceAmount). 0 < x.amount)) (sym deferred) tt;
  }
