-- SPDX-License-Identifier: GPL-2.0-only
-- The entries of the journal of registrations against the tables of the answers that made them.
use Rattle.shr_audit_reasons.proofs.Common.{◌≡◌, ℕ, ◌+◌, ◌-◌, ◌<◌, ◌≤◌, Bool, true, false, cond, List, [], ◌∷◌, length, get_or, take, Option, Some, None, refl, sym, ap, subst, ◌∙◌, arith, eq-eqb, slice_get, option_map, Decides, IsSomeAnd, nat_tests, slice_get_within, Serial, Reply, PoolEntry, Registered, Unregistered, Idle, Script, id_of, phase_of, Report, reply_at, IsBehindOf, IsIdledBy, IsSecondOf, AnswerCites, IsFreedAt, IsNextOf, IsEntryOfId, cited_in, is_registered_by, is_unregistered_by, IsEntryCited, filter_map, count_by, get_or_from_slice_get, decls_on, AreMade, AreRegistrationsCaused}
use Rattle.std.specs.List.{cons_option, enumerate_from}
use Rattle.std.proofs.lemmas.List.Sums.{sum_by-cons}
use Rattle.shr_base.specs.declared.replies.Reply.TheVariants as reply
use Rattle.shr_base.specs.declared.scripts.CacheDecl.{CacheDecl}
use Rattle.shr_laws.specs.Causes.{IsMadeBy}
use Rattle.shr_audit_reasons.specs.declared.cites.What.TheVariants as what
use Rattle.shr_audit_reasons.specs.declared.registrations.Made.{Made}
use Rattle.shr_audit_reasons.proofs.Phases.{before_of, first_of_second, second_of_first}
use Rattle.shr_audit_reasons.proofs.Treeing.{of_some, some_of}
use Rattle.shr_model.proofs.Lists.{some_same}

-- ---- caches that are `on`

abbrev pub on_in : List CacheDecl → ℕ
on_in caches = count_by (λ (c : CacheDecl). c.on) caches

on_step : (b : Bool) (n k : ℕ) (ns : List ℕ) → k ≡ length ns → cond b 1 0 + k ≡ length (cons_option (cond b (Some n) None) ns)
on_step true n k ns e = omega (arith, e)
on_step false n k ns e = omega (arith, e)

pub on_counted : (n : ℕ) (cs : List CacheDecl) → on_in cs ≡ length (filter_map (λ (c : ℕ × CacheDecl). cond c.1.on (Some c.0) None) (enumerate_from n cs))
on_counted n [] = refl
on_counted n (c ∷ cs) = sum_by-cons (λ (x : CacheDecl). cond x.on 1 0) c cs ∙ on_step c.on n (on_in cs) (filter_map (λ (x : ℕ × CacheDecl). cond x.1.on (Some x.0) None) (enumerate_from (n + 1) cs)) (on_counted (n + 1) cs)

-- ---- what an answer made

-- some answer is so, and so is some that is weaker
some_weaker : (r : Report) (P Q : Reply → Type 0) → ((x : Reply) → P x → Q x) → (by : Serial) × IsSomeAnd (reply_at r by) P → (by : Serial) × IsSomeAnd (reply_at r by) Q
some_weaker r P Q step h = (h.0, there (reply_at r h.0) h.1)
  where
    there : (o : Option Reply) → IsSomeAnd o P → IsSomeAnd o Q
    there None a = a
    there (Some x) a = step x a

registered_made : (r : Report) (decl id from n : ℕ) (x : Reply) → is_registered_by n x ≡ true → IsMadeBy r (Registered decl id from) n x
registered_made r decl id from n (reply.Registered i entry) h = let same : n ≡ entry = grind (arith, nat_tests) in same
registered_made r decl id from n x h = absurd cc

made_registered : (r : Report) (decl id from n : ℕ) (x : Reply) → IsMadeBy r (Registered decl id from) n x → is_registered_by n x ≡ true
made_registered r decl id from n (reply.Registered i entry) h = eq-eqb entry n (sym h)
made_registered r decl id from n x h = absurd h

unregistered_made : (r : Report) (decl id to n : ℕ) (x : Reply) → is_unregistered_by n x ≡ true → IsMadeBy r (Unregistered decl id to) n x
unregistered_made r decl id to n (reply.Freed i entry a b objects) h = let same : n ≡ entry = grind (arith, nat_tests) in same
unregistered_made r decl id to n (reply.Half i entry a b objects why) h = let same : n ≡ entry = grind (arith, nat_tests) in same
unregistered_made r decl id to n x h = absurd cc

made_unregistered : (r : Report) (decl id to n : ℕ) (x : Reply) → IsMadeBy r (Unregistered decl id to) n x → is_unregistered_by n x ≡ true
made_unregistered r decl id to n (reply.Freed i entry a b objects) h = eq-eqb entry n (sym h)
made_unregistered r decl id to n (reply.Half i entry a b objects why) h = eq-eqb entry n (sym h)
made_unregistered r decl id to n x h = absurd h

idle_made : (r : Report) (id n : ℕ) → slice_get r.pool.items n ≡ Some (Idle id) → (x : Reply) → IsIdledBy r.pool.items n x → IsMadeBy r (Idle id) n x
idle_made r id n at (reply.Freed i entry a b objects) h =
    let same : id ≡ i = some_same id i (sym (ap (option_map id_of) at) ∙ h.0) in
    (sym same, h.1, subst (λ (k : ℕ). phase_of k (take n r.pool.items) ≡ phase_of k (take entry r.pool.items) + 1) (sym same) h.2)
idle_made r id n at x h = absurd h

made_idle : (r : Report) (id n : ℕ) → slice_get r.pool.items n ≡ Some (Idle id) → (x : Reply) → IsMadeBy r (Idle id) n x → IsIdledBy r.pool.items n x
made_idle r id n at (reply.Freed i entry a b objects) h =
    subst (λ (k : ℕ). IsSecondOf r.pool.items k entry n) (sym h.0) (ap (option_map id_of) at, h.1, h.2)
made_idle r id n at x h = absurd h

-- ---- the Idle of an id, by the entry before it

some_apart : (r : Report) (A : Type 0) (Q : Reply → Type 0) → (by : Serial) × IsSomeAnd (reply_at r by) (λ x. A × Q x) → A
some_apart r A Q h = there (reply_at r h.0) h.1
  where
    there : (o : Option Reply) → IsSomeAnd o (λ x. A × Q x) → A
    there None a = absurd a
    there (Some x) a = a.0

module _ (r : Report) (id n behind : ℕ) (at : slice_get r.pool.items n ≡ Some (Idle id)) (b : IsBehindOf r.pool.items id n behind) where
  own : IsEntryOfId r.pool.items id n
  own = ap (option_map id_of) at

  freed_made : 0 < behind → (x : Reply) → IsFreedAt r.pool.items (behind - 1) x → IsMadeBy r (Idle id) n x
  freed_made some (reply.Freed i entry a c objects) h =
      let same : i ≡ id = some_same i id (sym h.2 ∙ before_of r.pool.items id n behind b some) in
      let first : IsNextOf r.pool.items id entry (Some (behind - 1)) = subst (λ (k : ℕ). IsNextOf r.pool.items k entry (Some (behind - 1))) same h in
      idle_made r id n at (reply.Freed i entry a c objects) (subst (λ (k : ℕ). IsSecondOf r.pool.items k entry n) (sym same) (second_of_first r.pool.items id entry n behind b own some first))
  freed_made some x h = absurd h

  made_freed : (x : Reply) → IsMadeBy r (Idle id) n x → (0 < behind) × IsFreedAt r.pool.items (behind - 1) x
  made_freed (reply.Freed i entry a c objects) h =
      let second : IsSecondOf r.pool.items i entry n = made_idle r id n at (reply.Freed i entry a c objects) h in
      first_of_second r.pool.items i entry n behind (subst (λ (k : ℕ). IsBehindOf r.pool.items k n behind) (sym h.0) b) second
  made_freed x h = absurd h

-- ---- the tables

module _ (s : Script) (r : Report) (made : Made) (noted : AreMade s r made) where
  behind_of : (id n : ℕ) → slice_get r.pool.items n ≡ Some (Idle id) → IsBehindOf r.pool.items id n (get_or made.behinds.items n 0)
  behind_of id n at =
      let is : get_or r.pool.items n (Idle id) ≡ Idle id = get_or_from_slice_get r.pool.items n (Idle id) (Idle id) at in
      subst (λ (e : PoolEntry). IsBehindOf r.pool.items (id_of e) n (get_or made.behinds.items n 0)) is (noted.behinds.each n (Idle id) (slice_get_within r.pool.items n (Idle id) at))

  before_there : (id n : ℕ) → slice_get r.pool.items n ≡ Some (Idle id) → 0 < get_or made.behinds.items n 0 → get_or made.behinds.items n 0 - 1 < length r.pool.items
  before_there id n at some = let low = (behind_of id n at).low in let lt = slice_get_within r.pool.items n (Idle id) at in omega (arith, low, lt, some)

  made_of : (n : ℕ) (e : PoolEntry) → slice_get r.pool.items n ≡ Some e → IsEntryCited made n e → (by : Serial) × IsSomeAnd (reply_at r by) (IsMadeBy r e n)
  made_of n (Registered decl id from) at h = some_weaker r (λ x. is_registered_by n x ≡ true) (IsMadeBy r (Registered decl id from) n) (registered_made r decl id from n)
      (some_of (λ x. AnswerCites s r what.Registered n x) (cited_in made.registered.items n) (noted.registered.each n (slice_get_within r.pool.items n (Registered decl id from) at)) h)
  made_of n (Unregistered decl id to) at h = some_weaker r (λ x. is_unregistered_by n x ≡ true) (IsMadeBy r (Unregistered decl id to) n) (unregistered_made r decl id to n)
      (some_of (λ x. AnswerCites s r what.Unregistered n x) (cited_in made.unregistered.items n) (noted.unregistered.each n (slice_get_within r.pool.items n (Unregistered decl id to) at)) h)
  made_of n (Idle id) at h =
      let behind = get_or made.behinds.items n 0 in
      some_weaker r (IsFreedAt r.pool.items (behind - 1)) (IsMadeBy r (Idle id) n) (freed_made r id n behind at (behind_of id n at) h.some)
      (some_of (λ x. AnswerCites s r what.Freed (behind - 1) x) (cited_in made.freed.items (behind - 1)) (noted.freed.each (behind - 1) (before_there id n at h.some)) h.cited)

  of_made : (n : ℕ) (e : PoolEntry) → slice_get r.pool.items n ≡ Some e → (by : Serial) × IsSomeAnd (reply_at r by) (IsMadeBy r e n) → IsEntryCited made n e
  of_made n (Registered decl id from) at h =
      let o = some_weaker r (IsMadeBy r (Registered decl id from) n) (λ x. is_registered_by n x ≡ true) (made_registered r decl id from n) h in
      of_some (λ x. AnswerCites s r what.Registered n x) (cited_in made.registered.items n) (noted.registered.each n (slice_get_within r.pool.items n (Registered decl id from) at)) o.0 o.1
  of_made n (Unregistered decl id to) at h =
      let o = some_weaker r (IsMadeBy r (Unregistered decl id to) n) (λ x. is_unregistered_by n x ≡ true) (made_unregistered r decl id to n) h in
      of_some (λ x. AnswerCites s r what.Unregistered n x) (cited_in made.unregistered.items n) (noted.unregistered.each n (slice_get_within r.pool.items n (Unregistered decl id to) at)) o.0 o.1
  of_made n (Idle id) at h =
      let behind = get_or made.behinds.items n 0 in
      let both = some_weaker r (IsMadeBy r (Idle id) n) (λ x. (0 < behind) × IsFreedAt r.pool.items (behind - 1) x) (made_freed r id n behind at (behind_of id n at)) h in
      let some : 0 < behind = some_apart r (0 < behind) (IsFreedAt r.pool.items (behind - 1)) both in
      let o = some_weaker r (λ x. (0 < behind) × IsFreedAt r.pool.items (behind - 1) x) (IsFreedAt r.pool.items (behind - 1)) (λ x p. p.1) both in
      record {
        some = some;
        cited = of_some (λ x. AnswerCites s r what.Freed (behind - 1) x) (cited_in made.freed.items (behind - 1)) (noted.freed.each (behind - 1) (before_there id n at some)) o.0 o.1;
      }

  pub made_decided : (flag : Bool) → Decides flag ((n : ℕ) (e : PoolEntry) → length (decls_on s) ≤ n → slice_get r.pool.items n ≡ Some e → IsEntryCited made n e) → Decides flag (AreRegistrationsCaused s r)
  made_decided flag d = (λ t n e from at. made_of n e at (d.0 t n e from at), λ all. d.1 (λ n e from at. of_made n e at (all n e from at)))

-- ---- the same lists under other names

abbrev pub AllCited : Made → ℕ → List PoolEntry → Type 0
AllCited made from pool = (n : ℕ) (e : PoolEntry) → from ≤ n → slice_get pool n ≡ Some e → IsEntryCited made n e

pub renamed : (flag : Bool) (made : Made) (m from : ℕ) (es pool : List PoolEntry) → m ≡ from → es ≡ pool → Decides flag (AllCited made m es) → Decides flag (AllCited made from pool)
renamed flag made m from es pool f p d = subst (λ (q : List PoolEntry). Decides flag (AllCited made from q)) p (subst (λ (k : ℕ). Decides flag (AllCited made k es)) f d)
