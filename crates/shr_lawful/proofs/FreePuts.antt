-- SPDX-License-Identifier: GPL-2.0-only
-- A put that nothing is in the way of is answered Added, or that there was no memory, or that a counter is used up.
use Rattle.shr_lawful.proofs.Common.{◌≡◌, ◌≢◌, ℕ, zero, suc, ◌+◌, ◌%◌, ◌<◌, inl, inr, true, cond, List, [], ◌∷◌, ◌++◌, take, sym, refl, ap, subst, ◌∙◌, arith, eq-eqb, ne_eqb, slice_get, Option, Some, None, nat_lt, ◌==◌, cases_Bool, and_parts, eqb-true, same_Some, none-some, dite, ℕ_discrete, PoolEntry, Registered, Unregistered, Idle, phase_of, decl_of, is_live_decl, is_free, lowest_idle, IsNextPool, IsPoolJournal, phase_of_push, some_at, decl_from_push, id_of, decl_after, ◌≤◌, ⊎_elim, false, ◌||◌, length, option_map, option_and_then, option_to_list, flat_map, AllByRecursion, list_any, IsSomeAnd, slice_get_within, At, Serial, Target, Answered, Found, Reply, Begin, Command, Put, Script, WalkRecord, group_named, Family, IsAtOrAbove, is_later, begin_of, is_begin, Report, StandsInTree, IsUnmade, IsUncached, IsOffline, MayHaveBegun, pool_seen, pool_told, tree_cited, is_begin_at, shows_begin, walk_cited, of_answer, parents_of, limit_of, decls_on, commands_of, answers_of, serial_of, journals_of, cited_at, cited_by, walks_by, id_found, IsOnlyPut, AreFreePutsAdded, IsReply, HasCause, IsOverBy, IsCausedBy, IsRun, Step, begin_found, later_of, IsUnlimited, StaysOn, StaysOnline, IsFreePut, IsAddedOrSpent, all_right}
use Rattle.shr_model.specs.Pool.{lowest_free}
use Rattle.shr_registry.proofs.Searches.{live_below}
use Rattle.shr_base.specs.declared.replies.Reply.TheVariants as reply
use Rattle.shr_lawful.proofs.CausesLaw.{causes_lawful}
use Rattle.shr_lawful.proofs.FreeExists.{no_exists}
use Rattle.shr_lawful.proofs.Listed.{contains_slice, take_next}
use Rattle.shr_lawful.proofs.Gathering.{stepped}
use Rattle.shr_lawful.proofs.RepliesLaw.{replies_lawful}

-- the lowest that can be registered is one of so many, and can be
lowest_is : (n from i : ℕ) (es : List PoolEntry) → lowest_free n from es ≡ Some i → (is_free i es ≡ true) × (i < from + n)
unfolding lowest_free
lowest_is zero from i es h = absurd (none-some i h)
lowest_is (suc n) from i es h = elim (cases_Bool (is_free from es)) [
  | inl free ↦ let same : from ≡ i = same_Some from i (sym (ap (λ b. cond b (Some from) (lowest_free n (suc from) es)) free) ∙ h) in (subst (λ j. is_free j es ≡ true) same free, omega (arith, same))
  | inr not ↦ let t = lowest_is n (suc from) i es (sym (ap (λ b. cond b (Some from) (lowest_free n (suc from) es)) not) ∙ h) in let lt = t.1 in (t.0, omega (arith, lt))
]

pub idle_is : (ids i : ℕ) (es : List PoolEntry) → lowest_idle ids es ≡ Some i → (phase_of i es % 3 ≡ 0) × (i < ids)
idle_is ids i es h = let t = lowest_is ids 0 i es h in let lt = t.1 in (eqb-true (phase_of i es % 3) 0 (and_parts (phase_of i es % 3 == 0) (nat_lt (phase_of i es) 65533) t.0).0, omega (arith, lt))

pub take_past : (es : List PoolEntry) (k : ℕ) → slice_get es k ≡ None → take (suc k) es ≡ take k es
take_past [] zero at = refl
take_past [] (suc k) at = refl
take_past (x ∷ es) zero at = absurd (none-some x (sym at))
take_past (x ∷ es) (suc k) at = ap (λ l. x ∷ l) (take_past es k at)

-- an id is live with this declaration
record IsOn (decl id : ℕ) (es : List PoolEntry) : Type 0 where
  phase : phase_of id es % 3 ≡ 1
  named : decl_of id es ≡ decl

-- an entry of another id changes nothing of it
decl_other : (id d : ℕ) (e : PoolEntry) → id_of e ≢ id → decl_after id d e ≡ d
decl_other id d (Registered c i from) ne = ap (λ b. cond b c d) (ne_eqb i id ne)
decl_other id d (Unregistered c i to) ne = refl
decl_other id d (Idle i) ne = refl

on_other : (decl id : ℕ) (es : List PoolEntry) (e : PoolEntry) → id_of e ≢ id → IsOn decl id es → IsOn decl id (es ++ e ∷ [])
on_other decl id es e ne on = record {
  phase = ap (λ n. n % 3) (phase_of_push id es e ∙ (ap (λ b. phase_of id es + cond {A = ℕ} b 1 0) (ne_eqb (id_of e) id ne) ∙ more (phase_of id es))) ∙ on.phase;
  named = decl_from_push id 0 es e ∙ (decl_other id (decl_of id es) e ne ∙ on.named);
} where
  more : (n : ℕ) → n + 0 ≡ n
  more n = omega arith

on_first : (ids decls decl id from : ℕ) (es : List PoolEntry) → IsNextPool ids decls es (Registered decl id from) → IsOn decl id (es ++ Registered decl id from ∷ [])
on_first ids decls decl id from es may = let idle = (idle_is ids id es may.2).0 in record {
  phase = ap (λ n. n % 3) (phase_of_push id es (Registered decl id from) ∙ ap (λ b. phase_of id es + cond {A = ℕ} b 1 0) (eq-eqb id id refl)) ∙ one (phase_of id es) idle;
  named = decl_from_push id 0 es (Registered decl id from) ∙ ap (λ b. cond b decl (decl_of id es)) (eq-eqb id id refl);
} where
  one : (n : ℕ) → n % 3 ≡ 0 → (n + 1) % 3 ≡ 1
  one n h = omega (arith, h)

-- nor does an entry that may come next, where it isn't its Unregistered
on_next : (ids decls decl id : ℕ) (es : List PoolEntry) (e : PoolEntry) → IsNextPool ids decls es e → ((i to : ℕ) → e ≡ Unregistered decl i to → ⊥) → IsOn decl id es → IsOn decl id (es ++ e ∷ [])
on_next ids decls decl id es (Registered d i from) may stays on = on_other decl id es (Registered d i from)
    (λ same. let zero_is = (idle_is ids i es may.2).0 in let live = on.phase in let e : phase_of i es % 3 ≡ phase_of id es % 3 = ap (λ j. phase_of j es % 3) same in omega (arith, zero_is, live, e)) on
on_next ids decls decl id es (Unregistered d i to) may stays on = on_other decl id es (Unregistered d i to)
    (λ same. stays i to (ap (λ c. Unregistered c i to) (may.1 ∙ (ap (λ j. decl_of j es) same ∙ on.named)))) on
on_next ids decls decl id es (Idle i) may stays on = on_other decl id es (Idle i)
    (λ same. let two : phase_of i es % 3 ≡ 2 = may in let live = on.phase in let e : phase_of i es % 3 ≡ phase_of id es % 3 = ap (λ j. phase_of j es % 3) same in omega (arith, two, live, e)) on

module _ (ids decls : ℕ) (pool : List PoolEntry) (journal : IsPoolJournal ids decls pool) (decl id from n : ℕ) (opened : slice_get pool n ≡ Some (Registered decl id from)) (kept : (m i to : ℕ) → slice_get pool m ≡ Some (Unregistered decl i to) → ⊥) where
  opens : IsNextPool ids decls (take n pool) (Registered decl id from)
  opens = journal n (Registered decl id from) (some_at pool n (Registered decl id from) opened)

  on_after : (m : ℕ) → n < m → IsOn decl id (take m pool)
  on_after zero lt = absurd (omega (arith, lt))
  on_after (suc m) lt = dite (ℕ_discrete n m)
      (λ same. subst (λ j. IsOn decl id (take (suc j) pool)) same (subst (IsOn decl id) (sym (take_next pool n (Registered decl id from) opened)) (on_first ids decls decl id from (take n pool) opens)))
      (λ other. further (slice_get pool m) refl (on_after m (omega (arith, lt, other)))) where
        further : (o : Option PoolEntry) → slice_get pool m ≡ o → IsOn decl id (take m pool) → IsOn decl id (take (suc m) pool)
        further None at on = subst (IsOn decl id) (sym (take_past pool m at)) on
        further (Some e) at on = subst (IsOn decl id) (sym (take_next pool m e at))
            (on_next ids decls decl id (take m pool) e (journal m e (some_at pool m e at)) (λ i to same. kept m i to (at ∙ ap Some same)) on)

  -- it is live after each beginning that has its Registered
  pub live_after : (m : ℕ) → n < m → is_live_decl ids decl (take m pool) ≡ true
  live_after m lt = let on = on_after m lt in live_below ids decl id (take m pool) (idle_is ids id (take n pool) opens.2).1 (eq-eqb (phase_of id (take m pool) % 3) 1 on.phase) on.named

not_both : (o : Option ℕ) (P : ℕ → Type 0) → o ≡ None → IsSomeAnd o P → ⊥
not_both None P e h = absurd h
not_both (Some n) P e h = none-some n (sym e)

-- a reply is none of the five that something in the way of a put has
record IsRefuted (x : Reply) : Type 0 where
  offline : (entry : ℕ) → x ≡ reply.Offline entry → ⊥
  unmade : (g : ℕ) → x ≡ reply.NotMade g → ⊥
  uncached : (entry : ℕ) → x ≡ reply.NoCache entry → ⊥
  over : (group operation usage : ℕ) → x ≡ reply.Over group operation usage → ⊥
  exists : (c : At) → x ≡ reply.Exists c → ⊥

by_reply : (parents : List ℕ) (family : Family) (by : Serial) (to : Target) (key value : List ℕ) (found : Option ℕ) (x : Reply) → IsReply parents family by (Put to key value) found x → IsRefuted x → IsAddedOrSpent x
by_reply parents family by to key value found (reply.Added c) h refuted = tt
by_reply parents family by to key value found (reply.Exists c) h refuted = refuted.exists c refl
by_reply parents family by to key value found (reply.Offline entry) h refuted = refuted.offline entry refl
by_reply parents family by to key value found (reply.NotMade g) h refuted = refuted.unmade g refl
by_reply parents family by to key value found (reply.Over g operation usage) h refuted = refuted.over g operation usage refl
by_reply parents family by to key value found (reply.NoCache entry) h refuted = refuted.uncached entry refl
by_reply parents family by to key value found (reply.Worn spent) h refuted = tt
by_reply parents family by to key value found reply.Memory h refuted = tt
by_reply parents family by to key value None x h refuted = absurd h
by_reply parents family by to key value (Some id) x h refuted = absurd h

module _ (s : Script) (r : Report) (workers : List (List Step)) (run : IsRun s r workers) (worker k : ℕ) (to : Target) (key value : List ℕ) (a : Answered) (command : slice_get (commands_of s worker) k ≡ Some (Put to key value)) (answer : slice_get (answers_of r worker) k ≡ Some a) where
  abbrev put : Command
  put = Put to key value

  cause : HasCause s r (serial_of worker k) put a.reply
  cause = (causes_lawful s r workers run).rows (serial_of worker k) put a command answer

  answered : IsReply (parents_of s) (journals_of r) (serial_of worker k) put (id_found a) a.reply
  answered = (replies_lawful s r workers run).answered (serial_of worker k) put a command answer

  -- where its group isn't taken offline before it, it isn't answered that it is offline
  pub no_offline : StaysOnline s r worker k to.group → (entry : ℕ) → a.reply ≡ reply.Offline entry → ⊥
  no_offline online entry is = ⊎_elim never_began first_begun online where
    stands : StandsInTree r entry (Begin to.group)
    stands = subst (HasCause s r (serial_of worker k) put) is cause

    never_began : begin_of r.tree.items to.group ≡ None → ⊥
    never_began none = let f = begin_found r.tree.items to.group entry stands in none-some f.0 (sym none ∙ f.1)

    cited : of_answer r (serial_of worker k) (λ (y : Answered). tree_cited y.reply) ≡ entry ∷ []
    cited = ap (λ (o : Option Answered). flat_map (λ (y : Answered). tree_cited y.reply) (option_to_list o)) answer ∙ ap (λ x. tree_cited x ++ []) is

    begins : is_begin_at r to.group entry ≡ true
    begins = ap (λ o. list_any (is_begin to.group) (option_to_list o)) stands ∙ ap (λ b. b || false) (eq-eqb to.group to.group refl)

    shown : shows_begin r (serial_of worker k) to.group ≡ true
    shown = ap (λ (l : List ℕ). list_any (is_begin_at r to.group) (l ++ flat_map (λ (w : WalkRecord). walk_cited w.answer) (walks_by r (serial_of worker k)))) cited
        ∙ ap (λ b. b || list_any (is_begin_at r to.group) (flat_map (λ (w : WalkRecord). walk_cited w.answer) (walks_by r (serial_of worker k)))) begins

    first_begun : ((by : Serial) → IsOffline s r by to.group MayHaveBegun → (by.worker ≡ worker) × (k < by.command)) → ⊥
    first_begun later = let no : true ≡ false = sym shown ∙ (causes_lawful s r workers run).fresh.first worker k to.group later in cc

  -- where its group is there from the start, it isn't answered that it isn't made
  pub no_unmade : is_later (later_of s) to.group ≡ false → (g : ℕ) → a.reply ≡ reply.NotMade g → ⊥
  no_unmade there g is =
      let unmade : IsUnmade s to.group g = subst (HasCause s r (serial_of worker k) put) is cause in
      let no : false ≡ true = sym there ∙ unmade.late in cc

  -- where its cache stays on, it isn't answered that there is no such cache
  pub no_uncached : StaysOn s r to.decl → (entry : ℕ) → a.reply ≡ reply.NoCache entry → ⊥
  no_uncached stays entry is =
      let none : IsUncached s r to.decl entry = subst (HasCause s r (serial_of worker k) put) is cause in
      let seen : AllByRecursion (λ n. length (decls_on s) ≤ n) (pool_seen a) = (causes_lawful s r workers run).fresh.pool_on (serial_of worker k) put a command answer in
      let told : AllByRecursion (λ n. length (decls_on s) ≤ n) (pool_told a.reply) = all_right (λ n. length (decls_on s) ≤ n) (option_to_list (option_map (λ (f : Found). f.entry) a.found)) (pool_told a.reply) seen in
      let late : length (decls_on s) ≤ entry = (subst (λ x. AllByRecursion (λ n. length (decls_on s) ≤ n) (pool_told x)) is told).0 in
      let on = contains_slice (decls_on s) to.decl stays.on in
      let early = slice_get_within (decls_on s) on.0 to.decl on.1 in
      let live = live_after s.ids (length s.caches.items) r.pool.items run.pool.journal to.decl on.0 0 on.0 (run.pool.opened on.0 to.decl on.1) stays.kept entry (omega (arith, late, early)) in
      let no = none.none in cc

  -- where no group at or above its own has a limit, it isn't answered that one is over it
  pub no_over : IsUnlimited s to.group → (g operation usage : ℕ) → a.reply ≡ reply.Over g operation usage → ⊥
  no_over unlimited g operation usage is =
      let t = stepped s r workers run (serial_of worker k) put a command answer in
      let same : t.step.answered.reply ≡ reply.Over g operation usage = ap (λ (y : Answered). y.reply) t.answered ∙ is in
      let over : IsOverBy s t.step g operation usage = subst (IsCausedBy s t.step) same t.did.cause in
      let own : over.own ≡ to.group = same_Some over.own to.group (sym over.named ∙ ap (option_and_then group_named) t.command) in
      not_both (limit_of s g) (λ limit. limit ≤ usage) (unlimited g (subst (λ n. IsAtOrAbove (parents_of s) g n) own over.above)) over.full

  -- where no other put names its group and key, it isn't answered that there is such an object
  pub no_existing : IsOnlyPut s worker k to.group key → (c : At) → a.reply ≡ reply.Exists c → ⊥
  no_existing only c is = by_found (id_found a) (subst (IsReply (parents_of s) (journals_of r) (serial_of worker k) put (id_found a)) is answered) where
    cites : cited_at r (serial_of worker k) ≡ Some c
    cites = ap (λ (o : Option Answered). option_and_then cited_by (option_map (λ (y : Answered). y.reply) o)) answer ∙ ap cited_by is

    by_found : (found : Option ℕ) → IsReply (parents_of s) (journals_of r) (serial_of worker k) put found (reply.Exists c) → ⊥
    by_found None h = h
    by_found (Some id) h = no_exists s r workers run worker k to.group key only c value cites h.stands

  added_or_spent : IsFreePut s r worker k to.group to.decl key → IsAddedOrSpent a.reply
  added_or_spent free = by_reply (parents_of s) (journals_of r) (serial_of worker k) to key value (id_found a) a.reply answered (record {
    offline = no_offline free.online;
    unmade = no_unmade free.there;
    uncached = no_uncached free.cached;
    over = no_over free.unlimited;
    exists = no_existing free.only;
  })

-- each put that nothing is in the way of is answered so
pub free_puts_added : (s : Script) (r : Report) (workers : List (List Step)) → IsRun s r workers → AreFreePutsAdded s r
free_puts_added s r workers run worker k to key value a command answer free = added_or_spent s r workers run worker k to key value a command answer free
