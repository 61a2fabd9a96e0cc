-- SPDX-License-Identifier: GPL-2.0-only
-- The report of two pools has what the law on pools asks of it.
use Rattle.shr_laws.proofs.Common.{◌≡◌, ◌⊎◌, ℕ, zero, suc, ◌+◌, ◌<◌, Bool, true, false, cond, filter_map, sum_by, option_and_then, List, [], ◌∷◌, ◌++◌, Option, Some, None, slice_get, refl, AllByRecursion, arith, sym, ap, subst, ◌∙◌, inl, inr, cases_Bool, UnitsEnd, PlainEntry, Place, PoolDecl, PassRecord, PlainTry, Ran, PlainWalk, is_place, deferred_word, is_place_same, reply_at, serial_of, at, units_entries, units_journal, units_cited_at, plain_of, pass_at, AreNotFalling, plain_versions, ArePoolsLawful, option_map, option_to_list, pool_place, EachUnits, EachPlain, EachTry, pass_in, try_at, IsPlainCount, IsKind, IsLastTry, IsPlainLawful, IsPlainPass, version_in, reclaims_by}
use Rattle.shr_base.specs.declared.replies.Reply.TheVariants as reply
use Rattle.shr_base.specs.declared.walks.Ending.TheVariants as ending
use Rattle.shr_model.specs.Pass.{due, ask_size}
use Rattle.shr_laws.proofs.SecondReport.{by}
use Rattle.shr_laws.proofs.SmallReports.{AllTwo, each_answer, each_two}
use Rattle.shr_laws.proofs.PoolsReport.{buf, few, script, place, pass, tries, walk, entries, end, report}
use Rattle.shr_model.proofs.Lists.{each_at, AllAt}

each_plain : (P : ℕ → ℕ → PlainWalk → Type 0) → P 0 0 walk → EachPlain report P
each_plain P h zero n w e = each_at (P 0) (walk ∷ []) (h, tt) n w e
each_plain P h (suc worker) n w e = absurd (cc)

-- the journal of a place is this one, or is empty
each_journal : (P : Place → List PlainEntry → Type 0) → ((p : Place) → P p []) → P place entries → (p : Place) → P p (units_journal report p)
each_journal P none here p = elim (cases_Bool (is_place place p)) [
  | inl own ↦ subst (λ es. P p es) (sym (ap (λ b. units_entries (cond b (Some end) None)) own)) (subst (λ q. P q entries) (is_place_same place p own) here)
  | inr other ↦ subst (λ es. P p es) (sym (ap (λ b. units_entries (cond b (Some end) None)) other)) (none p)
]

each_units : (P : Place → ℕ → PlainEntry → Type 0) → AllAt (P place) entries → EachUnits report P
each_units P h p n e at = each_journal (λ q es. slice_get es n ≡ Some e → P q n e) (λ q f. absurd (cc)) (λ f. each_at (P place) entries h n e f) p at

-- a command of this number cites this entry
IsCiting : ℕ → ℕ → Type 0
IsCiting k n = ((k < 2) × (n ≡ k)) ⊎ ((k ≡ 4) × (n ≡ 3))

-- the entries that the commands cite, all of the flat pool
cites : (worker k : ℕ) (p : Place) (n : ℕ) → units_cited_at report (serial_of worker k) ≡ Some (at p n) → (p ≡ place) × IsCiting k n
unfolding IsCiting
cites zero zero p n e = let same : at place 0 ≡ at p n = cc in (ap (λ c. c.place) (sym same), inl (omega arith, ap (λ c. c.entry) (sym same)))
cites zero (suc zero) p n e = let same : at place 1 ≡ at p n = cc in (ap (λ c. c.place) (sym same), inl (omega arith, ap (λ c. c.entry) (sym same)))
cites zero (suc (suc zero)) p n e = absurd (cc)
cites zero (suc (suc (suc zero))) p n e = absurd (cc)
cites zero (suc (suc (suc (suc zero)))) p n e = let same : at place 3 ≡ at p n = cc in (ap (λ c. c.place) (sym same), inr (refl, ap (λ c. c.entry) (sym same)))
cites zero (suc (suc (suc (suc (suc k))))) p n e = absurd (cc)
cites (suc worker) k p n e = absurd (cc)

rising : (k later n m : ℕ) → k < later → IsCiting k n → IsCiting later m → n < m
unfolding IsCiting
rising k later n m before (inl a) (inl b) = omega (arith, before, a.1, b.1)
rising k later n m before (inl a) (inr b) = omega (arith, a.0, a.1, b.1)
rising k later n m before (inr a) (inl b) = absurd (omega (arith, before, a.0, b.0))
rising k later n m before (inr a) (inr b) = absurd (omega (arith, before, a.0, b.0))

-- a Full is the third answer, and knew two entries
knows : (worker k pool node entries free : ℕ) → reply_at report (serial_of worker k) ≡ Some (reply.Full pool node entries free) → (k ≡ 2) × (entries ≡ 2)
knows zero zero pool node entries free e = absurd (cc)
knows zero (suc zero) pool node entries free e = absurd (cc)
knows zero (suc (suc zero)) pool node entries free e = let same : reply.Full 0 0 2 9 ≡ reply.Full pool node entries free = cc in let two : 2 ≡ entries = cc in (refl, sym two)
knows zero (suc (suc (suc zero))) pool node entries free e = absurd (cc)
knows zero (suc (suc (suc (suc zero)))) pool node entries free e = absurd (cc)
knows zero (suc (suc (suc (suc (suc k))))) pool node entries free e = absurd (cc)
knows (suc worker) k pool node entries free e = absurd (cc)

before_full : (k later n entries : ℕ) → k < later → IsCiting k n → (later ≡ 2) × (entries ≡ 2) → n < entries
unfolding IsCiting
before_full k later n entries before (inl a) b = omega (arith, a.0, a.1, b.1)
before_full k later n entries before (inr a) b = absurd (omega (arith, before, a.0, b.0))

-- what holds of both tries holds of each
each_try : (P : ℕ → Place → PoolDecl → PlainTry → Type 0) → AllTwo (λ pool d x. P pool (pool_place script pool 1) d x) (buf ∷ few ∷ []) tries → EachTry script walk P
each_try P h pool d x e f = each_two (λ pool d x. P pool (pool_place script pool 1) d x) (buf ∷ few ∷ []) tries h pool d x e f

ran_once : IsPlainPass report place buf 0 pass (reclaims_by 0 0 entries)
unfolding due ask_size
ran_once = record {
  follows = record { made = refl; scanned = refl; next = refl; closed = omega arith };
  closed = refl;
  ending = tt;
  asked = refl;
  freed = refl;
  later = (omega arith, tt);
}

lawful_walk : IsPlainLawful script report 0 0 walk
lawful_walk = record {
  tries = refl;
  counts = each_try (λ pool q d x. IsPlainCount report q x) (record { there = omega arith; len = refl }, (record { there = omega arith; len = refl }, tt));
  kinds = each_try (λ pool q d x. IsKind d x) (omega arith, (tt, tt));
  passes = each_try (λ pool q d x. (p : PassRecord) → x ≡ Ran p → IsPlainPass report q d 0 p (reclaims_by 0 0 (units_journal report q))) ((λ p e. let same : pass ≡ p = cc in subst (λ q. IsPlainPass report place buf 0 q (reclaims_by 0 0 entries)) same ran_once), ((λ p e. absurd (cc)), tt));
  cut = each_try (λ pool q d x. (p : PassRecord) → x ≡ Ran p → p.ending ≡ ending.NoRoom → IsLastTry walk pool) ((λ p e f. let same : pass ≡ p = cc in absurd (cc)), ((λ p e. absurd (cc)), tt));
  freed = refl;
}

-- at most one number doesn't fall
one_number : (o : Option ℕ) → AreNotFalling (option_to_list o ++ [])
one_number None k d lt = absurd (omega (arith, lt))
one_number (Some n) k d lt = absurd (omega (arith, lt))

not_falling : (worker : ℕ) (p : Place) → AreNotFalling (Rattle.std.specs.Prelude.flat_map (plain_versions script p) (plain_of report worker))
not_falling zero p = one_number (option_map version_in (try_at script p walk))
not_falling (suc worker) p = λ k d lt. absurd (omega (arith, lt))

-- the walk counted the flat pool after two entries
counted : (p : Place) → p ≡ place → (n k : ℕ) → k < 3 → IsCiting k n → AllByRecursion (λ version. n < version) (plain_versions script p walk)
unfolding IsCiting
counted p e n k low (inl a) = subst (λ q. AllByRecursion (λ version. n < version) (plain_versions script q walk)) (sym e) (omega (arith, a.0, a.1), tt)
counted p e n k low (inr a) = absurd (omega (arith, low, a.0))

-- no pass deferred or took over any work
IsIdle : Option PlainTry → Type 0
IsIdle o = (p : PassRecord) → option_and_then pass_in o ≡ Some p → (p.nr ≡ 0) × (p.next ≡ 0)

idle_try : (pool : ℕ) → IsIdle (slice_get tries pool)
unfolding IsIdle
idle_try zero p e = let same : pass ≡ p = cc in (sym (ap (λ q. q.nr) same), sym (ap (λ q. q.next) same))
idle_try (suc zero) p e = absurd (cc)
idle_try (suc (suc pool)) p e = absurd (cc)

idle_at : (b : Bool) (o : Option PlainTry) → IsIdle o → IsIdle (cond b o None)
unfolding IsIdle
idle_at true o h = h
idle_at false o h = λ p e. absurd (cc)

word_of : Option PassRecord → ℕ
word_of None = 0
word_of (Some p) = deferred_word (0 + p.next) (0 + p.nr)

idle_word : (o : Option PlainTry) → IsIdle o → 0 ≡ word_of (option_and_then pass_in o)
unfolding word_of IsIdle
idle_word o h = idle_in (option_and_then pass_in o) (λ p e. h p e)
  where
    idle_in : (q : Option PassRecord) → ((p : PassRecord) → q ≡ Some p → (p.nr ≡ 0) × (p.next ≡ 0)) → 0 ≡ word_of q
    idle_in None h = refl
    idle_in (Some p) h = let z = h p refl in rw (z.0, z.1) refl

sum_word : (q : Option PassRecord) → word_of q ≡ deferred_word (sum_by (λ (p : PassRecord). p.next) (filter_map (λ (w : PlainWalk). q) (walk ∷ []))) (sum_by (λ (p : PassRecord). p.nr) (filter_map (λ (w : PlainWalk). q) (walk ∷ [])))
unfolding word_of
sum_word None = refl
sum_word (Some p) = refl

lawful : ArePoolsLawful script report
lawful = record {
  units = (record { pool = omega arith; node = omega arith; home = refl; entries = (omega arith, (refl, (refl, (refl, tt)))); free = refl }, tt);
  once = λ i j u v e f same. omega (arith, each_at (λ n (z : UnitsEnd). n ≡ 0) (end ∷ []) (refl, tt) i u e, each_at (λ n (z : UnitsEnd). n ≡ 0) (end ∷ []) (refl, tt) j v f);
  replies = each_answer script report (λ worker. refl) _ (record { place = refl; stands = refl }, (record { place = refl; stands = refl }, (record { place = refl; there = omega arith; counted = refl; full = omega arith }, (tt, (record { place = refl; stands = refl }, tt)))));
  cited = each_units _ (
    (λ x e. let same : by 0 ≡ x = cc in subst (λ y. units_cited_at report y ≡ Some (at place 0)) same refl),
    (
      (λ x e. let same : by 1 ≡ x = cc in subst (λ y. units_cited_at report y ≡ Some (at place 1)) same refl),
      (
        (λ x e. absurd (cc)),
        ((λ x e. let same : by 4 ≡ x = cc in subst (λ y. units_cited_at report y ≡ Some (at place 3)) same refl), tt),
      ),
    ),
  );
  rise = λ worker k later p n m before e f. rising k later n m before (cites worker k p n e).1 (cites worker later p m f).1;
  full = λ worker k later p n entries free before e f. before_full k later n entries before (cites worker k p n e).1 (knows worker later p.id p.node entries free f);
  walks = each_plain _ lawful_walk;
  due = each_answer script report (λ worker. refl) _ (refl, (refl, (refl, (refl, (refl, tt)))));
  commands = each_plain _ (omega arith);
  versions = not_falling;
  later = each_plain _ (λ k n p low e. let c = cites 0 k p n e in counted p c.0 n k low c.1);
  no_others = each_units _ (tt, (tt, (tt, (tt, tt))));
  deferred = λ p. idle_word _ (idle_at (is_place p (pool_place script p.id 1)) (slice_get tries p.id) (idle_try p.id)) ∙ sum_word (pass_at script p walk);
  shown = tt;
}
