-- SPDX-License-Identifier: GPL-2.0-only
-- The part that each attempt of a walk has in the walk's work.
use Rattle.shr_assemble.proofs.Common.{◌≡◌, ℕ, zero, suc, ◌-◌, ◌<◌, ◌≤◌, ◌≢◌, ◌⊎◌, inl, inr, ⊎_elim, Bool, true, false, ◌&&◌, cond, List, [], ◌∷◌, ◌++◌, length, map, take, sym, refl, ap, subst, ◌∙◌, arith, ne_eqb, sum, slice_get, Option, Some, None, filter_map, ◌==◌, AllByRecursion, cons_option, append-nil, filter_map-append, sum-map, same_Some, none-some, LookupWord, Entry, Scan, UseStep, Policy, CacheDecl, Attempt, Outcome, PassRecord, number_of, is_held, place_number, ScanMade, scan_by, Each, Each-append, Each-none, Made, Loaded, Tried, AreScansOf, IsScanOf, IsScanMade, WalkParts, AreParts, Shared, Walk, IsAmong, scan_made, scans_made, Rise, cache_asks_due, place_of_walk, IsScannedBy, IsPart}
use Rattle.std.specs.Option.{option_to_list}
use Rattle.shr_base.specs.declared.walks.Outcome.TheVariants as outcome
use Rattle.shr_pass.specs.declared.answers.ScanSeen.{ScanSeen}
use Rattle.shr_pass.specs.Passes.{asked_of, scan_freed}
use Rattle.shr_walk.specs.Attempts.{MadeNone, WasHeld, Found, tries_in}
use Rattle.shr_walk.specs.Listing as listing
use Rattle.shr_lawful.proofs.Gathering.{among_left, among_right}

-- an attempt found a held cache, or made nothing
pub found_cases : (x : Shared) (walk : Walk) (id : ℕ) (o : Outcome) (first : LookupWord) (more : List Loaded) (held : Option ℕ) (made : List Made) (ops : List UseStep)
    → Found x walk id o first more held made ops → (MadeNone more held made ops × (is_held o ≡ false)) ⊎ (WasHeld x walk (place_of_walk walk id) o more held made ops × (is_held o ≡ true))
found_cases x walk id (outcome.Worn seen) first more held made ops f = inl (f.3, refl)
found_cases x walk id (outcome.Gone n then) first more held made ops f = inl (f.1, refl)
found_cases x walk id o first more held made ops f = inr (f, refl)

pub found_held : (x : Shared) (walk : Walk) (id : ℕ) (o : Outcome) (first : LookupWord) (more : List Loaded) (held : Option ℕ) (made : List Made) (ops : List UseStep)
    → Found x walk id o first more held made ops → is_held o ≡ true → WasHeld x walk (place_of_walk walk id) o more held made ops
found_held x walk id o first more held made ops f h = ⊎_elim (λ none. absurd (let e : false ≡ true = sym none.1 ∙ h in cc)) (λ some. some.0) (found_cases x walk id o first more held made ops f)

-- the lookup of an attempt that has a number
pub tries_one : (id : ℕ) (o : Outcome) (held : Option ℕ) (number : ℕ) → number_of o ≡ Some number → tries_in id o held ≡ record { id = id; number = number; held = held } ∷ []
tries_one id o held number e = ap (λ (n : Option ℕ). map (λ m. record { id = id; number = m; held = held }) (option_to_list n)) e

-- ---- the Scan entries of a part, as the report counts them

abbrev forget_some : Option ScanMade → Option ScanSeen
forget_some None = None
forget_some (Some z) = Some (record { asked = z.asked; freed = z.freed })

module _ (k worker walk : ℕ) where
  forget_entry : (number : ℕ) (e : Entry) → forget_some (scan_by worker walk number e) ≡ listing.list_scan_by worker walk e
  forget_entry number (Scan w s asked policy visits freed stopped) = elim ((w == worker) && (s == walk)) as (λ (b : Bool). forget_some (cond b (Some (record { number = number; asked = asked; policy = policy; freed = freed })) None) ≡ cond b (Some (record { asked = asked; freed = freed })) None) [ true ↦ refl | false ↦ refl ]
  forget_entry number e = refl

  forget_made : (m : Made) → forget_some (scan_made k worker walk m) ≡ listing.scan_at k worker walk m
  forget_made m = elim (m.place == k) as (λ (b : Bool). forget_some (cond b (scan_by worker walk m.number m.entry) None) ≡ cond b (listing.list_scan_by worker walk m.entry) None) [ true ↦ forget_entry m.number m.entry | false ↦ refl ]

  pub same_asked : (made : List Made) → map (λ (z : ScanMade). z.asked) (scans_made k worker walk made) ≡ map asked_of (filter_map (listing.scan_at k worker walk) made)
  same_asked [] = refl
  same_asked (m ∷ made) = by_option (scan_made k worker walk m) (same_asked made) ∙ ap (λ (o : Option ScanSeen). map asked_of (cons_option o (filter_map (listing.scan_at k worker walk) made))) (forget_made m) where
    by_option : (o : Option ScanMade) → map (λ (z : ScanMade). z.asked) (scans_made k worker walk made) ≡ map asked_of (filter_map (listing.scan_at k worker walk) made) → map (λ (z : ScanMade). z.asked) (cons_option o (scans_made k worker walk made)) ≡ map asked_of (cons_option (forget_some o) (filter_map (listing.scan_at k worker walk) made))
    by_option None e = e
    by_option (Some z) e = ap (λ l. z.asked ∷ l) e

  pub same_freed : (made : List Made) → map (λ (z : ScanMade). z.freed) (scans_made k worker walk made) ≡ map scan_freed (filter_map (listing.scan_at k worker walk) made)
  same_freed [] = refl
  same_freed (m ∷ made) = by_option (scan_made k worker walk m) (same_freed made) ∙ ap (λ (o : Option ScanSeen). map scan_freed (cons_option o (filter_map (listing.scan_at k worker walk) made))) (forget_made m) where
    by_option : (o : Option ScanMade) → map (λ (z : ScanMade). z.freed) (scans_made k worker walk made) ≡ map scan_freed (filter_map (listing.scan_at k worker walk) made) → map (λ (z : ScanMade). z.freed) (cons_option o (scans_made k worker walk made)) ≡ map scan_freed (cons_option (forget_some o) (filter_map (listing.scan_at k worker walk) made))
    by_option None e = e
    by_option (Some z) e = ap (λ l. z.freed ∷ l) e

  same_length : (made : List Made) → length (scans_made k worker walk made) ≡ length (filter_map (listing.scan_at k worker walk) made)
  same_length [] = refl
  same_length (m ∷ made) = by_option (scan_made k worker walk m) (same_length made) ∙ ap (λ (o : Option ScanSeen). length (cons_option o (filter_map (listing.scan_at k worker walk) made))) (forget_made m) where
    by_option : (o : Option ScanMade) → length (scans_made k worker walk made) ≡ length (filter_map (listing.scan_at k worker walk) made) → length (cons_option o (scans_made k worker walk made)) ≡ length (cons_option (forget_some o) (filter_map (listing.scan_at k worker walk) made))
    by_option None e = e
    by_option (Some z) e = ap suc e

  -- a Scan of these, if it is one of this walk, has this policy and this number
  abbrev IsScanWith : Policy → ℕ → Option ScanMade → Type 0
  IsScanWith policy number None = Unit {0}
  IsScanWith policy number (Some z) = (z.policy ≡ policy) × (z.number ≡ number)

  scan_with : (policy : Policy) (number : ℕ) (e : Entry) → IsScanOf worker walk policy e → IsScanWith policy number (scan_by worker walk number e)
  scan_with policy number (Scan w s asked p visits freed stopped) h = elim ((w == worker) && (s == walk)) as (λ (b : Bool). IsScanWith policy number (cond b (Some (record { number = number; asked = asked; policy = p; freed = freed })) None)) [ true ↦ (h.2, refl) | false ↦ tt ]
  scan_with policy number e h = absurd h

  made_with : (policy : Policy) (m : Made) → IsScanMade k worker walk policy m → IsScanWith policy m.number (scan_made k worker walk m)
  made_with policy m h = elim (m.place == k) as (λ (b : Bool). IsScanWith policy m.number (cond b (scan_by worker walk m.number m.entry) None)) [ true ↦ scan_with policy m.number m.entry h.1 | false ↦ tt ]

  policies : (policy : Policy) (made : List Made) → Each (IsScanMade k worker walk policy) made → AllByRecursion (λ (z : ScanMade). z.policy ≡ policy) (scans_made k worker walk made)
  policies policy [] h = tt
  policies policy (m ∷ made) h = by_option (scan_made k worker walk m) (policies policy made (λ j y e. h (suc j) y e)) (made_with policy m (h 0 m refl)) where
    by_option : (o : Option ScanMade) → AllByRecursion (λ (z : ScanMade). z.policy ≡ policy) (scans_made k worker walk made) → IsScanWith policy m.number o → AllByRecursion (λ (z : ScanMade). z.policy ≡ policy) (cons_option o (scans_made k worker walk made))
    by_option None r w = r
    by_option (Some z) r w = (w.0, r)

  laters : (version : ℕ) (policy : Policy) (made : List Made) → Each (IsScanMade k worker walk policy) made → Each (λ (m : Made). version ≤ m.number) made → AllByRecursion (λ (z : ScanMade). version ≤ z.number) (scans_made k worker walk made)
  laters version policy [] h l = tt
  laters version policy (m ∷ made) h l = by_option (scan_made k worker walk m) (laters version policy made (λ j y e. h (suc j) y e) (λ j y e. l (suc j) y e)) (made_with policy m (h 0 m refl)) where
    by_option : (o : Option ScanMade) → AllByRecursion (λ (z : ScanMade). version ≤ z.number) (scans_made k worker walk made) → IsScanWith policy m.number o → AllByRecursion (λ (z : ScanMade). version ≤ z.number) (cons_option o (scans_made k worker walk made))
    by_option None r w = r
    by_option (Some z) r w = (subst (λ n. version ≤ n) (sym w.1) (l 0 m refl), r)

  -- the scans of a pass are those that the report asks for
  pub part_scans : (priority : ℕ) (d : CacheDecl) (p : PassRecord) (made : List Made) → Each (IsScanMade k worker walk d.policy) made → IsScannedBy priority d.seeks d.batch p (filter_map (listing.scan_at k worker walk) made)
      → Each (λ (m : Made). p.version ≤ m.number) made → AreScansOf priority d p (scans_made k worker walk made)
  part_scans priority d p made each by later =
      let n : length (scans_made k worker walk made) ≡ p.asks - p.closed = let e = by.number in omega (arith, same_length made, e) in
      let m : length (filter_map (listing.scan_at k worker walk) made) ≡ p.asks - p.closed = sym (same_length made) ∙ n in record {
        asked = same_asked made ∙ (by.asked ∙ ap (λ i. take i (cache_asks_due priority d p)) m);
        number = n;
        policy = policies d.policy made each;
        freed = sym (sum-map (λ (z : ScanMade). z.freed) (scans_made k worker walk made)) ∙ (ap sum (same_freed made) ∙ by.freed);
        later = laters p.version d.policy made each later;
      }

-- entries at other places are none of the place's scans
pub other_scans : (k worker walk : ℕ) (made : List Made) → Each (λ (m : Made). m.place ≢ k) made → scans_made k worker walk made ≡ []
other_scans k worker walk [] h = refl
other_scans k worker walk (m ∷ made) h = ap (λ (b : Bool). cons_option (cond b (scan_by worker walk m.number m.entry) None) (scans_made k worker walk made)) (ne_eqb m.place k (h 0 m refl)) ∙ other_scans k worker walk made (λ j y e. h (suc j) y e)

-- ---- the part of one attempt among the parts of all
module _ (x : Shared) (walk : Walk) where
  abbrev pub number_at : ℕ → ℕ
  number_at id = place_number (place_of_walk walk id)

  pub record PartAt (a : Attempt) (p : WalkParts) : Type 0 where
    pub part : WalkParts
    pub is : IsPart x walk a part
    pub tried : (e : Tried) → IsAmong e part.tried → IsAmong e p.tried
    pub loaded : (e : Loaded) → IsAmong e part.loaded → IsAmong e p.loaded
    pub scans : (worker n : ℕ) → scans_made (number_at a.id) worker n p.made ≡ scans_made (number_at a.id) worker n part.made

  -- the entries of a part are at its place
  pub part_places : (a : Attempt) (q : WalkParts) → IsPart x walk a q → Each (λ (m : Made). m.place ≡ number_at a.id) q.made
  part_places a q i = ⊎_elim
      (λ none. subst (Each (λ (m : Made). m.place ≡ number_at a.id)) (sym none.0.no_entry) (Each-none (λ (m : Made). m.place ≡ number_at a.id)))
      (λ some. λ j m e. (some.0.by.scans j m e).0)
      (found_cases x walk a.id a.outcome i.first i.more i.held q.made q.ops i.found)

  -- those of later attempts are at places of later ids
  later_places : (id : ℕ) (l : List Attempt) (p : WalkParts) → AreParts x walk l p → AllByRecursion (λ y. id < y) (map (λ (y : Attempt). y.id) l) → Each (λ (m : Made). m.place ≢ number_at id) p.made
  later_places id [] p h r = subst (λ (y : WalkParts). Each (λ (m : Made). m.place ≢ number_at id) y.made) (sym h) (Each-none (λ (m : Made). m.place ≢ number_at id))
  later_places id (a ∷ l) p (q, s, e, i, rest) r = subst (λ (y : WalkParts). Each (λ (m : Made). m.place ≢ number_at id) y.made) (sym e)
      (Each-append (λ (m : Made). m.place ≢ number_at id) q.made s.made (λ j m at same. let here = part_places a q i j m at in let lt = r.0 in omega (arith, here, lt, same)) (later_places id l s rest r.1))

  pub part_at : (l : List Attempt) (p : WalkParts) → AreParts x walk l p → Rise (map (λ (y : Attempt). y.id) l) → (k : ℕ) (a : Attempt) → slice_get l k ≡ Some a → PartAt a p
  part_at [] p h r k a at = absurd (none-some a at)
  part_at (b ∷ l) p (q, s, e, i, rest) r zero a at = let same : b ≡ a = same_Some b a at in subst (λ (z : Attempt). PartAt z p) same record {
    part = q;
    is = i;
    tried = λ y h. subst (λ (z : WalkParts). IsAmong y z.tried) (sym e) (among_left q.tried s.tried y h);
    loaded = λ y h. subst (λ (z : WalkParts). IsAmong y z.loaded) (sym e) (among_left q.loaded s.loaded y h);
    scans = λ worker n. ap (λ (z : WalkParts). scans_made (number_at b.id) worker n z.made) e ∙ (filter_map-append (scan_made (number_at b.id) worker n) q.made s.made
        ∙ (ap (λ v. scans_made (number_at b.id) worker n q.made ++ v) (other_scans (number_at b.id) worker n s.made (later_places b.id l s rest r.0)) ∙ append-nil _));
  }
  part_at (b ∷ l) p (q, s, e, i, rest) r (suc k) a at = let z = part_at l s rest r.1 k a at in record {
    part = z.part;
    is = z.is;
    tried = λ y h. subst (λ (v : WalkParts). IsAmong y v.tried) (sym e) (among_right q.tried s.tried y (z.tried y h));
    loaded = λ y h. subst (λ (v : WalkParts). IsAmong y v.loaded) (sym e) (among_right q.loaded s.loaded y (z.loaded y h));
    scans = λ worker n. ap (λ (v : WalkParts). scans_made (number_at a.id) worker n v.made) e ∙ (filter_map-append (scan_made (number_at a.id) worker n) q.made s.made
        ∙ (ap (λ v. v ++ scans_made (number_at a.id) worker n s.made) (other_scans (number_at a.id) worker n q.made (λ j m there same. let here = part_places b q i j m there in let lt = later_id l k a r.0 at in omega (arith, here, lt, same))) ∙ z.scans worker n));
  } where
    later_id : (l : List Attempt) (k : ℕ) (a : Attempt) → AllByRecursion (λ y. b.id < y) (map (λ (y : Attempt). y.id) l) → slice_get l k ≡ Some a → b.id < a.id
    later_id [] k a h at = absurd (none-some a at)
    later_id (c ∷ l) zero a h at = subst (λ (y : Attempt). b.id < y.id) (same_Some c a at) h.0
    later_id (c ∷ l) (suc k) a h at = later_id l k a h.1 at
