-- SPDX-License-Identifier: GPL-2.0-only
-- Entries gathered one after another.
use Rattle.shr_audit_isolations.proofs.Common.{◌≡◌, ℕ, ◌+◌, ◌-◌, ◌<◌, Bool, true, false, cond, List, [], ◌∷◌, ◌++◌, length, get_or, take, Option, Some, refl, sym, ap, subst, ◌∙◌, slice_get, option_map, Vec, Decides, IsSomeAnd, Global, append-nil, slice_get-get_or, Entry, Add, Look, Drop, Pin, Scan, MovedIn, Closed, Drained, Place, is_place, ScanSeen, first_isolation, isolation_walk, scans_seen, EachItem, each_more, fails, Gathered, GainsScans, IsOfTold, IsolationTold, at_place, told_at, with_scans, append_assoc, take_more, scan_seen}
use Rattle.std.proofs.lemmas.List.Elements.{filter_map-append}
use Rattle.shr_audit_isolations.proofs.Options.{map_alike, map_same, map_then, some_mapped, some_unmapped}

-- ---- what is gained

-- nothing, where no scan of any isolation is among the entries
pub no_gain : (more : Place → List Entry) (table : List (Vec Gathered Global)) → ((w k : ℕ) (p : Place) → scans_seen w (isolation_walk k) (more p) ≡ []) → GainsScans more table table
no_gain more table none = record {
  count = refl;
  each = λ w k. map_same (λ (t : IsolationTold). with_scans w k (more t.isolation.place) t) (told_at table w k)
      (λ t s. ap (λ (xs : List ScanSeen). record t { scans = t.scans ++ xs }) (none w k t.isolation.place) ∙ ap (λ (xs : List ScanSeen). record t { scans = xs }) (append-nil t.scans));
}

-- the same, told of entries that are the same
pub gains_same : (f g : Place → List Entry) (a b : List (Vec Gathered Global)) → ((p : Place) → f p ≡ g p) → GainsScans f a b → GainsScans g a b
gains_same f g a b same h = record {
  count = h.count;
  each = λ w k. h.each w k ∙ map_alike (λ (t : IsolationTold). with_scans w k (f t.isolation.place) t) (λ (t : IsolationTold). with_scans w k (g t.isolation.place) t) (told_at a w k)
      (λ t s. ap (λ (es : List Entry). with_scans w k es t) (same t.isolation.place));
}

scans_then : (w k : ℕ) (es fs : List Entry) (t : IsolationTold) → with_scans w k fs (with_scans w k es t) ≡ with_scans w k (es ++ fs) t
scans_then w k es fs t =
    ap (λ (xs : List ScanSeen). record t { scans = xs }) (append_assoc t.scans (scans_seen w (isolation_walk k) es) (scans_seen w (isolation_walk k) fs))
    ∙ ap (λ (xs : List ScanSeen). record t { scans = t.scans ++ xs }) (sym (filter_map-append (scan_seen w (isolation_walk k)) es fs))

-- one gain after another
pub gains_then : (f g h : Place → List Entry) (a b c : List (Vec Gathered Global)) → ((p : Place) → h p ≡ f p ++ g p) → GainsScans f a b → GainsScans g b c → GainsScans h a c
gains_then f g h a b c whole first then = record {
  count = then.count ∙ first.count;
  each = λ w k. then.each w k
      ∙ (ap (option_map (λ (t : IsolationTold). with_scans w k (g t.isolation.place) t)) (first.each w k)
      ∙ map_then (λ (t : IsolationTold). with_scans w k (f t.isolation.place) t) (λ (t : IsolationTold). with_scans w k (g t.isolation.place) t) (λ (t : IsolationTold). with_scans w k (h t.isolation.place) t) (told_at a w k)
      (λ t s. scans_then w k (f t.isolation.place) (g t.isolation.place) t ∙ ap (λ (es : List Entry). with_scans w k es t) (sym (whole t.isolation.place))));
}

-- ---- where a scan is of an isolation, and where it isn't, is the same after a gain

at_same : (more : Place → List Entry) (a b : List (Vec Gathered Global)) (w k : ℕ) (place : Place) → GainsScans more a b → IsSomeAnd (told_at a w k) (λ t. t.isolation.place ≡ place) → IsSomeAnd (told_at b w k) (λ t. t.isolation.place ≡ place)
at_same more a b w k place h at = subst (λ (o : Option IsolationTold). IsSomeAnd o (λ t. t.isolation.place ≡ place)) (sym (h.each w k))
    (some_mapped (λ (t : IsolationTold). with_scans w k (more t.isolation.place) t) (told_at a w k) (λ t. t.isolation.place ≡ place) (λ t. t.isolation.place ≡ place) (λ t e. e) at)

at_back : (more : Place → List Entry) (a b : List (Vec Gathered Global)) (w k : ℕ) (place : Place) → GainsScans more a b → IsSomeAnd (told_at b w k) (λ t. t.isolation.place ≡ place) → IsSomeAnd (told_at a w k) (λ t. t.isolation.place ≡ place)
at_back more a b w k place h at =
    some_unmapped (λ (t : IsolationTold). with_scans w k (more t.isolation.place) t) (told_at a w k) (λ t. t.isolation.place ≡ place) (λ t. t.isolation.place ≡ place) (λ t e. e)
    (subst (λ (o : Option IsolationTold). IsSomeAnd o (λ t. t.isolation.place ≡ place)) (h.each w k) at)

pub told_after : (more : Place → List Entry) (a b : List (Vec Gathered Global)) (place : Place) (e : Entry) → GainsScans more a b → IsOfTold a place e → IsOfTold b place e
told_after more a b place (Scan worker n asked policy visits freed stopped) h of = λ le. at_same more a b worker (n - first_isolation) place h (of le)
told_after more a b place (Add by birth added key value) h of = tt
told_after more a b place (Look by birth key hit) h of = tt
told_after more a b place (Drop by birth key kind) h of = tt
told_after more a b place (Pin by birth key pinned hit) h of = tt
told_after more a b place (MovedIn child objects) h of = tt
told_after more a b place Closed h of = tt
told_after more a b place (Drained by objects) h of = tt

pub told_before : (more : Place → List Entry) (a b : List (Vec Gathered Global)) (place : Place) (e : Entry) → GainsScans more a b → IsOfTold b place e → IsOfTold a place e
told_before more a b place (Scan worker n asked policy visits freed stopped) h of = λ le. at_back more a b worker (n - first_isolation) place h (of le)
told_before more a b place (Add by birth added key value) h of = tt
told_before more a b place (Look by birth key hit) h of = tt
told_before more a b place (Drop by birth key kind) h of = tt
told_before more a b place (Pin by birth key pinned hit) h of = tt
told_before more a b place (MovedIn child objects) h of = tt
told_before more a b place Closed h of = tt
told_before more a b place (Drained by objects) h of = tt

-- ---- the entries of a place

pub entries_broken : (place : Place) (entries : List Entry) (i : ℕ) (e : Entry) (b : Bool) (a t : List (Vec Gathered Global)) → GainsScans (at_place place (take i entries)) a t → i < length entries → e ≡ get_or entries i e
    → Decides b (IsOfTold t place e) → b ≡ false → Decides false (EachItem (IsOfTold a place) entries)
entries_broken place entries i e b a t gains lt is d f =
    fails (IsOfTold t place e) (EachItem (IsOfTold a place) entries) b d f (λ h. told_after (at_place place (take i entries)) a t place e gains (h i e (slice_get-get_or entries i e lt ∙ ap (λ (x : Entry). Some x) (sym is))))

pub entries_more : (place : Place) (entries : List Entry) (i : ℕ) (e : Entry) (b : Bool) (a t : List (Vec Gathered Global)) → GainsScans (at_place place (take i entries)) a t → i < length entries → e ≡ get_or entries i e
    → Decides b (IsOfTold t place e) → b ≡ true → ((n : ℕ) (x : Entry) → n < i → slice_get entries n ≡ Some x → IsOfTold a place x) → (n : ℕ) (x : Entry) → n < i + 1 → slice_get entries n ≡ Some x → IsOfTold a place x
entries_more place entries i e b a t gains lt is d f before = each_more (IsOfTold a place) entries i e lt is before (told_before (at_place place (take i entries)) a t place e gains (d.0 f))

at_more : (place : Place) (es : List Entry) (e : Entry) (p : Place) → at_place place (es ++ e ∷ []) p ≡ at_place place es p ++ at_place place (e ∷ []) p
at_more place es e p = by (is_place p place)
  where
    by : (b : Bool) → cond b (es ++ e ∷ []) [] ≡ cond b es [] ++ cond b (e ∷ []) []
    by true = refl
    by false = refl

pub gains_more : (place : Place) (entries : List Entry) (i : ℕ) (e : Entry) (a b c : List (Vec Gathered Global)) → i < length entries → e ≡ get_or entries i e → GainsScans (at_place place (take i entries)) a b → GainsScans (at_place place (e ∷ [])) b c
    → GainsScans (at_place place (take (i + 1) entries)) a c
gains_more place entries i e a b c lt is first then =
    let next : take (i + 1) entries ≡ take i entries ++ e ∷ [] = take_more entries i e lt ∙ ap (λ (x : Entry). take i entries ++ x ∷ []) (sym is) in
    gains_then (at_place place (take i entries)) (at_place place (e ∷ [])) (at_place place (take (i + 1) entries)) a b c
    (λ p. ap (λ (es : List Entry). at_place place es p) next ∙ at_more place (take i entries) e p) first then
